-- The owner of a set, and what is given of sets.
use Rattle.std.proofs.Common.{◌≡◌, ◌∙◌, ℕ, List, true, Option, Some, None, Result, Ok, Err}
use Rattle.std.specs.Prelude.{IfOk, IfSome}
use Rattle.std.specs.Option.{IfNone}
use Rattle.dns_name.specs.Name.{is_same, fold_name}
use Rattle.dns_name.specs.Order.{is_same_Decides}

-- an owner in lower case that is the same as another is that one in lower case
pub owner_folded : (owner other : List (List ℕ)) → owner ≡ fold_name owner → is_same owner other ≡ true → owner ≡ fold_name other
owner_folded owner other folded same = folded ∙ (is_same_Decides owner other).0 same

-- a fact of what is given, from another
pub where_some : {A E : Type 0} {P Q : A → Type 0} (r : Result (Option A) E) → ((x : A) → P x → Q x) → IfOk r (λ found. IfSome found P) → IfOk r (λ found. IfSome found Q)
where_some (Ok (Some x)) f h = f x h
where_some (Ok None) f h = tt
where_some (Err e) f h = tt

pub where_none : {A E : Type 0} {P Q : Type 0} (r : Result (Option A) E) → (P → Q) → IfOk r (λ found. IfNone found P) → IfOk r (λ found. IfNone found Q)
where_none (Ok (Some x)) f h = tt
where_none (Ok None) f h = f h
where_none (Err e) f h = tt
