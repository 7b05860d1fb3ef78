-- Records kept in canonical order, with one more.
use Rattle.std.proofs.Common.{◌≡◌, refl, ap, ◌∙◌, ℕ, ◌+◌, Bool, true, false, cond, ◌&&◌, ◌||◌, ◌==◌, List, [], ◌∷◌, length, arith, true≢false}
use Rattle.std.specs.Prelude.{bytes_eq}
use Rattle.std.specs.declared.cmp.Ordering.{Ordering}
use Rattle.std.specs.declared.cmp.Ordering.TheVariants.{Less, Equal, Greater}
use Rattle.std.specs.Cmp.Lexicographic.{pointwise}
use Rattle.std.specs.List.{filter, list_any}
use Rattle.std.specs.Ordering.{is_eq, match_ordering}
use Rattle.std.specs.BTreeSet.{insert_key}
use Rattle.std.specs.BTreeMap.{is_at}
use Rattle.std.proofs.lemmas.Bool.Decides.{Decides-eqb}
use Rattle.dns_name.specs.Name.{is_same, fold_name}
use Rattle.dns_name.specs.Order.{is_same_Decides}
use Rattle.dns_rdata.specs.Record.{Record}
use Rattle.zone_tree.specs.Zone.{rrset_of}

-- 1 where a test shows something
abbrev pub one : Bool → ℕ
one b = cond b 1 0

pub count_cons : {X : Type 0} (p : X → Bool) (x : X) (xs : List X) → length (filter p (x ∷ xs)) ≡ one (p x) + length (filter p xs)
count_cons p x xs = elim (p x) as (λ b. length (cond b (x ∷ filter p xs) (filter p xs)) ≡ one b + length (filter p xs)) [ true ↦ omega arith | false ↦ omega arith ]

place : {X : Type 0} (p : X → Bool) (k x : X) (xs more : List X) (o : Ordering) → is_eq o ≡ false → length (filter p more) ≡ one (p k) + length (filter p xs) → length (filter p (match_ordering o (k ∷ x ∷ xs) (x ∷ xs) (x ∷ more))) ≡ one (p k) + length (filter p (x ∷ xs))
place p k x xs more Less new so = count_cons p k (x ∷ xs)
place p k x xs more Equal new so = absurd (true≢false new)
place p k x xs more Greater new so = let a = count_cons p x more in let b = count_cons p x xs in omega arith

neither : (a b : Bool) → (a || b) ≡ false → (a ≡ false) × (b ≡ false)
neither true b e = absurd (true≢false e)
neither false b e = (refl, e)

-- one more key, which ties with none, counts once
pub count_more : {X : Type 0} (cmp : X → X → Ordering) (p : X → Bool) (k : X) (xs : List X) → list_any (is_at (cmp k)) xs ≡ false → length (filter p (insert_key cmp xs k)) ≡ one (p k) + length (filter p xs)
count_more cmp p k [] new = count_cons p k []
count_more cmp p k (x ∷ xs) new =
    let parts = neither (is_eq (cmp k x)) (list_any (is_at (cmp k)) xs) new in
    place p k x xs (insert_key cmp xs k) (cmp k x) parts.0 (count_more cmp p k xs parts.1)

both : (a b : Bool) → (a && b) ≡ true → (a ≡ true) × (b ≡ true)
both true b e = (refl, e)
both false b e = cc

-- one owner and type has one set, however the owner is spelt
pub same_set : (kept : List Record) (owner other : List (List ℕ)) (rtype number : ℕ) → (is_same owner other && rtype == number) ≡ true → length (rrset_of kept owner rtype) ≡ length (rrset_of kept other number)
same_set kept owner other rtype number e =
    let parts = both (is_same owner other) (rtype == number) e in
    let folded = (is_same_Decides owner other).0 parts.0 in
    let numbers = (Decides-eqb rtype number).0 parts.1 in
    ap (λ (f : List (List ℕ)). length (filter (λ (r : Record). pointwise bytes_eq (fold_name r.owner) f && r.rtype == rtype) kept)) folded
    ∙ ap (λ (n : ℕ). length (rrset_of kept other n)) numbers
