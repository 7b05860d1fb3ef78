-- What the parts of an `Option` are, and names folded twice.
use Rattle.std.proofs.Common.{◌≡◌, Bool, true, false, cond, ℕ, List, [], ◌∷◌, map, Option, Some, None, refl}
use Rattle.std.specs.Option.{option_map, option_and_then}
use Rattle.std.specs.Char.{to_ascii_lowercase}
use Rattle.std.proofs.lemmas.Str.Ascii.{lowercase-lowercase}
use Rattle.dns_name.specs.Name.{fold_name}

-- what the parts of an `Option` are where the whole is `Some`
pub map_some : {A B : Type 0} (f : A → B) (o : Option A) (y : B) → option_map f o ≡ Some y → (x : A) × (o ≡ Some x) × (f x ≡ y)
map_some f None y e = cc
map_some f (Some x) y e = (x, refl, cc)

pub and_then_some : {A B : Type 0} (f : A → Option B) (o : Option A) (y : B) → option_and_then f o ≡ Some y → (x : A) × (o ≡ Some x) × (f x ≡ Some y)
and_then_some f None y e = cc
and_then_some f (Some x) y e = (x, refl, e)

pub cond_some : {A : Type 0} (b : Bool) (o : Option A) (y : A) → cond b o None ≡ Some y → (b ≡ true) × (o ≡ Some y)
cond_some true o y e = (refl, e)
cond_some false o y e = cc

-- folding again changes nothing
fold_label-fold_label : (label : List ℕ) → map to_ascii_lowercase (map to_ascii_lowercase label) ≡ map to_ascii_lowercase label
fold_label-fold_label [] = refl
fold_label-fold_label (x ∷ label) =
    let first = lowercase-lowercase x in
    let rest = fold_label-fold_label label in
    cc

pub fold_name-fold_name : (name : List (List ℕ)) → fold_name (fold_name name) ≡ fold_name name
fold_name-fold_name [] = refl
fold_name-fold_name (label ∷ name) =
    let first = fold_label-fold_label label in
    let rest = fold_name-fold_name name in
    cc
