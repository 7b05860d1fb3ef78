-- Walks from a name up to the root.
use Rattle.std.proofs.Common.{◌≡◌, ℕ, ◌≤◌, Bool, true, false, List, [], ◌∷◌, length, reverse, drop, Option, Some, None, cond, refl, ap, ◌∙◌, arith, length-append}
use Rattle.std.specs.List.{list_any, find}
use Rattle.std.specs.Option.{option_or}
use Rattle.std.proofs.lemmas.List.{reverse-append}
use Rattle.std.proofs.lemmas.List.Folds.{find-append}
use Rattle.std.proofs.lemmas.Grind.{common_steps}
use Rattle.dns_name.specs.Name.{self_and_ancestors, parent_of, wire_of, IsName}

-- the names that a walk upwards has still to see
abbrev pub names_from : Option (List (List ℕ)) → List (List (List ℕ))
names_from None = []
names_from (Some name) = self_and_ancestors name

-- a walk upwards goes on at the parent
pub self_and_ancestors-parent_of : (name : List (List ℕ)) → self_and_ancestors name ≡ name ∷ names_from (parent_of name)
self_and_ancestors-parent_of [] = refl
self_and_ancestors-parent_of (label ∷ name) = refl

-- behind a name, its ancestors begin at the parent
pub drop-self_and_ancestors : (name : List (List ℕ)) → drop 1 (self_and_ancestors name) ≡ names_from (parent_of name)
drop-self_and_ancestors [] = refl
drop-self_and_ancestors (label ∷ name) = refl

-- whether an element passes a test doesn't depend on the direction
pub list_any-reverse : {X : Type 0} (p : X → Bool) → (xs : List X) → list_any p (reverse xs) ≡ list_any p xs
list_any-reverse p [] = refl
list_any-reverse p (x ∷ xs) = grind (arith, common_steps, list_any-reverse p xs)

-- one more choice behind a choice
option_or_assoc : {X : Type 0} (a b c : Option X) → option_or (option_or a b) c ≡ option_or a (option_or b c)
option_or_assoc None b c = refl
option_or_assoc (Some x) b c = refl

-- what is found last of all
last_found : {X : Type 0} (p : X → Bool) (x : X) (xs : List X) (last : Option X) → option_or (find p (reverse (x ∷ xs))) last ≡ option_or (find p (reverse xs)) (cond (p x) (Some x) last)
last_found p x xs last =
    ap (λ o. option_or o last) (ap (find p) (reverse-append (x ∷ []) xs) ∙ find-append p (reverse xs) (x ∷ []))
    ∙ option_or_assoc (find p (reverse xs)) (cond (p x) (Some x) None) last
    ∙ ap (option_or (find p (reverse xs))) (elim (p x) as (λ b. option_or (cond b (Some x) None) last ≡ cond b (Some x) last) [ true ↦ refl | false ↦ refl ])

-- a walk upwards that remembers the last name that passes the test finds the first on the way down
pub find_upwards : (p : List (List ℕ) → Bool) (name : List (List ℕ)) (last : Option (List (List ℕ))) → option_or (find p (reverse (self_and_ancestors name))) last ≡ option_or (find p (reverse (names_from (parent_of name)))) (cond (p name) (Some name) last)
find_upwards p name last =
    ap (λ names. option_or (find p (reverse names)) last) (self_and_ancestors-parent_of name) ∙ last_found p name (names_from (parent_of name)) last

-- what is below a label is two octets shorter at least
pub shorter_above : (label : List ℕ) (name : List (List ℕ)) → IsName (label ∷ name) → length (wire_of name) ≤ 253
shorter_above label name is = omega (arith, length-append label (wire_of name), (is.labels 0 [] (omega arith)).some)

-- a parent isn't longer
pub length-wire_of-above : (label : List ℕ) (name : List (List ℕ)) → length (wire_of name) ≤ length (wire_of (label ∷ name))
length-wire_of-above label name = omega (arith, length-append label (wire_of name))

-- a walk that finds a name stops at the first that passes the test
pub find-self_and_ancestors : (p : List (List ℕ) → Bool) (name : List (List ℕ)) → p name ≡ true → find p (self_and_ancestors name) ≡ Some name
find-self_and_ancestors p [] is = rw is refl
find-self_and_ancestors p (label ∷ name) is = rw is refl
