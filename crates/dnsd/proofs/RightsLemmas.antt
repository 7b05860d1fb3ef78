-- The rules that name a key, and those of the next key.
use Rattle.std.proofs.Common.{◌≡◌, refl, ℕ, zero, suc, ◌+◌, ◌≤◌, List, [], ◌∷◌, ◌++◌, true, false, Bool, Option, Some, None, find, map, take, slice_get, if◌then◌else◌, sym, ap, subst, ◌∙◌, add-one, arith}
use Rattle.std.specs.Option.{option_map_or}
use Rattle.std.proofs.Math.Seq.{take-suc}
use Rattle.std.proofs.lemmas.List.{map-append}
use Rattle.std.proofs.lemmas.Option.{none-some, slice_get_within, get_or_from_slice_get}
use Rattle.dns_name.specs.Name.{Name, is_same}
use Rattle.command_line.specs.Keys.{rules_by}
use Rattle.command_line.specs.declared.key_rules.KeyRules.{KeyRules}
use Rattle.rights.specs.declared.rule.Rule.{Rule}
use Rattle.tsig.specs.Keys.{SharedKey}

rules_or : (own : KeyRules) (is : Bool) (found : Option KeyRules)
    → (if is then own.rules.items else option_map_or (λ (own : KeyRules). own.rules.items) found []) ≡ option_map_or (λ (own : KeyRules). own.rules.items) (if is then Some own else found) []
rules_or own true found = refl
rules_or own false found = refl

-- the rules of a key are those of the first that is the same
pub rules_found : (key : Name) (all : List KeyRules) → rules_by key all ≡ option_map_or (λ (own : KeyRules). own.rules.items) (find (λ own. is_same own.key key) all) []
rules_found key [] = refl
rules_found key (own ∷ more) =
    ap (λ (rest : List Rule). if is_same own.key key then own.rules.items else rest) (rules_found key more) ∙ rules_or own (is_same own.key key) (find (λ own. is_same own.key key) more)

-- what is taken of a list with the one at the next place
taken_more : (keys : List SharedKey) (index : ℕ) (key : SharedKey) → slice_get keys index ≡ Some key → take (index + 1) keys ≡ take index keys ++ key ∷ []
taken_more keys index key is =
    let P : ℕ → Type 0 = λ n. take n keys ≡ take index keys ++ key ∷ [] in
    subst P (sym (add-one index)) (take-suc keys index key (slice_get_within keys index key is) ∙ ap (λ (k : SharedKey). take index keys ++ k ∷ []) (get_or_from_slice_get keys index key key is))

pub rights_more : (all : List KeyRules) (keys : List SharedKey) (index : ℕ) (key : SharedKey) → slice_get keys index ≡ Some key
    → map (λ key. rules_by key.name all) (take (index + 1) keys) ≡ map (λ key. rules_by key.name all) (take index keys) ++ rules_by key.name all ∷ []
rights_more all keys index key is = ap (map (λ (k : SharedKey). rules_by k.name all)) (taken_more keys index key is) ∙ map-append (λ (k : SharedKey). rules_by k.name all) (take index keys) (key ∷ [])

-- where there is no more, all is taken
pub all_taken : {X : Type 0} (index most : ℕ) (l : List X) → index ≤ most → slice_get l index ≡ None → take index l ≡ take most l
all_taken zero zero [] le is = refl
all_taken zero (suc most) [] le is = refl
all_taken zero most (y ∷ ys) le is = absurd (none-some y (sym is))
all_taken (suc i) zero l le is = absurd (omega arith)
all_taken (suc i) (suc most) [] le is = refl
all_taken (suc i) (suc most) (y ∷ ys) le is = ap (λ rest. y ∷ rest) (all_taken i most ys (omega arith) is)
