-- The rules of a key, after one more is put.
use Rattle.std.proofs.Common.{◌≡◌, ℕ, zero, suc, ◌<◌, ◌≤◌, Bool, true, false, List, [], ◌∷◌, ◌++◌, length, set, get_or, filter, slice_set, slice_index_or, Option, Some, None, refl, sym, ap, ◌∙◌, arith, if◌then◌else◌}
use Rattle.std.specs.Prelude.{bytes_eq, position}
use Rattle.std.specs.Cmp.Lexicographic.{pointwise}
use Rattle.std.specs.List.{position_or_len}
use Rattle.std.proofs.lemmas.Grind.{common_steps}
use Rattle.std.proofs.lemmas.List.{append-nil}
use Rattle.std.proofs.lemmas.List.Elements.{filter-append}
use Rattle.std.proofs.lemmas.List.Quantifiers.{position-Some}
use Rattle.std.proofs.lemmas.List.Sums.{fails_before_first}
use Rattle.dns_name.specs.Name.{Name, fold_name, is_same}
use Rattle.dns_name.specs.Order.{is_same_Decides}
use Rattle.command_line.specs.Keys.{is_no_key, is_key, is_unsigned, names_key, rules_by}
use Rattle.command_line.specs.declared.key_rules.KeyRules.{KeyRules}
use Rattle.rights.specs.declared.rule.Rule.{Rule}

-- a name is the same as one of two equal names exactly where it is the same as the other
same_as : (name own key : Name) → is_same own key ≡ true → is_same name own ≡ is_same name key
same_as name own key e = ap (λ (folded : Name). pointwise bytes_eq (fold_name name) folded) ((is_same_Decides own key).0 e)

-- the same, from the other side
same_left : (name other key : Name) → is_same name other ≡ true → is_same name key ≡ is_same other key
same_left name other key e = ap (λ (folded : Name). pointwise bytes_eq folded (fold_name key)) ((is_same_Decides name other).0 e)

-- two names that differ aren't both the same as a key
not_both : (name own key : Name) → is_same name own ≡ false → is_same name key ≡ true → is_same own key ≡ false
not_both name own key other same = by (is_same own key) refl
  where
    by : (b : Bool) → is_same own key ≡ b → b ≡ false
    by true e = sym same ∙ sym (same_as name own key e) ∙ other
    by false e = refl

-- a rule where it is of a key, else none
abbrev pub put_by : Bool → Rule → List Rule
put_by b rule = if b then rule ∷ [] else []

at_first : (b : Bool) (own old rest : List Rule) (rule : Rule) → own ≡ old ++ rule ∷ [] → (if b then own else rest) ≡ (if b then old else rest) ++ put_by b rule
at_first true own old rest rule e = e
at_first false own old rest rule e = sym (append-nil rest)

at_later : (b c : Bool) (own old new : List Rule) (rule : Rule) → (b ≡ true → c ≡ false) → new ≡ old ++ put_by c rule → (if b then own else new) ≡ (if b then own else old) ++ put_by c rule
at_later true c own old new rule apart e = rw (apart refl) (sym (append-nil own))
at_later false c own old new rule apart e = e

-- a rule more at the first place of its key
rules_by-set : (key : Name) (xs : List KeyRules) (i : ℕ) (d own : KeyRules) (rule : Rule) → i < length xs → own.rules.items ≡ (get_or xs i d).rules.items ++ rule ∷ [] → own.key ≡ (get_or xs i d).key → ((j : ℕ) → j < i → is_same (get_or xs j d).key own.key ≡ false)
    → rules_by key (set xs i own) ≡ rules_by key xs ++ put_by (is_same own.key key) rule
rules_by-set key [] i d own rule lt more same before = absurd (omega arith)
rules_by-set key (x ∷ xs) zero d own rule lt more same before =
    rw (sym (ap (λ (name : Name). is_same name key) same)) (at_first (is_same own.key key) own.rules.items x.rules.items (rules_by key xs) rule more)
rules_by-set key (x ∷ xs) (suc i) d own rule lt more same before =
    at_later (is_same x.key key) (is_same own.key key) x.rules.items (rules_by key xs) (rules_by key (set xs i own)) rule (not_both x.key own.key key (before 0 (omega arith)))
    (rules_by-set key xs i d own rule (omega arith) more same (λ j small. before (suc j) (omega arith)))

-- the first rule of a key that has no place
rules_by-push : (key : Name) (xs : List KeyRules) (own : KeyRules) (rule : Rule) → own.rules.items ≡ rule ∷ [] → ((j : ℕ) → j < length xs → is_same (get_or xs j own).key own.key ≡ false)
    → rules_by key (xs ++ own ∷ []) ≡ rules_by key xs ++ put_by (is_same own.key key) rule
rules_by-push key [] own rule one before = rw one (by (is_same own.key key))
  where
    by : (b : Bool) → (if b then rule ∷ [] else []) ≡ put_by b rule
    by true = refl
    by false = refl
rules_by-push key (x ∷ xs) own rule one before =
    at_later (is_same x.key key) (is_same own.key key) x.rules.items (rules_by key xs) (rules_by key (xs ++ own ∷ [])) rule (not_both x.key own.key key (before 0 (omega arith)))
    (rules_by-push key xs own rule one (λ j small. before (suc j) (omega arith)))

-- where there is no first place, none passes the test
none_passes : (p : KeyRules → Bool) (xs : List KeyRules) (d : KeyRules) → position p xs ≡ None → (j : ℕ) → j < length xs → p (get_or xs j d) ≡ false
none_passes p xs d e j lt =
    let all : length xs ≤ position_or_len p xs = grind (arith, common_steps) in
    fails_before_first p xs j d (omega arith)

-- a rule more at the place that was found for its key
pub set_at : (key sought : Name) (xs : List KeyRules) (i : ℕ) (old new : KeyRules) (rule : Rule) → position (λ own. is_same own.key sought) xs ≡ Some i → old ≡ slice_index_or xs i old → new.key ≡ old.key → new.rules.items ≡ old.rules.items ++ rule ∷ []
    → rules_by key (slice_set xs i new) ≡ rules_by key xs ++ put_by (is_same sought key) rule
set_at key sought xs i old new rule at value same more =
    let test : KeyRules → Bool = λ own. is_same own.key sought in
    let found = position-Some test xs i old at in
    let here : get_or xs i old ≡ old = sym value in
    let yes : is_same new.key sought ≡ true = ap (λ (name : Name). is_same name sought) same ∙ ap test (sym here) ∙ found.1 in
    rules_by-set key xs i old new rule found.0 (more ∙ ap (λ (own : KeyRules). own.rules.items ++ rule ∷ []) (sym here)) (same ∙ ap (λ (own : KeyRules). own.key) (sym here)) (λ j lt. same_as (get_or xs j old).key new.key sought yes ∙ found.2 j lt)
    ∙ ap (λ (b : Bool). rules_by key xs ++ put_by b rule) (same_left new.key sought key yes)

-- the first rule of a key for which no place was found
pub push_at : (key : Name) (xs longer : List KeyRules) (own : KeyRules) (rule : Rule) → position (λ other. is_same other.key own.key) xs ≡ None → own.rules.items ≡ rule ∷ [] → longer ≡ xs ++ own ∷ []
    → rules_by key longer ≡ rules_by key xs ++ put_by (is_same own.key key) rule
push_at key xs longer own rule none one pushed =
    ap (rules_by key) pushed ∙ rules_by-push key xs own rule one (none_passes (λ other. is_same other.key own.key) xs own none)

-- a rule that names a key adds nothing to the unsigned ones
pub unsigned_same : (rules : List Rule) (rule : Rule) (key : Name) → Some key ≡ rule.key → filter is_unsigned (rules ++ rule ∷ []) ≡ filter is_unsigned rules
unsigned_same rules rule key named =
    filter-append is_unsigned rules (rule ∷ []) ∙ ap (λ (own : Option Name). filter is_unsigned rules ++ put_by (is_no_key own) rule) (sym named) ∙ append-nil (filter is_unsigned rules)

-- it adds one to those of its key
pub signed_more : (key : Name) (rules : List Rule) (rule : Rule) (named : Name) → Some named ≡ rule.key → filter (names_key key) (rules ++ rule ∷ []) ≡ filter (names_key key) rules ++ put_by (is_same named key) rule
signed_more key rules rule named is =
    filter-append (names_key key) rules (rule ∷ []) ∙ ap (λ (own : Option Name). filter (names_key key) rules ++ put_by (is_key key own) rule) (sym is)
