-- Names that are the same but for case, and names under one another.
use Rattle.std.proofs.Common.{◌≡◌, ℕ, ◌<◌, ◌≤◌, Bool, true, false, ◌||◌, IsTrue, ◌↔◌, suc, ◌+◌, ◌++◌, List, [], ◌∷◌, length, map, take, drop, get_or, All, Decides, refl, sym, ap, subst, ◌∙◌, arith}
use Rattle.std.specs.Char.{to_ascii_lowercase}
use Rattle.std.proofs.lemmas.List.{length-map, length-append, length-take-le, take-append-drop}
use Rattle.std.proofs.lemmas.List.Elements.{All-tail}
use Rattle.std.proofs.lemmas.Bool.Decides.{same_from_decides}
use Rattle.dns_name.specs.Labels.{labels_in, IsWhole, IsFirstLabel}
use Rattle.dns_name.specs.Name.{wire_of, IsLabel, IsName, is_same, is_under}
use Rattle.dns_name.specs.Order.{is_same_Decides}
pub use Rattle.dns_name.proofs.LabelLemmas.{wire_of-fold, fold_labels}
use Rattle.dns_name.proofs.LabelLemmas.{labels_in-wire_of, wire_of-labels_in, IsWhole_longer, IsLabel_each, alone_root, HasFirst-at}

-- names have the same octets only where they are equal
pub wire_of_injective : (name other : List (List ℕ)) → All IsLabel name → All IsLabel other → wire_of name ≡ wire_of other → name ≡ other
wire_of_injective name other h k e =
    let own = labels_in-wire_of name h in
    let others = labels_in-wire_of other k in
    let same = ap labels_in e in
    cc

-- two names are the same where their octets are, once folded
pub is_same_by_octets : (name other : List (List ℕ)) → All IsLabel name → All IsLabel other → Decides (is_same name other) (map to_ascii_lowercase (wire_of name) ≡ map to_ascii_lowercase (wire_of other))
is_same_by_octets name other h k =
    let both = is_same_Decides name other in
    let own = wire_of-fold name h in
    let others = wire_of-fold other k in (
      λ e. let same = ap wire_of (both.0 e) in cc,
      λ e. both.1 (wire_of_injective _ _ (fold_labels name h) (fold_labels other k) cc),
    )

not_from : (b : Bool) → (b ≡ true → ⊥) → b ≡ false
not_from true h = absurd (h refl)
not_from false h = refl

or_false : (b : Bool) → (b || false) ≡ b
or_false true = refl
or_false false = refl

-- names whose octets differ in number are not the same
not_same : (name other : List (List ℕ)) → All IsLabel name → All IsLabel other → (length (wire_of name) ≡ length (wire_of other) → ⊥) → is_same name other ≡ false
not_same name other h k ne =
    not_from (is_same name other) (λ e.
    let same = ap length ((is_same_by_octets name other h k).0 e) in
    let own = length-map (wire_of name) to_ascii_lowercase in
    let others = length-map (wire_of other) to_ascii_lowercase in
    ne cc)

-- a name of no more octets than another is under it only where they are the same
pub is_under_level : (name other : List (List ℕ)) → All IsLabel name → All IsLabel other → length (wire_of name) ≤ length (wire_of other) → is_under name other ≡ is_same name other
is_under_level [] other h k le = or_false (is_same [] other)
is_under_level (label ∷ name) other h k le =
    let rest = All-tail IsLabel label name h in
    let len = length-append label (wire_of name) in
    let level = is_under_level name other rest k (omega arith) in
    let none = not_same name other rest k (λ e. omega arith) in
    let e : is_under name other ≡ false = cc in
    rw e (or_false (is_same (label ∷ name) other))

-- a name of more octets than another is under it only where its parent is
is_under_past : (label : List ℕ) (name other : List (List ℕ)) → All IsLabel (label ∷ name) → All IsLabel other → length (wire_of other) < length (wire_of (label ∷ name)) → is_under (label ∷ name) other ≡ is_under name other
is_under_past label name other h k lt = let none = not_same (label ∷ name) other h k (λ e. omega arith) in rw none refl

-- a step down
pub ends_step : (rest other label behind : List ℕ) → IsWhole rest → IsWhole other → length other < length rest → IsFirstLabel rest label behind → is_under (labels_in behind) (labels_in other) ≡ is_under (labels_in rest) (labels_in other)
ends_step rest other label behind h k lt first =
    let own = ap length (wire_of-labels_in rest h) in
    let others = ap length (wire_of-labels_in other k) in
    let same = ap (λ (name : List (List ℕ)). length (wire_of name)) first.labels in
    let long : length (wire_of (labels_in other)) < length (wire_of (label ∷ labels_in behind)) = omega (arith, own, others, same) in
    let each : All IsLabel (label ∷ labels_in behind) = rw first.labels at (IsLabel_each rest h) in
    let past = is_under_past label (labels_in behind) (labels_in other) each (IsLabel_each other k) long in
    sym past ∙ ap (λ (name : List (List ℕ)). is_under name (labels_in other)) (sym first.labels)

-- the test where no more octets are left than the other has
pub ends_test : (r : Bool) (rest other : List ℕ) → IsWhole rest → IsWhole other → length rest ≤ length other → (IsTrue r ↔ (map to_ascii_lowercase rest ≡ map to_ascii_lowercase other)) → r ≡ is_under (labels_in rest) (labels_in other)
ends_test r rest other h k le test =
    let own = wire_of-labels_in rest h in
    let others = wire_of-labels_in other k in
    let each = IsLabel_each rest h in
    let each_other = IsLabel_each other k in
    let short : length (wire_of (labels_in rest)) ≤ length (wire_of (labels_in other)) = rw (own, others) le in
    let same = is_same_by_octets _ _ each each_other in
    same_from_decides r (is_same (labels_in rest) (labels_in other)) test (rw (own, others) at same) ∙ sym (is_under_level _ _ each each_other short)

-- and whether two names are the same
pub same_test : (r : Bool) (name other : List (List ℕ)) (octets others : List ℕ) → IsName name → IsName other → octets ≡ wire_of name → others ≡ wire_of other → (IsTrue r ↔ (map to_ascii_lowercase octets ≡ map to_ascii_lowercase others)) → r ≡ is_same name other
same_test r name other octets others h k e f test =
    same_from_decides r (is_same name other) test (rw (← e, ← f) at (is_same_by_octets name other h.labels k.labels))

-- octets that hold no label are no more than those of another name
pub ends_root : (rest other : List ℕ) → IsWhole rest → IsWhole other → labels_in rest ≡ [] → length other < length rest → ⊥
ends_root rest other h k e lt =
    let alone = alone_root rest h e in
    let some = IsWhole_longer other k in
    omega arith

-- where more octets are left than another name has, a label stands there, of as many octets as the first one says
pub record IsStep (n : ℕ) (rest : List ℕ) : Type 0 where
  pub within : n + 1 ≤ length rest
  pub label : List ℕ
  pub first : IsFirstLabel rest label (drop (n + 1) rest)

pub step_at : (n : ℕ) (rest other : List ℕ) → IsWhole rest → IsWhole other → length other < length rest → n ≡ get_or rest 0 0 → IsStep n rest
step_at n [] other h k lt e = absurd (omega (arith, lt))
step_at n (m ∷ octets) other h k lt e =
    let same : n ≡ m = e in
    let ne : m ≡ 0 → ⊥ = λ z. ends_root (m ∷ octets) other h k (subst (λ (x : ℕ). labels_in (x ∷ octets) ≡ []) (sym z) refl) lt in
    let first = HasFirst-at m octets ne h in
    let len : length (take m octets) ≡ m = length-take-le m octets (omega (arith, first.within)) in
    let more : n + 1 ≡ suc m = omega (arith, same) in
    let behind : drop (n + 1) (m ∷ octets) ≡ drop m octets = ap (λ (j : ℕ). drop j (m ∷ octets)) more in
    let join = take-append-drop m octets in
    record {
      within = omega (arith, first.within, same);
      label = take m octets;
      first = record {
        labels = first.labels ∙ ap (λ (xs : List ℕ). take m octets ∷ labels_in xs) (sym behind);
        whole = subst IsWhole (sym behind) first.behind;
        some = omega arith;
        short = omega (arith, len, first.short);
        octets_are = cc;
      };
    }
