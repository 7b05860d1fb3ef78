-- Where the labels of a name begin.
use Rattle.std.proofs.Common.{◌≡◌, ℕ, ◌+◌, ◌-◌, ◌<◌, ◌≤◌, inl, inr, List, [], ◌∷◌, ◌++◌, length, drop, set, get_or, All, refl, sym, ap, subst, ◌∙◌, arith}
use Rattle.std.proofs.lemmas.List.{length-append, length-drop, get_or-drop, get_or-set_same, get_or-set_other, drop-drop, drop_at}
use Rattle.std.proofs.lemmas.List.Elements.{All-head, All-tail}
use Rattle.std.proofs.lemmas.Bool.{cases_lt}
use Rattle.dns_name.specs.Labels.{labels_in, IsWhole}
use Rattle.dns_name.specs.Name.{Name, wire_of, IsLabel}
use Rattle.dns_name.proofs.LabelLemmas.{wire_of-labels_in, IsLabel_each, labels_in-wire_of, IsWhole-wire_of}
use Rattle.dns_name.proofs.ReadLemmas.{wire_some}
use Rattle.wire_names.specs.Starts.{IsStart}

-- octets that don't begin with a zero octet begin with a label
record Begins (rest : List ℕ) : Type 0 where
  label : List ℕ
  name : Name
  is : labels_in rest ≡ label ∷ name
  octets_are : rest ≡ length label ∷ label ++ wire_of name
  lawful : All IsLabel (label ∷ name)

begins_if : (rest : List ℕ) (name : Name) → labels_in rest ≡ name → wire_of name ≡ rest → All IsLabel name → (get_or rest 0 0 ≡ 0 → ⊥) → Begins rest
begins_if rest [] e wire lawful some = absurd (some (sym (ap (λ (xs : List ℕ). get_or xs 0 0) wire)))
begins_if rest (label ∷ name) e wire lawful some = record { label = label; name = name; is = e; octets_are = sym wire; lawful = lawful }

begins : (rest : List ℕ) → IsWhole rest → (get_or rest 0 0 ≡ 0 → ⊥) → Begins rest
begins rest whole some = begins_if rest (labels_in rest) refl (wire_of-labels_in rest whole) (IsLabel_each rest whole) some

first_octet : (octets : List ℕ) (at len : ℕ) → len ≡ get_or octets at 0 → get_or (drop at octets) 0 0 ≡ len
first_octet octets at len e = let same : at + 0 ≡ at = omega arith in get_or-drop at octets 0 0 ∙ ap (λ (n : ℕ). get_or octets n 0) same ∙ sym e

-- the next label begins behind one
pub record IsNextStart (octets : List ℕ) (labels at len : ℕ) : Type 0 where
  pub start : IsStart octets (labels + 1) (at + (1 + len))
  pub more : labels < length (labels_in octets)

pub start_next : (octets : List ℕ) (labels at len : ℕ) → IsStart octets labels at → len ≡ get_or octets at 0 → (len ≡ 0 → ⊥) → IsNextStart octets labels at len
start_next octets labels at len start own some =
    let rest = drop at octets in
    let here = first_octet octets at len own in
    let b = begins rest start.whole (λ none. some (sym here ∙ none)) in
    let name = b.name in
    let size : len ≡ length b.label = sym here ∙ ap (λ (xs : List ℕ). get_or xs 0 0) b.octets_are in
    let tail : drop (1 + len) rest ≡ wire_of name =
    ap (drop (1 + len)) b.octets_are ∙ drop_at (length b.label ∷ b.label) (wire_of name) (1 + len) (omega arith) in
    let behind : drop (at + (1 + len)) octets ≡ wire_of name = sym (drop-drop (1 + len) at octets) ∙ tail in
    let lawful = All-tail IsLabel b.label name b.lawful in
    let left = length-drop at octets in
    let all = ap length b.octets_are in
    let both = length-append b.label (wire_of name) in
    let last = wire_some name in
    let within = start.within in
    let labels_left = ap length (sym start.rest ∙ b.is) in
    let cut = length-drop labels (labels_in octets) in
    record {
      start = record {
        within = omega arith;
        whole = subst IsWhole (sym behind) (IsWhole-wire_of name lawful);
        rest = ap labels_in behind ∙ labels_in-wire_of name lawful ∙ sym (sym (drop-drop 1 labels (labels_in octets)) ∙ ap (drop 1) (sym start.rest ∙ b.is));
      };
      more = omega arith;
    }

pub start_first : (octets : List ℕ) → IsWhole octets → 0 < length octets → IsStart octets 0 0
start_first octets whole some = record { within = some; whole = whole; rest = refl }

-- where more than one octet is left, a label begins
some_if : (rest : List ℕ) (name : Name) → labels_in rest ≡ name → wire_of name ≡ rest → All IsLabel name → 1 < length rest → get_or rest 0 0 ≡ 0 → ⊥
some_if rest [] e wire lawful more none = let size = ap length wire in absurd (omega arith)
some_if rest (label ∷ name) e wire lawful more none =
    let first = ap (λ (xs : List ℕ). get_or xs 0 0) wire in
    let some = (All-head IsLabel label name lawful).some in
    absurd (omega arith)

pub start_some : (octets : List ℕ) (labels at : ℕ) → IsStart octets labels at → 1 < length octets - at → get_or octets at 0 ≡ 0 → ⊥
start_some octets labels at start more none =
    let rest = drop at octets in
    let size = length-drop at octets in
    some_if rest (labels_in rest) refl (wire_of-labels_in rest start.whole) (IsLabel_each rest start.whole) (omega arith) (first_octet octets at 0 (sym none))

-- the octets behind the first label
pub start_behind : (octets : List ℕ) (len : ℕ) → IsWhole octets → 1 < length octets → len ≡ get_or octets 0 0 → IsNextStart octets 0 0 len
start_behind octets len whole more own =
    let first = start_first octets whole (omega arith) in
    start_next octets 0 0 len first own (λ none. start_some octets 0 0 first (omega arith) (sym own ∙ none))

pub each_more : (octets starts : List ℕ) (count at : ℕ) → count + 1 < length starts → IsStart octets (count + 1) at → ((i : ℕ) → i ≤ count → IsStart octets i (get_or starts i 0)) → (i : ℕ) → i ≤ count + 1 → IsStart octets i (get_or (set starts (count + 1) at) i 0)
each_more octets starts count at room here each i h = elim (cases_lt i (count + 1)) [
  | inl low ↦ (let apart : i ≡ count + 1 → ⊥ = λ e. absurd (omega arith) in subst (IsStart octets i) (sym (get_or-set_other starts (count + 1) i at 0 apart)) (each i (omega arith)))
  | inr high ↦ (let same : i ≡ count + 1 = omega arith in
      let own : get_or (set starts (count + 1) at) i 0 ≡ at = ap (λ (n : ℕ). get_or (set starts (count + 1) at) n 0) same ∙ get_or-set_same starts (count + 1) at 0 room in
      subst (IsStart octets i) (sym own) (subst (λ (n : ℕ). IsStart octets n at) (sym same) here))
]
