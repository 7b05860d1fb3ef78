-- The name that octets begin with, by the octets that it takes.
use Rattle.std.proofs.Common.{◌≡◌, ℕ, List, [], ◌++◌, Some, length, take, drop, refl, sym, ap, subst, ◌∙◌}
use Rattle.std.proofs.lemmas.List.{take-append-drop, drop_at}
use Rattle.dns_name.specs.Labels.{labels_in, IsWhole, IsFirstName, IsWire}
use Rattle.dns_name.specs.Name.{Name, wire_of, IsName}
use Rattle.dns_name.proofs.LabelLemmas.{IsWhole-wire_of, labels_in-wire_of, wire_of-labels_in}
use Rattle.dns_name.proofs.ReadLemmas.{IsBegun}

pub IsFirstName-begun : (octets own rest : List ℕ) (len : ℕ) → IsBegun octets len → own ≡ take len octets → rest ≡ drop len octets → IsFirstName octets own rest
IsFirstName-begun octets own rest len b e f =
    let same : own ≡ wire_of b.name = e ∙ b.front in
    let named : labels_in own ≡ b.name = ap labels_in same ∙ labels_in-wire_of b.name b.lawful.labels in
    let joined : own ++ rest ≡ octets = ap (λ (x : List ℕ). x ++ rest) e ∙ ap (λ (x : List ℕ). take len octets ++ x) f ∙ take-append-drop len octets in
    record {
      name = b.is ∙ ap Some (sym named);
      whole = subst IsWhole (sym same) (IsWhole-wire_of b.name b.lawful.labels);
      lawful = subst IsName (sym named) b.lawful;
      octets_are = sym joined;
    }

-- how many octets it takes
pub first_size : (own : List ℕ) → IsWhole own → length own ≡ length (wire_of (labels_in own))
first_size own whole = sym (ap length (wire_of-labels_in own whole))

pub first_rest : (octets own rest : List ℕ) → IsFirstName octets own rest → rest ≡ drop (length own) octets
first_rest octets own rest first = sym (ap (drop (length own)) first.octets_are ∙ drop_at own rest (length own) refl)

pub first_octets : (octets own rest : List ℕ) → IsFirstName octets own rest → octets ≡ wire_of (labels_in own) ++ drop (length own) octets
first_octets octets own rest first =
    first.octets_are ∙ ap (λ (x : List ℕ). x ++ rest) (sym (wire_of-labels_in own first.whole))
    ∙ ap (λ (x : List ℕ). wire_of (labels_in own) ++ x) (first_rest octets own rest first)

-- octets are a name's where they are those that it has on the wire
pub IsWire-of : (octets : List ℕ) (name : Name) → octets ≡ wire_of name → IsName name → IsWire octets name
IsWire-of octets name e lawful = record {
  whole = subst IsWhole (sym e) (IsWhole-wire_of name lawful.labels);
  lawful = lawful;
  labels = ap labels_in e ∙ labels_in-wire_of name lawful.labels;
}

-- they are put in the place of a name's octets
pub put_first : (before own after : List ℕ) → before ≡ [] → after ≡ before ++ own → after ≡ own
put_first before own after none e = e ∙ ap (λ (x : List ℕ). x ++ own) none
