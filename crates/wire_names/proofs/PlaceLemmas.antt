-- Suffixes of a name that a table has, from the last label on.
use Rattle.std.proofs.Common.{◌≡◌, ℕ, ◌+◌, ◌-◌, ◌*◌, ◌<◌, ◌≤◌, ◌⊎◌, inl, inr, List, [], ◌∷◌, length, drop, get_or, None, refl, sym, ap, subst, ◌∙◌, arith}
use Rattle.std.proofs.lemmas.List.{length-drop, drop-drop}
use Rattle.dns_name.specs.Labels.{labels_in, IsWhole}
use Rattle.dns_name.specs.Name.{Name}
use Rattle.dns_name.proofs.LabelLemmas.{labels_few}
use Rattle.wire_names.specs.Place.{IsKnown, IsPlace, IsEnd}
use Rattle.wire_names.specs.Starts.{AreStarts, IsStart}
use Rattle.wire_names.specs.Table.{Entry, Table, IsTable, IsSpelt, HasNoChild, IsChild, parent_of, table_of, position_in}
use Rattle.wire_names.proofs.ParentLemmas.{found_at, table_many, child_spelt, child_none, parent_spelt}

-- a parent that is known is an entry, or the root
pub known_entry : (table : Table) (name : Name) (n : ℕ) → parent_of table name < 258 → length table ≡ n → (parent_of table name < n) ⊎ (parent_of table name ≡ 257)
known_entry table [] n low e = inr refl
known_entry table (x ∷ name) n low e = let f = found_at 0 table (x ∷ name) low in let a = f.index in let b = f.within in inl (omega arith)

-- the octets from the label on that is in front of a place
pub record IsInFront (msg : List ℕ) (xs : List Entry) (octets rest : List ℕ) (k index : ℕ) : Type 0 where
  pub whole : IsWhole rest
  pub some : 1 < length rest
  pub labels : labels_in rest ≡ drop (k - 1) (labels_in octets)
  pub parent : index ≡ parent_of (table_of msg xs) (drop 1 (labels_in rest))
  pub known : index < 258
  pub entry : (index < length xs) ⊎ (index ≡ 257)

pub in_front : (msg : List ℕ) (xs : List Entry) (octets starts : List ℕ) (count k index : ℕ) (rest : List ℕ) → AreStarts octets starts count → k ≤ count → IsPlace msg xs (labels_in octets) (record { labels = k; index = index }) → 0 < k → rest ≡ drop (get_or starts (k - 1) 0) octets → IsInFront msg xs octets rest k index
in_front msg xs octets starts count k index rest are front place some same =
    let within = place.within in
    let all = are.all in
    let own : IsStart octets (k - 1) (get_or starts (k - 1) 0) = are.each (k - 1) (omega arith) in
    let whole : IsWhole rest = subst IsWhole (sym same) own.whole in
    let labels : labels_in rest ≡ drop (k - 1) (labels_in octets) = ap labels_in same ∙ own.rest in
    let size = ap length labels in
    let cut = length-drop (k - 1) (labels_in octets) in
    let few = labels_few rest whole in
    let next : k - 1 + 1 ≡ k = omega arith in
    let behind : drop 1 (labels_in rest) ≡ drop k (labels_in octets) =
    ap (drop 1) labels ∙ drop-drop 1 (k - 1) (labels_in octets) ∙ ap (λ (n : ℕ). drop n (labels_in octets)) next in
    let is = place.index in
    let low = place.known in
    let many = table_many msg xs in
    record {
      whole = whole;
      some = omega arith;
      labels = labels;
      parent = is ∙ ap (parent_of (table_of msg xs)) (sym behind);
      known = low;
      entry = subst (λ (n : ℕ). (n < length xs) ⊎ (n ≡ 257)) (sym is) (known_entry (table_of msg xs) (drop k (labels_in octets)) (length xs) (omega arith) many);
    }

pub place_if : (msg : List ℕ) (xs : List Entry) (name : Name) (i : ℕ) → IsTable msg xs → 0 < length name → IsSpelt msg xs name i → i ≡ parent_of (table_of msg xs) name
place_if msg xs [] i table some is = absurd (omega arith)
place_if msg xs (label ∷ name) i table some is = parent_spelt msg xs label name i table is

-- an entry whose parent is known by the name behind the first label, and that begins with that label
pub known_child : (msg : List ℕ) (xs : List Entry) (name behind : Name) (i parent : ℕ) → IsTable msg xs → 0 < length name → behind ≡ drop 1 name → IsChild msg xs parent name i → IsKnown msg xs behind parent → IsKnown msg xs name i
known_child msg xs name behind i parent table some e child known =
    let own : parent ≡ parent_of (table_of msg xs) (drop 1 name) = known.is ∙ ap (parent_of (table_of msg xs)) e in
    let is = child_spelt msg xs parent i name table table.few own known.known child in
    let within = is.within in
    let few = table.few in
    record { is = place_if msg xs name i table some is; known = omega arith }

-- the root is known by its number
pub known_root : (msg : List ℕ) (xs : List Entry) (rest : List ℕ) (i : ℕ) → IsWhole rest → length rest ≤ 1 → i ≡ 257 → IsKnown msg xs (labels_in rest) i
known_root msg xs rest i whole short root =
    let none = no_label (labels_in rest) (labels_few rest whole) in
    record { is = root ∙ ap (parent_of (table_of msg xs)) (sym none); known = omega arith }
  where
    no_label : (name : Name) → 2 * length name < length rest → name ≡ []
    no_label [] h = refl
    no_label (label ∷ name) h = absurd (omega arith)

-- a place that spells a suffix of the name
pub place_spelt : (msg : List ℕ) (xs : List Entry) (name : Name) (k i : ℕ) → IsTable msg xs → k < length name → IsSpelt msg xs (drop k name) i → IsPlace msg xs name (record { labels = k; index = i })
place_spelt msg xs name k i table within is =
    let few = table.few in
    let cut = length-drop k name in
    let inside = is.within in
    record { within = omega arith; index = place_if msg xs (drop k name) i table (omega arith) is; known = omega arith }

-- a suffix that is known is a place
pub place_known : (msg : List ℕ) (xs : List Entry) (octets starts rest : List ℕ) (count index : ℕ) → AreStarts octets starts count → rest ≡ drop (get_or starts count 0) octets → IsKnown msg xs (labels_in rest) index → IsPlace msg xs (labels_in octets) (record { labels = count; index = index })
place_known msg xs octets starts rest count index are same known =
    let here : IsStart octets count (get_or starts count 0) = are.each count (omega arith) in
    record {
      within = are.all;
      index = known.is ∙ ap (parent_of (table_of msg xs)) (ap labels_in same ∙ here.rest);
      known = known.known;
    }

-- behind all labels is the root
pub place_root : (msg : List ℕ) (xs : List Entry) (octets starts : List ℕ) (count : ℕ) → AreStarts octets starts count → length octets - get_or starts count 0 ≤ 1 → IsPlace msg xs (labels_in octets) (record { labels = count; index = 257 })
place_root msg xs octets starts count are end =
    let here : IsStart octets count (get_or starts count 0) = are.each count (omega arith) in
    let size = length-drop (get_or starts count 0) octets in
    place_known msg xs octets starts (drop (get_or starts count 0) octets) count 257 are refl
    (known_root msg xs (drop (get_or starts count 0) octets) 257 here.whole (omega arith) refl)

-- the place of the name that is longer by a label
pub place_child : (msg : List ℕ) (xs : List Entry) (octets rest : List ℕ) (k index child : ℕ) → IsTable msg xs → 0 < k → k ≤ length (labels_in octets) → IsInFront msg xs octets rest k index → IsChild msg xs index (labels_in rest) child → IsPlace msg xs (labels_in octets) (record { labels = k - 1; index = child })
place_child msg xs octets rest k index child table some within front is =
    place_spelt msg xs (labels_in octets) (k - 1) child table (omega arith)
    (subst (λ (n : Name). IsSpelt msg xs n child) front.labels (child_spelt msg xs index child (labels_in rest) table table.few front.parent front.known is))

-- and where there is no child, the table doesn't have that name
pub end_child : (msg : List ℕ) (xs : List Entry) (octets rest : List ℕ) (k index : ℕ) → IsTable msg xs → IsInFront msg xs octets rest k index → HasNoChild msg xs index (labels_in rest) → IsEnd msg xs (labels_in octets) k
end_child msg xs octets rest k index table front none = λ j e.
    let same : k - 1 ≡ j = omega arith in
    subst (λ (n : Name). position_in (table_of msg xs) n ≡ None) (front.labels ∙ ap (λ (n : ℕ). drop n (labels_in octets)) same)
    (child_none msg xs index (labels_in rest) table front.parent none)
