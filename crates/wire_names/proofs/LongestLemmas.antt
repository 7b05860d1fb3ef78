-- The longest suffix of a name that a table has.
use Rattle.std.proofs.Common.{◌≡◌, ℕ, zero, suc, ◌+◌, ◌-◌, ◌<◌, ◌≤◌, List, [], ◌∷◌, length, drop, get_or, Option, Some, None, sym, ap, subst, ◌∙◌, arith}
use Rattle.std.proofs.lemmas.List.{length-drop, drop-drop}
use Rattle.dns_name.specs.Labels.{labels_in, IsWhole}
use Rattle.dns_name.specs.Name.{Name, wire_of}
use Rattle.dns_name.proofs.LabelLemmas.{wire_of-labels_in}
use Rattle.wire_names.specs.Chains.{parent_at}
use Rattle.wire_names.specs.Place.{IsEnd, IsLongest}
use Rattle.wire_names.specs.Starts.{AreStarts, IsStart}
use Rattle.wire_names.specs.Table.{Entry, IsTable, IsSpelt, place_at, parent_of, table_of, position_in}
use Rattle.wire_names.proofs.IndexLemmas.{parent_is}
use Rattle.wire_names.proofs.ParentLemmas.{named_at, table_many, position_spelt, position_none, unfound}

some_none : {A : Type 0} (x : A) (o : Option A) → o ≡ Some x → o ≡ None → ⊥
some_none x o e f = cc

-- what the table doesn't have is no known parent
pub absent_if : (msg : List ℕ) (xs : List Entry) (name : Name) → IsTable msg xs → 0 < length name → position_in (table_of msg xs) name ≡ None → parent_of (table_of msg xs) name ≡ 258 + length (wire_of name)
absent_if msg xs [] table some none = absurd (omega arith)
absent_if msg xs (label ∷ name) table some none =
    let many = table_many msg xs in
    unfound 0 (table_of msg xs) (label ∷ name) (λ k d within same.
    let inside : k < length xs = omega arith in
    let is : IsSpelt msg xs (label ∷ name) k = record { within = inside; is = sym (ap (λ (x : ℕ × Name). x.1) (named_at msg xs k d inside)) ∙ same } in
    some_none (place_at xs k) (position_in (table_of msg xs) (label ∷ name)) (position_spelt msg xs (label ∷ name) k table is) none)

-- an entry that spells a suffix in front of one that the table doesn't have is the last
pub record IsInPart (xs : List Entry) (name : Name) (j i : ℕ) : Type 0 where
  pub last : i + 1 ≡ length xs
  pub parent : parent_at xs i ≡ 258 + length (wire_of (drop (j + 1) name))

pub in_part : (msg : List ℕ) (xs : List Entry) (name : Name) (j i : ℕ) → IsTable msg xs → j + 1 < length name → position_in (table_of msg xs) (drop (j + 1) name) ≡ None → IsSpelt msg xs (drop j name) i → IsInPart xs name j i
in_part msg xs name j i table within none is =
    let cut = length-drop (j + 1) name in
    let own = parent_is msg xs i table is.within in
    let behind : drop 1 (drop j name) ≡ drop (j + 1) name = drop-drop 1 j name in
    let parent : parent_at xs i ≡ 258 + length (wire_of (drop (j + 1) name)) =
    own ∙ ap (λ (n : Name). parent_of (table_of msg xs) (drop 1 n)) is.is ∙ ap (parent_of (table_of msg xs)) behind
    ∙ absent_if msg xs (drop (j + 1) name) table (omega arith) none in
    record { last = (table.closed i is.within (omega arith)).0; parent = parent }

-- so the table doesn't have that suffix where the last entry doesn't spell it
pub absent_front : (msg : List ℕ) (xs : List Entry) (name : Name) (j : ℕ) → IsTable msg xs → j + 1 < length name → position_in (table_of msg xs) (drop (j + 1) name) ≡ None → (IsSpelt msg xs (drop j name) (length xs - 1) → ⊥) → position_in (table_of msg xs) (drop j name) ≡ None
absent_front msg xs name j table within none never =
    position_none msg xs (drop j name) (λ i is.
    let part = in_part msg xs name j i table within none is in
    let last = part.last in
    let same : i ≡ length xs - 1 = omega arith in
    never (subst (IsSpelt msg xs (drop j name)) same is))

-- or where its parent is another
pub absent_size : (msg : List ℕ) (xs : List Entry) (name : Name) (j : ℕ) → IsTable msg xs → j + 1 < length name → position_in (table_of msg xs) (drop (j + 1) name) ≡ None → (parent_at xs (length xs - 1) ≡ 258 + length (wire_of (drop (j + 1) name)) → ⊥) → position_in (table_of msg xs) (drop j name) ≡ None
absent_size msg xs name j table within none other =
    position_none msg xs (drop j name) (λ i is.
    let part = in_part msg xs name j i table within none is in
    let last = part.last in
    let same : i ≡ length xs - 1 = omega arith in
    other (ap (parent_at xs) (sym same) ∙ part.parent))

-- all longer suffixes than one that the table doesn't have, where the last entry spells none of them
longest_from : (msg : List ℕ) (xs : List Entry) (name : Name) (k n j : ℕ) → IsTable msg xs → k ≤ length name → IsEnd msg xs name k → ((j : ℕ) → j + 1 < k → IsSpelt msg xs (drop j name) (length xs - 1) → ⊥) → j + n + 1 ≡ k → position_in (table_of msg xs) (drop j name) ≡ None
longest_from msg xs name k zero j table within end never e = end j (omega arith)
longest_from msg xs name k (suc n) j table within end never e =
    absent_front msg xs name j table (omega arith) (longest_from msg xs name k n (j + 1) table within end never (omega arith)) (never j (omega arith))

pub longest_by : (msg : List ℕ) (xs : List Entry) (name : Name) (k : ℕ) → IsTable msg xs → k ≤ length name → IsEnd msg xs name k → ((j : ℕ) → j + 1 < k → IsSpelt msg xs (drop j name) (length xs - 1) → ⊥) → IsLongest msg xs name k
longest_by msg xs name k table within end never = λ j h. longest_from msg xs name k (k - (j + 1)) j table within end never (omega arith)

-- where the parent of the last entry is known
longest_size : (msg : List ℕ) (xs : List Entry) (name : Name) (k n j : ℕ) → IsTable msg xs → k ≤ length name → IsEnd msg xs name k → (0 < length xs → parent_at xs (length xs - 1) < 258) → j + n + 1 ≡ k → position_in (table_of msg xs) (drop j name) ≡ None
longest_size msg xs name k zero j table within end low e = end j (omega arith)
longest_size msg xs name k (suc n) j table within end low e =
    position_none msg xs (drop j name) (λ i is.
    let none = longest_size msg xs name k n (j + 1) table within end low (omega arith) in
    let part = in_part msg xs name j i table (omega arith) none is in
    let last = part.last in
    let some = low (omega arith) in
    let same : i ≡ length xs - 1 = omega arith in
    let own = ap (parent_at xs) (sym same) ∙ part.parent in
    absurd (omega arith))

pub longest_known : (msg : List ℕ) (xs : List Entry) (name : Name) (k : ℕ) → IsTable msg xs → k ≤ length name → IsEnd msg xs name k → (0 < length xs → parent_at xs (length xs - 1) < 258) → IsLongest msg xs name k
longest_known msg xs name k table within end low = λ j h. longest_size msg xs name k (k - (j + 1)) j table within end low (omega arith)

-- one entry spells suffixes of one length alone
pub one_suffix : (msg : List ℕ) (xs : List Entry) (name : Name) (j k i : ℕ) → j < length name → k ≤ length name → IsSpelt msg xs (drop j name) i → IsSpelt msg xs (drop k name) i → j ≡ k
one_suffix msg xs name j k i within most a b =
    let same = ap length (sym a.is ∙ b.is) in
    let x = length-drop j name in
    let y = length-drop k name in
    omega arith

-- how many octets a suffix takes
pub size_from : (octets starts : List ℕ) (count k : ℕ) → IsWhole octets → AreStarts octets starts count → k ≤ count → length octets - get_or starts k 0 ≡ length (wire_of (drop k (labels_in octets)))
size_from octets starts count k whole are h =
    let own : IsStart octets k (get_or starts k 0) = are.each k h in
    let wire = wire_of-labels_in (drop (get_or starts k 0) octets) own.whole in
    let size = length-drop (get_or starts k 0) octets in
    sym size ∙ ap length (sym wire) ∙ ap (λ (n : Name). length (wire_of n)) own.rest

-- the labels of the octets from a label on
pub rest_labels : (octets starts rest : List ℕ) (count k : ℕ) → AreStarts octets starts count → k ≤ count → rest ≡ drop (get_or starts k 0) octets → labels_in rest ≡ drop k (labels_in octets)
rest_labels octets starts rest count k are h e = ap labels_in e ∙ (are.each k h).rest
