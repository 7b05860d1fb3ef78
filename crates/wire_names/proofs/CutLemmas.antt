-- Names cut where a pointer stands for the rest.
use Rattle.std.proofs.Common.{◌≡◌, ℕ, zero, suc, ◌+◌, ◌-◌, ◌/◌, ◌%◌, ◌<◌, ◌≤◌, Bool, true, false, List, [], ◌∷◌, ◌++◌, length, take, drop, get_or, Option, Some, None, refl, sym, ap, subst, ◌∙◌, arith}
use Rattle.std.proofs.Math.Seq.{take-length, take-append-add}
use Rattle.std.proofs.lemmas.List.{length-append, length-drop, append_assoc}
use Rattle.dns_name.specs.Labels.{labels_in, IsWhole, IsFirstLabel}
use Rattle.dns_name.specs.Name.{Name, wire_of}
use Rattle.dns_name.proofs.LabelLemmas.{wire_of-labels_in, alone_root}
use Rattle.wire_names.specs.Cut.{IsCut}
use Rattle.wire_names.specs.Place.{IsPlace, IsLongest}
use Rattle.wire_names.specs.Table.{Entry, Table, IsTable, IsSpelt, IsChild, HasNoChild, place_at, parent_of, table_of, position_in}
use Rattle.wire_names.specs.Written.{name_octets, new_entries, pointer_to, starts_of, IsOverwritten, WritesOctets}
use Rattle.wire_names.specs.declared.write.Place.{Place}
use Rattle.wire_names.proofs.EntryLemmas.{octets_none, octets_some, entries_none, entries_some}
use Rattle.wire_names.proofs.IndexLemmas.{no_entry}
use Rattle.wire_names.proofs.OverwrittenLemmas.{length_stays, IsOverwritten-then}
use Rattle.wire_names.proofs.ParentLemmas.{found_at, named_at, table_many, position_spelt, child_spelt, child_none}
use Rattle.wire_names.proofs.PlaceLemmas.{place_spelt}
use Rattle.wire_names.proofs.LongestLemmas.{size_from}
use Rattle.wire_names.specs.Starts.{AreStarts}

pub pointer_octets : (target : ℕ) (octets : List ℕ) → target < 16384 → octets ≡ (target / 256 % 256) ∷ (target % 256) ∷ [] → (192 + get_or octets 0 0) ∷ get_or octets 1 0 ∷ [] ≡ pointer_to target
pointer_octets target octets low e =
    let high : target / 256 % 256 ≡ target / 256 = omega arith in
    ap (λ (o : List ℕ). (192 + get_or o 0 0) ∷ get_or o 1 0 ∷ []) e ∙ ap (λ (h : ℕ). (192 + h) ∷ (target % 256) ∷ []) high

-- octets and a pointer behind them are put as one
pub put_both_is : (a b c : List ℕ) (at n target : ℕ) (x y : List ℕ) (r : Option ℕ) → IsOverwritten a b at x n → WritesOctets b c n y r → y ≡ pointer_to target → at ≤ length a → length x + 2 ≤ length a - at → WritesOctets a c at (x ++ pointer_to target) r
put_both_is a b c at n target x y None front behind e within fits =
    let two : length y ≡ 2 = ap length e in
    let whole = length_stays a b at x n front in
    let next = front.next_is in
    let short = behind.0 in
    absurd (omega arith)
put_both_is a b c at n target x y (Some m) front behind e within fits =
    subst (λ (z : List ℕ). IsOverwritten a c at (x ++ z) m) e (IsOverwritten-then a b c at n m x y front behind)

-- a name in full
pub IsCut-whole : (compress : Bool) (table : Table) (octets : List ℕ) (parent : ℕ) → IsWhole octets → compress ≡ false → IsCut compress table octets (record { labels = 0; len = length octets; target = None; parent = parent })
IsCut-whole true table octets parent whole e = cc
IsCut-whole false table octets parent whole e = record {
  text = wire_of-labels_in octets whole ∙ sym (take-length octets);
  entries = λ at. refl;
  within = omega arith;
  few = omega arith;
  new = λ j h. absurd (omega arith);
  known = λ some. absurd (omega arith);
  parent = λ some. absurd (omega arith);
  low = tt;
}

wire_short : (name : Name) (k : ℕ) → length (wire_of (drop k name)) ≤ length (wire_of name)
wire_short name zero = omega arith
wire_short [] (suc k) = omega arith
wire_short (label ∷ name) (suc k) = let rest = wire_short name k in let both = length-append label (wire_of name) in omega arith

drop-all : (name : Name) → drop (length name) name ≡ []
drop-all [] = refl
drop-all (label ∷ name) = drop-all name

-- the table has none of the longest suffixes, so many of them
abbrev pub AreNew : Table → Name → ℕ → Type 0
AreNew table name k = (j : ℕ) → j < k → position_in table (drop j name) ≡ None

new_tail : (table : Table) (label : List ℕ) (name : Name) (k : ℕ) → AreNew table (label ∷ name) (suc k) → AreNew table name k
new_tail table label name k new j h = new (suc j) (omega arith)

-- their labels are written out
text_front : (table : Table) (name : Name) (k : ℕ) → k ≤ length name → AreNew table name k → name_octets table name ≡ take (length (wire_of name) - length (wire_of (drop k name))) (wire_of name) ++ name_octets table (drop k name)
text_front table name zero few new =
    let none : length (wire_of name) - length (wire_of name) ≡ 0 = omega arith in
    sym (ap (λ (n : ℕ). take n (wire_of name) ++ name_octets table name) none)
text_front table [] (suc k) few new = absurd (omega arith)
text_front table (label ∷ name) (suc k) few new =
    let rest = text_front table name k (omega arith) (new_tail table label name k new) in
    let n = length (wire_of name) - length (wire_of (drop k name)) in
    let both = length-append label (wire_of name) in
    let short = wire_short name k in
    let size : length (wire_of (label ∷ name)) - length (wire_of (drop k name)) ≡ length (length label ∷ label) + n = omega arith in
    octets_none table label name (new 0 (omega arith))
    ∙ ap (λ (x : List ℕ). length label ∷ label ++ x) rest
    ∙ sym (append_assoc (length label ∷ label) (take n (wire_of name)) (name_octets table (drop k name)))
    ∙ ap (λ (x : List ℕ). x ++ name_octets table (drop k name)) (sym (take-append-add (length label ∷ label) (wire_of name) n))
    ∙ ap (λ (m : ℕ). take m (wire_of (label ∷ name)) ++ name_octets table (drop k name)) (sym size)

-- all of them, where the table has no suffix
text_all : (table : Table) (name : Name) → AreNew table name (length name) → name_octets table name ≡ wire_of name
text_all table [] new = refl
text_all table (label ∷ name) new =
    octets_none table label name (new 0 (omega arith)) ∙ ap (λ (x : List ℕ). length label ∷ label ++ x) (text_all table name (new_tail table label name (length name) new))

-- and their positions are entered
entries_front : (table : Table) (name : Name) (k at : ℕ) → k ≤ length name → AreNew table name k → ((there : ℕ) → new_entries table there (drop k name) ≡ []) → new_entries table at name ≡ take k (starts_of at name)
entries_front table name zero at few new none = none at
entries_front table [] (suc k) at few new none = absurd (omega arith)
entries_front table (label ∷ name) (suc k) at few new none =
    entries_none table at label name (new 0 (omega arith))
    ∙ ap (λ (xs : Table). (at, label ∷ name) ∷ xs) (entries_front table name k (at + 1 + length label) (omega arith) (new_tail table label name k new) none)

nothing_new : (table : Table) (name : Name) (target : ℕ) → position_in table name ≡ Some target → 0 < length name → (at : ℕ) → new_entries table at name ≡ []
nothing_new table [] target e some at = absurd (omega arith)
nothing_new table (label ∷ name) target e some at = entries_some table at label name target e

pointer_text : (table : Table) (name : Name) (target : ℕ) → position_in table name ≡ Some target → 0 < length name → name_octets table name ≡ pointer_to target
pointer_text table [] target e some = absurd (omega arith)
pointer_text table (label ∷ name) target e some = octets_some table label name target e

-- a name is cut at the longest suffix that the table has
pub IsCut-pointer : (table : Table) (octets : List ℕ) (k len target parent : ℕ) → IsWhole octets → k < length (labels_in octets) → AreNew table (labels_in octets) k → position_in table (drop k (labels_in octets)) ≡ Some target → target < 16384 → parent < 258 → parent ≡ parent_of table (drop k (labels_in octets)) → len ≡ length octets - length (wire_of (drop k (labels_in octets))) → IsCut true table octets (record { labels = k; len = len; target = Some target; parent = parent })
IsCut-pointer table octets k len target parent whole within new found low near own size =
    let name = labels_in octets in
    let wire = wire_of-labels_in octets whole in
    let cut = length-drop k name in
    let some : 0 < length (drop k name) = omega arith in
    record {
      text = text_front table name k (omega arith) new
          ∙ ap (λ (x : List ℕ). take (length x - length (wire_of (drop k name))) x ++ name_octets table (drop k name)) wire
          ∙ ap (λ (n : ℕ). take n octets ++ name_octets table (drop k name)) (sym size)
          ∙ ap (λ (x : List ℕ). take len octets ++ x) (pointer_text table (drop k name) target found some);
      entries = λ at. entries_front table name k at (omega arith) new (nothing_new table (drop k name) target found some);
      within = omega arith;
      few = omega arith;
      new = new;
      known = λ more. near;
      parent = λ more. own;
      low = low;
    }

-- a name of which the table has no suffix is written in full
pub IsCut-full : (table : Table) (octets : List ℕ) (parent : ℕ) → IsWhole octets → AreNew table (labels_in octets) (length (labels_in octets)) → parent ≡ 257 → IsCut true table octets (record { labels = length (labels_in octets); len = length octets; target = None; parent = parent })
IsCut-full table octets parent whole new root =
    let name = labels_in octets in
    let wire = wire_of-labels_in octets whole in
    let end : drop (length name) name ≡ [] = drop-all name in
    record {
      text = text_all table name new ∙ wire ∙ sym (take-length octets);
      entries = λ at. entries_front table name (length name) at (omega arith) new (λ there. ap (new_entries table there) end);
      within = omega arith;
      few = omega arith;
      new = new;
      known = λ more. omega arith;
      parent = λ more. root ∙ sym (ap (parent_of table) end);
      low = tt;
    }

-- the position of a place
pub place_spells : (msg : List ℕ) (xs : List Entry) (name : Name) (i : ℕ) → IsTable msg xs → i ≡ parent_of (table_of msg xs) name → i < 257 → IsSpelt msg xs name i
place_spells msg xs [] i table own low = absurd (omega arith)
place_spells msg xs (label ∷ name) i table own low =
    let f = found_at 0 (table_of msg xs) (label ∷ name) (omega arith) in
    let same : i ≡ f.at = let a = f.index in omega arith in
    let many = table_many msg xs in
    let inside = f.within in
    let within : f.at < length xs = omega arith in
    subst (IsSpelt msg xs (label ∷ name)) (sym same)
    (record { within = within; is = sym (ap (λ (x : ℕ × Name). x.1) (named_at msg xs f.at (0, []) within)) ∙ f.is (0, []) })

-- a place before the root is one of an entry
pub place_low : (msg : List ℕ) (xs : List Entry) (name : Name) (place : Place) → IsPlace msg xs name place → (place.index ≡ 257 → ⊥) → place.index < 257
place_low msg xs name place is other = let a = is.known in omega arith

-- an index is the root's where no label is left
pub root_end : (msg : List ℕ) (xs : List Entry) (name : Name) (k i : ℕ) → IsTable msg xs → i ≡ parent_of (table_of msg xs) (drop k name) → i ≡ 257 → k ≤ length name → k ≡ length name
root_end msg xs name k i table own root within = root_if msg xs (drop k name) table refl (sym own ∙ root)
  where
    root_if : (msg : List ℕ) (xs : List Entry) (rest : Name) → IsTable msg xs → drop k name ≡ rest → parent_of (table_of msg xs) rest ≡ 257 → k ≡ length name
    root_if msg xs [] table e p = let cut = length-drop k name in let size = ap length e in omega arith
    root_if msg xs (label ∷ rest) table e p =
        let f = found_at 0 (table_of msg xs) (label ∷ rest) (omega arith) in
        let many = table_many msg xs in
        let a = f.index in let b = f.within in let few = table.few in
        absurd (omega arith)

pub IsCut-place : (msg : List ℕ) (xs : List Entry) (octets : List ℕ) (k len i : ℕ) → IsTable msg xs → IsWhole octets → i ≡ parent_of (table_of msg xs) (drop k (labels_in octets)) → i < 257 → k < length (labels_in octets) → AreNew (table_of msg xs) (labels_in octets) k → len ≡ length octets - length (wire_of (drop k (labels_in octets))) → IsCut true (table_of msg xs) octets (record { labels = k; len = len; target = Some (place_at xs i); parent = i })
IsCut-place msg xs octets k len i table whole own low within new size =
    let is = place_spells msg xs (drop k (labels_in octets)) i table own low in
    IsCut-pointer (table_of msg xs) octets k len (place_at xs i) i whole within new (position_spelt msg xs _ i table is) (table.targets i no_entry is.within).target.low (omega arith) own size

-- all of it is a pointer, where the table has the name
pub IsCut-spelt : (msg : List ℕ) (xs : List Entry) (octets : List ℕ) (i : ℕ) → IsTable msg xs → IsWhole octets → 0 < length (labels_in octets) → IsSpelt msg xs (labels_in octets) i → IsCut true (table_of msg xs) octets (record { labels = 0; len = 0; target = Some (place_at xs i); parent = i })
IsCut-spelt msg xs octets i table whole some is =
    let place = place_spelt msg xs (labels_in octets) 0 i table some is in
    let within = is.within in
    let few = table.few in
    let size = ap length (wire_of-labels_in octets whole) in
    IsCut-place msg xs octets 0 0 i table whole place.index (omega arith) some (λ j h. absurd (omega arith)) (omega arith)

-- the first label stands in front of a pointer, or the table has the whole name
module _ (msg : List ℕ) (xs : List Entry) (octets behind : List ℕ) (parent : ℕ) (table : IsTable msg xs) (whole : IsWhole octets) (first : (label : List ℕ) × IsFirstLabel octets label behind) (some : 1 < length behind) (is : IsSpelt msg xs (labels_in behind) parent) where
  some_label : 0 < length (labels_in behind)
  some_label = some_if (labels_in behind) refl
    where
      some_if : (name : Name) → labels_in behind ≡ name → 0 < length name
      some_if [] e = let one = alone_root behind first.1.whole e in absurd (omega arith)
      some_if (label ∷ name) e = omega arith

  own_parent : parent ≡ parent_of (table_of msg xs) (drop 1 (labels_in octets))
  own_parent = (place_spelt msg xs (labels_in behind) 0 parent table some_label is).index ∙ ap (λ (n : Name). parent_of (table_of msg xs) (drop 1 n)) (sym first.1.labels)

  pub IsCut-child : (i : ℕ) → IsChild msg xs parent (labels_in octets) i → IsCut true (table_of msg xs) octets (record { labels = 0; len = 0; target = Some (place_at xs i); parent = i })
  IsCut-child i child =
      let within = is.within in
      let few = table.few in
      let size = ap length first.1.labels in
      IsCut-spelt msg xs octets i table whole (omega arith) (child_spelt msg xs parent i (labels_in octets) table few own_parent (omega arith) child)

  pub IsCut-behind : (len : ℕ) → HasNoChild msg xs parent (labels_in octets) → len ≡ length octets - length behind → IsCut true (table_of msg xs) octets (record { labels = 1; len = len; target = Some (place_at xs parent); parent = parent })
  IsCut-behind len none e =
      let within = is.within in
      let few = table.few in
      let size = ap length first.1.labels in
      let more = some_label in
      let new : AreNew (table_of msg xs) (labels_in octets) 1 = λ j h.
      let zero_is : 0 ≡ j = omega arith in
      subst (λ (n : ℕ). position_in (table_of msg xs) (drop n (labels_in octets)) ≡ None) zero_is (child_none msg xs parent (labels_in octets) table own_parent none) in
      let tail : length (wire_of (drop 1 (labels_in octets))) ≡ length behind = ap (λ (n : Name). length (wire_of (drop 1 n))) first.1.labels ∙ ap length (wire_of-labels_in behind first.1.whole) in
      IsCut-place msg xs octets 1 len parent table whole own_parent (omega arith) (omega arith) new (omega arith)

-- a place that is the longest suffix that the table has
module _ (msg : List ℕ) (xs : List Entry) (octets : List ℕ) (place : Place) (table : IsTable msg xs) (whole : IsWhole octets) (is : IsPlace msg xs (labels_in octets) place) (longest : IsLongest msg xs (labels_in octets) place.labels) where
  pub IsCut-root : place.index ≡ 257 → IsCut true (table_of msg xs) octets (record { labels = place.labels; len = length octets; target = None; parent = 257 })
  IsCut-root root =
      let end = root_end msg xs (labels_in octets) place.labels place.index table is.index root is.within in
      subst (λ (n : ℕ). IsCut true (table_of msg xs) octets (record { labels = n; len = length octets; target = None; parent = 257 })) (sym end)
      (IsCut-full (table_of msg xs) octets 257 whole (subst (AreNew (table_of msg xs) (labels_in octets)) end longest) refl)

  -- it is no root where labels are left
  pub place_some : (place.index ≡ 257 → ⊥) → place.labels < length (labels_in octets)
  place_some other = some_if (drop place.labels (labels_in octets)) refl
    where
      some_if : (rest : Name) → drop place.labels (labels_in octets) ≡ rest → place.labels < length (labels_in octets)
      some_if [] e = absurd (other (is.index ∙ ap (parent_of (table_of msg xs)) e))
      some_if (label ∷ rest) e = let cut = length-drop place.labels (labels_in octets) in let size = ap length e in omega arith

  pub place_within : (place.index ≡ 257 → ⊥) → place.index < length xs
  place_within other =
      let low = is.known in
      (place_spells msg xs (drop place.labels (labels_in octets)) place.index table is.index (omega arith)).within

  pub IsCut-found : (starts : List ℕ) (count len : ℕ) → AreStarts octets starts count → place.labels ≤ count → (place.index ≡ 257 → ⊥) → len ≡ get_or starts place.labels 0 → IsCut true (table_of msg xs) octets (record { labels = place.labels; len = len; target = Some (place_at xs place.index); parent = place.index })
  IsCut-found starts count len are front other e =
      let low = is.known in
      let all = are.all in
      let some = place_some other in
      let start = are.each place.labels (omega arith) in
      let size = size_from octets starts count place.labels whole are (omega arith) in
      let within = start.within in
      IsCut-place msg xs octets place.labels len place.index table whole is.index (omega arith) some longest (omega arith)
