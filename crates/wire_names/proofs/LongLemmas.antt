-- The octets that a table keeps of long names.
use Rattle.std.proofs.Common.{◌≡◌, ℕ, zero, suc, ◌+◌, ◌*◌, ◌/◌, ◌%◌, ◌^◌, ◌<◌, ◌≤◌, inl, inr, Bool, true, false, cond, nat_lt, List, [], ◌∷◌, ◌++◌, length, take, drop, get_or, set, refl, sym, ap, subst, ◌∙◌, arith}
use Rattle.std.proofs.lemmas.Bool.{cases_eq}
use Rattle.std.proofs.lemmas.List.{get_or-set_same, get_or-set_other}
use Rattle.std.proofs.lemmas.List.Elements.{All-nil, All-cons, All-append}
use Rattle.dns_name.specs.Labels.{labels_in, IsWhole}
use Rattle.dns_name.specs.Name.{Name, wire_of}
use Rattle.dns_name.proofs.LabelLemmas.{wire_of-labels_in, labels_in-wire_of}
use Rattle.wire_names.specs.Entry.{Entry, long_octets}
use Rattle.wire_names.specs.Long.{kept_of, entry_with, head_of, entries_with}
use Rattle.wire_names.specs.declared.long.Long.{Long}
use Rattle.wire_names.specs.declared.table.Head.{Head}
use Rattle.wire_names.specs.Place.{IsKnown}
use Rattle.wire_names.specs.Table.{IsTable, IsSpelt, AreMarked, place_at, spelt_at}
use Rattle.wire_names.proofs.GrammarLemmas.{spelt_labels}
use Rattle.wire_names.proofs.IndexLemmas.{no_entry, is_entry, entry_is}
use Rattle.wire_names.proofs.PlaceLemmas.{place_if}
use Rattle.wire_names.proofs.TableLemmas.{target_spells}

-- there are as many entries as heads
pub entries_many : (heads : List Head) (longs : List Long) → length (entries_with heads longs) ≡ length heads
entries_many [] longs = refl
entries_many (head ∷ heads) [] = ap suc (entries_many heads [])
entries_many (head ∷ heads) (long ∷ longs) = ap suc (entries_many heads longs)

-- the octets of no name
abbrev pub no_octets : Long
no_octets = record { octets = []; size = 0 }

-- the entry at an index has the head and the octets there
entries_at : (heads : List Head) (longs : List Long) (i : ℕ) (d : Entry) (h : Head) → i < length heads → get_or (entries_with heads longs) i d ≡ entry_with (get_or heads i h) (kept_of (get_or longs i no_octets))
entries_at [] longs i d h within = absurd (omega arith)
entries_at (head ∷ heads) [] zero d h within = refl
entries_at (head ∷ heads) [] (suc i) d h within = entries_at heads [] i d h (omega arith)
entries_at (head ∷ heads) (long ∷ longs) zero d h within = refl
entries_at (head ∷ heads) (long ∷ longs) (suc i) d h within = entries_at heads longs i d h (omega arith)

-- so each of the two stands there
pub head_at : (heads : List Head) (longs : List Long) (xs : List Entry) (i : ℕ) (d : Entry) (h : Head) → entries_with heads longs ≡ xs → i < length xs → get_or heads i h ≡ head_of (get_or xs i d)
head_at heads longs xs i d h view within =
    let many = entries_many heads longs in
    let size = ap length view in
    ap head_of (sym (entries_at heads longs i d h (omega arith)) ∙ ap (λ (ys : List Entry). get_or ys i d) view)

pub octets_at : (heads : List Head) (longs : List Long) (xs : List Entry) (i : ℕ) (d : Entry) → entries_with heads longs ≡ xs → i < length xs → kept_of (get_or longs i no_octets) ≡ (get_or xs i d).octets
octets_at heads longs xs i d view within =
    let many = entries_many heads longs in
    let size = ap length view in
    ap (λ (e : Entry). e.octets) (sym (entries_at heads longs i d (record { key = 0; position = 0; parent = 0 }) (omega arith)) ∙ ap (λ (ys : List Entry). get_or ys i d) view)

-- one more head, and the octets beside it, are one more entry
pub entries_more : (heads now : List Head) (longs : List Long) (i : ℕ) (head : Head) (long : Long) → now ≡ heads ++ head ∷ [] → i ≡ length heads → length heads < length longs → entries_with now (set longs i long) ≡ entries_with heads longs ++ entry_with head (kept_of long) ∷ []
entries_more heads now longs i head long is at room =
    ap (λ (xs : List Head). entries_with xs (set longs i long)) is ∙ ap (λ (n : ℕ). entries_with (heads ++ head ∷ []) (set longs n long)) at ∙ put heads longs room
  where
    put : (hs : List Head) (ls : List Long) → length hs < length ls → entries_with (hs ++ head ∷ []) (set ls (length hs) long) ≡ entries_with hs ls ++ entry_with head (kept_of long) ∷ []
    put [] [] less = absurd (omega arith)
    put [] (l ∷ ls) less = refl
    put (h ∷ hs) [] less = absurd (omega arith)
    put (h ∷ hs) (l ∷ ls) less = ap (λ (xs : List Entry). entry_with h (kept_of l) ∷ xs) (put hs ls (omega arith))

-- the key of an entry has its mark
abbrev IsMarked : List Bool → Entry → Type 0
IsMarked marks e = get_or marks (e.key * 2654435761 % 2 ^ 32 / 524288) false ≡ true

still_marked : (marks : List Bool) (mark : ℕ) (e : Entry) → mark < length marks → IsMarked marks e → IsMarked (set marks mark true) e
still_marked marks mark e within h = elim (cases_eq (e.key * 2654435761 % 2 ^ 32 / 524288) mark) [
  | inl same ↦ ap (λ (n : ℕ). get_or (set marks mark true) n false) same ∙ get_or-set_same marks mark true false within
  | inr other ↦ get_or-set_other marks mark (e.key * 2654435761 % 2 ^ 32 / 524288) true false other ∙ h
]

-- the keys of the entries are marked, and that of one more
pub marked_more : (xs : List Entry) (marks : List Bool) (x : Entry) (mark : ℕ) → AreMarked xs marks → mark ≡ x.key * 2654435761 % 2 ^ 32 / 524288 → mark < length marks → AreMarked (xs ++ x ∷ []) (set marks mark true)
marked_more xs marks x mark marked is within =
    let own : IsMarked (set marks mark true) x = ap (λ (n : ℕ). get_or (set marks mark true) n false) (sym is) ∙ get_or-set_same marks mark true false within in
    All-append (IsMarked (set marks mark true)) xs (x ∷ []) (λ k d h. still_marked marks mark (get_or xs k d) within (marked k d h))
    (All-cons (IsMarked (set marks mark true)) x [] own (All-nil (IsMarked (set marks mark true))))

-- long octets are those that are given
pub long_are : (octets own : List ℕ) → 32 < length own → long_octets octets ≡ own → octets ≡ own
long_are octets own many e = are_if (nat_lt 32 (length octets)) e
  where
    are_if : (b : Bool) → (cond b octets []) ≡ own → octets ≡ own
    are_if true same = same
    are_if false same = let none = ap length same in absurd (omega arith)

some_label : (name : Name) → 32 < length (wire_of name) → 0 < length name
some_label [] many = absurd (omega arith)
some_label (label ∷ name) many = omega arith

-- the entry that has the octets of a name spells it
pub long_spelt : (msg : List ℕ) (xs : List Entry) (octets : List ℕ) (i : ℕ) → IsTable msg xs → i < length xs → IsWhole octets → 32 < length octets → (get_or xs i no_entry).octets ≡ octets → IsKnown msg xs (labels_in octets) i
long_spelt msg xs octets i table within whole many e =
    let own = spelt_at msg (place_at xs i) in
    let entry = is_entry msg xs i (get_or xs i no_entry) table within refl in
    let spells = target_spells msg (place_at xs i) entry.target in
    let lawful = spelt_labels msg (place_at xs i) (place_at xs i) spells.0 own spells.1 in
    let same : wire_of own ≡ octets = long_are (wire_of own) octets many (sym (ap (λ (x : Entry). x.octets) (entry_is msg xs i table within)) ∙ e) in
    let is : own ≡ labels_in octets = sym (labels_in-wire_of own lawful) ∙ ap labels_in same in
    let some : 0 < length (labels_in octets) = some_label (labels_in octets) (omega (arith, ap length (wire_of-labels_in octets whole))) in
    let few = table.few in
    let spelt : IsSpelt msg xs (labels_in octets) i = record { within = within; is = is } in
    record { is = place_if msg xs (labels_in octets) i table some spelt; known = omega arith }
