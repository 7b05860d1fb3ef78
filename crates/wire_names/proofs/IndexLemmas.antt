-- What is told of the entry at an index of a table.
use Rattle.std.proofs.Common.{◌≡◌, ℕ, ◌*◌, ◌/◌, ◌%◌, ◌^◌, ◌<◌, ◌≤◌, inl, inr, Bool, true, false, List, [], ◌∷◌, length, take, drop, get_or, refl, sym, ap, subst, ◌∙◌, arith}
use Rattle.std.proofs.lemmas.List.{length-map, get_or-map}
use Rattle.std.proofs.lemmas.Bool.{cases_eq, cases_lt}
use Rattle.dns_name.specs.Name.{Name}
use Rattle.wire_names.specs.Spells.{Spells}
use Rattle.wire_names.specs.Chains.{parent_at, IsNewest, AreChained}
use Rattle.wire_names.specs.Table.{Entry, IsTable, IsEntry, IsLabelAt, IsSpelt, BeginsAlike, HasNoChild, AreMarked, place_at, first_key, parent_of, entry_of, table_of, spelt_at}
use Rattle.wire_names.proofs.GrammarLemmas.{once}
use Rattle.wire_names.proofs.TableLemmas.{target_spells}

-- an entry that stands for none
abbrev pub no_entry : Entry
no_entry = record { key = 0; position = 0; parent = 0; octets = [] }

pub is_entry : (msg : List ℕ) (xs : List Entry) (i : ℕ) (x : Entry) → IsTable msg xs → i < length xs → x ≡ get_or xs i no_entry → IsEntry msg x
is_entry msg xs i x table h e = subst (IsEntry msg) (sym e) (table.targets i no_entry h)

pub label_there : (msg : List ℕ) (xs : List Entry) (i at : ℕ) (x : Entry) → IsTable msg xs → i < length xs → x ≡ get_or xs i no_entry → at ≡ x.position → IsLabelAt msg at
label_there msg xs i at x table h e p = subst (IsLabelAt msg) (sym p) (is_entry msg xs i x table h e).label

-- what a position spells is the name there
pub spelt_there : (msg : List ℕ) (xs : List Entry) (i at : ℕ) (x : Entry) (name : Name) → IsTable msg xs → i < length xs → x ≡ get_or xs i no_entry → at ≡ x.position → ((next : ℕ) × Spells msg at at name next) → IsSpelt msg xs name i
spelt_there msg xs i at x name table h e p s =
    let own = is_entry msg xs i x table h e in
    let there = target_spells msg x.position own.target in
    let mine = subst (λ (a : ℕ). Spells msg a a name s.0) p s.1 in
    record { within = h; is = ap (λ (y : Entry). spelt_at msg y.position) (sym e) ∙ (once msg x.position x.position there.0 s.0 (spelt_at msg x.position) name there.1 mine).0 }

-- and the other way round
pub spells_there : (msg : List ℕ) (xs : List Entry) (i at : ℕ) (x : Entry) (name : Name) → IsTable msg xs → i < length xs → x ≡ get_or xs i no_entry → at ≡ x.position → IsSpelt msg xs name i → (next : ℕ) × Spells msg at at name next
spells_there msg xs i at x name table h e p is =
    let own = is_entry msg xs i x table h e in
    let there = target_spells msg x.position own.target in
    let same : spelt_at msg x.position ≡ name = ap (λ (y : Entry). spelt_at msg y.position) e ∙ is.is in
    let named = subst (λ (n : Name). Spells msg x.position x.position n there.0) same there.1 in
    (there.0, subst (λ (a : ℕ). Spells msg a a name there.0) (sym p) named)

-- an entry is the one of its position and the name there
pub entry_is : (msg : List ℕ) (xs : List Entry) (i : ℕ) → IsTable msg xs → i < length xs → get_or xs i no_entry ≡ entry_of (table_of msg xs) (place_at xs i, spelt_at msg (place_at xs i))
entry_is msg xs i table h =
    let named : Entry → ℕ × Name = λ entry. (entry.position, spelt_at msg entry.position) in
    let many : length (table_of msg xs) ≡ length xs = length-map xs named in
    let there : i < length (table_of msg xs) = omega arith in
    ap (λ (ys : List Entry). get_or ys i no_entry) table.entries_are
    ∙ get_or-map (entry_of (table_of msg xs)) (table_of msg xs) i (0, []) no_entry there
    ∙ ap (entry_of (table_of msg xs)) (get_or-map named xs i no_entry (0, []) h)

pub parent_is : (msg : List ℕ) (xs : List Entry) (i : ℕ) → IsTable msg xs → i < length xs → parent_at xs i ≡ parent_of (table_of msg xs) (drop 1 (spelt_at msg (place_at xs i)))
parent_is msg xs i table h = ap (λ (x : Entry). x.parent) (entry_is msg xs i table h)

key_is : (msg : List ℕ) (xs : List Entry) (i : ℕ) → IsTable msg xs → i < length xs → (get_or xs i no_entry).key ≡ first_key (spelt_at msg (place_at xs i))
key_is msg xs i table h = ap (λ (x : Entry). x.key) (entry_is msg xs i table h)

-- names that begin with the same label have the same key
key_of_first : (name other : Name) → take 1 name ≡ take 1 other → first_key name ≡ first_key other
key_of_first [] [] e = refl
key_of_first [] (x ∷ other) e = cc
key_of_first (x ∷ name) [] e = cc
key_of_first (x ∷ name) (y ∷ other) e = let same : x ≡ y = cc in ap (λ (l : List ℕ). first_key (l ∷ [])) same

pub other_by_key : (msg : List ℕ) (xs : List Entry) (parent key i : ℕ) (x : Entry) (name : Name) → IsTable msg xs → i < length xs → x ≡ get_or xs i no_entry → key ≡ first_key name → (x.key ≡ key → ⊥) → BeginsAlike msg xs parent name i → ⊥
other_by_key msg xs parent key i x name table h e own differs alike =
    differs (ap (λ (y : Entry). y.key) e ∙ key_is msg xs i table h ∙ key_of_first (spelt_at msg (place_at xs i)) name alike.1 ∙ sym own)

-- no entry has a label whose key has no mark
pub unmarked : (msg : List ℕ) (xs : List Entry) (marks : List Bool) (parent key mark : ℕ) (name : Name) → IsTable msg xs → AreMarked xs marks → key ≡ first_key name → mark ≡ key * 2654435761 % 2 ^ 32 / 524288 → get_or marks mark false ≡ false → HasNoChild msg xs parent name
unmarked msg xs marks parent key mark name table marked own is blank = λ i h alike.
    other_by_key msg xs parent key i (get_or xs i no_entry) name table h refl own (λ same.
    let yes = marked i no_entry h in
    let at : (get_or xs i no_entry).key * 2654435761 % 2 ^ 32 / 524288 ≡ mark = ap (λ (k : ℕ). k * 2654435761 % 2 ^ 32 / 524288) same ∙ sym is in
    let there : get_or marks mark false ≡ true = ap (λ (n : ℕ). get_or marks n false) (sym at) ∙ yes in
    cc) alike

-- the walk along a chain: none of those in front begins so
abbrev pub IsLeft : List ℕ → List Entry → ℕ → Name → ℕ → Type 0
IsLeft msg xs parent name i = (count : ℕ) × (count ≤ length xs) × IsNewest xs parent count i × ((k : ℕ) → count ≤ k → k < length xs → BeginsAlike msg xs parent name k → ⊥)

pub left_next : (msg : List ℕ) (xs inside : List Entry) (newest older : List ℕ) (parent i next : ℕ) (name : Name) → inside ≡ xs → AreChained inside newest older → parent < 258 → i < length xs → next ≡ get_or older i 0 → (BeginsAlike msg xs parent name i → ⊥) → IsLeft msg xs parent name i → IsLeft msg xs parent name next
left_next msg xs inside newest older parent i next name view all small h e differs left =
    let chained : AreChained xs newest older = subst (λ (ys : List Entry). AreChained ys newest older) view all in
    let few = chained.few in
    let count = left.0 in
    let upto = left.1 in
    let n = left.2 in
    let below : i < count = elim n.within [ inl a ↦ a | inr b ↦ absurd (omega arith) ] in
    let own : parent_at xs i ≡ parent = n.is below in
    let step = chained.olders i h (omega arith) in
    let next_is : IsNewest xs parent i next = subst (λ (p : ℕ). IsNewest xs p i next) own (subst (IsNewest xs (parent_at xs i) i) (sym e) step) in (
      i,
      omega arith,
      next_is,
      λ k from within alike. elim (cases_eq k i) [
        | inl same ↦ differs (subst (BeginsAlike msg xs parent name) same alike)
        | inr apart ↦ elim (cases_lt k count) [
          | inl low ↦ (let o = n.others k low alike.0 in let a = o.1 in absurd (omega arith))
          | inr high ↦ left.3 k high within alike
        ]
      ],
    )
