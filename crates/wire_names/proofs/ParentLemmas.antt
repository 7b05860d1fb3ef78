-- The index of the entry that spells a name, where the names of a table are apart.
use Rattle.std.proofs.Common.{◌≡◌, ◌≢◌, ℕ, zero, suc, ◌+◌, ◌<◌, ◌≤◌, Bool, true, false, cond, if◌then◌else◌, List, [], ◌∷◌, length, take, drop, get_or, All, AllPairs, Some, None, refl, sym, ap, ◌∙◌, min, arith}
use Rattle.std.specs.List.{filter, reduce}
use Rattle.std.proofs.lemmas.List.{length-map, get_or-map}
use Rattle.std.proofs.lemmas.List.Elements.{All-head, All-tail}
use Rattle.dns_name.specs.Name.{Name, wire_of}
use Rattle.wire_names.specs.Table.{Entry, Table, IsTable, IsSpelt, HasNoChild, IsChild, place_at, parent_of, index_from, table_of, spelt_at, same_spelling, positions_in, position_in}
use Rattle.wire_names.proofs.IndexLemmas.{no_entry, parent_is}
use Rattle.wire_names.proofs.TableLemmas.{same_spelling-Decides, first_at}

-- the names of a table are apart
abbrev pub AreApart : Table → Type 0
AreApart table = AllPairs (λ named other. named.1 ≢ other.1) table

apart_tail : (named : ℕ × Name) (table : Table) → AreApart (named ∷ table) → AreApart table
apart_tail named table h i j d lt within = h (suc i) (suc j) d (omega arith) (omega arith)

pub apart_head : (named : ℕ × Name) (table : Table) (name : Name) → AreApart (named ∷ table) → named.1 ≡ name → All (λ other. other.1 ≢ name) table
apart_head named table name h e k d within same = h zero (suc k) d (omega arith) (omega arith) (e ∙ sym same)

-- whether a name is spelt the same
pub spelt_true : (name other : Name) → name ≡ other → same_spelling name other ≡ true
spelt_true name other e = (same_spelling-Decides name other).1 e

not_true : (b : Bool) → (b ≡ true → ⊥) → b ≡ false
not_true true h = absurd (h refl)
not_true false h = refl

pub spelt_false : (name other : Name) → (name ≡ other → ⊥) → same_spelling name other ≡ false
spelt_false name other h = not_true (same_spelling name other) (λ t. h ((same_spelling-Decides name other).0 t))

pub step : (named : ℕ × Name) (table : Table) (name : Name) (b : Bool) → same_spelling named.1 name ≡ b → positions_in (named ∷ table) name ≡ cond b (named.0 ∷ positions_in table name) (positions_in table name)
step named table name b e =
    first_at (same_spelling named.1 name) named.0 named.1 (filter (λ entry. same_spelling entry.1 name) table)
    ∙ ap (λ (t : Bool). cond t (named.0 ∷ positions_in table name) (positions_in table name)) e

-- a name that no entry spells is nowhere
pub nowhere : (table : Table) (name : Name) → All (λ other. other.1 ≢ name) table → positions_in table name ≡ []
nowhere [] name all = refl
nowhere (named ∷ table) name all =
    step named table name false (spelt_false named.1 name (All-head (λ (x : ℕ × Name). x.1 ≢ name) named table all))
    ∙ nowhere table name (All-tail (λ (x : ℕ × Name). x.1 ≢ name) named table all)

alone : (table : Table) (name : Name) (i : ℕ) (d : ℕ × Name) → AreApart table → i < length table → (get_or table i d).1 ≡ name → positions_in table name ≡ (get_or table i d).0 ∷ []
alone [] name i d h within e = absurd (omega arith)
alone (named ∷ table) name zero d h within e =
    step named table name true (spelt_true named.1 name e)
    ∙ ap (λ (xs : List ℕ). named.0 ∷ xs) (nowhere table name (apart_head named table name h e))
alone (named ∷ table) name (suc i) d h within e =
    let other : named.1 ≡ name → ⊥ = λ same. h zero (suc i) d (omega arith) within (same ∙ sym e) in
    step named table name false (spelt_false named.1 name other) ∙ alone table name i d (apart_tail named table h) (omega arith) e

-- the index of the entry that spells a name
pub index_step : (n : ℕ) (named : ℕ × Name) (table : Table) (name : Name) (b : Bool) → same_spelling named.1 name ≡ b → index_from n (named ∷ table) name ≡ (if b then n else index_from (n + 1) table name)
index_step n named table name b e = ap (λ (t : Bool). if t then n else index_from (n + 1) table name) e

index_alone : (n : ℕ) (table : Table) (name : Name) (i : ℕ) (d : ℕ × Name) → AreApart table → i < length table → (get_or table i d).1 ≡ name → index_from n table name ≡ n + i
index_alone n [] name i d h within e = absurd (omega arith)
index_alone n (named ∷ table) name zero d h within e = let same : n ≡ n + 0 = omega arith in index_step n named table name true (spelt_true named.1 name e) ∙ same
index_alone n (named ∷ table) name (suc i) d h within e =
    let other : named.1 ≡ name → ⊥ = λ same. h zero (suc i) d (omega arith) within (same ∙ sym e) in
    let next : n + 1 + i ≡ n + suc i = omega arith in
    index_step n named table name false (spelt_false named.1 name other) ∙ index_alone (n + 1) table name i d (apart_tail named table h) (omega arith) e ∙ next

-- an index that is found
pub record IsFoundAt (n : ℕ) (table : Table) (name : Name) : Type 0 where
  pub at : ℕ
  pub within : at < length table
  pub is : (d : ℕ × Name) → (get_or table at d).1 ≡ name
  pub index : index_from n table name ≡ n + at

found_if : (n : ℕ) (named : ℕ × Name) (table : Table) (name : Name) (b : Bool) → same_spelling named.1 name ≡ b → (index_from (n + 1) table name < 258 → IsFoundAt (n + 1) table name) → index_from n (named ∷ table) name < 258 → IsFoundAt n (named ∷ table) name
found_if n named table name true e rest low = record {
  at = 0;
  within = omega arith;
  is = λ d. (same_spelling-Decides named.1 name).0 e;
  index = let same : n ≡ n + 0 = omega arith in index_step n named table name true e ∙ same;
}
found_if n named table name false e rest low =
    let next = index_step n named table name false e in
    let more = rest (omega arith) in
    let far : n + 1 + more.at ≡ n + suc more.at = omega arith in
    let inside = more.within in
    record { at = suc more.at; within = omega arith; is = λ d. more.is d; index = next ∙ more.index ∙ far }

pub found_at : (n : ℕ) (table : Table) (name : Name) → index_from n table name < 258 → IsFoundAt n table name
found_at n [] name low = absurd (omega arith)
found_at n (named ∷ table) name low = found_if n named table name (same_spelling named.1 name) refl (found_at (n + 1) table name) low

-- where no entry spells it, the index tells how many octets the name takes
unfound_if : (n : ℕ) (named : ℕ × Name) (table : Table) (name : Name) (b : Bool) → same_spelling named.1 name ≡ b → index_from (n + 1) table name ≡ 258 + length (wire_of name) → (named.1 ≢ name) → index_from n (named ∷ table) name ≡ 258 + length (wire_of name)
unfound_if n named table name true e rest differs = absurd (differs ((same_spelling-Decides named.1 name).0 e))
unfound_if n named table name false e rest differs = index_step n named table name false e ∙ rest

pub unfound : (n : ℕ) (table : Table) (name : Name) → All (λ other. other.1 ≢ name) table → index_from n table name ≡ 258 + length (wire_of name)
unfound n [] name all = refl
unfound n (named ∷ table) name all =
    unfound_if n named table name (same_spelling named.1 name) refl (unfound (n + 1) table name (All-tail (λ (x : ℕ × Name). x.1 ≢ name) named table all))
    (All-head (λ (x : ℕ × Name). x.1 ≢ name) named table all)

-- a parent tells the name behind
pub parent_known : (table : Table) (name other : Name) → length table ≤ 256 → parent_of table name < 258 → parent_of table name ≡ parent_of table other → name ≡ other
parent_known table [] [] few low e = refl
parent_known table [] (y ∷ other) few low e =
    let f = found_at 0 table (y ∷ other) (omega arith) in
    let w = f.within in
    let x = f.index in
    absurd (omega arith)
parent_known table (x ∷ name) [] few low e =
    let f = found_at 0 table (x ∷ name) low in
    let w = f.within in
    let x = f.index in
    absurd (omega arith)
parent_known table (x ∷ name) (y ∷ other) few low e =
    let f = found_at 0 table (x ∷ name) low in
    let g = found_at 0 table (y ∷ other) (omega arith) in
    let same : f.at ≡ g.at = let a = f.index in let b = g.index in omega arith in
    sym (f.is (0, [])) ∙ ap (λ (i : ℕ). (get_or table i (0, [])).1) same ∙ g.is (0, [])

-- the same of the entries of a message
pub named_at : (msg : List ℕ) (xs : List Entry) (i : ℕ) (d : ℕ × Name) → i < length xs → get_or (table_of msg xs) i d ≡ (place_at xs i, spelt_at msg (place_at xs i))
named_at msg xs i d h = get_or-map (λ (entry : Entry). (entry.position, spelt_at msg entry.position)) xs i no_entry d h

pub table_many : (msg : List ℕ) (xs : List Entry) → length (table_of msg xs) ≡ length xs
table_many msg xs = length-map xs (λ (entry : Entry). (entry.position, spelt_at msg entry.position))

-- a name that is spelt at an entry has its position
pub position_spelt : (msg : List ℕ) (xs : List Entry) (name : Name) (i : ℕ) → IsTable msg xs → IsSpelt msg xs name i → position_in (table_of msg xs) name ≡ Some (place_at xs i)
position_spelt msg xs name i table is =
    let many = table_many msg xs in
    let within = is.within in
    let at = named_at msg xs i (0, []) within in
    let own : (get_or (table_of msg xs) i (0, [])).1 ≡ name = ap (λ (x : ℕ × Name). x.1) at ∙ is.is in
    ap (reduce min) (alone (table_of msg xs) name i (0, []) table.apart (omega arith) own) ∙ ap (λ (x : ℕ × Name). Some x.0) at

-- and is the parent of what stands in front of it
pub parent_spelt : (msg : List ℕ) (xs : List Entry) (label : List ℕ) (name : Name) (i : ℕ) → IsTable msg xs → IsSpelt msg xs (label ∷ name) i → i ≡ parent_of (table_of msg xs) (label ∷ name)
parent_spelt msg xs label name i table is =
    let many = table_many msg xs in
    let within = is.within in
    let at = named_at msg xs i (0, []) within in
    let own : (get_or (table_of msg xs) i (0, [])).1 ≡ label ∷ name = ap (λ (x : ℕ × Name). x.1) at ∙ is.is in
    let zero_is : 0 + i ≡ i = omega arith in
    sym (index_alone 0 (table_of msg xs) (label ∷ name) i (0, []) table.apart (omega arith) own ∙ zero_is)

-- what no entry spells has no position
pub position_none : (msg : List ℕ) (xs : List Entry) (name : Name) → ((i : ℕ) → IsSpelt msg xs name i → ⊥) → position_in (table_of msg xs) name ≡ None
position_none msg xs name never =
    let many = table_many msg xs in
    ap (reduce min) (nowhere (table_of msg xs) name (λ k d within same.
    let inside : k < length xs = omega arith in
    never k (record { within = inside; is = sym (ap (λ (x : ℕ × Name). x.1) (named_at msg xs k d inside)) ∙ same })))

same_name : (name other : Name) → take 1 name ≡ take 1 other → drop 1 name ≡ drop 1 other → name ≡ other
same_name [] [] e f = refl
same_name [] (y ∷ other) e f = cc
same_name (x ∷ name) [] e f = cc
same_name (x ∷ name) (y ∷ other) e f = let a : x ≡ y = cc in let b : name ≡ other = f in cc

-- a child of the name's parent spells the name
pub child_spelt : (msg : List ℕ) (xs : List Entry) (parent i : ℕ) (name : Name) → IsTable msg xs → length xs ≤ 256 → parent ≡ parent_of (table_of msg xs) (drop 1 name) → parent < 258 → IsChild msg xs parent name i → IsSpelt msg xs name i
child_spelt msg xs parent i name table few own low child =
    let many = table_many msg xs in
    let p = parent_is msg xs i table child.within in
    let is = child.alike.0 in
    let tail = parent_known (table_of msg xs) (drop 1 (spelt_at msg (place_at xs i))) (drop 1 name) (omega arith) (omega arith) (sym p ∙ is ∙ own) in
    record { within = child.within; is = same_name (spelt_at msg (place_at xs i)) name child.alike.1 tail }

-- where there is none, the table doesn't have the name
pub child_none : (msg : List ℕ) (xs : List Entry) (parent : ℕ) (name : Name) → IsTable msg xs → parent ≡ parent_of (table_of msg xs) (drop 1 name) → HasNoChild msg xs parent name → position_in (table_of msg xs) name ≡ None
child_none msg xs parent name table own none = position_none msg xs name (λ i is.
    none i is.within (parent_is msg xs i table is.within ∙ ap (λ (n : Name). parent_of (table_of msg xs) (drop 1 n)) is.is ∙ sym own, ap (take 1) is.is))
