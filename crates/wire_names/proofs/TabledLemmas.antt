-- Tables behind a name that is written.
use Rattle.std.proofs.Common.{◌≡◌, ◌≢◌, ℕ, zero, suc, ◌+◌, ◌<◌, ◌≤◌, ◌⊎◌, inl, inr, ◌&&◌, Bool, true, false, cond, nat_lt, nat_le, List, [], ◌∷◌, ◌++◌, length, take, drop, map, get_or, All, Option, Some, None, refl, sym, ap, subst, ◌∙◌, min, arith}
use Rattle.std.specs.List.{reduce}
use Rattle.std.proofs.Math.Seq.{get_or-append_seam}
use Rattle.std.proofs.lemmas.Bool.Decides.{nat_tests}
use Rattle.std.proofs.lemmas.Bool.{cases_lt, lt-ltb}
use Rattle.std.proofs.lemmas.List.{append_assoc, length-append, length-map, get_or-map, length-take-le, get_or_append_left, get_or_default}
use Rattle.std.proofs.lemmas.List.Elements.{All-nil, All-cons, All-head, All-tail, All-append}
use Rattle.dns_name.specs.Name.{Name, wire_of, IsName}
use Rattle.wire_names.specs.Chains.{parent_at}
use Rattle.wire_names.specs.Table.{Entry, Table, index_from, same_spelling, IsTable, IsEntry, AreEntries, IsClosed, parent_of, entry_of, keyed, enter, entered, position_in, spelt_at, table_of}
use Rattle.wire_names.specs.Written.{IsOverwritten, new_entries, written, table_after, starts_of, CanEnter}
use Rattle.wire_names.proofs.EnterLemmas.{parent_stays, index_behind, past, IsMore, entered_more, absent, parent_other, has_room, longer_apart, stuck, room_past}
use Rattle.wire_names.proofs.EntryLemmas.{entries_none, entries_some}
use Rattle.wire_names.proofs.LongestLemmas.{absent_if}
use Rattle.wire_names.proofs.LongerLemmas.{spells_within, ReadsName, AreEntries-longer, table_longer, target_longer}
use Rattle.wire_names.proofs.ParentLemmas.{table_many, AreApart, nowhere, index_step}
use Rattle.wire_names.proofs.TableLemmas.{same_spelling-Decides, reads_at}
use Rattle.wire_names.proofs.GrammarLemmas.{name_at_spelt}
use Rattle.wire_names.specs.NameAt.{name_at}
use Rattle.wire_names.proofs.OverwrittenLemmas.{octets_are}
use Rattle.wire_names.proofs.PlaceLemmas.{known_entry}
use Rattle.wire_names.proofs.WrittenLemmas.{IsRead, AreRead, written_read}

-- entries of a message that are a table
pub record IsTableOf (msg : List ℕ) (positions : List Entry) (table : Table) : Type 0 where
  pub all : IsTable msg positions
  pub is : table_of msg positions ≡ table

-- a table stays what it is while its message goes on
pub table_goes_on : (msg more : List ℕ) (entries : List Entry) → IsTable msg entries → table_of (msg ++ more) entries ≡ table_of msg entries
table_goes_on msg more entries table = table_longer msg more entries table.targets

pub IsTable-longer : (msg more : List ℕ) (entries : List Entry) → IsTable msg entries → IsTable (msg ++ more) entries
IsTable-longer msg more entries table =
    let same = table_goes_on msg more entries table in
    let both = length-append msg more in
    record {
      few = table.few;
      targets = AreEntries-longer msg more entries table.targets;
      apart = subst AreApart (sym same) table.apart;
      entries_are = table.entries_are ∙ ap keyed (sym same);
      closed = λ i h high. let c = table.closed i h high in (c.0, elim (c.1) [ inl a ↦ inl a | inr b ↦ inr (omega arith) ]);
    }

pub IsTable-nothing : (msg : List ℕ) → IsTable msg []
IsTable-nothing msg = record {
  few = omega arith;
  targets = All-nil (IsEntry msg);
  apart = λ i j d lt h. absurd (omega arith);
  entries_are = refl;
  closed = λ i h. absurd (omega arith);
}

-- each entry of a table is read at its position, which a pointer can name
pub record IsNamed (msg : List ℕ) (named : ℕ × Name) : Type 0 where
  pub low : named.0 < 16384
  pub read : IsRead msg named.0 named.1

-- a table of names that are read, apart and closed is one of the message
names_by : (msg : List ℕ) (table xs : Table) → All (IsNamed msg) xs → table_of msg (map (entry_of table) xs) ≡ xs
names_by msg table [] all = refl
names_by msg table (x ∷ xs) all =
    let first = All-head (IsNamed msg) x xs all in
    ap (λ (n : Name). (x.0, n) ∷ table_of msg (map (entry_of table) xs)) first.read.reads.spelt
    ∙ ap (λ (ys : Table). x ∷ ys) (names_by msg table xs (All-tail (IsNamed msg) x xs all))

targets_by : (msg : List ℕ) (table xs : Table) → All (IsNamed msg) xs → AreEntries msg (map (entry_of table) xs)
targets_by msg table [] all = All-nil (IsEntry msg)
targets_by msg table (x ∷ xs) all =
    let first = All-head (IsNamed msg) x xs all in
    All-cons (IsEntry msg) (entry_of table x) (map (entry_of table) xs)
    (record { target = record { low = first.low; read = first.read.reads.read }; label = first.read.label })
    (targets_by msg table xs (All-tail (IsNamed msg) x xs all))

pub tabled : (msg : List ℕ) (table : Table) → length table ≤ 256 → All (IsNamed msg) table → AreApart table → IsClosed msg (keyed table) → IsTableOf msg (keyed table) table
tabled msg table few all apart closed =
    let same = names_by msg table table all in
    let many = length-map table (entry_of table) in
    record {
      all = record {
        few = omega arith;
        targets = targets_by msg table table all;
        apart = subst AreApart (sym same) apart;
        entries_are = ap keyed (sym same);
        closed = closed;
      };
      is = same;
    }

-- the names of a table are read in a message that goes on
named_by : (msg more : List ℕ) (xs : List Entry) → AreEntries msg xs → All (IsNamed (msg ++ more)) (table_of msg xs)
named_by msg more [] all = All-nil (IsNamed (msg ++ more))
named_by msg more (x ∷ xs) all =
    let first = All-head (IsEntry msg) x xs all in
    let longer = All-head (IsEntry (msg ++ more)) x xs (AreEntries-longer msg more (x ∷ xs) all) in
    All-cons (IsNamed (msg ++ more)) (x.position, spelt_at msg x.position) (table_of msg xs)
    (record { low = first.target.low; read = record { reads = target_longer msg more x.position first.target; label = longer.label } })
    (named_by msg more xs (All-tail (IsEntry msg) x xs all))

-- what is entered
enter_all_if : (P : ℕ × Name → Type 0) (xs : Table) (y : ℕ × Name) (a b : Bool) → nat_le y.0 16383 ≡ b → All P xs → (y.0 < 16384 → P y) → All P (cond (a && b) (xs ++ y ∷ []) xs)
enter_all_if P xs y true true t all one =
    let low : y.0 < 16384 = grind (arith, nat_tests) in
    All-append P xs (y ∷ []) all (All-cons P y [] (one low) (All-nil P))
enter_all_if P xs y true false t all one = all
enter_all_if P xs y false true t all one = all
enter_all_if P xs y false false t all one = all

entered_all : (P : ℕ × Name → Type 0) (xs ys : Table) → All P xs → All (λ y. y.0 < 16384 → P y) ys → All P (entered (λ e. e.0) xs ys)
entered_all P xs [] all more = all
entered_all P xs (y ∷ ys) all more =
    entered_all P (enter (λ e. e.0) xs y) ys
    (enter_all_if P xs y (nat_lt (length xs) 256) (nat_le y.0 16383) refl all (All-head (λ (x : ℕ × Name). x.0 < 16384 → P x) y ys more))
    (All-tail (λ (x : ℕ × Name). x.0 < 16384 → P x) y ys more)

few_if : (xs : Table) (y : ℕ × Name) (a b : Bool) → nat_lt (length xs) 256 ≡ a → length xs ≤ 256 → length (cond (a && b) (xs ++ y ∷ []) xs) ≤ 256
few_if xs y true true t few = let both = length-append xs (y ∷ []) in let low : length xs < 256 = grind (arith, nat_tests) in omega arith
few_if xs y true false t few = few
few_if xs y false true t few = few
few_if xs y false false t few = few

entered_few : (xs ys : Table) → length xs ≤ 256 → length (entered (λ e. e.0) xs ys) ≤ 256
entered_few xs [] few = few
entered_few xs (y ∷ ys) few = entered_few (enter (λ e. e.0) xs y) ys (few_if xs y (nat_lt (length xs) 256) (nat_le y.0 16383) refl few)

-- names stay apart where another is entered
apart_more : (xs : Table) (y : ℕ × Name) → AreApart xs → All (λ other. other.1 ≢ y.1) xs → AreApart (xs ++ y ∷ [])
apart_more xs y apart all i j d lt h = elim (cases_lt j (length xs)) [
  | inl low ↦ (λ same. apart i j d lt low (ap (λ (e : ℕ × Name). e.1) (sym (get_or_append_left xs (y ∷ []) d i (omega arith))) ∙ same ∙ ap (λ (e : ℕ × Name). e.1) (get_or_append_left xs (y ∷ []) d j low)))
  | inr high ↦ (let both = length-append xs (y ∷ []) in
      let last : j ≡ length xs = omega arith in
      λ same. all i d (omega arith) (ap (λ (e : ℕ × Name). e.1) (sym (get_or_append_left xs (y ∷ []) d i (omega arith))) ∙ same ∙ ap (λ (n : ℕ). (get_or (xs ++ y ∷ []) n d).1) last ∙ ap (λ (e : ℕ × Name). e.1) (get_or-append_seam xs y [] d)))
]

-- the labels of a name that are new to a table
abbrev AreNewTo : Table → Name → ℕ → Type 0
AreNewTo table name m = (j : ℕ) → j < m → position_in table (drop j name) ≡ None

new_rest : (table : Table) (place : ℕ) (label : List ℕ) (name : Name) (m : ℕ) → AreNewTo table (label ∷ name) (suc m) → AreNewTo (table ++ (place, label ∷ name) ∷ []) name m
new_rest table place label name m new j h =
    ap (reduce min) (nowhere (table ++ (place, label ∷ name) ∷ []) (drop j name)
    (All-append (λ (z : ℕ × Name). z.1 ≢ drop j name) table ((place, label ∷ name) ∷ []) (absent table (drop j name) (new (suc j) (omega arith)))
    (All-cons (λ (z : ℕ × Name). z.1 ≢ drop j name) (place, label ∷ name) [] (longer_apart label name j) (All-nil (λ (z : ℕ × Name). z.1 ≢ drop j name)))))

apart_if : (b : Bool) (table put ys : Table) → AreApart (entered (λ e. e.0) put ys) → AreApart (entered (λ e. e.0) table ys) → AreApart (entered (λ e. e.0) (cond b put table) ys)
apart_if true table put ys more same = more
apart_if false table put ys more same = same

entered_apart : (m place : ℕ) (name : Name) (table : Table) → AreApart table → AreNewTo table name m → AreApart (entered (λ e. e.0) table (take m (starts_of place name)))
entered_apart zero place name table apart new = apart
entered_apart (suc m) place [] table apart new = apart
entered_apart (suc m) place (label ∷ name) table apart new =
    apart_if (has_room table place) table (table ++ (place, label ∷ name) ∷ []) (take m (starts_of (place + 1 + length label) name))
    (entered_apart m (place + 1 + length label) name (table ++ (place, label ∷ name) ∷ [])
    (apart_more table (place, label ∷ name) apart (absent table (label ∷ name) (new 0 (omega arith)))) (new_rest table place label name m new))
    (entered_apart m (place + 1 + length label) name table apart (λ j h. new (suc j) (omega arith)))

-- a name is found, or no entry spells it
found_or : (n : ℕ) (table : Table) (name : Name) → n + length table ≤ 256 → (index_from n table name < 258) ⊎ All (λ other. other.1 ≢ name) table
found_or n [] name few = inr (All-nil (λ (z : ℕ × Name). z.1 ≢ name))
found_or n (x ∷ table) name few = found_if (same_spelling x.1 name) refl (found_or (n + 1) table name (omega arith))
  where
    found_if : (b : Bool) → same_spelling x.1 name ≡ b → (index_from (n + 1) table name < 258) ⊎ All (λ other. other.1 ≢ name) table → (index_from n (x ∷ table) name < 258) ⊎ All (λ other. other.1 ≢ name) (x ∷ table)
    found_if true e rest = let own = index_step n x table name true e in inl (omega arith)
    found_if false e (inl low) = let own = index_step n x table name false e in inl (omega arith)
    found_if false e (inr all) = inr (All-cons (λ (z : ℕ × Name). z.1 ≢ name) x table (λ same. let t = (same_spelling-Decides x.1 name).1 same in cc) all)

known_some : (table : Table) (label : List ℕ) (name : Name) (target : ℕ) → length table ≤ 256 → position_in table (label ∷ name) ≡ Some target → parent_of table (label ∷ name) < 258
known_some table label name target few e = elim (found_or 0 table (label ∷ name) (omega arith)) [
  | inl low ↦ low
  | inr all ↦ (let none = ap (reduce min) (nowhere table (label ∷ name) all) in cc)
]

-- what is entered of a name: so many labels from its front, in front of a suffix that the table has
pub record NewFront (table : Table) (name : Name) : Type 0 where
  pub k : ℕ
  pub few : k ≤ length name
  pub new : AreNewTo table name k
  pub is : (at : ℕ) → new_entries table at name ≡ take k (starts_of at name)
  pub end : parent_of table (drop k name) < 258

front_if : (table : Table) (label : List ℕ) (name : Name) (found : Option ℕ) → length table ≤ 256 → position_in table (label ∷ name) ≡ found → NewFront table name → NewFront table (label ∷ name)
front_if table label name (Some target) few e rest = record {
  k = 0;
  few = omega arith;
  new = λ j h. absurd (omega arith);
  is = λ at. entries_some table at label name target e;
  end = known_some table label name target few e;
}
front_if table label name None few e rest =
    let own = rest.few in
    record {
      k = suc rest.k;
      few = omega arith;
      new = λ j h. new_if j h;
      is = λ at. entries_none table at label name e ∙ ap (λ (xs : Table). (at, label ∷ name) ∷ xs) (rest.is (at + 1 + length label));
      end = rest.end;
    }
  where
    new_if : (j : ℕ) → j < suc rest.k → position_in table (drop j (label ∷ name)) ≡ None
    new_if zero h = e
    new_if (suc j) h = rest.new j (omega arith)

pub new_front : (table : Table) (name : Name) → length table ≤ 256 → NewFront table name
new_front table [] few = record { k = 0; few = omega arith; new = λ j h. absurd (omega arith); is = λ at. refl; end = omega arith }
new_front table (label ∷ name) few = front_if table label name (position_in table (label ∷ name)) few refl (new_front table name few)

-- a new entry whose parent no entry spells is the last, and the table is full, or the message goes past what a pointer can name
abbrev IsLastIn : ℕ → Table → ℕ → ℕ × Name → Type 0
IsLastIn end final i d = 258 ≤ parent_of final (drop 1 (get_or final i d).1) → (i + 1 ≡ length final) × ((length final ≡ 256) ⊎ (16383 < end))

-- the parent of a new entry, by the labels behind its first
data NextParent (final put : Table) (there m : ℕ) (name : Name) (end : ℕ) : Type 0 where
  known : parent_of final name < 258 → NextParent final put there m name end
  stops : final ≡ put → (length put ≡ 256) ⊎ (16383 < end) → NextParent final put there m name end

-- no room is left, or no pointer can name the place
no_room_left : (put : Table) (there end : ℕ) → length put ≤ 256 → has_room put there ≡ false → there < end → (length put ≡ 256) ⊎ (16383 < end)
no_room_left put there end few e below = elim (cases_lt (length put) 256) [
  | inl low ↦ (let high : nat_le there 16383 ≡ false = sym (ap (λ (b : Bool). b && nat_le there 16383) (lt-ltb (length put) 256 low)) ∙ e in let far = past there high in inr (omega arith))
  | inr full ↦ inl (omega arith)
]

next_parent_if : (put final : Table) (there end m : ℕ) (x : List ℕ) (rest : Name) (b : Bool) → has_room put there ≡ b → length put ≤ 256 → there < end → All (λ other. other.1 ≢ x ∷ rest) put → final ≡ entered (λ e. e.0) put (take (suc m) (starts_of there (x ∷ rest))) → NextParent final put there (suc m) (x ∷ rest) end
next_parent_if put final there end m x rest true e few below none is =
    let low : length put < 256 = room_low (nat_lt (length put) 256) refl e in
    let whole : final ≡ entered (λ e. e.0) (put ++ (there, x ∷ rest) ∷ []) (take m (starts_of (there + 1 + length x) rest)) =
    is ∙ ap (λ (t : Bool). entered (λ e. e.0) (cond t (put ++ (there, x ∷ rest) ∷ []) put) (take m (starts_of (there + 1 + length x) rest))) e in
    let longer = entered_more (put ++ (there, x ∷ rest) ∷ []) (take m (starts_of (there + 1 + length x) rest)) in
    let split : final ≡ put ++ (there, x ∷ rest) ∷ longer.more = whole ∙ longer.is ∙ append_assoc put ((there, x ∷ rest) ∷ []) longer.more in
    let at : parent_of final (x ∷ rest) ≡ 0 + length put = ap (λ (t : Table). parent_of t (x ∷ rest)) split ∙ index_behind 0 put longer.more there (x ∷ rest) none in
    known (omega arith)
  where
    room_low : (t : Bool) → nat_lt (length put) 256 ≡ t → (t && nat_le there 16383) ≡ true → length put < 256
    room_low true t h = grind (arith, nat_tests)
    room_low false t h = cc
next_parent_if put final there end m x rest false e few below none is =
    stops (is ∙ stuck put there (suc m) (x ∷ rest) e) (no_room_left put there end few e below)

next_parent : (put final : Table) (there end m : ℕ) (name : Name) → length put ≤ 256 → m ≤ length name → AreNewTo put name m → parent_of put (drop m name) < 258 → All (λ e. e.0 < end) (take m (starts_of there name)) → final ≡ entered (λ e. e.0) put (take m (starts_of there name)) → NextParent final put there m name end
next_parent put final there end zero name few inside new low below is = known (let same : parent_of final name ≡ parent_of put name = ap (λ (t : Table). parent_of t name) is in omega arith)
next_parent put final there end (suc m) [] few inside new low below is = absurd (omega arith)
next_parent put final there end (suc m) (x ∷ rest) few inside new low below is =
    next_parent_if put final there end m x rest (has_room put there) refl few (All-head (λ (e : ℕ × Name). e.0 < end) (there, x ∷ rest) (take m (starts_of (there + 1 + length x) rest)) below)
    (absent put (x ∷ rest) (new 0 (omega arith))) is

closed_own : (final put table : Table) (place there m end i : ℕ) (label : List ℕ) (name : Name) (d : ℕ × Name) → put ≡ table ++ (place, label ∷ name) ∷ [] → i ≡ length table → IsMore put final → NextParent final put there m name end → IsLastIn end final i d
closed_own final put table place there m end i label name d e at more next high =
    let here : (get_or final i d).1 ≡ label ∷ name =
    ap (λ (t : Table). (get_or t i d).1) more.is ∙ ap (λ (n : ℕ). (get_or (put ++ more.more) n d).1) at
    ∙ ap (λ (t : Table). (get_or (t ++ more.more) (length table) d).1) e
    ∙ ap (λ (t : Table). (get_or t (length table) d).1) (append_assoc table ((place, label ∷ name) ∷ []) more.more)
    ∙ ap (λ (x : ℕ × Name). x.1) (get_or-append_seam table (place, label ∷ name) more.more d) in
    let own : parent_of final (drop 1 (get_or final i d).1) ≡ parent_of final name = ap (λ (n : Name). parent_of final (drop 1 n)) here in
    own_if next own
  where
    own_if : NextParent final put there m name end → parent_of final (drop 1 (get_or final i d).1) ≡ parent_of final name → (i + 1 ≡ length final) × ((length final ≡ 256) ⊎ (16383 < end))
    own_if (known low) own = absurd (omega arith)
    own_if (stops same full) own =
        let size = ap length same in
        let long = ap length e in
        let both = length-append table ((place, label ∷ name) ∷ []) in
        (omega arith, elim full [ inl a ↦ inl (omega arith) | inr b ↦ inr b ])

closed_if : (b : Bool) (end m place : ℕ) (label : List ℕ) (name : Name) (table final : Table) (i : ℕ) (d : ℕ × Name) → has_room table place ≡ b → final ≡ entered (λ e. e.0) table (take (suc m) (starts_of place (label ∷ name))) → length table ≤ 256 → m ≤ length name → AreNewTo table (label ∷ name) (suc m) → parent_of table (drop m name) < 258 → All (λ e. e.0 < end) (take m (starts_of (place + 1 + length label) name)) → length table ≤ i → i < length final → (final ≡ entered (λ e. e.0) (table ++ (place, label ∷ name) ∷ []) (take m (starts_of (place + 1 + length label) name)) → length (table ++ (place, label ∷ name) ∷ []) ≤ 256 → AreNewTo (table ++ (place, label ∷ name) ∷ []) name m → parent_of (table ++ (place, label ∷ name) ∷ []) (drop m name) < 258 → length (table ++ (place, label ∷ name) ∷ []) ≤ i → IsLastIn end final i d) → IsLastIn end final i d
closed_if false end m place label name table final i d e is few inside new low below from within rest =
    let same = ap length (is ∙ stuck table place (suc m) (label ∷ name) e) in
    absurd (omega arith)
closed_if true end m place label name table final i d e is few inside new low below from within rest =
    let put = table ++ (place, label ∷ name) ∷ [] in
    let there = place + 1 + length label in
    let both = length-append table ((place, label ∷ name) ∷ []) in
    let room : length table < 256 = room_low (nat_lt (length table) 256) refl e in
    let put_few : length put ≤ 256 = omega arith in
    let on : final ≡ entered (λ e. e.0) put (take m (starts_of there name)) = is ∙ ap (λ (t : Bool). entered (λ e. e.0) (cond t put table) (take m (starts_of there name))) e in
    let new_put : AreNewTo put name m = new_rest table place label name m new in
    let behind : parent_of put (drop m name) ≡ parent_of table (drop m name) =
    parent_other table ((place, label ∷ name) ∷ []) (drop m name) (All-cons (λ (z : ℕ × Name). z.1 ≢ drop m name) (place, label ∷ name) [] (longer_apart label name m) (All-nil (λ (z : ℕ × Name). z.1 ≢ drop m name))) in
    let put_low : parent_of put (drop m name) < 258 = omega arith in
    let longer = entered_more put (take m (starts_of there name)) in
    elim (cases_lt (length table) i) [
      | inl more ↦ rest on put_few new_put put_low (omega arith)
      | inr first ↦ closed_own final put table place there m end i label name d refl (omega arith) (record { more = longer.more; is = on ∙ longer.is })
          (next_parent put final there end m name put_few inside new_put put_low below on)
    ]
  where
    room_low : (t : Bool) → nat_lt (length table) 256 ≡ t → (t && nat_le place 16383) ≡ true → length table < 256
    room_low true t h = grind (arith, nat_tests)
    room_low false t h = cc

closed_from : (end m place : ℕ) (name : Name) (table final : Table) (i : ℕ) (d : ℕ × Name) → final ≡ entered (λ e. e.0) table (take m (starts_of place name)) → length table ≤ 256 → m ≤ length name → AreNewTo table name m → parent_of table (drop m name) < 258 → All (λ e. e.0 < end) (take m (starts_of place name)) → length table ≤ i → i < length final → IsLastIn end final i d
closed_from end zero place name table final i d is few inside new low below from within = let same = ap length is in absurd (omega arith)
closed_from end (suc m) place [] table final i d is few inside new low below from within = absurd (omega arith)
closed_from end (suc m) place (label ∷ name) table final i d is few inside new low below from within =
    let tail = All-tail (λ (e : ℕ × Name). e.0 < end) (place, label ∷ name) (take m (starts_of (place + 1 + length label) name)) below in
    closed_if (has_room table place) end m place label name table final i d refl is few (omega arith) new low tail from within
    (λ on put_few new_put put_low more. closed_from end m (place + 1 + length label) name (table ++ (place, label ∷ name) ∷ []) final i d on put_few (omega arith) new_put put_low tail more within)

-- where a name is read is inside the message
read_below : (msg : List ℕ) (at : ℕ) (name : Name) → ReadsName msg at name → at < length msg
read_below msg at name reads =
    let read = reads_at msg at (name_at msg at) refl reads.read in
    spells_within msg at at read.next (spelt_at msg at) ((name_at_spelt msg at read.next (spelt_at msg at)).0 read.is).0

-- the table behind a name that is written with compression
module _ (msg : List ℕ) (xs : List Entry) (name : Name) (table : IsTable msg xs) (lawful : IsName name) where
  abbrev old : Table
  old = table_of msg xs

  abbrev text : List ℕ
  text = written true old name

  abbrev front : NewFront old name
  front = new_front old name (let many = table_many msg xs in let few = table.few in omega arith)

  abbrev pub after : Table
  after = table_after true old (length msg) name

  after_is : after ≡ entered (λ e. e.0) old (take front.k (starts_of (length msg) name))
  after_is = ap (entered (λ e. e.0) old) (front.is (length msg))

  read_new : AreRead (msg ++ text) (new_entries old (length msg) name)
  read_new = written_read true msg xs name table.targets lawful

  named_new : All (λ y. y.0 < 16384 → IsNamed (msg ++ text) y) (new_entries old (length msg) name)
  named_new k d h low = record { low = low; read = read_new k d h }

  below_new : All (λ y. y.0 < length (msg ++ text)) (take front.k (starts_of (length msg) name))
  below_new = subst (All (λ (y : ℕ × Name). y.0 < length (msg ++ text))) (front.is (length msg)) (λ k d h. read_below (msg ++ text) _ _ (read_new k d h).reads)

  keyed_at : (i : ℕ) (d : ℕ × Name) (t : Table) → i < length t → parent_at (keyed t) i ≡ parent_of t (drop 1 (get_or t i d).1)
  keyed_at i d t h = ap (λ (x : Entry). x.parent) (get_or-map (entry_of t) t i d (record { key = 0; position = 0; parent = 0; octets = [] }) h)

  full_table : (i : ℕ) → i < length old → 258 ≤ parent_of old (drop 1 (get_or old i (0, [])).1) → (i + 1 ≡ length old) × ((length old ≡ 256) ⊎ (16383 < length msg))
  full_table i h high =
      let many = table_many msg xs in
      let own : parent_at xs i ≡ parent_of old (drop 1 (get_or old i (0, [])).1) = ap (λ (ys : List Entry). parent_at ys i) table.entries_are ∙ keyed_at i (0, []) old h in
      let c = table.closed i (omega arith) (omega arith) in
      let size = c.0 in
      (omega arith, elim (c.1) [ inl a ↦ inl (omega arith) | inr b ↦ inr b ])

  closed_after : IsClosed (msg ++ text) (keyed after)
  closed_after i h high =
      let many = length-map after (entry_of after) in
      let more = entered_more old (new_entries old (length msg) name) in
      let long = length-append msg text in
      let few = table.few in
      let size = table_many msg xs in
      let inside : i < length after = omega arith in
      let own : parent_at (keyed after) i ≡ parent_of after (drop 1 (get_or after i (0, [])).1) = keyed_at i (0, []) after inside in
      elim (cases_lt i (length old)) [
        | inl before ↦ (let here : get_or after i (0, []) ≡ get_or old i (0, []) = ap (λ (t : Table). get_or t i (0, [])) more.is ∙ get_or_append_left old more.more (0, []) i before in
            let rest = drop 1 (get_or old i (0, [])).1 in
            let parent : parent_at (keyed after) i ≡ parent_of after rest = own ∙ ap (λ (e : ℕ × Name). parent_of after (drop 1 e.1)) here in
            elim (cases_lt (parent_of old rest) 258) [
              | inl low ↦ (let stays : parent_of after rest ≡ parent_of old rest = ap (λ (t : Table). parent_of t rest) more.is ∙ parent_stays old more.more rest low in absurd (omega arith))
              | inr unknown ↦ (let c = full_table i before unknown in
                  let end : after ≡ old = after_is ∙ stuck old (length msg) front.k name (room_past old (length msg) c.1) in
                  let same = ap length end in
                  let last = c.0 in
                  (omega arith, elim (c.1) [ inl a ↦ inl (omega arith) | inr b ↦ inr (omega arith) ]))
            ])
        | inr behind ↦ (let c = closed_from (length (msg ++ text)) front.k (length msg) name old after i (0, []) after_is (omega arith) front.few front.new front.end below_new behind inside (omega arith) in
            let last = c.0 in
            (omega arith, elim (c.1) [ inl a ↦ inl (omega arith) | inr b ↦ inr b ]))
      ]

  pub after_compressed : IsTableOf (msg ++ text) (keyed after) after
  after_compressed =
      let size = table_many msg xs in
      let few = table.few in
      tabled (msg ++ text) after (entered_few old (new_entries old (length msg) name) (omega arith))
      (entered_all (IsNamed (msg ++ text)) old (new_entries old (length msg) name) (named_by msg text xs table.targets) named_new)
      (subst AreApart (sym after_is) (entered_apart front.k (length msg) name old table.apart front.new))
      closed_after

-- what a name that is written leaves of the table
pub after_name : (compress : Bool) (msg : List ℕ) (xs : List Entry) (name : Name) → IsTable msg xs → IsName name → IsTableOf (msg ++ written compress (table_of msg xs) name) (keyed (table_after compress (table_of msg xs) (length msg) name)) (table_after compress (table_of msg xs) (length msg) name)
after_name true msg xs name table lawful = after_compressed msg xs name table lawful
after_name false msg xs name table lawful =
    subst (λ (ys : List Entry). IsTableOf (msg ++ wire_of name) ys (table_of msg xs)) table.entries_are
    (record { all = IsTable-longer msg (wire_of name) xs table; is = table_goes_on msg (wire_of name) xs table })

-- what may be entered of a name
pub can_enter : (msg : List ℕ) (xs : List Entry) (name : Name) (k last : ℕ) → IsTable msg xs → AreNewTo (table_of msg xs) name k → (0 < k → last ≡ parent_of (table_of msg xs) (drop k name)) → CanEnter xs (table_of msg xs) (length msg) name k last
can_enter msg xs name k last table new parent = record {
  entries_are = table.entries_are;
  new = new;
  parent = parent;
  closed = λ i h high. (table.closed i h high).1;
}

-- what a write into a buffer leaves
pub after_put : (compress : Bool) (out new : List ℕ) (positions : List Entry) (octets : List ℕ) (own : List Entry) (at next : ℕ) (name : Name) → at ≤ length out → IsTable (take at out) positions → IsName name → IsOverwritten out new at octets next → written compress (table_of (take at out) positions) name ≡ octets → own ≡ keyed (table_after compress (table_of (take at out) positions) at name) → IsTableOf (take next new) own (table_after compress (table_of (take at out) positions) at name)
after_put compress out new positions octets own at next name within table lawful put text e =
    let msg = take at out in
    let len : length msg ≡ at = length-take-le at out within in
    let whole : take next new ≡ msg ++ written compress (table_of msg positions) name = octets_are out new at octets next put ∙ ap (λ (x : List ℕ). msg ++ x) (sym text) in
    let after_it = after_name compress msg positions name table lawful in
    let there = subst (λ (n : ℕ). IsTableOf (msg ++ written compress (table_of msg positions) name) (keyed (table_after compress (table_of msg positions) n name)) (table_after compress (table_of msg positions) n name)) len after_it in
    subst (λ (x : List ℕ). IsTableOf x own (table_after compress (table_of msg positions) at name)) (sym whole)
    (subst (λ (x : List Entry). IsTableOf (msg ++ written compress (table_of msg positions) name) x (table_after compress (table_of msg positions) at name)) (sym e) there)

-- the parent of what is entered is an entry, or the root
pub cut_parent : (msg : List ℕ) (xs : List Entry) (name : Name) (k parent : ℕ) → parent < 258 → parent ≡ parent_of (table_of msg xs) (drop k name) → (parent < length xs) ⊎ (parent ≡ 257)
cut_parent msg xs name k parent low e =
    subst (λ (n : ℕ). (n < length xs) ⊎ (n ≡ 257)) (sym e) (known_entry (table_of msg xs) (drop k name) (length xs) (omega arith) (table_many msg xs))
