-- What is entered into a table behind its entries.
use Rattle.std.proofs.Common.{◌≡◌, ◌≢◌, ℕ, zero, suc, ◌+◌, ◌<◌, ◌≤◌, ◌⊎◌, inl, inr, ◌&&◌, Bool, true, false, cond, if◌then◌else◌, nat_lt, nat_le, List, [], ◌∷◌, ◌++◌, length, take, drop, map, get_or, All, None, refl, sym, ap, subst, ◌∙◌, min, arith}
use Rattle.std.specs.List.{reduce}
use Rattle.std.proofs.lemmas.Bool.{cases_lt, lt-leb, le-leb, le-ltb}
use Rattle.std.proofs.lemmas.List.{length-append, length-drop, append_assoc, append-nil, length-map, get_or-map, map-append}
use Rattle.std.proofs.lemmas.List.Elements.{All-nil, All-cons, All-head, All-tail, All-append}
use Rattle.dns_name.specs.Name.{Name, wire_of}
use Rattle.wire_names.specs.Chains.{parent_at}
use Rattle.wire_names.specs.Entry.{long_octets}
use Rattle.wire_names.specs.Table.{Entry, Table, first_key, parent_of, index_from, entry_of, keyed, entered, position_in, positions_in, same_spelling}
use Rattle.wire_names.specs.Written.{starts_of, CanEnter}
use Rattle.wire_names.proofs.ParentLemmas.{nowhere, index_step, spelt_true, spelt_false, step, unfound}
use Rattle.wire_names.proofs.TableLemmas.{same_spelling-Decides}

-- what is entered stands behind
pub record IsMore (xs ys : Table) : Type 0 where
  pub more : Table
  pub is : ys ≡ xs ++ more

more_if : (xs : Table) (y : ℕ × Name) (ys : Table) (b : Bool) → ((zs : Table) → IsMore zs (entered (λ e. e.0) zs ys)) → IsMore xs (entered (λ e. e.0) (cond b (xs ++ y ∷ []) xs) ys)
more_if xs y ys true rest = let r = rest (xs ++ y ∷ []) in record { more = y ∷ r.more; is = r.is ∙ append_assoc xs (y ∷ []) r.more }
more_if xs y ys false rest = rest xs

pub entered_more : (xs ys : Table) → IsMore xs (entered (λ e. e.0) xs ys)
entered_more xs [] = record { more = []; is = sym (append-nil xs) }
entered_more xs (y ∷ ys) = more_if xs y ys (nat_lt (length xs) 256 && nat_le y.0 16383) (λ zs. entered_more zs ys)

-- whether there is room for one more
abbrev pub has_room : Table → ℕ → Bool
has_room xs place = nat_lt (length xs) 256 && nat_le place 16383

pub past : (n : ℕ) → nat_le n 16383 ≡ false → 16383 < n
past n f = elim (cases_lt 16383 n) [ inl a ↦ a | inr b ↦ (let t = le-leb n 16383 b in cc) ]

-- where there is none, no later position is entered either
no_room : (xs : Table) (place there : ℕ) → has_room xs place ≡ false → place ≤ there → has_room xs there ≡ false
no_room xs place there e up = room_if (nat_lt (length xs) 256) refl
  where
    room_if : (b : Bool) → nat_lt (length xs) 256 ≡ b → has_room xs there ≡ false
    room_if false f = ap (λ (t : Bool). t && nat_le there 16383) f
    room_if true t =
        let high : nat_le place 16383 ≡ false = sym (ap (λ (b : Bool). b && nat_le place 16383) t) ∙ e in
        let far : 16383 < place = past place high in
        ap (λ (b : Bool). b && nat_le there 16383) t ∙ lt-leb there 16383 (omega arith)

pub stuck : (xs : Table) (place m : ℕ) (name : Name) → has_room xs place ≡ false → entered (λ e. e.0) xs (take m (starts_of place name)) ≡ xs
stuck xs place zero name e = refl
stuck xs place (suc m) [] e = refl
stuck xs place (suc m) (label ∷ name) e =
    ap (λ (b : Bool). entered (λ e. e.0) (cond b (xs ++ (place, label ∷ name) ∷ []) xs) (take m (starts_of (place + 1 + length label) name))) e
    ∙ stuck xs (place + 1 + length label) m name (no_room xs place (place + 1 + length label) e (omega arith))

-- the index of a name, where more stands behind
index_other : (n : ℕ) (xs ys : Table) (name : Name) → All (λ other. other.1 ≢ name) ys → index_from n (xs ++ ys) name ≡ index_from n xs name
index_other n [] ys name all = unfound n ys name all
index_other n (x ∷ xs) ys name all = ap (λ (k : ℕ). if same_spelling x.1 name then n else k) (index_other (n + 1) xs ys name all)

pub parent_other : (xs ys : Table) (name : Name) → All (λ other. other.1 ≢ name) ys → parent_of (xs ++ ys) name ≡ parent_of xs name
parent_other xs ys [] all = refl
parent_other xs ys (label ∷ name) all = index_other 0 xs ys (label ∷ name) all

-- one that is found stays where it is
index_stays_if : (n : ℕ) (x : ℕ × Name) (xs ys : Table) (name : Name) (b : Bool) → same_spelling x.1 name ≡ b → (index_from (n + 1) xs name < 258 → index_from (n + 1) (xs ++ ys) name ≡ index_from (n + 1) xs name) → index_from n (x ∷ xs) name < 258 → index_from n (x ∷ xs ++ ys) name ≡ index_from n (x ∷ xs) name
index_stays_if n x xs ys name true e rest low = index_step n x (xs ++ ys) name true e ∙ sym (index_step n x xs name true e)
index_stays_if n x xs ys name false e rest low =
    let own = index_step n x xs name false e in
    index_step n x (xs ++ ys) name false e ∙ rest (omega arith) ∙ sym own

index_stays : (n : ℕ) (xs ys : Table) (name : Name) → index_from n xs name < 258 → index_from n (xs ++ ys) name ≡ index_from n xs name
index_stays n [] ys name low = absurd (omega arith)
index_stays n (x ∷ xs) ys name low = index_stays_if n x xs ys name (same_spelling x.1 name) refl (index_stays (n + 1) xs ys name) low

pub parent_stays : (xs ys : Table) (name : Name) → parent_of xs name < 258 → parent_of (xs ++ ys) name ≡ parent_of xs name
parent_stays xs ys [] low = refl
parent_stays xs ys (label ∷ name) low = index_stays 0 xs ys (label ∷ name) low

-- a name that is entered behind others is at their number
pub index_behind : (n : ℕ) (xs ys : Table) (place : ℕ) (name : Name) → All (λ other. other.1 ≢ name) xs → index_from n (xs ++ (place, name) ∷ ys) name ≡ n + length xs
index_behind n [] ys place name all = let same : n ≡ n + 0 = omega arith in index_step n (place, name) ys name true (spelt_true name name refl) ∙ same
index_behind n (x ∷ xs) ys place name all =
    let other = All-head (λ (z : ℕ × Name). z.1 ≢ name) x xs all in
    let far : n + 1 + length xs ≡ n + length (x ∷ xs) = omega arith in
    index_step n x (xs ++ (place, name) ∷ ys) name false (spelt_false x.1 name other)
    ∙ index_behind (n + 1) xs ys place name (All-tail (λ (z : ℕ × Name). z.1 ≢ name) x xs all) ∙ far

-- what has no position is no name of the table
absent_if : (x : ℕ × Name) (xs : Table) (name : Name) (b : Bool) → same_spelling x.1 name ≡ b → positions_in (x ∷ xs) name ≡ [] → (positions_in xs name ≡ [] → All (λ other. other.1 ≢ name) xs) → All (λ other. other.1 ≢ name) (x ∷ xs)
absent_if x xs name true e none rest = let own = step x xs name true e in cc
absent_if x xs name false e none rest =
    let own = step x xs name false e in
    All-cons (λ (z : ℕ × Name). z.1 ≢ name) x xs (λ same. let t = (same_spelling-Decides x.1 name).1 same in cc) (rest (sym own ∙ none))

absent_all : (xs : Table) (name : Name) → positions_in xs name ≡ [] → All (λ other. other.1 ≢ name) xs
absent_all [] name e = All-nil (λ (z : ℕ × Name). z.1 ≢ name)
absent_all (x ∷ xs) name e = absent_if x xs name (same_spelling x.1 name) refl e (absent_all xs name)

none_from : (ps : List ℕ) → reduce min ps ≡ None → ps ≡ []
none_from [] e = refl
none_from (p ∷ ps) e = cc

pub absent : (xs : Table) (name : Name) → position_in xs name ≡ None → All (λ other. other.1 ≢ name) xs
absent xs name e = absent_all xs name (none_from (positions_in xs name) e)

-- names of other lengths are others
pub longer_apart : (label : List ℕ) (name : Name) (j : ℕ) → ((label ∷ name) ≡ drop (suc j) (label ∷ name)) → ⊥
longer_apart label name j e = let size = ap length e in let cut = length-drop j name in absurd (omega arith)

-- the entries of a table, as another tells their parents
abbrev pub entries_by : Table → Table → List Entry
entries_by final table = map (entry_of final) table

-- so much of a name is yet to be entered
pub record Entering (entries : List Entry) (final : Table) (place : ℕ) (name : Name) (m last : ℕ) : Type 0 where
  pub table : Table
  pub is : entries ≡ entries_by final table
  pub final_is : final ≡ entered (λ e. e.0) table (take m (starts_of place name))
  pub new : (j : ℕ) → j < m → position_in table (drop j name) ≡ None
  pub parent : 0 < m → last ≡ parent_of table (drop m name)

pub entering_done : (entries : List Entry) (final : Table) (place m last : ℕ) (name : Name) → Entering entries final place name m last → m ≡ 0 → entries ≡ keyed final
entering_done entries final place m last name e none =
    let end : final ≡ e.table = e.final_is ∙ ap (λ (n : ℕ). entered (λ e. e.0) e.table (take n (starts_of place name))) none in
    e.is ∙ ap (entries_by final) (sym end)

pub many_by : (final table : Table) → length (entries_by final table) ≡ length table
many_by final table = length-map table (entry_of final)

pub entering_stuck : (entries : List Entry) (final : Table) (place m last : ℕ) (name : Name) (room : Bool) → Entering entries final place name m last → room ≡ (nat_lt (length entries + 0) 256 && nat_le place 16383) → room ≡ false → entries ≡ keyed final
entering_stuck entries final place m last name room e is full =
    let many : length entries + 0 ≡ length e.table = ap (λ (xs : List Entry). length xs + 0) e.is ∙ zero_behind (length (entries_by final e.table)) ∙ many_by final e.table in
    let none : has_room e.table place ≡ false = sym (ap (λ (n : ℕ). nat_lt n 256 && nat_le place 16383) many) ∙ sym is ∙ full in
    let end : final ≡ e.table = e.final_is ∙ stuck e.table place m name none in
    e.is ∙ ap (entries_by final) (sym end)
  where
    zero_behind : (n : ℕ) → n + 0 ≡ n
    zero_behind n = omega arith

-- the same of a name that begins with a label
pub entering_label : (entries : List Entry) (final : Table) (place k m last : ℕ) (names name : Name) (label : List ℕ) → Entering entries final place names k last → names ≡ label ∷ name → k ≡ suc m → Entering entries final place (label ∷ name) (suc m) last
entering_label entries final place k m last names name label e a b =
    subst (λ (n : ℕ). Entering entries final place (label ∷ name) n last) b (subst (λ (ns : Name). Entering entries final place ns k last) a e)

-- one more label is entered
module _ (entries next : List Entry) (final : Table) (place there key parent m last len : ℕ) (octets label : List ℕ) (name : Name) (room more : Bool) (e : Entering entries final place (label ∷ name) (suc m) last) (room_is : room ≡ (nat_lt (length entries + 0) 256 && nat_le place 16383)) (fits : room ≡ true) (there_is : there ≡ place + 1 + length label) (key_is : key ≡ first_key (label ∷ name)) (octets_are : octets ≡ wire_of (label ∷ name)) (next_is : next ≡ entries ++ record { key = key; position = place; parent = parent; octets = long_octets octets } ∷ []) where
  zero_end : (n : ℕ) → n + 0 ≡ n
  zero_end n = omega arith

  zero_front : (n : ℕ) → 0 + n ≡ n
  zero_front n = omega arith

  abbrev own : ℕ × Name
  own = (place, label ∷ name)

  abbrev pub put : Table
  put = e.table ++ own ∷ []

  size : length entries ≡ length e.table
  size = ap (λ (xs : List Entry). length xs) e.is ∙ many_by final e.table

  free : has_room e.table place ≡ true
  free = sym (ap (λ (n : ℕ). nat_lt n 256 && nat_le place 16383) (zero_end (length entries) ∙ size)) ∙ sym room_is ∙ fits

  pub final_put : final ≡ entered (λ e. e.0) put (take m (starts_of there name))
  final_put = e.final_is
      ∙ ap (λ (b : Bool). entered (λ e. e.0) (cond b put e.table) (take m (starts_of (place + 1 + length label) name))) free
      ∙ ap (λ (p : ℕ). entered (λ e. e.0) put (take m (starts_of p name))) (sym there_is)

  -- the names that are yet to be entered aren't there
  pub new_put : (j : ℕ) → j < m → All (λ other. other.1 ≢ drop j name) put
  new_put j h =
      All-append (λ (z : ℕ × Name). z.1 ≢ drop j name) e.table (own ∷ []) (absent e.table (drop j name) (e.new (suc j) (omega arith)))
      (All-cons (λ (z : ℕ × Name). z.1 ≢ drop j name) own [] (longer_apart label name j) (All-nil (λ (z : ℕ × Name). z.1 ≢ drop j name)))

  pub behind_put : parent_of put (drop m name) ≡ parent_of e.table (drop m name)
  behind_put = parent_other e.table (own ∷ []) (drop m name) (All-cons (λ (z : ℕ × Name). z.1 ≢ drop m name) own [] (longer_apart label name m) (All-nil (λ (z : ℕ × Name). z.1 ≢ drop m name)))

  -- the parent that is entered is the one that the table tells in the end
  pub parent_last : m ≡ 0 → parent ≡ last → parent ≡ parent_of final name
  parent_last none p =
      let end : final ≡ put = final_put ∙ ap (λ (n : ℕ). entered (λ e. e.0) put (take n (starts_of there name))) none in
      let tail : drop m name ≡ name = ap (λ (n : ℕ). drop n name) none in
      p ∙ e.parent (omega arith) ∙ sym behind_put ∙ ap (parent_of put) tail ∙ ap (λ (t : Table). parent_of t name) (sym end)

  pub parent_next : 0 < m → more ≡ (nat_lt (length entries + 1) 256 && nat_le there 16383) → more ≡ true → m ≤ length name → parent ≡ length entries + 1 → parent ≡ parent_of final name
  parent_next some is there_too few p = next_if m name refl refl
    where
      next_if : (n : ℕ) (rest : Name) → m ≡ n → name ≡ rest → parent ≡ parent_of final name
      next_if zero rest a b = absurd (omega arith)
      next_if (suc n) [] a b = let none = ap length b in absurd (omega arith)
      next_if (suc n) (x ∷ rest) a b =
          let both = length-append e.table (own ∷ []) in
          let s = size in
          let many : length entries + 1 ≡ length put = omega arith in
          let free_next : has_room put there ≡ true = sym (ap (λ (k : ℕ). nat_lt k 256 && nat_le there 16383) many) ∙ sym is ∙ there_too in
          let whole : final ≡ entered (λ e. e.0) (put ++ (there, x ∷ rest) ∷ []) (take n (starts_of (there + 1 + length x) rest)) =
          final_put ∙ ap (λ (k : ℕ). entered (λ e. e.0) put (take k (starts_of there name))) a
          ∙ ap (λ (r : Name). entered (λ e. e.0) put (take (suc n) (starts_of there r))) b
          ∙ ap (λ (t : Bool). entered (λ e. e.0) (cond t (put ++ (there, x ∷ rest) ∷ []) put) (take n (starts_of (there + 1 + length x) rest))) free_next in
          let longer = entered_more (put ++ (there, x ∷ rest) ∷ []) (take n (starts_of (there + 1 + length x) rest)) in
          let split : final ≡ put ++ (there, x ∷ rest) ∷ longer.more = whole ∙ longer.is ∙ append_assoc put ((there, x ∷ rest) ∷ []) longer.more in
          let none : All (λ other. other.1 ≢ x ∷ rest) put = subst (λ (r : Name). All (λ other. other.1 ≢ r) put) b (new_put 0 some) in
          p ∙ many ∙ sym (index_behind 0 put longer.more there (x ∷ rest) none ∙ zero_front (length put)) ∙ ap (λ (t : Table). parent_of t (x ∷ rest)) (sym split) ∙ ap (parent_of final) (sym b)

  pub parent_none : 0 < m → more ≡ (nat_lt (length entries + 1) 256 && nat_le there 16383) → more ≡ false → m ≤ length name → parent ≡ 258 + length (wire_of name) → parent ≡ parent_of final name
  parent_none some is gone few p =
      let both = length-append e.table (own ∷ []) in
      let s = size in
      let many : length entries + 1 ≡ length put = omega arith in
      let full : has_room put there ≡ false = sym (ap (λ (k : ℕ). nat_lt k 256 && nat_le there 16383) many) ∙ sym is ∙ gone in
      let end : final ≡ put = final_put ∙ stuck put there m name full in
      p ∙ sym (none_if name refl) ∙ ap (λ (t : Table). parent_of t name) (sym end)
    where
      none_if : (rest : Name) → name ≡ rest → parent_of put name ≡ 258 + length (wire_of name)
      none_if [] b = let none = ap length b in absurd (omega arith)
      none_if (x ∷ rest) b =
          ap (parent_of put) b ∙ unfound 0 put (x ∷ rest) (subst (λ (r : Name). All (λ other. other.1 ≢ r) put) b (new_put 0 some)) ∙ ap (λ (r : Name). 258 + length (wire_of r)) (sym b)

  pub entering_next : parent ≡ parent_of final name → Entering next final there name m last
  entering_next p = record {
    table = put;
    is = next_is ∙ ap (λ (xs : List Entry). xs ++ record { key = key; position = place; parent = parent; octets = long_octets octets } ∷ []) e.is
        ∙ ap (λ (k : ℕ). entries_by final e.table ++ record { key = k; position = place; parent = parent; octets = long_octets octets } ∷ []) key_is
        ∙ ap (λ (q : ℕ). entries_by final e.table ++ record { key = first_key (label ∷ name); position = place; parent = q; octets = long_octets octets } ∷ []) p
        ∙ ap (λ (xs : List ℕ). entries_by final e.table ++ record { key = first_key (label ∷ name); position = place; parent = parent_of final name; octets = long_octets xs } ∷ []) octets_are
        ∙ sym (map-append (entry_of final) e.table (own ∷ []));
    final_is = final_put;
    new = λ j h. ap (reduce min) (nowhere put (drop j name) (new_put j h));
    parent = λ some. e.parent (omega arith) ∙ sym behind_put;
  }

-- before anything is entered
pub closed_same : (table final : Table) (name : Name) → IsMore table final → ((258 ≤ parent_of table name) → final ≡ table) → parent_of table name ≡ parent_of final name
closed_same table final name more closed = elim (cases_lt (parent_of table name) 258) [
  | inl low ↦ sym (parent_stays table more.more name low) ∙ ap (λ (t : Table). parent_of t name) (sym more.is)
  | inr high ↦ ap (λ (t : Table). parent_of t name) (sym (closed high))
]

same_by : (table final xs : Table) → All (λ e. parent_of table (drop 1 e.1) ≡ parent_of final (drop 1 e.1)) xs → map (entry_of table) xs ≡ entries_by final xs
same_by table final [] all = refl
same_by table final (x ∷ xs) all =
    ap (λ (p : ℕ). record { key = first_key x.1; position = x.0; parent = p; octets = long_octets (wire_of x.1) } ∷ map (entry_of table) xs) (All-head (λ (e : ℕ × Name). parent_of table (drop 1 e.1) ≡ parent_of final (drop 1 e.1)) x xs all)
    ∙ ap (λ (ys : List Entry). entry_of final x ∷ ys) (same_by table final xs (All-tail (λ (e : ℕ × Name). parent_of table (drop 1 e.1) ≡ parent_of final (drop 1 e.1)) x xs all))

past_if : (t : Bool) (at : ℕ) → 16383 < at → (t && nat_le at 16383) ≡ false
past_if true at b = lt-leb at 16383 b
past_if false at b = refl

pub room_past : (table : Table) (at : ℕ) → (length table ≡ 256) ⊎ (16383 < at) → has_room table at ≡ false
room_past table at full = elim full [
  | inl a ↦ ap (λ (b : Bool). b && nat_le at 16383) (le-ltb (length table) 256 (omega arith))
  | inr b ↦ past_if (nat_lt (length table) 256) at b
]

pub entering_first : (entries : List Entry) (table : Table) (at m last : ℕ) (name : Name) → CanEnter entries table at name m last → Entering entries (entered (λ e. e.0) table (take m (starts_of at name))) at name m last
entering_first entries table at m last name can =
    let final = entered (λ e. e.0) table (take m (starts_of at name)) in
    let many : length entries ≡ length table = ap (λ (xs : List Entry). length xs) can.entries_are ∙ many_by table table in
    record {
      table = table;
      is = can.entries_are ∙ same_by table final table (λ k d h. closed_same table final (drop 1 (get_or table k d).1) (entered_more table (take m (starts_of at name))) (λ high.
          let here : parent_at entries k ≡ parent_of table (drop 1 (get_or table k d).1) = ap (λ (xs : List Entry). parent_at xs k) can.entries_are ∙ ap (λ (x : Entry). x.parent) (get_or-map (entry_of table) table k d (record { key = 0; position = 0; parent = 0; octets = [] }) h) in
          let full = can.closed k (omega arith) (omega arith) in
          let size : (length table ≡ 256) ⊎ (16383 < at) = elim full [ inl a ↦ inl (omega arith) | inr b ↦ inr b ] in
          stuck table at m name (room_past table at size)));
      final_is = refl;
      new = can.new;
      parent = can.parent;
    }
