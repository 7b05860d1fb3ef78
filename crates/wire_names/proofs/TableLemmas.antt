-- The table of positions: what is spelt where, and what is entered.
use Rattle.std.proofs.Common.{◌≡◌, ℕ, ◌+◌, ◌-◌, ◌*◌, ◌<◌, ◌≤◌, ◌↔◌, Bool, true, false, not, IsTrue, cond, is_some, List, [], ◌∷◌, length, map, min, All, get_or, take, drop, ⊎_elim, Option, Some, None, MatchOption, Result, Ok, Err, Bor, refl, sym, ap, subst, ◌∙◌, arith}
use Rattle.std.specs.Bool.{Decides}
use Rattle.std.specs.Cmp.Lexicographic.{pointwise_decides}
use Rattle.std.specs.List.{filter, fold, reduce}
use Rattle.std.specs.Result.{IsOk}
use Rattle.std.proofs.lemmas.Bool.{cases_lt}
use Rattle.std.specs.Int.{from_be_bytes, w32}
use Rattle.std.proofs.lemmas.List.{drop_more, get_or-drop, get_or-take, get_or_append_left}
use Rattle.std.proofs.lemmas.List.Elements.{All-nil, All-cons, All-head, All-tail, All-map, All-filter}
use Rattle.std.specs.Str.{bytes_eq}
use Rattle.std.proofs.lemmas.Slice.Eq.{bytes_eq-Decides}
use Rattle.dns_name.specs.Labels.{labels_in, IsWhole, IsFirstLabel}
use Rattle.dns_name.specs.Name.{wire_of}
use Rattle.dns_name.proofs.LabelLemmas.{wire_of-labels_in}
use Rattle.wire_names.specs.Parts.{part_at, label_at}
use Rattle.wire_names.specs.Spells.{Spells, closing, label, pointer}
use Rattle.wire_names.specs.declared.part.NameReadFault.{NameReadFault}
use Rattle.wire_names.specs.declared.part.Part.TheVariants.{Closing, Label, Pointer}
use Rattle.wire_names.specs.NameAt.{name_at}
use Rattle.wire_names.specs.Table.{Entry, AreEntries, IsTarget, IsEntry, first_end, octet_before, key_up_to, table_of, spelt_at, same_spelling, Table, positions_in, position_in}
use Rattle.wire_names.proofs.GrammarLemmas.{once, name_at_spelt}

-- some position behind it ends what a place spells
abbrev pub SpellsIn : List ℕ → ℕ → ℕ → List (List ℕ) → Type 0
SpellsIn msg run at name = (next : ℕ) × Spells msg run at name next

-- what a place spells in its run is what the position spells from its start
pub record SpellsAlike (msg : List ℕ) (at run place : ℕ) (name rest : List (List ℕ)) : Type 0 where
  pub there : (next : ℕ) → Spells msg run place rest next → SpellsIn msg at at name
  pub back : (next : ℕ) → Spells msg at at name next → SpellsIn msg run place rest

-- what a place spells, by its part
spells_closing : (msg : List ℕ) (run at next : ℕ) (name : List (List ℕ)) → part_at msg at ≡ Ok Closing → Spells msg run at name next → name ≡ []
spells_closing msg run at next _ p (closing q e) = refl
spells_closing msg run at next _ p (label q l s) = cc
spells_closing msg run at next name p (pointer q g s e) = cc

pub record SpellsLabel (msg : List ℕ) (run at n : ℕ) (name : List (List ℕ)) : Type 0 where
  pub rest : List (List ℕ)
  pub is : name ≡ label_at msg at n ∷ rest
  pub next : ℕ
  pub spells : Spells msg run (at + 1 + n) rest next

pub spells_label : (msg : List ℕ) (run at next n : ℕ) (name : List (List ℕ)) → part_at msg at ≡ Ok (Label n) → Spells msg run at name next → SpellsLabel msg run at n name
spells_label msg run at next n _ p (closing q e) = cc
spells_label msg run at next n _ p (label {n = m} {l = l} {ls = ls} q e s) =
    let same : m ≡ n = cc in
    let first : l ≡ label_at msg at n = e ∙ ap (label_at msg at) same in
    record { rest = ls; is = ap (λ (x : List ℕ). x ∷ ls) first; next = next; spells = subst (λ (x : ℕ). Spells msg run (at + 1 + x) ls next) same s }
spells_label msg run at next n name p (pointer q g s e) = cc

pub spells_pointer : (msg : List ℕ) (run at next target : ℕ) (name : List (List ℕ)) → part_at msg at ≡ Ok (Pointer target) → Spells msg run at name next → (target < run) × SpellsIn msg target target name
spells_pointer msg run at next target _ p (closing q e) = cc
spells_pointer msg run at next target _ p (label q l s) = cc
spells_pointer msg run at next target name p (pointer {target = a} {beyond = x} q g s e) =
    let same : a ≡ target = cc in
    (omega arith, (x, subst (λ (z : ℕ). Spells msg z z name x) same s))

spells_fault : (msg : List ℕ) (run at next : ℕ) (name : List (List ℕ)) (fault : NameReadFault) → part_at msg at ≡ Err fault → Spells msg run at name next → ⊥
spells_fault msg run at next _ fault p (closing q e) = cc
spells_fault msg run at next _ fault p (label q l s) = cc
spells_fault msg run at next name fault p (pointer q g s e) = cc

-- an answer to whether the position spells the name
abbrev pub Answers : List ℕ → ℕ → List (List ℕ) → Bool → Type 0
Answers msg at name b = IsTrue b ↔ SpellsIn msg at at name

pub answers_no : (msg : List ℕ) (at run place : ℕ) (name rest : List (List ℕ)) → SpellsAlike msg at run place name rest → ((next : ℕ) → Spells msg run place rest next → ⊥) → Answers msg at name false
answers_no msg at run place name rest alike never = (λ e. cc, λ s. let back = alike.back s.0 s.1 in absurd (never back.0 back.1))

pub answers_fault : (msg : List ℕ) (at run place : ℕ) (name rest : List (List ℕ)) (fault : NameReadFault) → SpellsAlike msg at run place name rest → part_at msg place ≡ Err fault → Answers msg at name false
answers_fault msg at run place name rest fault alike p = answers_no msg at run place name rest alike (λ next s. spells_fault msg run place next rest fault p s)

pub answers_up : (msg : List ℕ) (at run place target : ℕ) (name rest : List (List ℕ)) → SpellsAlike msg at run place name rest → part_at msg place ≡ Ok (Pointer target) → run ≤ target → Answers msg at name false
answers_up msg at run place target name rest alike p up =
    answers_no msg at run place name rest alike (λ next s. let down = spells_pointer msg run place next target rest p s in omega (arith, down.0))

pub alike_pointer : (msg : List ℕ) (at run place target : ℕ) (name rest : List (List ℕ)) → SpellsAlike msg at run place name rest → part_at msg place ≡ Ok (Pointer target) → target < run → SpellsAlike msg at target target name rest
alike_pointer msg at run place target name rest alike p down =
    record {
      there = λ next s. alike.there (place + 2) (pointer p down s refl);
      back = λ next s. let b = alike.back next s in (spells_pointer msg run place b.0 target rest p b.1).1;
    }

-- the labels that are left are those of the name at the place
closing_nil : (msg : List ℕ) (at run place : ℕ) (name rest : List (List ℕ)) → SpellsAlike msg at run place name rest → part_at msg place ≡ Ok Closing → rest ≡ [] → Answers msg at name true
closing_nil msg at run place name rest alike p nil =
    (λ e. alike.there (place + 1) (subst (λ (x : List (List ℕ)). Spells msg run place x (place + 1)) (sym nil) (closing p refl)), λ s. refl)

-- what is told of the first label: none, or one in front of the others
pub answers_closing : (msg : List ℕ) (at run place : ℕ) (name : List (List ℕ)) (rest : List ℕ) (b : Bool) (o : Option (Bor (List ℕ) × Bor (List ℕ))) → SpellsAlike msg at run place name (labels_in rest) → part_at msg place ≡ Ok Closing → MatchOption o (labels_in rest ≡ []) (λ parts. IsFirstLabel rest parts.0.now parts.1.now) → is_some o ≡ not b → Answers msg at name b
answers_closing msg at run place name rest true None alike p e n = closing_nil msg at run place name (labels_in rest) alike p e
answers_closing msg at run place name rest false None alike p e n = cc
answers_closing msg at run place name rest true (Some x) alike p e n = cc
answers_closing msg at run place name rest false (Some x) alike p e n = answers_no msg at run place name (labels_in rest) alike (λ next s. let nil = spells_closing msg run place next (labels_in rest) p s in let other = e.labels in cc)

pub answers_end : (msg : List ℕ) (at run place n : ℕ) (name rest : List (List ℕ)) → SpellsAlike msg at run place name rest → part_at msg place ≡ Ok (Label n) → rest ≡ [] → Answers msg at name false
answers_end msg at run place n name rest alike p nil =
    answers_no msg at run place name rest alike (λ next s. let is = (spells_label msg run place next n rest p s).is in cc)

pub equal_from : (e b : Bool) → b ≡ not e → b ≡ false → e ≡ true
equal_from true b t f = refl
equal_from false b t f = cc

pub answers_other : (msg : List ℕ) (at run place n : ℕ) (name rest after : List (List ℕ)) (l own : List ℕ) (b : Bool) → SpellsAlike msg at run place name rest → part_at msg place ≡ Ok (Label n) → rest ≡ l ∷ after → own ≡ label_at msg place n → b ≡ not (bytes_eq l own) → b ≡ true → Answers msg at name false
answers_other msg at run place n name rest after l own b alike p e o t f =
    answers_no msg at run place name rest alike (λ next s.
    let is = (spells_label msg run place next n rest p s).is in
    let same : l ≡ own = cc in
    let yes = (bytes_eq-Decides l own).1 same in
    let no : not true ≡ true = cc in
    cc)

pub alike_label : (msg : List ℕ) (at run place n : ℕ) (name rest after : List (List ℕ)) (l own : List ℕ) (b : Bool) → SpellsAlike msg at run place name rest → part_at msg place ≡ Ok (Label n) → rest ≡ l ∷ after → own ≡ label_at msg place n → b ≡ not (bytes_eq l own) → b ≡ false → SpellsAlike msg at run (place + (1 + n)) name after
alike_label msg at run place n name rest after l own b alike p e o t f =
    let yes = equal_from (bytes_eq l own) b t f in
    let same = (bytes_eq-Decides l own).0 yes in
    let first : l ≡ label_at msg place n = cc in
    let on : place + (1 + n) ≡ place + 1 + n = omega arith in
    record {
      there = λ next s.
          let whole : Spells msg run place (l ∷ after) next = label p first (subst (λ (x : ℕ). Spells msg run x after next) on s) in
          alike.there next (subst (λ (x : List (List ℕ)). Spells msg run place x next) (sym e) whole);
      back = λ next s.
          let b = alike.back next s in
          let is = spells_label msg run place b.0 n rest p b.1 in
          let tail : is.rest ≡ after = cc in
          (is.next, subst (λ (x : ℕ). Spells msg run x after is.next) (sym on) (subst (λ (x : List (List ℕ)). Spells msg run (place + 1 + n) x is.next) tail is.spells));
    }

-- what is read at a position is the name there
pub record ReadsAt (msg : List ℕ) (at : ℕ) : Type 0 where
  pub next : ℕ
  pub is : name_at msg at ≡ Ok (spelt_at msg at, next)

pub reads_at : (msg : List ℕ) (at : ℕ) (r : Result (List (List ℕ) × ℕ) NameReadFault) → name_at msg at ≡ r → IsOk r → ReadsAt msg at
reads_at msg at (Ok read) e is =
    let same : spelt_at msg at ≡ read.0 = ap (λ (r : Result (List (List ℕ) × ℕ) NameReadFault). elim r [ Ok x ↦ x.0 | Err fault ↦ [] ]) e in
    record { next = read.1; is = e ∙ ap (λ (x : List (List ℕ)). Ok (x, read.1)) (sym same) }
reads_at msg at (Err fault) e is = cc

pub ReadsAt-target : (msg : List ℕ) (at : ℕ) → IsTarget msg at → ReadsAt msg at
ReadsAt-target msg at target = reads_at msg at (name_at msg at) refl target.read

-- a name at a position is the one that it spells
pub target_spells : (msg : List ℕ) (at : ℕ) → IsTarget msg at → SpellsIn msg at at (spelt_at msg at)
target_spells msg at target = let read = ReadsAt-target msg at target in (read.next, ((name_at_spelt msg at read.next (spelt_at msg at)).0 read.is).0)

both_ways : (a b : Bool) → (a ≡ true → b ≡ true) → (b ≡ true → a ≡ true) → a ≡ b
both_ways true b f g = sym (f refl)
both_ways false true f g = g refl
both_ways false false f g = refl

pub same_spelling-Decides : (name other : List (List ℕ)) → Decides (same_spelling name other) (name ≡ other)
same_spelling-Decides name other = pointwise_decides bytes_eq-Decides name other

-- whether a position spells a name is whether the table has that name there
pub same_spelling-at : (msg : List ℕ) (at : ℕ) (name : List (List ℕ)) (b : Bool) → IsTarget msg at → Answers msg at name b → b ≡ same_spelling (spelt_at msg at) name
same_spelling-at msg at name b target answers =
    let own = target_spells msg at target in
    let test = same_spelling-Decides (spelt_at msg at) name in
    both_ways b (same_spelling (spelt_at msg at) name)
    (λ e. let other = answers.0 e in test.1 (once msg at at own.0 other.0 (spelt_at msg at) name own.1 other.1).0)
    (λ e. answers.1 (own.0, subst (λ (x : List (List ℕ)). Spells msg at at x own.0) (test.0 e) own.1))

pub first_at : (b : Bool) (at : ℕ) (name : List (List ℕ)) (rest : Table) → map (λ x. x.0) (cond b ((at, name) ∷ rest) rest) ≡ cond b (at ∷ map (λ x. x.0) rest) (map (λ x. x.0) rest)
first_at true at name rest = refl
first_at false at name rest = refl

positions_in-step : (msg : List ℕ) (entries : List Entry) (entry : Entry) (name : List (List ℕ)) (b : Bool) → IsTarget msg entry.position → Answers msg entry.position name b → positions_in (table_of msg (entry ∷ entries)) name ≡ cond b (entry.position ∷ positions_in (table_of msg entries) name) (positions_in (table_of msg entries) name)
positions_in-step msg entries entry name b target answers =
    let at = entry.position in
    let rest = positions_in (table_of msg entries) name in
    first_at (same_spelling (spelt_at msg at) name) at (spelt_at msg at) (filter (λ entry. same_spelling entry.1 name) (table_of msg entries))
    ∙ ap (λ (x : Bool). cond x (at ∷ rest) rest) (sym (same_spelling-at msg at name b target answers))

-- the positions of a name are some of the table's
positions_in-all : (P : ℕ → Type 0) (msg : List ℕ) (entries : List Entry) (name : List (List ℕ)) → All (λ entry. P entry.position) entries → All P (positions_in (table_of msg entries) name)
positions_in-all P msg entries name all =
    All-map P (λ entry. entry.0) (filter (λ entry. same_spelling entry.1 name) (table_of msg entries))
    (All-filter (λ entry. same_spelling entry.1 name) (λ entry. P entry.0) (table_of msg entries) (All-map (λ entry. P entry.0) (λ (entry : Entry). (entry.position, spelt_at msg entry.position)) entries all))

-- a number below all others is the least
least_first : (x : ℕ) (xs : List ℕ) → All (λ y. x < y) xs → fold min x xs ≡ x
least_first x [] all = refl
least_first x (y ∷ ys) all =
    let below = All-head (λ (z : ℕ). x < z) y ys all in
    let first : min x y ≡ x = omega arith in
    ap (λ (z : ℕ). fold min z ys) first ∙ least_first x ys (All-tail (λ (z : ℕ). x < z) y ys all)

-- what is true of all is true of the least
least_all : (P : ℕ → Type 0) (x : ℕ) (xs : List ℕ) → P x → All P xs → P (fold min x xs)
least_all P x [] first rest = first
least_all P x (y ∷ ys) first rest =
    let both : P (min x y) =
    ⊎_elim (λ (l : x < y). let e : x ≡ min x y = omega arith in subst P e first)
    (λ (l : y ≤ x). let e : y ≡ min x y = omega arith in subst P e (All-head P y ys rest)) (cases_lt x y) in
    least_all P (min x y) ys both (All-tail P y ys rest)

least_some : (P : ℕ → Type 0) (xs : List ℕ) (target : ℕ) → All P xs → reduce min xs ≡ Some target → P target
least_some P [] target all e = cc
least_some P (x ∷ xs) target all e =
    let same : fold min x xs ≡ target = cc in
    subst P same (least_all P x xs (All-head P x xs all) (All-tail P x xs all))

-- the same at an index of the positions
positions_in-at : (msg : List ℕ) (entries : List Entry) (i : ℕ) (d x : Entry) (name : List (List ℕ)) (b : Bool) → AreEntries msg entries → i < length entries → x ≡ get_or entries i d → Answers msg x.position name b → positions_in (table_of msg (drop i entries)) name ≡ cond b (x.position ∷ positions_in (table_of msg (drop (i + 1) entries)) name) (positions_in (table_of msg (drop (i + 1) entries)) name)
positions_in-at msg entries i d x name b table within here answers =
    let more = drop_more entries i d within in
    let own : IsEntry msg x = subst (IsEntry msg) (sym here) (table i d within) in
    let list : drop i entries ≡ x ∷ drop (i + 1) entries = cc in
    ap (λ (xs : List Entry). positions_in (table_of msg xs) name) list ∙ positions_in-step msg (drop (i + 1) entries) x name b own.target answers

-- a position that is found spells the name
pub record IsFound (msg : List ℕ) (at : ℕ) (name : List (List ℕ)) : Type 0 where
  pub target : IsTarget msg at
  pub spelt : spelt_at msg at ≡ name

-- positions at which a name is spelt
found_if : (msg : List ℕ) (at : ℕ) (name : List (List ℕ)) (rest : List ℕ) (b : Bool) → same_spelling (spelt_at msg at) name ≡ b → IsTarget msg at → All (λ x. IsFound msg x name) rest → All (λ x. IsFound msg x name) (cond b (at ∷ rest) rest)
found_if msg at name rest true t own all =
    let found : IsFound msg at name = record { target = own; spelt = (same_spelling-Decides (spelt_at msg at) name).0 t } in
    All-cons (λ (x : ℕ). IsFound msg x name) at rest found all
found_if msg at name rest false t own all = all

positions_in-found : (msg : List ℕ) (entries : List Entry) (name : List (List ℕ)) → AreEntries msg entries → All (λ x. IsFound msg x name) (positions_in (table_of msg entries) name)
positions_in-found msg [] name table = All-nil (λ (x : ℕ). IsFound msg x name)
positions_in-found msg (entry ∷ entries) name table =
    let at = entry.position in
    let step = first_at (same_spelling (spelt_at msg at) name) at (spelt_at msg at) (filter (λ entry. same_spelling entry.1 name) (table_of msg entries)) in
    subst (All (λ (x : ℕ). IsFound msg x name)) (sym step)
    (found_if msg at name (positions_in (table_of msg entries) name) (same_spelling (spelt_at msg at) name) refl
    (All-head (IsEntry msg) entry entries table).target
    (positions_in-found msg entries name (All-tail (IsEntry msg) entry entries table)))

pub position_in-found : (msg : List ℕ) (entries : List Entry) (target : ℕ) (name : List (List ℕ)) → AreEntries msg entries → position_in (table_of msg entries) name ≡ Some target → IsFound msg target name
position_in-found msg entries target name table e =
    least_some (λ (x : ℕ). IsFound msg x name) (positions_in (table_of msg entries) name) target (positions_in-found msg entries name table) e

-- the same of equal positions
pub at_view : (msg : List ℕ) (own entries : List Entry) (name : List (List ℕ)) (found : Option ℕ) → own ≡ entries → position_in (table_of msg own) name ≡ found → position_in (table_of msg entries) name ≡ found
at_view msg own entries name found same e = subst (λ (x : List Entry). position_in (table_of msg x) name ≡ found) same e

octet_in-wire : (own : List ℕ) (name : List (List ℕ)) (at back : ℕ) → at ≡ length own - back → get_or (wire_of (own ∷ name)) at 0 ≡ octet_before back own
octet_in-wire own name at back e =
    ap (λ (i : ℕ). get_or (wire_of (own ∷ name)) i 0) e ∙ get_or_append_left (length own ∷ own) (wire_of name) 0 (length own - back) (omega arith)

pub four_octets : (a b c d w x y z : ℕ) → a ≡ w → b ≡ x → c ≡ y → d ≡ z → (a * 256 + b) * 65536 + (c * 256 + d) ≡ (w * 256 + x) * 65536 + (y * 256 + z)
four_octets a b c d w x y z p q r s = omega arith

key_in-wire : (name : List (List ℕ)) (n : ℕ) → n ≡ get_or (wire_of name) 0 0 → key_up_to (wire_of name) n ≡ first_end name
key_in-wire [] n e = ap (key_up_to (0 ∷ [])) e
key_in-wire (own ∷ name) n e =
    four_octets _ _ _ _ _ _ _ _ (octet_in-wire own name (n - 3) 3 (omega arith)) (octet_in-wire own name (n - 2) 2 (omega arith))
    (octet_in-wire own name (n - 1) 1 (omega arith)) (octet_in-wire own name n 0 (omega arith))

pub key_is : (octets : List ℕ) (n : ℕ) → IsWhole octets → n ≡ get_or octets 0 0 → key_up_to octets n ≡ first_end (labels_in octets)
key_is octets n whole =
    subst (λ (x : List ℕ). n ≡ get_or x 0 0 → key_up_to x n ≡ first_end (labels_in octets)) (wire_of-labels_in octets whole)
    (key_in-wire (labels_in octets) n)

-- four octets, as the number of them
four_number : (xs : List ℕ) → from_be_bytes w32 xs ≡ (get_or xs 0 0 * 256 + get_or xs 1 0) * 65536 + (get_or xs 2 0 * 256 + get_or xs 3 0)
four_number xs = omega arith

octet_of_four : (octets : List ℕ) (start k n : ℕ) → k < 4 → n ≡ start + k → get_or (take 4 (drop start octets)) k 0 ≡ get_or octets n 0
octet_of_four octets start k n low e = get_or-take 4 (drop start octets) k 0 low ∙ get_or-drop start octets k 0 ∙ ap (λ (i : ℕ). get_or octets i 0) (sym e)

-- the four octets from an index on, as the number of those up to the last of them
pub four_key : (octets four rest : List ℕ) (start last key : ℕ) → start + 3 ≡ last → rest ≡ drop start octets → four ≡ take 4 rest → key ≡ from_be_bytes w32 four → key ≡ key_up_to octets last
four_key octets four rest start last key e from chunk is =
    let own : four ≡ take 4 (drop start octets) = chunk ∙ ap (take 4) from in
    is ∙ ap (from_be_bytes w32) own ∙ four_number (take 4 (drop start octets))
    ∙ four_octets _ _ _ _ _ _ _ _ (octet_of_four octets start 0 (last - 3) (omega arith) (omega arith)) (octet_of_four octets start 1 (last - 2) (omega arith) (omega arith))
    (octet_of_four octets start 2 (last - 1) (omega arith) (omega arith)) (octet_of_four octets start 3 last (omega arith) (omega arith))
