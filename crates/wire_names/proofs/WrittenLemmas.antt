-- A name that is written is spelt at its place, and so are the suffixes that it enters.
use Rattle.std.proofs.Common.{◌≡◌, ℕ, ◌+◌, ◌-◌, ◌*◌, ◌/◌, ◌%◌, ◌<◌, ◌≤◌, ◌==◌, Bool, true, false, nat_lt, nat_le, List, [], ◌∷◌, ◌++◌, length, take, drop, All, Option, Some, None, Ok, refl, sym, ap, subst, ◌∙◌, arith}
use Rattle.std.proofs.Math.Seq.{drop-append_seam}
use Rattle.std.proofs.lemmas.Bool.Decides.{nat_tests}
use Rattle.std.proofs.lemmas.List.{length-append, append_assoc, append-nil, take_at, drop_at}
use Rattle.std.proofs.lemmas.List.Elements.{All-nil, All-cons, All-head, All-tail}
use Rattle.dns_name.specs.Labels.{labels_in, IsWhole}
use Rattle.dns_name.specs.Name.{wire_of, IsLabel, IsName}
use Rattle.dns_name.proofs.LabelLemmas.{wire_of-labels_in, IsLabel_each}
use Rattle.wire_names.specs.Parts.{part_at, part_of, label_at}
use Rattle.wire_names.specs.Spells.{Spells, closing, label, pointer}
use Rattle.wire_names.specs.Table.{Entry, Table, AreEntries, IsEntry, IsLabelAt, table_of, position_in}
use Rattle.wire_names.specs.Written.{pointer_to, name_octets, new_entries, written, entries_of}
use Rattle.wire_names.specs.declared.part.Part.TheVariants.{Label, Pointer}
use Rattle.wire_names.proofs.EntryLemmas.{octets_none, octets_some, entries_none, entries_some}
use Rattle.wire_names.proofs.LongerLemmas.{spells_longer, spells_within, ReadsName, ReadsName-spells}
use Rattle.wire_names.proofs.TableLemmas.{target_spells, position_in-found}

-- what stands behind a message is its next part
part_behind : (front octets : List ℕ) → part_at (front ++ octets) (length front) ≡ part_of octets
part_behind front octets = ap part_of (drop-append_seam front octets)

-- a label that is written is a part
pub part_of-label : (own rest : List ℕ) → IsLabel own → part_of (length own ∷ own ++ rest) ≡ Ok (Label (length own))
part_of-label own rest is =
    let both = length-append own rest in
    let some = is.some in
    let short = is.short in
    let zero_test : (length own == 0) ≡ false = grind (arith, nat_tests) in
    let short_test : nat_lt (length own) 64 ≡ true = grind (arith, nat_tests) in
    let whole_test : nat_le (length own) (length (own ++ rest)) ≡ true = grind (arith, nat_tests) in
    rw (zero_test, short_test, whole_test)

pointer_value : (target : ℕ) → target < 16384 → (192 + target / 256 - 192) * 256 + target % 256 ≡ target
pointer_value target h = omega arith

-- so is a pointer
part_of-pointer : (target : ℕ) (rest : List ℕ) → target < 16384 → part_of (pointer_to target ++ rest) ≡ Ok (Pointer target)
part_of-pointer target rest h =
    let zero_test : ((192 + target / 256) == 0) ≡ false = grind (arith, nat_tests) in
    let short_test : nat_lt (192 + target / 256) 64 ≡ false = grind (arith, nat_tests) in
    let bits_test : nat_lt (192 + target / 256) 192 ≡ false = grind (arith, nat_tests) in
    let value = pointer_value target h in
    rw (zero_test, short_test, bits_test) (ap (λ (x : ℕ). Ok (Pointer x)) value)

-- the octets of the label behind a message
label_behind : (front own rest : List ℕ) → label_at (front ++ (length own ∷ own ++ rest)) (length front) (length own) ≡ own
label_behind front own rest =
    let more = append_assoc front (length own ∷ []) (own ++ rest) in
    let len = length-append front (length own ∷ []) in
    let skip : drop (length front + 1) (front ++ (length own ∷ own ++ rest)) ≡ own ++ rest =
    ap (drop (length front + 1)) (sym more) ∙ drop_at (front ++ length own ∷ []) (own ++ rest) (length front + 1) len in
    ap (take (length own)) skip ∙ take_at own rest (length own) refl

-- a message with the table's message in front, which a name is written behind
pub record IsBehind (msg : List ℕ) (positions : List Entry) (front : List ℕ) (run : ℕ) : Type 0 where
  pub table : AreEntries msg positions
  pub more : List ℕ
  pub front_is : front ≡ msg ++ more
  pub run_is : length msg ≤ run

-- a pointer to a suffix of the table spells it
spells_pointer_to : (msg : List ℕ) (positions : List Entry) (front behind : List ℕ) (run target : ℕ) (name : List (List ℕ)) → IsBehind msg positions front run → position_in (table_of msg positions) name ≡ Some target → Spells (front ++ (pointer_to target ++ behind)) run (length front) name (length front + 2)
spells_pointer_to msg positions front behind run target name is e =
    let found = position_in-found msg positions target name is.table e in
    let own = target_spells msg target found.target in
    let there = subst (λ (x : List (List ℕ)). Spells msg target target x own.0) found.spelt own.1 in
    let within = spells_within msg target target own.0 name there in
    let run_is = is.run_is in
    let longer = spells_longer msg (is.more ++ (pointer_to target ++ behind)) target target own.0 name there in
    let same : msg ++ (is.more ++ (pointer_to target ++ behind)) ≡ front ++ (pointer_to target ++ behind) =
    sym (append_assoc msg is.more (pointer_to target ++ behind)) ∙ ap (λ (x : List ℕ). x ++ (pointer_to target ++ behind)) (sym is.front_is) in
    let whole = subst (λ (x : List ℕ). Spells x target target name own.0) same longer in
    let part = part_behind front (pointer_to target ++ behind) ∙ part_of-pointer target behind found.target.low in
    pointer part (omega arith) whole refl

IsBehind-label : (msg : List ℕ) (positions : List Entry) (front own : List ℕ) (run next : ℕ) → IsBehind msg positions front run → run ≤ next → IsBehind msg positions (front ++ length own ∷ own) next
IsBehind-label msg positions front own run next is h =
    let run_is = is.run_is in
    record {
      table = is.table;
      more = is.more ++ length own ∷ own;
      front_is = ap (λ (x : List ℕ). x ++ length own ∷ own) is.front_is ∙ append_assoc msg is.more (length own ∷ own);
      run_is = omega arith;
    }

regroup : (front own text behind : List ℕ) → (front ++ length own ∷ own) ++ (text ++ behind) ≡ front ++ ((length own ∷ own ++ text) ++ behind)
regroup front own text behind =
    append_assoc front (length own ∷ own) (text ++ behind) ∙ ap (λ (x : List ℕ). front ++ (length own ∷ x)) (sym (append_assoc own text behind))

-- a label that is written, and what is written behind it
spells_label_put : (front own text behind : List ℕ) (run next : ℕ) (name : List (List ℕ)) → IsLabel own → Spells ((front ++ length own ∷ own) ++ (text ++ behind)) run (length (front ++ length own ∷ own)) name next → Spells (front ++ ((length own ∷ own ++ text) ++ behind)) run (length front) (own ∷ name) next
spells_label_put front own text behind run next name is rest =
    let same = regroup front own text behind in
    let len = length-append front (length own ∷ own) in
    let place : length (front ++ length own ∷ own) ≡ length front + 1 + length own = omega arith in
    let on = subst (λ (x : ℕ). Spells (front ++ ((length own ∷ own ++ text) ++ behind)) run x name next) place
    (subst (λ (x : List ℕ). Spells x run (length (front ++ length own ∷ own)) name next) same rest) in
    let joined : (length own ∷ own ++ text) ++ behind ≡ length own ∷ own ++ (text ++ behind) = ap (λ (x : List ℕ). length own ∷ x) (append_assoc own text behind) in
    let part = ap (λ (x : List ℕ). part_at (front ++ x) (length front)) joined ∙ part_behind front (length own ∷ own ++ (text ++ behind)) ∙ part_of-label own (text ++ behind) is in
    let octets = ap (λ (x : List ℕ). label_at (front ++ x) (length front) (length own)) joined ∙ label_behind front own (text ++ behind) in
    label part (sym octets) on

label_spelt : (msg : List ℕ) (positions : List Entry) (front behind own : List ℕ) (run : ℕ) (name : List (List ℕ)) (found : Option ℕ) → position_in (table_of msg positions) (own ∷ name) ≡ found → IsBehind msg positions front run → All IsLabel (own ∷ name) → Spells ((front ++ length own ∷ own) ++ (name_octets (table_of msg positions) name ++ behind)) run (length (front ++ length own ∷ own)) name (length (front ++ length own ∷ own) + length (name_octets (table_of msg positions) name)) → Spells (front ++ (name_octets (table_of msg positions) (own ∷ name) ++ behind)) run (length front) (own ∷ name) (length front + length (name_octets (table_of msg positions) (own ∷ name)))
label_spelt msg positions front behind own run name (Some target) e is lawful rest =
    let text = octets_some (table_of msg positions) own name target e in
    subst (λ (x : List ℕ). Spells (front ++ (x ++ behind)) run (length front) (own ∷ name) (length front + length x)) (sym text)
    (spells_pointer_to msg positions front behind run target (own ∷ name) is e)
label_spelt msg positions front behind own run name None e is lawful rest =
    let text = octets_none (table_of msg positions) own name e in
    let whole = spells_label_put front own (name_octets (table_of msg positions) name) behind run _ name (All-head IsLabel own name lawful) rest in
    let len = length-append front (length own ∷ own) in
    let both = length-append own (name_octets (table_of msg positions) name) in
    let next : length (front ++ length own ∷ own) + length (name_octets (table_of msg positions) name) ≡ length front + length (length own ∷ own ++ name_octets (table_of msg positions) name) = omega arith in
    subst (λ (x : List ℕ). Spells (front ++ (x ++ behind)) run (length front) (own ∷ name) (length front + length x)) (sym text)
    (subst (λ (x : ℕ). Spells (front ++ ((length own ∷ own ++ name_octets (table_of msg positions) name) ++ behind)) run (length front) (own ∷ name) x) next whole)

-- a name that is written is spelt at its place
pub name_spelt : (msg : List ℕ) (positions : List Entry) (front behind : List ℕ) (run : ℕ) (name : List (List ℕ)) → IsBehind msg positions front run → All IsLabel name → Spells (front ++ (name_octets (table_of msg positions) name ++ behind)) run (length front) name (length front + length (name_octets (table_of msg positions) name))
name_spelt msg positions front behind run [] is lawful = closing (part_behind front (0 ∷ behind)) refl
name_spelt msg positions front behind run (own ∷ name) is lawful =
    label_spelt msg positions front behind own run name (position_in (table_of msg positions) (own ∷ name)) refl is lawful
    (name_spelt msg positions (front ++ length own ∷ own) behind run name (IsBehind-label msg positions front own run run is (omega arith)) (All-tail IsLabel own name lawful))

-- a shorter suffix has fewer octets
below_short : (own : List ℕ) (name : List (List ℕ)) → length (wire_of (own ∷ name)) ≤ 255 → length (wire_of name) ≤ 255
below_short own name h = let both = length-append own (wire_of name) in omega arith

-- entries of a message
pub record IsRead (msg : List ℕ) (at : ℕ) (name : List (List ℕ)) : Type 0 where
  pub reads : ReadsName msg at name
  pub label : IsLabelAt msg at

abbrev pub AreRead : List ℕ → Table → Type 0
AreRead msg entries = All (λ entry. IsRead msg entry.0 entry.1) entries

entries_if : (msg : List ℕ) (positions : List Entry) (front behind own : List ℕ) (name : List (List ℕ)) (found : Option ℕ) → position_in (table_of msg positions) (own ∷ name) ≡ found → IsLabel own → ReadsName (front ++ (name_octets (table_of msg positions) (own ∷ name) ++ behind)) (length front) (own ∷ name) → AreRead ((front ++ length own ∷ own) ++ (name_octets (table_of msg positions) name ++ behind)) (new_entries (table_of msg positions) (length (front ++ length own ∷ own)) name) → AreRead (front ++ (name_octets (table_of msg positions) (own ∷ name) ++ behind)) (new_entries (table_of msg positions) (length front) (own ∷ name))
entries_if msg positions front behind own name (Some target) e lawful first rest =
    subst (AreRead (front ++ (name_octets (table_of msg positions) (own ∷ name) ++ behind))) (sym (entries_some (table_of msg positions) (length front) own name target e)) (All-nil (λ (entry : ℕ × List (List ℕ)). IsRead (front ++ (name_octets (table_of msg positions) (own ∷ name) ++ behind)) entry.0 entry.1))
entries_if msg positions front behind own name None e lawful first rest =
    let table = table_of msg positions in
    let text = octets_none table own name e in
    let same : (front ++ length own ∷ own) ++ (name_octets table name ++ behind) ≡ front ++ (name_octets table (own ∷ name) ++ behind) =
    regroup front own (name_octets table name) behind ∙ ap (λ (x : List ℕ). front ++ (x ++ behind)) (sym text) in
    let len = length-append front (length own ∷ own) in
    let place : length (front ++ length own ∷ own) ≡ length front + 1 + length own = omega arith in
    let more = subst (λ (x : ℕ). AreRead (front ++ (name_octets table (own ∷ name) ++ behind)) (new_entries table x name)) place
    (subst (λ (x : List ℕ). AreRead x (new_entries table (length (front ++ length own ∷ own)) name)) same rest) in
    let joined : (length own ∷ own ++ name_octets table name) ++ behind ≡ length own ∷ own ++ (name_octets table name ++ behind) = ap (λ (x : List ℕ). length own ∷ x) (append_assoc own (name_octets table name) behind) in
    let part = ap (λ (x : List ℕ). part_at (front ++ (x ++ behind)) (length front)) text ∙ ap (λ (x : List ℕ). part_at (front ++ x) (length front)) joined
    ∙ part_behind front (length own ∷ own ++ (name_octets table name ++ behind)) ∙ part_of-label own (name_octets table name ++ behind) lawful in
    let read : IsRead (front ++ (name_octets table (own ∷ name) ++ behind)) (length front) (own ∷ name) = record { reads = first; label = record { read = first.read; len = length own; label = part } } in
    subst (AreRead (front ++ (name_octets table (own ∷ name) ++ behind))) (sym (entries_none table (length front) own name e))
    (All-cons (λ (entry : ℕ × List (List ℕ)). IsRead (front ++ (name_octets table (own ∷ name) ++ behind)) entry.0 entry.1) (length front, own ∷ name) (new_entries table (length front + 1 + length own) name) read more)

-- the suffixes that a name enters are spelt at their positions
entries_read : (msg : List ℕ) (positions : List Entry) (front behind : List ℕ) (name : List (List ℕ)) → IsBehind msg positions front (length front) → All IsLabel name → length (wire_of name) ≤ 255 → AreRead (front ++ (name_octets (table_of msg positions) name ++ behind)) (new_entries (table_of msg positions) (length front) name)
entries_read msg positions front behind [] is lawful short = All-nil (λ (entry : ℕ × List (List ℕ)). IsRead (front ++ (0 ∷ behind)) entry.0 entry.1)
entries_read msg positions front behind (own ∷ name) is lawful short =
    let whole = name_spelt msg positions front behind (length front) (own ∷ name) is lawful in
    let first = ReadsName-spells (front ++ (name_octets (table_of msg positions) (own ∷ name) ++ behind)) (length front) _ (own ∷ name) whole short in
    let len = length-append front (length own ∷ own) in
    let next = IsBehind-label msg positions front own (length front) (length (front ++ length own ∷ own)) is (omega arith) in
    let rest = entries_read msg positions (front ++ length own ∷ own) behind name next (All-tail IsLabel own name lawful) (below_short own name short) in
    entries_if msg positions front behind own name (position_in (table_of msg positions) (own ∷ name)) refl (All-head IsLabel own name lawful) first rest

IsBehind-none : (msg : List ℕ) (positions : List Entry) → AreEntries msg positions → IsBehind msg positions msg (length msg)
IsBehind-none msg positions table = record { table = table; more = []; front_is = sym (append-nil msg); run_is = omega arith }

pub written_read : (compress : Bool) (msg : List ℕ) (positions : List Entry) (name : List (List ℕ)) → AreEntries msg positions → IsName name → AreRead (msg ++ written compress (table_of msg positions) name) (entries_of compress (table_of msg positions) (length msg) name)
written_read true msg positions name table lawful =
    let all = entries_read msg positions msg [] name (IsBehind-none msg positions table) lawful.labels lawful.short in
    subst (λ (x : List ℕ). AreRead (msg ++ x) (new_entries (table_of msg positions) (length msg) name)) (append-nil (name_octets (table_of msg positions) name)) all
written_read false msg positions name table lawful = All-nil (λ (entry : ℕ × List (List ℕ)). IsRead (msg ++ wire_of name) entry.0 entry.1)

-- a name in full is one under an empty table
wire_text : (name : List (List ℕ)) → name_octets [] name ≡ wire_of name
wire_text [] = refl
wire_text (own ∷ name) = ap (λ (x : List ℕ). length own ∷ own ++ x) (wire_text name)

-- what is written is spelt at its place, whatever follows
pub written_spelt : (compress : Bool) (msg : List ℕ) (positions : List Entry) (behind : List ℕ) (name : List (List ℕ)) → AreEntries msg positions → IsName name → Spells (msg ++ (written compress (table_of msg positions) name ++ behind)) (length msg) (length msg) name (length msg + length (written compress (table_of msg positions) name))
written_spelt true msg positions behind name table lawful = name_spelt msg positions msg behind (length msg) name (IsBehind-none msg positions table) lawful.labels
written_spelt false msg positions behind name table lawful =
    let whole = name_spelt msg [] msg behind (length msg) name (IsBehind-none msg [] (All-nil (IsEntry msg))) lawful.labels in
    subst (λ (x : List ℕ). Spells (msg ++ (x ++ behind)) (length msg) (length msg) name (length msg + length x)) (wire_text name) whole

-- what stands in full behind a message is spelt there, whatever follows
pub plain_spelt : (front octets behind : List ℕ) → IsWhole octets → Spells (front ++ (octets ++ behind)) (length front) (length front) (labels_in octets) (length front + length octets)
plain_spelt front octets behind whole =
    let name = labels_in octets in
    let is : name_octets [] name ≡ octets = wire_text name ∙ wire_of-labels_in octets whole in
    let spelt = name_spelt front [] front behind (length front) name (IsBehind-none front [] (All-nil (IsEntry front))) (IsLabel_each octets whole) in
    subst (λ (x : List ℕ). Spells (front ++ (x ++ behind)) (length front) (length front) name (length front + length x)) is spelt
