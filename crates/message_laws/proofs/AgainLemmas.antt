-- What was written is read again.
use Rattle.std.proofs.Common.{◌≡◌, ℕ, zero, suc, ◌+◌, ◌<◌, ◌≤◌, ◌^◌, Bool, true, false, if◌then◌else◌, All, List, [], ◌∷◌, ◌++◌, length, take, drop, Option, Some, None, Ok, nat_le, refl, sym, ap, subst, ◌∙◌, arith, lit<, option_map, option_and_then, IsSome, length-append, append_assoc}
use Rattle.std.proofs.lemmas.Bool.{le-leb}
use Rattle.std.proofs.lemmas.List.{drop_at, drop-drop}
use Rattle.std.proofs.lemmas.List.Elements.{All-head, All-tail}
use Rattle.std.proofs.lemmas.Nat.{from_be_bytes-to_be_bytes_2, from_be_bytes-to_be_bytes_4}
use Rattle.std.specs.Int.{to_be_bytes, from_be_bytes, w16, w32}
use Rattle.dns_name.specs.Name.{IsName}
use Rattle.dns_rdata.specs.declared.layout.Layout.{Layout}
use Rattle.dns_rdata.specs.Data.{data_by, data_of}
use Rattle.dns_rdata.specs.Layout.{layout_of}
use Rattle.dns_rdata.specs.Record.{Record}
use Rattle.dns_rdata.proofs.LayoutLemmas.{served_types-are}
use Rattle.wire_names.specs.NameAt.{name_at}
use Rattle.wire_names.specs.Table.{Table, keyed}
use Rattle.wire_names.specs.Written.{written, table_after}
use Rattle.wire_names.proofs.GrammarLemmas.{computed_spelt}
use Rattle.wire_names.proofs.WrittenLemmas.{written_spelt}
use Rattle.message_laws.specs.Again.{IsRecord, Place, behind, data_at, entry_at, entries_at}
use Rattle.dns_message.specs.Asked.{question_in_full, IsQuestion}
use Rattle.dns_message.specs.Encoded.{IsTrueOf}
use Rattle.dns_message.specs.Message.{Entry, number_at}
use Rattle.dns_message.specs.Encoding.{these, named, before, measured, each}
use Rattle.dns_message.specs.Reads.{question_of, question_at, long_number_at, record_of, record_at, records_at}
use Rattle.dns_message.specs.Octets.{question_octets, data_octets, fixed_octets, record_octets}
use Rattle.dns_message.specs.declared.query.Question.{Question}
use Rattle.dns_message.proofs.KeepsLemmas.{Keeps-record}
use Rattle.dns_message.proofs.TrueLemmas.{IsTrueOf-nothing}

-- a name is read where it was written
name_again_here : (compress : Bool) (msg rest : List ℕ) (table : Table) (name : List (List ℕ)) → IsTrueOf msg table → IsName name → name_at (msg ++ (written compress table name ++ rest)) (length msg) ≡ Ok (name, length msg + length (written compress table name))
name_again_here compress msg rest table name h lawful =
    let P : Table → Type 0 = λ t. name_at (msg ++ (written compress t name ++ rest)) (length msg) ≡ Ok (name, length msg + length (written compress t name)) in
    subst P h.names (computed_spelt _ _ _ name (written_spelt compress msg (keyed table) rest name h.targets.targets lawful) lawful.short)

pub name_again : (compress : Bool) (msg rest whole : List ℕ) (table : Table) (n : ℕ) (name : List (List ℕ)) → n ≡ length msg → whole ≡ msg ++ (written compress table name ++ rest) → IsTrueOf msg table → IsName name → name_at whole n ≡ Ok (name, n + length (written compress table name))
name_again compress msg rest whole table n name at is h lawful =
    ap (λ o. name_at o n) is
    ∙ ap (name_at (msg ++ (written compress table name ++ rest))) at
    ∙ name_again_here compress msg rest table name h lawful
    ∙ ap (λ k. Ok (name, k + length (written compress table name))) (sym at)

-- what stands behind the octets in front of it
behind_front : (front tail : List ℕ) (k : ℕ) → drop (length front + k) (front ++ tail) ≡ drop k tail
behind_front front tail k = sym (drop-drop k (length front) (front ++ tail)) ∙ ap (drop k) (drop_at front tail (length front) refl)

number_behind : (front tail : List ℕ) (k : ℕ) → number_at (front ++ tail) (length front + k) ≡ number_at tail k
number_behind front tail k = ap (λ t. from_be_bytes w16 (take 2 t)) (behind_front front tail k)

number_first : (front tail : List ℕ) → number_at (front ++ tail) (length front) ≡ number_at tail 0
number_first front tail = ap (λ t. from_be_bytes w16 (take 2 t)) (drop_at front tail (length front) refl)

-- a question of these parts
abbrev asked : List (List ℕ) → ℕ → ℕ → Question
asked name rtype class = record { name = name; rtype = record { 0 = rtype }; class = record { 0 = class } }

-- its type and class are read behind its name
question_numbers : (front rest : List ℕ) (name : List (List ℕ)) (rtype class : ℕ) → rtype < 2 ^ 16 → class < 2 ^ 16 → question_of (front ++ (to_be_bytes w16 rtype ++ (to_be_bytes w16 class ++ rest))) (Ok (name, length front)) ≡ Some (asked name rtype class, length front + 4)
question_numbers front rest name rtype class h k =
    let tail = to_be_bytes w16 rtype ++ (to_be_bytes w16 class ++ rest) in
    let octets = front ++ tail in
    let fits : nat_le (length front + 4) (length octets) ≡ true = le-leb _ _ (omega (arith, length-append front tail)) in
    let first : number_at octets (length front) ≡ rtype = number_first front tail ∙ from_be_bytes-to_be_bytes_2 rtype h in
    let second : number_at octets (length front + 2) ≡ class = number_behind front tail 2 ∙ from_be_bytes-to_be_bytes_2 class k in
    rw fits (ap (λ n. Some (asked name n (number_at octets (length front + 2)), length front + 4)) first ∙ ap (λ n. Some (asked name rtype n, length front + 4)) second)

-- behind a name that is written with pointers or in full
question_behind : (compress : Bool) (msg rest whole : List ℕ) (table : Table) (n : ℕ) (q : Question) → n ≡ length msg → whole ≡ msg ++ ((written compress table q.name ++ (to_be_bytes w16 q.rtype.0 ++ to_be_bytes w16 q.class.0)) ++ rest) → IsTrueOf msg table → IsQuestion q → question_at whole n ≡ Some (q, n + length (written compress table q.name ++ (to_be_bytes w16 q.rtype.0 ++ to_be_bytes w16 q.class.0)))
question_behind compress msg rest whole table n q at is h lawful =
    let name = written compress table q.name in
    let numbers = to_be_bytes w16 q.rtype.0 ++ to_be_bytes w16 q.class.0 in
    let to_name : whole ≡ msg ++ (name ++ (numbers ++ rest)) = is ∙ ap (λ t. msg ++ t) (append_assoc name numbers rest) in
    let to_numbers : whole ≡ (msg ++ name) ++ (to_be_bytes w16 q.rtype.0 ++ (to_be_bytes w16 q.class.0 ++ rest)) = to_name ∙ sym (append_assoc msg name _) in
    let there : n + length name ≡ length (msg ++ name) = ap (λ k. k + length name) at ∙ sym (length-append msg name) in
    let end : length (msg ++ name) + 4 ≡ n + length (name ++ numbers) = omega (arith, length-append name numbers) in
    ap (question_of whole) (name_again compress msg (numbers ++ rest) whole table n q.name at to_name h lawful.name)
    ∙ ap (λ o. question_of o (Ok (q.name, n + length name))) to_numbers
    ∙ ap (λ k. question_of ((msg ++ name) ++ (to_be_bytes w16 q.rtype.0 ++ (to_be_bytes w16 q.class.0 ++ rest))) (Ok (q.name, k))) there
    ∙ question_numbers (msg ++ name) rest q.name q.rtype.0 q.class.0 lawful.rtype lawful.class
    ∙ ap (λ k. Some (q, k)) end

pub question_again : (msg rest whole : List ℕ) (table : Table) (n : ℕ) (q : Question) → n ≡ length msg → whole ≡ msg ++ ((question_octets q table n).0 ++ rest) → IsTrueOf msg table → IsQuestion q → question_at whole n ≡ Some (q, n + length (question_octets q table n).0)
unfolding question_octets before named these
question_again msg rest whole table n q at is h lawful = question_behind true msg rest whole table n q at is h lawful

pub question_full_again : (front rest : List ℕ) (q : Question) → IsQuestion q → question_at (front ++ (question_in_full q ++ rest)) (length front) ≡ Some (q, length front + length (question_in_full q))
question_full_again front rest q lawful = question_behind false front rest _ [] (length front) q refl refl (IsTrueOf-nothing front) lawful

-- a record of these numbers whose owner ends at a position of the octets
abbrev built : List ℕ → List (List ℕ) → ℕ → ℕ → ℕ → ℕ → ℕ → Option (Entry × ℕ)
built octets owner n rtype class ttl size =
    if nat_le (n + 10 + size) (length octets) then Some (record { owner = owner; rtype = rtype; class = class; ttl = ttl; at = n + 10; size = size }, n + 10 + size) else None

-- its numbers are read behind its owner
pub record_numbers : (front rest rdata : List ℕ) (owner : List (List ℕ)) (rtype class ttl : ℕ) → rtype < 2 ^ 16 → class < 2 ^ 16 → ttl < 2 ^ 32 → length rdata < 2 ^ 16 → record_of (front ++ (to_be_bytes w16 rtype ++ (to_be_bytes w16 class ++ (to_be_bytes w32 ttl ++ (to_be_bytes w16 (length rdata) ++ (rdata ++ rest)))))) (Ok (owner, length front)) ≡ Some (record { owner = owner; rtype = rtype; class = class; ttl = ttl; at = length front + 10; size = length rdata }, length front + 10 + length rdata)
record_numbers front rest rdata owner rtype class ttl h1 h2 h3 h4 =
    let tail = to_be_bytes w16 rtype ++ (to_be_bytes w16 class ++ (to_be_bytes w32 ttl ++ (to_be_bytes w16 (length rdata) ++ (rdata ++ rest)))) in
    let octets = front ++ tail in
    let n = length front in
    let e1 : number_at octets n ≡ rtype = number_first front tail ∙ from_be_bytes-to_be_bytes_2 rtype h1 in
    let e2 : number_at octets (n + 2) ≡ class = number_behind front tail 2 ∙ from_be_bytes-to_be_bytes_2 class h2 in
    let e3 : long_number_at octets (n + 4) ≡ ttl = ap (λ t. from_be_bytes w32 (take 4 t)) (behind_front front tail 4) ∙ from_be_bytes-to_be_bytes_4 ttl h3 in
    let e4 : number_at octets (n + 8) ≡ length rdata = number_behind front tail 8 ∙ from_be_bytes-to_be_bytes_2 (length rdata) h4 in
    let fits : nat_le (n + 10 + length rdata) (length octets) ≡ true = le-leb _ _ (omega (arith, length-append front tail, length-append rdata rest)) in
    ap (λ a. built octets owner n a (number_at octets (n + 2)) (long_number_at octets (n + 4)) (number_at octets (n + 8))) e1
    ∙ ap (λ a. built octets owner n rtype a (long_number_at octets (n + 4)) (number_at octets (n + 8))) e2
    ∙ ap (λ a. built octets owner n rtype class a (number_at octets (n + 8))) e3
    ∙ ap (λ a. built octets owner n rtype class ttl a) e4
    ∙ rw fits

-- a record is its owner, its numbers, and its data behind their length
pub record_parts : (r : Record) (table : Table) (n : ℕ) → (record_octets r table n).0 ≡ written true table r.owner ++ (fixed_octets r ++ (to_be_bytes w16 (length (data_at r (table, n))) ++ data_at r (table, n)))
unfolding record_octets before named these measured
record_parts r table n =
    let owner = written true table r.owner in
    let after = table_after true table n r.owner in
    let place : n + length owner + length (fixed_octets r) + 2 ≡ n + length owner + 10 = omega arith in
    ap (λ k. owner ++ (fixed_octets r ++ (to_be_bytes w16 (length (data_octets r.rtype r.rdata after k).0) ++ (data_octets r.rtype r.rdata after k).0))) place

-- the number of a type that records of a zone can have has 16 bits
served_16_bits : (rtype : ℕ) → IsSome (layout_of rtype) → rtype < 2 ^ 16
served_16_bits rtype some = ((served_types-are rtype).0 some).1

served_by : (o : Option Layout) (octets own : List ℕ) → option_and_then (λ (layout : Layout). data_by layout octets) o ≡ Some own → IsSome o
served_by None octets own e = cc
served_by (Some layout) octets own e = refl

served_short : (rtype : ℕ) (octets own : List ℕ) → data_of rtype octets ≡ Some own → rtype < 2 ^ 16
unfolding data_of
served_short rtype octets own e = served_16_bits rtype (served_by (layout_of rtype) octets own e)

-- the record whose owner ends at a position, with so many octets of data
abbrev entry_to : Record → ℕ → ℕ → Entry
entry_to r end size = record { owner = r.owner; rtype = r.rtype; class = 1; ttl = r.ttl; at = end + 10; size = size }

pub record_again : (msg rest whole : List ℕ) (table : Table) (n : ℕ) (r : Record) → n ≡ length msg → whole ≡ msg ++ ((record_octets r table n).0 ++ rest) → IsTrueOf msg table → IsRecord r → length (data_at r (table, n)) < 2 ^ 16 → record_at whole n ≡ Some (entry_at r (table, n), n + length (record_octets r table n).0)
unfolding named
record_again msg rest whole table n r at is h lawful short =
    let owner = written true table r.owner in
    let rdata = data_at r (table, n) in
    let parts = record_parts r table n in
    let behind_owner = to_be_bytes w16 r.rtype ++ (to_be_bytes w16 1 ++ (to_be_bytes w32 r.ttl ++ (to_be_bytes w16 (length rdata) ++ (rdata ++ rest)))) in
    let to_owner : whole ≡ msg ++ (owner ++ behind_owner) = is ∙ ap (λ t. msg ++ (t ++ rest)) parts ∙ simp append_assoc in
    let to_numbers : whole ≡ (msg ++ owner) ++ behind_owner = to_owner ∙ sym (append_assoc msg owner behind_owner) in
    let there : n + length owner ≡ length (msg ++ owner) = ap (λ k. k + length owner) at ∙ sym (length-append msg owner) in
    let size : length (record_octets r table n).0 ≡ length owner + 10 + length rdata = ap length parts ∙ omega (arith, length-append owner (fixed_octets r ++ (to_be_bytes w16 (length rdata) ++ rdata))) in
    ap (record_of whole) (name_again true msg behind_owner whole table n r.owner at to_owner h lawful.owner)
    ∙ ap (λ o. record_of o (Ok (r.owner, n + length owner))) to_numbers
    ∙ ap (λ k. record_of ((msg ++ owner) ++ behind_owner) (Ok (r.owner, k))) there
    ∙ record_numbers (msg ++ owner) rest rdata r.owner r.rtype 1 r.ttl (served_short r.rtype r.rdata r.rdata lawful.form) (lit< tt) lawful.ttl short
    ∙ ap (λ k. Some (entry_to r k (length rdata), k + 10 + length rdata)) (sym there)
    ∙ ap (λ k. Some (entry_to r (n + length owner) (length rdata), k)) (omega (arith, size))

-- a record has at least ten octets, and those of its data
record_long : (r : Record) (table : Table) (n : ℕ) → 10 + length (data_at r (table, n)) ≤ length (record_octets r table n).0
record_long r table n =
    let owner = written true table r.owner in
    let rdata = data_at r (table, n) in
    omega (arith, ap length (record_parts r table n), length-append owner (fixed_octets r ++ (to_be_bytes w16 (length rdata) ++ rdata)))

-- the octets of one record and of those behind it
each_one : (r : Record) (rs : List Record) (table : Table) (n : ℕ) → let next = record_octets r table n in (each record_octets (r ∷ rs) table n).0 ≡ next.0 ++ (each record_octets rs next.1 (n + length next.0)).0
unfolding each before
each_one r rs table n = refl

pub none_more : (msg : List ℕ) (n : ℕ) → records_at zero msg n ≡ Some ([], n)
unfolding records_at
none_more msg n = refl

pub one_more : (count : ℕ) (msg : List ℕ) (n next end : ℕ) (e : Entry) (es : List Entry) → record_at msg n ≡ Some (e, next) → records_at count msg next ≡ Some (es, end) → records_at (suc count) msg n ≡ Some (e ∷ es, end)
unfolding records_at
one_more count msg n next end e es first others =
    ap (option_and_then (λ r. option_map (λ rest. (r.0 ∷ rest.0, rest.1)) (records_at count msg r.1))) first
    ∙ ap (option_map (λ rest. (e ∷ rest.0, rest.1))) others

no_octets : (table : Table) (n : ℕ) → length (each record_octets [] table n).0 ≡ 0
unfolding each these
no_octets table n = refl

no_entries : (place : Place) → entries_at [] place ≡ []
unfolding entries_at
no_entries place = refl

entries_one : (r : Record) (rs : List Record) (place : Place) → entries_at (r ∷ rs) place ≡ entry_at r place ∷ entries_at rs (behind (record_octets r) place)
unfolding entries_at
entries_one r rs place = refl

-- records are read where they were written
pub records_again : (rs : List Record) (msg rest whole : List ℕ) (table : Table) (n : ℕ) → n ≡ length msg → whole ≡ msg ++ ((each record_octets rs table n).0 ++ rest) → IsTrueOf msg table → All IsRecord rs → length (each record_octets rs table n).0 < 2 ^ 16 → records_at (length rs) whole n ≡ Some (entries_at rs (table, n), n + length (each record_octets rs table n).0)
records_again [] msg rest whole table n at is h all short =
    none_more whole n
    ∙ ap (λ es. Some (es, n)) (sym (no_entries (table, n)))
    ∙ ap (λ k. Some (entries_at [] (table, n), k)) (omega (arith, no_octets table n))
records_again (r ∷ rs) msg rest whole table n at is h all short =
    let next = record_octets r table n in
    let others = (each record_octets rs next.1 (n + length next.0)).0 in
    let octets = each_one r rs table n in
    let size : length (each record_octets (r ∷ rs) table n).0 ≡ length next.0 + length others = ap length octets ∙ length-append next.0 others in
    let lawful : IsRecord r = All-head IsRecord r rs all in
    let split : whole ≡ msg ++ (next.0 ++ (others ++ rest)) = is ∙ ap (λ t. msg ++ (t ++ rest)) octets ∙ ap (λ t. msg ++ t) (append_assoc next.0 others rest) in
    let here = record_again msg (others ++ rest) whole table n r at split h lawful (omega (arith, record_long r table n)) in
    let there : n + length next.0 ≡ length (msg ++ next.0) = ap (λ k. k + length next.0) at ∙ sym (length-append msg next.0) in
    let kept : IsTrueOf (msg ++ next.0) next.1 = let P : ℕ → Type 0 = λ k. IsTrueOf (msg ++ (record_octets r table k).0) (record_octets r table k).1 in subst P (sym at) ((Keeps-record r lawful.owner).kept msg table h) in
    let back = records_again rs (msg ++ next.0) rest whole next.1 (n + length next.0) there (split ∙ sym (append_assoc msg next.0 (others ++ rest))) kept (All-tail IsRecord r rs all) (omega arith) in
    one_more (length rs) whole n (n + length next.0) (n + length next.0 + length others) (entry_at r (table, n)) (entries_at rs (behind (record_octets r) (table, n))) here back
    ∙ ap (λ es. Some (es, n + length next.0 + length others)) (sym (entries_one r rs (table, n)))
    ∙ ap (λ k. Some (entries_at (r ∷ rs) (table, n), k)) (omega (arith, size))

-- there are no more records than octets
pub few_records : (rs : List Record) (table : Table) (n : ℕ) → length rs ≤ length (each record_octets rs table n).0
few_records [] table n = omega arith
few_records (r ∷ rs) table n =
    let next = record_octets r table n in
    omega (arith, record_long r table n, ap length (each_one r rs table n), length-append next.0 (each record_octets rs next.1 (n + length next.0)).0, few_records rs next.1 (n + length next.0))

-- a record that is written behind a message of which a table is true
pub record_read : (msg rest : List ℕ) (table : Table) (r : Record) → IsTrueOf msg table → IsRecord r → length (data_at r (table, length msg)) < 2 ^ 16 → record_at (msg ++ ((record_octets r table (length msg)).0 ++ rest)) (length msg) ≡ Some (entry_at r (table, length msg), length msg + length (record_octets r table (length msg)).0)
record_read msg rest table r true_of lawful short =
    record_again msg rest _ table (length msg) r refl refl true_of lawful short

pub record_enters : (msg : List ℕ) (table : Table) (r : Record) → IsTrueOf msg table → IsRecord r → IsTrueOf (msg ++ (record_octets r table (length msg)).0) (record_octets r table (length msg)).1
record_enters msg table r true_of lawful =
    (Keeps-record r lawful.owner).kept msg table true_of
