-- How long a record is at most as it is written.
use Rattle.std.proofs.Common.{◌≡◌, ℕ, zero, suc, ◌+◌, ◌≤◌, Bool, true, false, List, [], ◌∷◌, length, take, drop, Option, Some, None, refl, sym, ap, ◌∙◌, arith, length-append, length-drop}
use Rattle.std.proofs.lemmas.Bool.{le-leb}
use Rattle.std.proofs.lemmas.List.{take-append-drop}
use Rattle.std.specs.List.{flat_map}
use Rattle.dns_name.specs.Name.{Name, wire_of, name_in, IsName}
use Rattle.dns_name.proofs.LawLemmas.{name_in-is_present}
use Rattle.dns_rdata.specs.declared.layout.Layout.{Layout}
use Rattle.dns_rdata.specs.declared.layout.Layout.TheVariants.{Fields, Strings, Opaque}
use Rattle.dns_rdata.specs.Layout.{layout_of, names_in}
use Rattle.dns_rdata.specs.Record.{Record}
use Rattle.wire_names.specs.Table.{Table}
use Rattle.wire_names.specs.Written.{written, table_after}
use Rattle.dns_message.specs.Answers.{answers}
use Rattle.dns_message.specs.Encoding.{these, named, before, measured, each}
use Rattle.dns_message.specs.Octets.{names_octets, octets_by, data_laid, data_octets, fixed_octets, question_octets, record_octets, fits}
use Rattle.dns_message.specs.declared.edns.Opt.{Opt}
use Rattle.dns_message.specs.declared.query.Head.{Head}
use Rattle.dns_message.specs.declared.query.Question.{Question}
use Rattle.dns_message.proofs.AnswersLemmas.{opt_short, length-answers}
use Rattle.dns_message.proofs.DataLemmas.{length-name_octets, length-question, length-measured}
use Rattle.dns_message.proofs.EncodedLemmas.{each-one}
use Rattle.dns_message.proofs.OctetsLemmas.{length-before}

-- a name is no longer with pointers than in full
name_short : (compress : Bool) (table : Table) (name : Name) → length (written compress table name) ≤ length (wire_of name)
name_short true table name = length-name_octets table name
name_short false table name = omega arith

names_short : (compress : Bool) (names : List Name) (table : Table) (at : ℕ) → length (each (named compress) names table at).0 ≤ length (flat_map wire_of names)
unfolding each before these named
names_short compress [] table at = omega arith
names_short compress (name ∷ names) table at =
    let own = written compress table name in
    let back = (each (named compress) names (table_after compress table at name) (at + length own)).0 in
    let both = length-append own back in
    let full = length-append (wire_of name) (flat_map wire_of names) in
    let first = name_short compress table name in
    let rest = names_short compress names (table_after compress table at name) (at + length own) in
    omega arith

-- the names that octets begin with are no longer than these
found_short : (count : ℕ) (octets : List ℕ) (found : Option Name) → name_in octets ≡ found → ((rest : List ℕ) → length (flat_map wire_of (names_in count rest)) ≤ length rest) → length (flat_map wire_of (elim found as (λ _. List Name) [ None ↦ [] | Some name ↦ name ∷ names_in count (drop (length (wire_of name)) octets) ])) ≤ length octets
found_short count octets None e rest = omega arith
found_short count octets (Some name) e rest =
    let is_present = ap length (name_in-is_present octets name e).1 in
    let back = drop (length (wire_of name)) octets in
    let split = length-append (wire_of name) back in
    let full = length-append (wire_of name) (flat_map wire_of (names_in count back)) in
    let more = rest back in
    omega arith

names_within : (count : ℕ) (octets : List ℕ) → length (flat_map wire_of (names_in count octets)) ≤ length octets
names_within zero octets = omega arith
names_within (suc count) octets = found_short count octets (name_in octets) refl (names_within count)

-- data is no longer than with its names in full
fields_short : (compress : Bool) (count : ℕ) (octets : List ℕ) (table : Table) (at : ℕ) → length (names_octets compress count octets table at).0 ≤ length octets
unfolding names_octets these
fields_short compress count octets table at =
    let names = names_in count octets in
    let size = length (flat_map wire_of names) in
    let front = each (named compress) names table at in
    let both = length-before (each (named compress) names) (these (drop size octets)) table at in
    let behind = length-drop size octets in
    let short = names_short compress names table at in
    let within = names_within count octets in
    omega arith

-- the octets in front and those behind are all
split_at_front : (front : ℕ) (octets : List ℕ) → length (take front octets) + length (drop front octets) ≡ length octets
split_at_front front octets = sym (length-append (take front octets) (drop front octets)) ∙ ap length (take-append-drop front octets)

by_short : (layout : Layout) (octets : List ℕ) (table : Table) (at : ℕ) → length (octets_by layout octets table at).0 ≤ length octets
unfolding these
by_short (Fields front names back compressed) octets table at =
    let both = length-before (these (take front octets)) (names_octets compressed names (drop front octets)) table at in
    let rest = fields_short compressed names (drop front octets) table (at + length (take front octets)) in
    let whole = split_at_front front octets in
    omega arith
by_short Strings octets table at = omega arith
by_short Opaque octets table at = omega arith

laid_short : (o : Option Layout) (octets : List ℕ) (table : Table) (at : ℕ) → length (data_laid o octets table at).0 ≤ length octets
unfolding these
laid_short None octets table at = omega arith
laid_short (Some layout) octets table at = by_short layout octets table at

data_short : (rtype : ℕ) (octets : List ℕ) (table : Table) (at : ℕ) → length (data_octets rtype octets table at).0 ≤ length octets
unfolding data_octets
data_short rtype octets table at = laid_short (layout_of rtype) octets table at

-- a record has at most 265 octets beside its data: an owner, and ten octets
record_short : (r : Record) (table : Table) (at : ℕ) → IsName r.owner → length (record_octets r table at).0 ≤ 265 + length r.rdata
unfolding record_octets named these
record_short r table at lawful =
    let owner = named true r.owner in
    let fixed = these (fixed_octets r) in
    let rest = measured (data_octets r.rtype r.rdata) in
    let one = length-before owner (before fixed rest) table at in
    let place = at + length (owner table at).0 in
    let after = (owner table at).1 in
    let two = length-before fixed rest after place in
    let three = length-measured (data_octets r.rtype r.rdata) after (place + length (fixed_octets r)) in
    let name = name_short true table r.owner in
    let short = lawful.short in
    let data_fits = data_short r.rtype r.rdata after (place + length (fixed_octets r) + 2) in
    omega arith

-- a record of at most 4,096 octets of data fits into a message of 16,384 by itself, and beside an OPT
pub one_fits : (head : Head) (opt : Option Opt) (r : Record) → IsName r.owner → length r.rdata ≤ 4096 → fits (answers head None opt (r ∷ [])) 16384 ≡ true
unfolding each these
one_fits head opt r lawful short =
    let size = length-answers head None opt (r ∷ []) in
    let both = length-before (these []) (each record_octets (r ∷ [])) [] 12 in
    let alone : length (each record_octets (r ∷ []) [] 12).0 ≡ length (record_octets r [] 12).0 = ap (λ e. length (e [] 12).0) (each-one record_octets r) in
    let most = record_short r [] 12 lawful in
    let last = opt_short opt in
    le-leb _ _ (omega arith)

-- a question whose name is a name fits by itself, and beside an OPT
pub question_fits : (head : Head) (opt : Option Opt) (q : Question) → IsName q.name → fits (answers head (Some q) opt []) 16384 ≡ true
unfolding each these
question_fits head opt q lawful =
    let size = length-answers head (Some q) opt [] in
    let both = length-before (each question_octets (q ∷ [])) (these []) [] 12 in
    let alone : length (each question_octets (q ∷ []) [] 12).0 ≡ length (question_octets q [] 12).0 = ap (λ e. length (e [] 12).0) (each-one question_octets q) in
    let most = length-question q [] 12 lawful in
    let last = opt_short opt in
    le-leb _ _ (omega arith)
