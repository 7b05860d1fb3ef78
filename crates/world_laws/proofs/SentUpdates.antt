-- What a request of octets says that is an update: each of its records has a name as its owner, and octets.
use Rattle.std.proofs.Common.{◌≡◌, refl, sym, ap, subst, ℕ, zero, suc, ◌+◌, ◌<◌, Bool, true, false, inl, inr, List, [], ◌∷◌, ◌++◌, length, take, drop, arith, Option, Some, None, All}
use Rattle.dns_rdata.specs.declared.numbers.Rcode.TheVariants.{NotImp}
use Rattle.std.specs.Prelude.{◌==◌, ◌||◌, nat_lt, nat_le, option_and_then, option_map, if◌then◌else◌, Result, Ok, Err}
use Rattle.std.specs.List.{flat_map}
use Rattle.std.proofs.lemmas.Bool.{cases_Bool}
use Rattle.std.proofs.lemmas.List.Elements.{All-nil, All-cons, All-head, All-tail, All-take, All-drop, All-append}
use Rattle.dns_name.proofs.LabelLemmas.{AreOctets-fold}
use Rattle.dns_name.proofs.LawLemmas.{fold-IsName}
use Rattle.dns_name.specs.Name.{Name, IsLabel, IsName, wire_of}
use Rattle.dns_rdata.proofs.DataLemmas.{data_octets}
use Rattle.dns_rdata.specs.Data.{data_of}
use Rattle.dns_rdata.specs.Layout.{layout_of}
use Rattle.dns_rdata.specs.Raw.{RawRecord}
use Rattle.dns_rdata.specs.declared.layout.Layout.{Layout}
use Rattle.dns_rdata.specs.declared.layout.Layout.TheVariants.{Fields, Strings, Opaque}
use Rattle.dns_message.specs.Expanded.{names_at, octets_from, expanded_by, expanded_data}
use Rattle.dns_message.specs.Message.{Entry, opcode_QUERY, opcode_UPDATE, number_at}
use Rattle.dns_message.specs.Opt.{opt_said}
use Rattle.dns_message.specs.Reads.{opcode_of, header_of, is_reply, body_in, seen, record_of, record_at, records_at}
use Rattle.dns_message.specs.Request.{query_of, update_of, reads}
use Rattle.dns_message.specs.Updates.{is_looked_at, octets_of, raw_with, raw_at, raws_at, zone_at, update_made, update_in}
use Rattle.dns_message.specs.declared.query.Head.{Head}
use Rattle.dns_message.specs.declared.query.Parsed.{Parsed}
use Rattle.dns_message.specs.declared.query.Parsed.TheVariants as parsed
use Rattle.dns_message.specs.declared.update.Update.{Update}
use Rattle.dns_message.specs.declared.update.ZoneEntry.{ZoneEntry}
use Rattle.update_core.specs.Act.{IsSent}
use Rattle.wire_names.proofs.GrammarLemmas.{spelt_labels, name_at_spelt}
use Rattle.wire_names.specs.NameAt.{name_at}
use Rattle.wire_names.specs.Spells.{Spells}
use Rattle.wire_names.specs.Spells.Spells.{closing, label, pointer}
use Rattle.wire_names.specs.declared.part.NameReadFault.{NameReadFault}

abbrev Octets : List ℕ → Type 0
Octets octets = All (λ octet. octet < 256) octets

-- some octets of octets
part_octets : (msg : List ℕ) (n m : ℕ) → Octets msg → Octets (take n (drop m msg))
part_octets msg n m h = All-take (λ octet. octet < 256) n (drop m msg) (All-drop (λ octet. octet < 256) m msg h)

-- a name that octets spell is of octets
spelt_octets : (msg : List ℕ) (run at next : ℕ) (name : Name) → Octets msg → Spells msg run at name next → All (All (λ octet. octet < 256)) name
spelt_octets msg run at next _ h (closing p e) = All-nil (All (λ octet. octet < 256))
spelt_octets msg run at next _ h (label {n = n} {l = l} {ls = ls} p e s) =
    All-cons (All (λ octet. octet < 256)) l ls (subst Octets (sym e) (part_octets msg n (at + 1) h)) (spelt_octets msg run (at + 1 + n) next ls h s)
spelt_octets msg run at next name h (pointer {target = a} {beyond = x} p g s e) = spelt_octets msg a a x name h s

record IsRead (name : Name) : Type 0 where
  lawful : IsName name
  octets : All (All (λ octet. octet < 256)) name

name_read : (msg : List ℕ) (at next : ℕ) (name : Name) → Octets msg → name_at msg at ≡ Ok (name, next) → IsRead name
name_read msg at next name h e =
    let s = (name_at_spelt msg at next name).0 e in
    record { lawful = record { labels = spelt_labels msg at at next name s.0; short = s.1 }; octets = spelt_octets msg at at next name h s.0 }

-- a name's octets on the wire
wire_octets : (name : Name) → All IsLabel name → All (All (λ octet. octet < 256)) name → Octets (wire_of name)
wire_octets [] is h = All-cons (λ octet. octet < 256) 0 [] (omega arith) (All-nil (λ octet. octet < 256))
wire_octets (l ∷ name) is h =
    let short = (All-head IsLabel l name is).short in
    All-cons (λ octet. octet < 256) (length l) (l ++ wire_of name) (omega (arith, short))
    (All-append (λ octet. octet < 256) l (wire_of name) (All-head (All (λ octet. octet < 256)) l name h)
    (wire_octets name (All-tail IsLabel l name is) (All-tail (All (λ octet. octet < 256)) l name h)))

-- names in data
record AreRead (names : List Name) : Type 0 where
  octets : Octets (flat_map wire_of names)

names_by : (msg : List ℕ) (count at : ℕ) (o : Result (Name × ℕ) NameReadFault) (names : List Name) (next : ℕ) → Octets msg → name_at msg at ≡ o → ((at : ℕ) (names : List Name) (next : ℕ) → names_at count msg at ≡ Some (names, next) → AreRead names)
    → (elim o as (λ _. Option (List Name × ℕ)) [ Err fault ↦ None | Ok r ↦ option_map {U = List Name × ℕ} (λ rest. (r.0 ∷ rest.0, rest.1)) (names_at count msg r.1) ]) ≡ Some (names, next) → AreRead names
names_by msg count at (Err fault) names next h e more is = absurd (let wrong = is in cc)
names_by msg count at (Ok r) names next h e more is = names_on msg count r (names_at count msg r.1) names next h (name_read msg at r.1 r.0 h e) refl (λ ns n f. more r.1 ns n f) is
  where
    names_on : (msg : List ℕ) (count : ℕ) (r : Name × ℕ) (o : Option (List Name × ℕ)) (names : List Name) (next : ℕ) → Octets msg → IsRead r.0 → names_at count msg r.1 ≡ o → ((ns : List Name) (n : ℕ) → names_at count msg r.1 ≡ Some (ns, n) → AreRead ns)
        → option_map {U = List Name × ℕ} (λ rest. (r.0 ∷ rest.0, rest.1)) o ≡ Some (names, next) → AreRead names
    names_on msg count r None names next h read e more is = absurd (let wrong = is in cc)
    names_on msg count r (Some rest) names next h read e more is =
        let pair : (r.0 ∷ rest.0, rest.1) ≡ (names, next) = (let f = is in cc) in
        let same : r.0 ∷ rest.0 ≡ names = ap (λ (p : List Name × ℕ). p.0) pair in
        subst AreRead same (record { octets = All-append (λ octet. octet < 256) (wire_of r.0) (flat_map wire_of rest.0) (wire_octets r.0 read.lawful.labels read.octets) (more rest.0 rest.1 e).octets })

names_read : (count : ℕ) (msg : List ℕ) (at : ℕ) (names : List Name) (next : ℕ) → Octets msg → names_at count msg at ≡ Some (names, next) → AreRead names
unfolding names_at
names_read zero msg at names next h is =
    let pair : ([], at) ≡ (names, next) = (let f = is in cc) in
    subst AreRead (ap (λ (p : List Name × ℕ). p.0) pair) (record { octets = All-nil (λ octet. octet < 256) })
names_read (suc count) msg at names next h is = names_by msg count at (name_at msg at) names next h refl (λ at names next f. names_read count msg at names next h f) is

-- data in full
fields_octets : (msg : List ℕ) (front back at size : ℕ) (o : Option (List Name × ℕ)) (octets : List ℕ) → Octets msg → ((names : List Name) (next : ℕ) → o ≡ Some (names, next) → AreRead names)
    → option_and_then (λ r. if r.1 + back == at + size then Some (octets_from msg at front ++ flat_map wire_of r.0 ++ octets_from msg r.1 back) else None) o ≡ Some octets → Octets octets
fields_octets msg front back at size None octets h more is = absurd (let wrong = is in cc)
fields_octets msg front back at size (Some r) octets h more is =
    elim (cases_Bool (r.1 + back == at + size)) [
      | inl ends ↦ (
          let f = rw ends at is in
          let same : octets_from msg at front ++ flat_map wire_of r.0 ++ octets_from msg r.1 back ≡ octets = (let g = f in cc) in
          subst Octets same (All-append (λ octet. octet < 256) (octets_from msg at front ++ flat_map wire_of r.0) (octets_from msg r.1 back)
          (All-append (λ octet. octet < 256) (octets_from msg at front) (flat_map wire_of r.0) (part_octets msg front at h) (more r.0 r.1 refl).octets) (part_octets msg back r.1 h))
          )
      | inr wrong ↦ (let f = rw wrong at is in absurd (let no = f in cc))
    ]

layout_octets : (layout : Layout) (msg : List ℕ) (at size : ℕ) (octets : List ℕ) → Octets msg → expanded_by layout msg at size ≡ Some octets → Octets octets
layout_octets (Fields front names back compressed) msg at size octets h is = fields_octets msg front back at size (names_at names msg (at + front)) octets h (λ ns next e. names_read names msg (at + front) ns next h e) is
layout_octets Strings msg at size octets h is = let same : octets_from msg at size ≡ octets = (let f = is in cc) in subst Octets same (part_octets msg size at h)
layout_octets Opaque msg at size octets h is = let same : octets_from msg at size ≡ octets = (let f = is in cc) in subst Octets same (part_octets msg size at h)

expanded_octets_by : (o : Option Layout) (msg : List ℕ) (e : Entry) (octets : List ℕ) → Octets msg → (elim o as (λ _. Option (List ℕ)) [ None ↦ Some (octets_from msg e.at e.size) | Some layout ↦ expanded_by layout msg e.at e.size ]) ≡ Some octets → Octets octets
expanded_octets_by None msg e octets h is = let same : octets_from msg e.at e.size ≡ octets = (let f = is in cc) in subst Octets same (part_octets msg e.size e.at h)
expanded_octets_by (Some layout) msg e octets h is = layout_octets layout msg e.at e.size octets h is

expanded_octets : (msg : List ℕ) (e : Entry) (octets : List ℕ) → Octets msg → expanded_data msg e ≡ Some octets → Octets octets
unfolding expanded_data
expanded_octets msg e octets h is = expanded_octets_by (layout_of e.rtype) msg e octets h is

then_octets : (rtype : ℕ) (o : Option (List ℕ)) (octets : List ℕ) → ((own : List ℕ) → o ≡ Some own → Octets own) → option_and_then (data_of rtype) o ≡ Some octets → Octets octets
then_octets rtype None octets h is = absurd (let wrong = is in cc)
then_octets rtype (Some own) octets h is = data_octets rtype own octets is (h own refl)

data_sent : (section : _) (msg : List ℕ) (e : Entry) (octets : List ℕ) → Octets msg → octets_of section msg e ≡ Some octets → Octets octets
data_sent section msg e octets h is =
    elim (cases_Bool (is_looked_at section e)) [
      | inl looked ↦ then_octets e.rtype (expanded_data msg e) octets (λ own f. expanded_octets msg e own h f) (rw looked at is)
      | inr not_looked ↦ (let f = rw not_looked at is in let same : octets_from msg e.at e.size ≡ octets = (let g = f in cc) in subst Octets same (part_octets msg e.size e.at h))
    ]

-- the owner of a record is a name that was read
owner_by : (msg : List ℕ) (at : ℕ) (o : Result (Name × ℕ) NameReadFault) (it : Entry × ℕ) → Octets msg → name_at msg at ≡ o → record_of msg o ≡ Some it → IsRead it.0.owner
owner_by msg at (Err fault) it h e is = absurd (let wrong = is in cc)
owner_by msg at (Ok r) it h e is =
    elim (cases_Bool (nat_le (r.1 + 10 + number_at msg (r.1 + 8)) (length msg))) [
      | inl within ↦ (
          let f = rw within at is in
          let owner : r.0 ≡ it.0.owner = owner_is _ it f in
          subst IsRead owner (name_read msg at r.1 r.0 h e)
          )
      | inr beyond ↦ (let f = rw beyond at is in absurd (let wrong = f in cc))
    ]
  where
    owner_is : (made it : Entry × ℕ) → Some made ≡ Some it → made.0.owner ≡ it.0.owner
    owner_is made it f = let same : made ≡ it = (let g = f in cc) in ap (λ (p : Entry × ℕ). p.0.owner) same

raw_sent_by : (section : _) (msg : List ℕ) (o : Option (Entry × ℕ)) (it : RawRecord × ℕ) → Octets msg → ((e : Entry × ℕ) → o ≡ Some e → IsRead e.0.owner) → option_and_then (λ e. option_map {U = RawRecord × ℕ} (λ octets. (raw_with e.0 octets, e.1)) (octets_of section msg e.0)) o ≡ Some it → IsSent it.0
raw_sent_by section msg None it h read is = absurd (let wrong = is in cc)
raw_sent_by section msg (Some e) it h read is = raw_on section msg e (octets_of section msg e.0) it h (read e refl) refl is
  where
    raw_on : (section : _) (msg : List ℕ) (e : Entry × ℕ) (o : Option (List ℕ)) (it : RawRecord × ℕ) → Octets msg → IsRead e.0.owner → octets_of section msg e.0 ≡ o → option_map {U = RawRecord × ℕ} (λ octets. (raw_with e.0 octets, e.1)) o ≡ Some it → IsSent it.0
    raw_on section msg e None it h read f is = absurd (let wrong = is in cc)
    raw_on section msg e (Some octets) it h read f is =
        let pair : (raw_with e.0 octets, e.1) ≡ it = (let g = is in cc) in
        let same : raw_with e.0 octets ≡ it.0 = ap (λ (p : RawRecord × ℕ). p.0) pair in
        subst IsSent same (record { name = (fold-IsName e.0.owner read.lawful).0; owner_octets = AreOctets-fold e.0.owner read.octets; octets = data_sent section msg e.0 octets h f })

raw_sent : (section : _) (msg : List ℕ) (at : ℕ) (it : RawRecord × ℕ) → Octets msg → raw_at section msg at ≡ Some it → IsSent it.0
raw_sent section msg at it h is = raw_sent_by section msg (record_at msg at) it h (λ e f. owner_by msg at (name_at msg at) e h refl f) is

raws_by : (section : _) (count : ℕ) (msg : List ℕ) (o : Option (RawRecord × ℕ)) (it : List RawRecord × ℕ) → ((r : RawRecord × ℕ) → o ≡ Some r → IsSent r.0) → ((at : ℕ) (it : List RawRecord × ℕ) → raws_at section count msg at ≡ Some it → All IsSent it.0)
    → option_and_then (λ r. option_map {U = List RawRecord × ℕ} (λ rest. (r.0 ∷ rest.0, rest.1)) (raws_at section count msg r.1)) o ≡ Some it → All IsSent it.0
raws_by section count msg None it one more is = absurd (let wrong = is in cc)
raws_by section count msg (Some r) it one more is = raws_on r (raws_at section count msg r.1) it (one r refl) (λ rest f. more r.1 rest f) is
  where
    raws_on : (r : RawRecord × ℕ) (o : Option (List RawRecord × ℕ)) (it : List RawRecord × ℕ) → IsSent r.0 → ((rest : List RawRecord × ℕ) → o ≡ Some rest → All IsSent rest.0) → option_map {U = List RawRecord × ℕ} (λ rest. (r.0 ∷ rest.0, rest.1)) o ≡ Some it → All IsSent it.0
    raws_on r None it one more is = absurd (let wrong = is in cc)
    raws_on r (Some rest) it one more is =
        let pair : (r.0 ∷ rest.0, rest.1) ≡ it = (let g = is in cc) in
        subst (All IsSent) (ap (λ (p : List RawRecord × ℕ). p.0) pair) (All-cons IsSent r.0 rest.0 one (more rest refl))

raws_sent : (section : _) (count : ℕ) (msg : List ℕ) (at : ℕ) (it : List RawRecord × ℕ) → Octets msg → raws_at section count msg at ≡ Some it → All IsSent it.0
unfolding raws_at
raws_sent section zero msg at it h is = let pair : ([], at) ≡ it = (let f = is in cc) in subst (All IsSent) (ap (λ (p : List RawRecord × ℕ). p.0) pair) (All-nil IsSent)
raws_sent section (suc count) msg at it h is = raws_by section count msg (raw_at section msg at) it (λ r f. raw_sent section msg at r h f) (λ at it f. raws_sent section count msg at it h f) is

-- an update by its sections
made_sent : (head : Head) (zone : ZoneEntry) (prerequisites updates : List RawRecord) (said : _) (update : Update) → update_made head zone prerequisites updates said ≡ Ok update → All IsSent updates → All IsSent update.updates
made_sent head zone prerequisites updates (Ok edns) update is all =
    let same : record { head = head; edns = edns; zone = zone; prerequisites = prerequisites; updates = updates } ≡ update = (let f = is in cc) in
    subst (λ (u : Update). All IsSent u.updates) same all
made_sent head zone prerequisites updates (Err fault) update is all = absurd (let wrong = is in cc)

additional_sent : (head : Head) (zone : ZoneEntry) (prerequisites updates : List RawRecord) (o : Option (List Entry × ℕ)) (update : Update) → option_map (λ additional. update_made head zone prerequisites updates (opt_said additional.0)) o ≡ Some (Ok update) → All IsSent updates → All IsSent update.updates
additional_sent head zone prerequisites updates None update is all = absurd (let wrong = is in cc)
additional_sent head zone prerequisites updates (Some additional) update is all =
    let made : update_made head zone prerequisites updates (opt_said additional.0) ≡ Ok update = (let f = is in cc) in
    made_sent head zone prerequisites updates (opt_said additional.0) update made all

updates_sent : (head : Head) (msg : List ℕ) (zone : ZoneEntry) (prerequisites : List RawRecord) (o : Option (List RawRecord × ℕ)) (update : Update) → ((it : List RawRecord × ℕ) → o ≡ Some it → All IsSent it.0)
    → option_and_then (λ updates. option_map (λ additional. update_made head zone prerequisites updates.0 (opt_said additional.0)) (records_at (number_at msg 10) msg updates.1)) o ≡ Some (Ok update) → All IsSent update.updates
updates_sent head msg zone prerequisites None update all is = absurd (let wrong = is in cc)
updates_sent head msg zone prerequisites (Some updates) update all is = additional_sent head zone prerequisites updates.0 (records_at (number_at msg 10) msg updates.1) update is (all updates refl)

prerequisites_sent : (two : _) (head : Head) (msg : List ℕ) (zone : ZoneEntry) (o : Option (List RawRecord × ℕ)) (update : Update) → Octets msg
    → option_and_then (λ prerequisites. option_and_then (λ updates. option_map (λ additional. update_made head zone prerequisites.0 updates.0 (opt_said additional.0)) (records_at (number_at msg 10) msg updates.1)) (raws_at two (number_at msg 8) msg prerequisites.1)) o ≡ Some (Ok update)
    → All IsSent update.updates
prerequisites_sent two head msg zone None update h is = absurd (let wrong = is in cc)
prerequisites_sent two head msg zone (Some before) update h is = updates_sent head msg zone before.0 (raws_at two (number_at msg 8) msg before.1) update (λ it f. raws_sent two (number_at msg 8) msg before.1 it h f) is

zone_sent : (one two : _) (head : Head) (msg : List ℕ) (o : Option (ZoneEntry × ℕ)) (update : Update) → Octets msg
    → option_and_then (λ zone. option_and_then (λ prerequisites. option_and_then (λ updates. option_map (λ additional. update_made head zone.0 prerequisites.0 updates.0 (opt_said additional.0)) (records_at (number_at msg 10) msg updates.1)) (raws_at two (number_at msg 8) msg prerequisites.1)) (raws_at one (number_at msg 6) msg zone.1)) o ≡ Some (Ok update)
    → All IsSent update.updates
zone_sent one two head msg None update h is = absurd (let wrong = is in cc)
zone_sent one two head msg (Some zone) update h is = prerequisites_sent two head msg zone.0 (raws_at one (number_at msg 6) msg zone.1) update h is

update_sent : (head : Head) (msg : List ℕ) (update : Update) → Octets msg → update_in head msg ≡ Some (Ok update) → All IsSent update.updates
unfolding update_in
update_sent head msg update h is = zone_sent _ _ head msg (zone_at msg) update h is

query_is_none : (head : Head) (o : _) (update : Update) → query_of head o ≡ parsed.Update update → ⊥
query_is_none head None update is = let wrong = is in cc
query_is_none head (Some (question, serial, Ok edns)) update is = let wrong = is in cc
query_is_none head (Some (question, serial, Err fault)) update is = let wrong = is in cc

update_is : (head : Head) (o : _) (update : Update) → update_of head o ≡ parsed.Update update → o ≡ Some (Ok update)
update_is head None update is = absurd (let wrong = is in cc)
update_is head (Some (Ok other)) update is = let same : other ≡ update = (let f = is in cc) in ap (λ (u : Update). Some (Ok u)) same
update_is head (Some (Err bad)) update is = absurd (let wrong = is in cc)

by_tests : (a b c : Bool) (head : Head) (asked said : Parsed) (update : Update) → (asked ≡ parsed.Update update → ⊥) → (if a then parsed.Silent else if b then asked else if c then said else parsed.Fault head NotImp) ≡ parsed.Update update → said ≡ parsed.Update update
by_tests true b c head asked said update none is = absurd (let wrong = is in cc)
by_tests false true c head asked said update none is = absurd (none is)
by_tests false false true head asked said update none is = is
by_tests false false false head asked said update none is = absurd (let wrong = is in cc)

-- an update that is read of octets
pub reads_sent : (msg : List ℕ) (update : Update) → Octets msg → reads msg ≡ parsed.Update update → All IsSent update.updates
reads_sent msg update h is =
    update_sent (header_of msg) msg update h (update_is (header_of msg) (update_in (header_of msg) msg) update
    (by_tests (nat_lt (length msg) 12 || is_reply msg) (opcode_of msg == opcode_QUERY) (opcode_of msg == opcode_UPDATE) (header_of msg) (query_of (header_of msg) (option_and_then (seen msg) (body_in msg))) (update_of (header_of msg) (update_in (header_of msg) msg)) update
    (query_is_none (header_of msg) (option_and_then (seen msg) (body_in msg)) update) is))
