-- How an update is read (RFC 2136, 2): its sections are those of every message, under names of their own. The zone section
-- stands where the questions stand, the prerequisites in the answer section, and the updates in the authority section.
use Rattle.std.specs.Prelude.{ℕ, zero, suc, Bool, ◌||◌, ◌&&◌, not, ◌==◌, List, [], ◌∷◌, Option, Some, None, option_map, option_and_then, is_some, Result, Ok, Err, if◌then◌else◌}
use Rattle.dns_name.specs.Name.{fold_name}
use Rattle.dns_rdata.specs.Data.{data_of}
use Rattle.dns_rdata.specs.Layout.{layout_of}
use Rattle.dns_rdata.specs.Numbers.{class_IN, class_NONE}
use Rattle.dns_rdata.specs.Raw.{RawRecord}
use Rattle.dns_message.specs.Expanded.{octets_from, expanded_data}
use Rattle.dns_message.specs.Message.{Entry, number_at}
use Rattle.dns_message.specs.Opt.{opt_said}
use Rattle.dns_message.specs.Reads.{question_at, record_at, records_at}
use Rattle.dns_message.specs.declared.edns.Edns.{Edns}
use Rattle.dns_message.specs.declared.edns.OptFault.{OptFault}
use Rattle.dns_message.specs.declared.query.Head.{Head}
use Rattle.dns_message.specs.declared.query.Question.{Question}
use Rattle.dns_message.specs.declared.update.Section.{Section}
use Rattle.dns_message.specs.declared.update.Section.TheVariants.{Prerequisites, Updates}
use Rattle.dns_message.specs.declared.update.Update.{Update}
use Rattle.dns_message.specs.declared.update.ZoneEntry.{ZoneEntry}

-- whether the data of a record of an update are read: those of class IN and of class NONE are, of each type but a metatype;
-- but a prerequisite of class NONE may have none, and says so that a set doesn't exist (RFC 2136, 2.4 and 2.5)
abbrev pub is_looked_at : Section → Entry → Bool
is_looked_at Prerequisites entry =
    is_some (layout_of entry.rtype) && (entry.class == class_IN || (entry.class == class_NONE && not (entry.size == 0)))
is_looked_at Updates entry = is_some (layout_of entry.rtype) && (entry.class == class_IN || entry.class == class_NONE)

-- the octets of a record's data: where they are read, those that they spell, with the names in them in full and in lower
-- case, and none where they haven't their type's form; else as they stand (RFC 1035, 3.3 and 4.1.4; RFC 3597, 4; RFC 4343, 3)
abbrev pub octets_of : Section → List ℕ → Entry → Option (List ℕ)
octets_of section msg entry =
    if is_looked_at section entry then option_and_then (data_of entry.rtype) (expanded_data msg entry)
    else Some (octets_from msg entry.at entry.size)

-- a record with these octets as its data, and its owner in lower case (RFC 4343, 3)
abbrev pub raw_with : Entry → List ℕ → RawRecord
raw_with entry octets = record { owner = fold_name entry.owner; rtype = entry.rtype; class = entry.class; ttl = entry.ttl; octets = octets }

-- the record of a section at a position of a message, and the position after it; none where it can't be read, or its data
-- haven't their type's form (RFC 1035, 4.1.3; RFC 2136, 2.4 and 2.5)
abbrev pub raw_at : Section → List ℕ → ℕ → Option (RawRecord × ℕ)
raw_at section msg at =
    option_and_then (λ e. option_map (λ octets. (raw_with e.0 octets, e.1)) (octets_of section msg e.0)) (record_at msg at)

-- so many of them, one after another from a position on, and the position after the last; none where one can't be read
unfoldable pub raws_at : Section → ℕ → List ℕ → ℕ → Option (List RawRecord × ℕ)
raws_at section zero msg at = Some ([], at)
raws_at section (suc count) msg at =
    option_and_then (λ r. option_map (λ rest. (r.0 ∷ rest.0, rest.1)) (raws_at section count msg r.1)) (raw_at section msg at)

-- the entry of a zone section, of whatever type, which is judged as its name and its class are, and the position after it
-- (RFC 2136, 2.3 and 3.1.1)
abbrev pub zone_entry : Question × ℕ → ZoneEntry × ℕ
zone_entry q = (record { name = q.0.name; rtype = q.0.rtype; class = q.0.class }, q.1)

-- the zone section: one entry and no other (RFC 2136, 2.3)
abbrev pub zone_at : List ℕ → Option (ZoneEntry × ℕ)
zone_at msg = if number_at msg 4 == 1 then option_map zone_entry (question_at msg 12) else None

-- the entry of a zone section as a question, which has the same form (RFC 2136, 2.3)
abbrev pub zone_question : ZoneEntry → Question
zone_question zone = record { name = zone.name; rtype = zone.rtype; class = zone.class }

-- an update of these sections, where the OPT in its additional section is obeyed or there is none; else its zone entry, and what
-- is wrong with the OPT (RFC 6891, 7)
abbrev pub update_made : Head → ZoneEntry → List RawRecord → List RawRecord → Result (Option Edns) OptFault → Result Update (Question × OptFault)
update_made head zone prerequisites updates (Ok edns) = Ok (record { head = head; edns = edns; zone = zone; prerequisites = prerequisites; updates = updates })
update_made head zone prerequisites updates (Err fault) = Err (zone_question zone, fault)

-- what is read after the header of an update, by its counts ZOCOUNT, PRCOUNT, UPCOUNT and ADCOUNT; octets after these sections
-- are ignored (RFC 2136, 2; own)
unfoldable pub update_in : Head → List ℕ → Option (Result Update (Question × OptFault))
update_in head msg =
    option_and_then (λ zone.
    option_and_then (λ prerequisites.
    option_and_then (λ updates.
    option_map (λ additional. update_made head zone.0 prerequisites.0 updates.0 (opt_said additional.0))
    (records_at (number_at msg 10) msg updates.1))
    (raws_at Updates (number_at msg 8) msg prerequisites.1))
    (raws_at Prerequisites (number_at msg 6) msg zone.1))
    (zone_at msg)
