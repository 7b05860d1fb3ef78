-- The octets of an update as messages, one or more, which have its records between them (RFC 1035, 4.1; RFC 2136, 2).
use Rattle.std.specs.Prelude.{◌≡◌, ◌≤◌, ◌<◌, ◌⊎◌, ℕ, List, [], ◌∷◌, ◌++◌, length, map, sum_by, flat_map, All, Contains}
use Rattle.dns_name.specs.Name.{Name}
use Rattle.dns_rdata.specs.Raw.{RawRecord}
use Rattle.dns_message.specs.declared.update.Update.{Update}
use Rattle.dns_message.specs.declared.update.ZoneEntry.{ZoneEntry}
use Rattle.zone_change.specs.Message.{most_octets, head_octets, record_octets, zone_octets, message_octets}

-- a message with these prerequisites and these records, in the form of an update's message
abbrev pub part_octets : ZoneEntry → List RawRecord → List RawRecord → List ℕ
part_octets zone prerequisites records =
    head_octets (length prerequisites) (length records)
    ++ (zone_octets zone ++ (flat_map (record_octets zone.name) prerequisites ++ flat_map (record_octets zone.name) records))

-- messages are those of an update: the first has its prerequisites and the first of its records, the others have the rest, in order;
-- each is as long as a message may be, and there are more than one only where one can't have all (own)
pub record AreMessages (update : Update) (messages : List (List ℕ)) : Type 0 where
  pub first : List RawRecord
  pub parts : List (List RawRecord)
  pub all : first ++ flat_map (λ part. part) parts ≡ update.updates
  pub spelt : messages ≡ part_octets update.zone update.prerequisites first ∷ map (part_octets update.zone []) parts
  pub short : All (λ message. length message ≤ most_octets) messages
  pub some : All (λ part. 0 < length part) parts
  pub one : length (message_octets update) ≤ most_octets → parts ≡ []

-- a record alone has more octets than a message may have
abbrev pub HasLongRecord : ZoneEntry → List RawRecord → Type 0
HasLongRecord zone records = (raw : RawRecord) × Contains records raw × (most_octets < length (part_octets zone [] (raw ∷ [])))

-- or the prerequisites have
abbrev pub IsTooLong : Update → Type 0
IsTooLong update = (most_octets < length (part_octets update.zone update.prerequisites [])) ⊎ HasLongRecord update.zone update.updates

-- how many octets records have in a message
abbrev pub octets_in : Name → List RawRecord → ℕ
octets_in zone records = sum_by (λ r. length (record_octets zone r)) records
