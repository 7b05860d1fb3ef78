-- The update that messages are read as, as a value (RFC 2136, 2): so a request has one proof that it is read so.
use Rattle.std.specs.Prelude.{List, [], ◌∷◌, Option, None, Some, option_and_then, option_map}
use Rattle.dns_message.specs.Request.{reads}
use Rattle.dns_message.specs.declared.query.Parsed.{Parsed}
use Rattle.dns_message.specs.declared.query.Parsed.TheVariants.{Update as Says}
use Rattle.dns_message.specs.declared.update.Update.{Update}
use Rattle.journal.specs.Batch.{Messages}
use Rattle.update_messages.specs.Joined.{joined}

-- the update that is read, if it is one
abbrev pub update_said : Parsed → Option Update
update_said (Says update) = Some update
update_said _ = None

-- an update before others
abbrev pub part_before : Option (List Update) → Update → Option (List Update)
part_before parts part = option_map (λ others. part ∷ others) parts

-- the updates that messages are read as, one each, if each is one
abbrev pub parts_in : Messages → Option (List Update)
parts_in [] = Some []
parts_in (message ∷ messages) = option_and_then (part_before (parts_in messages)) (update_said (reads message))

-- the update that they are read as
abbrev pub read_as : Messages → Option Update
read_as messages = option_and_then joined (parts_in messages)
