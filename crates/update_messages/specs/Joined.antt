-- An update in one message or more (RFC 2136, 2; own).
use Rattle.std.specs.Prelude.{◌≡◌, List, [], ◌∷◌, ◌++◌, Option, None, Some, flat_map}
use Rattle.dns_message.specs.Request.{reads}
use Rattle.dns_message.specs.declared.query.Parsed.TheVariants.{Update as Asks}
use Rattle.dns_message.specs.declared.update.Update.{Update}
use Rattle.journal.specs.Batch.{Messages}

-- the update whose parts these are: the first of them, with the records of all
abbrev pub joined : List Update → Option Update
joined [] = None
joined (first ∷ more) = Some (record first { updates = first.updates ++ flat_map (λ part. part.updates) more })

-- messages are read as these updates, one each (RFC 2136, 2)
abbrev pub AreParts : Messages → List Update → Type 0
AreParts [] [] = Unit {0}
AreParts (message ∷ messages) (part ∷ parts) = (reads message ≡ Asks part) × AreParts messages parts
AreParts _ _ = ⊥

-- a request's messages are read as this update: its parts, one in each message
pub record IsRead (messages : Messages) (update : Update) : Type 0 where
  pub parts : List Update
  pub are_parts : AreParts messages parts
  pub is : joined parts ≡ Some update
