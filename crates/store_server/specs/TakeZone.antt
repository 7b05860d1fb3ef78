-- The journal of a store that is changed to the zone of a zone file (own).
use Rattle.std.specs.Prelude.{◌≡◌, ℕ, List, [], ◌∷◌, ◌++◌, map}
use Rattle.dns_rdata.specs.Record.{Record}
use Rattle.journal.specs.declared.heads.Head.{Head}
use Rattle.journal.specs.Batch.{Messages, batch_of}
use Rattle.journal.specs.Frame.{Fit}
use Rattle.journal.specs.Head.{IsHead, IsText}
use Rattle.journal.specs.Log.{octets_of}
use Rattle.journal.specs.Recovered.{IsOpened}
use Rattle.zone_tree.specs.Version.{zone_serial}
use Rattle.zone_change.specs.Change.{aimed}
use Rattle.update_messages.specs.declared.prepared.PreparedChange.{PreparedChange}
use Rattle.update_messages.specs.Prepared.{IsPrepared}
use Rattle.store_recovery.specs.declared.start.Recovery.{Recovery}
use Rattle.store_server.specs.declared.take_zone.TakenZone.{TakenZone}
use Rattle.store_server.specs.declared.take_zone.TakenZone.TheVariants.{Unchanged, Changed}

-- a head is another one, with other random octets, and by it the store was created from this text
pub record IsTakenHead (before : Head) (given random : List ℕ) (after : Head) : Type 0 where
  pub number : after.number ≡ before.number
  pub text : after.text ≡ before.text
  pub serial : after.serial ≡ before.serial
  pub salted : after.random ≡ random
  pub from : IsText after.origin given
  pub is_head : IsHead after

-- the batches by which a zone is changed to another one, and what is said of them: none where a change leads nowhere else, with the zone's serial; and else one, of the
-- messages of that update, with what it changes
abbrev pub IsTakenBy : List Record → List Record → TakenZone → List (List Messages) → Type 0
IsTakenBy last zone (Unchanged serial) batches = (aimed last zone ≡ last) × (serial.0 ≡ zone_serial last) × (batches ≡ [])
IsTakenBy last zone (Changed summary) batches =
    (prepared : PreparedChange) × IsPrepared last zone prepared × (summary ≡ prepared.summary) × (batches ≡ (prepared.messages ∷ []) ∷ [])

-- octets are those of a journal with such a head, with the bodies of the journal that a store was recovered from, and after them those of the change to this zone
pub record IsTakenJournal (journal : List ℕ) (start : Recovery) (zone : List Record) (given random : List ℕ) (taken : TakenZone) (octets : List ℕ) : Type 0 where
  pub head : Head
  pub under : IsTakenHead start.head given random head
  pub bodies : List (List ℕ)
  pub rest : List ℕ
  pub opened : IsOpened journal start.head bodies rest
  pub more : List (List Messages)
  pub by : IsTakenBy start.newest.last.zone zone taken more
  pub fit : Fit 0 (bodies ++ map batch_of more)
  pub spelt : octets ≡ octets_of head (bodies ++ map batch_of more)
