-- What a server has on its disk: a zone text, and the journal of the updates that it accepted since (own).
use Rattle.std.specs.Prelude.{◌≡◌, ℕ, List, [], All, map, Ok}
use Rattle.dns_rdata.specs.Record.{Record}
use Rattle.dns_message.specs.declared.update.Update.{Update}
use Rattle.zone_tree.specs.Version.{zone_serial}
use Rattle.master_file.specs.ZoneText.{zone_of_text}
use Rattle.journal.specs.declared.heads.Head.{Head}
use Rattle.journal.specs.Batch.{Messages, batch_of, IsRequest}
use Rattle.journal.specs.Frame.{Fit}
use Rattle.journal.specs.Head.{IsHead, IsText}
use Rattle.journal.specs.Recovered.{updates_in}
use Rattle.dns_engine.specs.Replayed.{EachChanges}
use Rattle.store_recovery.specs.Replay.{AreRead}

-- a zone text and batches under a head that names the text: the text is a zone, and their updates are accepted in it, one after another, each of
-- which changes the zone after those before it
pub record IsStore (text : List ℕ) (head : Head) (batches : List (List Messages)) (zone : List Record) (updates : List Update) : Type 0 where
  pub is_head : IsHead head
  pub same_text : IsText head.text text
  pub is_zone : zone_of_text [] text ≡ Ok zone
  pub serial : zone_serial zone ≡ head.serial
  pub short : All (All IsRequest) batches
  pub fit : Fit 0 (map batch_of batches)
  pub read : AreRead (updates_in batches) updates
  pub taken : EachChanges zone updates
