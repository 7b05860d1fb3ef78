-- What the updates of a store changed, as text (own).
use Rattle.journal.specs.Batch.{Messages}
use Rattle.std.specs.Prelude.{◌≡◌, ℕ, List, [], ◌∷◌, ◌++◌, codes, decimal, length, unwrap_or}
use Rattle.dns_rdata.specs.Record.{Record}
use Rattle.dns_message.specs.declared.update.Update.{Update}
use Rattle.zone_tree.specs.Change.{left_out}
use Rattle.zone_tree.specs.Version.{zone_serial}
use Rattle.update_core.specs.Act.{act}
use Rattle.dns_engine.specs.Replayed.{EachChanges}
use Rattle.store_recovery.specs.Replay.{AreRead}
use Rattle.store_recovery.specs.Start.{IsPair}
use Rattle.change_command.specs.ChangeText.{differences}

-- the serials before and after an update
abbrev pub serials_told : ℕ → ℕ → List ℕ
serials_told from to = codes "serial " ++ decimal from ++ codes " to " ++ decimal to ++ codes ", "

-- how many records it deleted and added, and a line's end
abbrev pub counts_told : ℕ → ℕ → List ℕ
counts_told deleted added = decimal deleted ++ codes " deleted, " ++ decimal added ++ codes " added" ++ 10 ∷ []

-- both, on a line
abbrev pub head_line : ℕ → ℕ → ℕ → ℕ → List ℕ
head_line from to deleted added = serials_told from to ++ counts_told deleted added

-- what one zone changed of the one before it: that line, the SOA not counted, and the records that went and came, one per line
abbrev pub change_of : List Record → List Record → List ℕ
change_of before after =
    head_line (zone_serial before) (zone_serial after) (length (left_out before after)) (length (left_out after before)) ++ differences before after

-- the zone after an update
abbrev pub after : List Record → Update → List Record
after zone update = unwrap_or (act zone update) zone

-- what updates changed, one after another
abbrev pub changes_text : List Record → List Update → List ℕ
changes_text zone [] = []
changes_text zone (update ∷ updates) = change_of zone (after zone update) ++ changes_text (after zone update) updates

-- messages are updates that are accepted one after another, and this is what they changed
pub record AreTold (zone : List Record) (messages : List Messages) (text : List ℕ) : Type 0 where
  pub updates : List Update
  pub read : AreRead messages updates
  pub taken : EachChanges zone updates
  pub reported : text ≡ changes_text zone updates

-- the same of a zone text and its journal, as a start reads them
pub record IsToldOf (text octets reported : List ℕ) : Type 0 where
  pub zone : List Record
  pub messages : List Messages
  pub pair : IsPair text octets zone messages
  pub changes : AreTold zone messages reported
