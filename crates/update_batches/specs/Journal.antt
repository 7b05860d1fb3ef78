-- The messages of the updates that make versions one from the other (RFC 2136, 3).
use Rattle.std.specs.Prelude.{List, [], ◌∷◌}
use Rattle.dns_message.specs.declared.update.Update.{Update}
use Rattle.zone_tree.specs.Version.{Version}
use Rattle.dns_engine.specs.Versions.{Makes}
use Rattle.journal.specs.Batch.{Messages}
use Rattle.update_messages.specs.Joined.{IsRead}

-- versions are made one from the other, the first of them from this one, by the updates that these messages are read as, one each (RFC 2136, 3)
abbrev pub AreMadeBy : Version → List Version → List Messages → Type 0
AreMadeBy first [] [] = Unit {0}
AreMadeBy first (next ∷ versions) (messages ∷ updates) =
    ((update : Update) × IsRead messages update × Makes update first next) × AreMadeBy next versions updates
AreMadeBy first [] (messages ∷ updates) = ⊥
AreMadeBy first (next ∷ versions) [] = ⊥
