-- The next step for a zone's secondaries, by what is known to be published (RFC 1996, 3.1).
use Rattle.std.specs.Prelude.{◌≡◌, ℕ, List, map, None, Some}
use Rattle.zone_tree.specs.Version.{Version}
use Rattle.snapshot_cell.specs.Tokens.{IsLastOf}
use Rattle.notify.specs.Notified.{Notified}
use Rattle.notify.specs.Copies.{due_in, soonest}
use Rattle.notify.specs.Turns.{GoesOn}
use Rattle.zone_server.specs.declared.notifying.NextTurn.{NextTurn}
use Rattle.zone_server.specs.declared.notifying.NextTurn.TheVariants.{Due, Look}

-- while a version is served: what is due is done, or nothing is due, and the result says when to look again
abbrev pub TakesTurn : Version → ℕ → Notified → NextTurn → List ℕ → Notified → Type 0
TakesTurn version id old (Due due) out new = GoesOn version.number id version.zone old (Some due) out new
TakesTurn version id old (Look wait) out new =
    GoesOn version.number id version.zone old None out new × (wait ≡ soonest (map (due_in new.time version.number) new.secondaries))

-- while the last version known to be published is served
abbrev pub GoesOnBy : List Version → ℕ → Notified → NextTurn → List ℕ → Notified → Type 0
GoesOnBy seen id old next out new = (last : Version) × IsLastOf seen (record { number = last.number; value = last }) × TakesTurn last id old next out new
