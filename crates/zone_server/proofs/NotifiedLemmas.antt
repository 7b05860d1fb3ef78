-- What is next for secondaries is told by the version that is loaded.
use Rattle.std.proofs.Common.{◌≡◌, ℕ, List, map, Option, None, Some, subst, ◌∙◌, ap}
use Rattle.dns_rdata.specs.Record.{Record}
use Rattle.zone_tree.specs.Version.{Version}
use Rattle.cell_core.specs.declared.words.Version.{Version as Numbered}
use Rattle.snapshot_cell.specs.Tokens.{ReaderState, IsLoad}
use Rattle.dns_engine.specs.Versions.{IsFirst, IsNext}
use Rattle.notify.specs.Notified.{Notified}
use Rattle.notify.specs.Copies.{due_in, soonest}
use Rattle.notify.specs.Turns.{GoesOn}
use Rattle.notify.specs.declared.due.Due.{Due as Duty}
use Rattle.zone_server.specs.Notified.{TakesTurn, GoesOnBy}
use Rattle.zone_server.specs.declared.notifying.NextTurn.{NextTurn}
use Rattle.zone_server.specs.declared.notifying.NextTurn.TheVariants.{Due, Look}
use Rattle.zone_server.proofs.KnownLemmas.{loads}

-- what is done in the version that is loaded is done in the last that is then known
turn_next : (first : List Record) (before after : ReaderState Version) (strong : Numbered Version) (version : Version) (id : ℕ) (old new : Notified) (next : NextTurn) (out : List ℕ) → IsLoad (IsFirst first) IsNext before after strong
    → version ≡ strong.value → TakesTurn version id old next out new → GoesOnBy after.seen id old next out new
turn_next first before after strong version id old new next out load is turn =
    (strong.value, (loads first before after strong load).last, subst (λ (v : Version). TakesTurn v id old next out new) is turn)

-- something is due
pub due_next : (first : List Record) (before after : ReaderState Version) (strong : Numbered Version) (version : Version) (id : ℕ) (old new : Notified) (due : Duty) (out : List ℕ) → IsLoad (IsFirst first) IsNext before after strong
    → version ≡ strong.value → GoesOn version.number id version.zone old (Some due) out new → GoesOnBy after.seen id old (Due due) out new
due_next first before after strong version id old new due out load is goes = turn_next first before after strong version id old new (Due due) out load is goes

-- or nothing is, until some time
pub look_next : (first : List Record) (before after : ReaderState Version) (strong : Numbered Version) (version : Version) (id number : ℕ) (old new : Notified) (wait : Option ℕ) (out : List ℕ) → IsLoad (IsFirst first) IsNext before after strong
    → version ≡ strong.value → GoesOn version.number id version.zone old None out new → number ≡ version.number → wait ≡ soonest (map (due_in new.time number) new.secondaries) → GoesOnBy after.seen id old (Look wait) out new
look_next first before after strong version id number old new wait out load is goes same waits =
    turn_next first before after strong version id old new (Look wait) out load is (goes, waits ∙ ap (λ (n : ℕ). soonest (map (due_in new.time n) new.secondaries)) same)
