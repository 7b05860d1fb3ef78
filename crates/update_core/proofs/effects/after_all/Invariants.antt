use Rattle.std.proofs.Common.{◌≡◌, drop}
use Rattle.update_core.proofs.AfterLemmas.{IsOnTheWay}
use Rattle.update_core.proofs.effects.after_all.Given as goal

-- the records so far made of the zone what the overlay has, and the others are left
abbrev pub invariant-loop-raw : goal.invariant-loop-raw
invariant-loop-raw l = record {
  base : l.overlay.base ≡ l.zone;
  way : IsOnTheWay l.zone l.overlay.made l.raws (drop l.raw-index l.raws);
}
