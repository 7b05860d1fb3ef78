use Rattle.std.proofs.Common.{◌≡◌, ◌<◌, drop, take, IfSome}
use Rattle.std.specs.Option.{option_or, option_map}
use Rattle.transfer_core.specs.Window.{kept_since}
use Rattle.transfer_core.proofs.kept.place_since.Given as goal

-- what is found behind a place, or was found before it, is what is found
abbrev pub invariant-loop-at : goal.invariant-loop-at
invariant-loop-at g l =
    let all = g.K.VersionList.versions l.kept in
    (option_or (kept_since l.reach.window (drop l.reach.upto all) l.serial.0 (drop l.at (take l.reach.upto all))) (option_map (λ at. drop at (take l.reach.upto all)) l.place)
    ≡ kept_since l.reach.window (drop l.reach.upto all) l.serial.0 (take l.reach.upto all))
    × IfSome l.place (λ at. at < l.reach.upto)
