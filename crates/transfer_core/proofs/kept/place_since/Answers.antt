use Rattle.std.proofs.Common.{◌≡◌, ◌+◌, ◌<◌, take, drop, length, ap, ◌∙◌, arith}
use Rattle.std.specs.Option.{option_or, option_map}
use Rattle.std.proofs.lemmas.List.{take-append-drop, length-take-le}
use Rattle.transfer_core.specs.Window.{kept_since}
use Rattle.transfer_core.proofs.WindowLemmas.{found_at, passed_at}
use Rattle.transfer_core.proofs.kept.place_since.Goals.{then-is_held_before, else-is_held_before}
use Rattle.transfer_core.proofs.kept.place_since.Goals as goal

pub loop-at-preserved : goal.loop-at-preserved
loop-at-preserved g c =
    let all = g.K.VersionList.versions c.args.kept.now in
    let xs = take c.args.reach.upto all in
    let ys = drop c.args.reach.upto all in
    let len : length xs ≡ c.args.reach.upto = length-take-le c.args.reach.upto all c.requires in
    let test = c.loop-at-test.true in
    let within : c.loop-at.at < length xs = omega (arith, len, test) in
    elim c.if-is_held_before.branch [
      | then-is_held_before w ↦ (
        ap (λ p. option_or (kept_since c.args.reach.window ys c.args.serial.0 (drop (c.loop-at.at + 1) xs)) (option_map (λ at. drop at xs) p)) w.place-is
            ∙ found_at c.args.reach.window c.args.serial.0 all xs ys (take-append-drop c.args.reach.upto all) c.loop-at.at within c.is_held_before.result c.is_held_before.ensures (option_map (λ at. drop at xs) c.loop-at.place) (kept_since c.args.reach.window ys c.args.serial.0 xs) w.if-is_held_before.true c.loop-at.invariant.0,
        rw w.place-is test,
      )
      | else-is_held_before w ↦ (
        ap (λ p. option_or (kept_since c.args.reach.window ys c.args.serial.0 (drop (c.loop-at.at + 1) xs)) (option_map (λ at. drop at xs) p)) w.place-is
            ∙ passed_at c.args.reach.window c.args.serial.0 all xs ys (take-append-drop c.args.reach.upto all) c.loop-at.at within c.is_held_before.result c.is_held_before.ensures (option_map (λ at. drop at xs) c.loop-at.place) (kept_since c.args.reach.window ys c.args.serial.0 xs) w.if-is_held_before.false c.loop-at.invariant.0,
        rw w.place-is c.loop-at.invariant.1,
      )
    ]
