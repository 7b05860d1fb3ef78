use Rattle.std.proofs.Common.{sym, ap, ◌∙◌}
use Rattle.std.proofs.lemmas.List.{drop_all}
use Rattle.http_page.specs.Health.{first_stuck}
use Rattle.http_page.proofs.health.first_stuck.Goals as goal

pub returns : goal.returns
returns c =
    sym (ap (first_stuck c.loop-place.place c.args.now) (drop_all c.loop-place.place c.args.busy_since.now c.loop-place-test.false)) ∙ c.loop-place.invariant
