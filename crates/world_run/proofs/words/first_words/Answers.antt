use Rattle.std.proofs.Common.{◌≡◌, ◌∙◌, subst, IfOk}
use Rattle.zone_tree.specs.Version.{Version as Numbered}
use Rattle.world_run.specs.World.{started_words}
use Rattle.world_run.proofs.words.first_words.Goals as goal

pub returns-in-Ok-clause-made : goal.returns-in-Ok-clause-made
returns-in-Ok-clause-made c =
    subst (λ (v : Numbered). IfOk c.started_words.result (λ machine. machine ≡ started_words v c.args.window)) (c.in-Ok.ensures.ok ∙ c.first.ensures) c.started_words.ensures.made
