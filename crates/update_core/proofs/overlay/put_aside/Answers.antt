use Rattle.std.proofs.Common.{Some, cond, sym, subst, ◌∙◌}
use Rattle.update_core.specs.Tagged.{same_at}
use Rattle.update_core.specs.Overlay.{AllOwn}
use Rattle.update_core.proofs.OverlayLemmas.{each_inserted}
use Rattle.update_core.proofs.TaggedLemmas.{same_lookup}
use Rattle.update_core.proofs.overlay.put_aside.Goals as goal

pub returns-clause-each : goal.returns-clause-each
returns-clause-each c = subst AllOwn (sym c.in_ok-insert.ensures.entries) (each_inserted c.args.owner c.args.own c.args.others.now.entries c.requires.own c.requires.each)

pub returns-clause-others : goal.returns-clause-others
returns-clause-others c = λ name.
    sym (same_lookup name c.insert.new.self.entries) ∙ c.in_ok-insert.ensures.updates.0 name
    ∙ (λ i. cond (same_at c.args.owner name i) (Some c.args.own) (same_lookup name c.args.others.now.entries i))
