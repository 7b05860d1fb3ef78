use Rattle.std.proofs.Common.{ap, ◌∙◌}
use Rattle.update_core.specs.Tagged.{tag_of}
use Rattle.update_core.proofs.TaggedLemmas.{apart_by_tag}
use Rattle.update_core.proofs.tagged.TaggedNamePartialEq.eq.Goals as goal

pub returns-else-self-other : goal.returns-else-self-other
returns-else-self-other c =
    apart_by_tag c.args.self.now c.args.other.now c.self.inside.tag c.other.inside.tag (c.self.invariant ∙ ap (λ n. tag_of n) c.self.view_is) (c.other.invariant ∙ ap (λ n. tag_of n) c.other.view_is) c.if-self-other.false
