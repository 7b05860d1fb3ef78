-- Each place has a version.
use Rattle.std.proofs.Common.{length, ap, sym, ◌∙◌}
use Rattle.weak_history.proofs.PlaceLemmas.{length-placed}
use Rattle.dns_engine.proofs.copies.Copies.len.Goals as goal

pub returns-clause-len : goal.returns-clause-len
returns-clause-len c = c.len.ensures.value ∙ sym (length-placed c.self.inside.places.items c.self.invariant) ∙ ap length c.self.view_is
