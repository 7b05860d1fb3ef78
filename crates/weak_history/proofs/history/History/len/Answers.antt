-- Each place has an entry.
use Rattle.std.proofs.Common.{length, ap, sym, ◌∙◌}
use Rattle.weak_history.proofs.PlaceLemmas.{length-placed}
use Rattle.weak_history.proofs.history.History.len.Goals as goal

pub returns-clause-len : goal.returns-clause-len
returns-clause-len g c = c.len.ensures.value ∙ sym (length-placed c.self.inside.places.items c.self.invariant.0) ∙ ap (λ (h : _). length h.entries) c.self.view_is
