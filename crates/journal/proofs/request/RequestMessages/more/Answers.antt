use Rattle.std.proofs.Common.{ℕ, List, subst, sym, Vec, Global}
use Rattle.std.specs.Prelude.{All}
use Rattle.std.proofs.lemmas.List.Elements.{All-tail}
use Rattle.journal.specs.Batch.{IsShort}
use Rattle.journal.proofs.RequestLemmas.{octets_of}
use Rattle.journal.proofs.request.RequestMessages.more.Goals as goal

pub returns-clause-short : goal.returns-clause-short
returns-clause-short c =
    subst (λ (ms : List (Vec ℕ Global)). All IsShort (octets_of ms)) (sym c.deref.ensures.value)
    (All-tail IsShort c.self.inside.first.items (octets_of c.self.inside.more.items) c.self.invariant.short)
