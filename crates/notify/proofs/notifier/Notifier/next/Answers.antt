use Rattle.notify.proofs.TurnLemmas.{goes_on}
use Rattle.notify.proofs.notifier.Notifier.next.Goals as goal

pub returns : goal.returns
returns c =
    goes_on c.args.self.now c.self.inside.secondaries.items _ c.self.inside.time c.self.inside.clock _ _ c.args.id c.args.version.now.zone _ _ c.index.result.now _ _ _ c.self.view_is c.in_ok-index.was c.as_slice.ensures.value c.number.ensures c.first_due.ensures c.index.ensures c.turn-due.ensures
