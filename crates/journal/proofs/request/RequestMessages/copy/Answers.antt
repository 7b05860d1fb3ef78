use Rattle.std.proofs.Common.{◌≡◌, ap, subst, sym, ◌∙◌, rules}
use Rattle.std.proofs.lemmas.List.{take_all}
use Rattle.journal.specs.Batch.{IsRequest}
use Rattle.journal.proofs.BatchLemmas.{cons_same}
use Rattle.journal.proofs.RequestLemmas.{octets_of}
use Rattle.journal.proofs.request.RequestMessages.copy.Goals as goal

pub invariant_of-result : goal.invariant_of-result
invariant_of-result c =
    let first : c.in_ok-first.first.items ≡ c.self.inside.first.items = search rules in
    let more : octets_of c.loop-message.more.items ≡ octets_of c.self.inside.more.items = c.loop-message.invariant
    ∙ ap octets_of (take_all c.loop-message.message-index c.deref-message-items.result.now c.loop-message-test.false ∙ c.deref-message-items.ensures.value) in
    subst IsRequest (cons_same c.self.inside.first.items c.in_ok-first.first.items (octets_of c.self.inside.more.items) (octets_of c.loop-message.more.items) (sym first) (sym more))
    c.self.invariant
