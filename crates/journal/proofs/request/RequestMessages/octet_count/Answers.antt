use Rattle.std.proofs.Common.{◌≡◌, ◌+◌, ℕ, List, length, take, ap, sym, ◌∙◌, arith, Vec, Global}
use Rattle.std.proofs.lemmas.List.{take_all}
use Rattle.std.proofs.lemmas.List.Sums.{sum_by-cons}
use Rattle.journal.specs.Batch.{octets_in}
use Rattle.journal.proofs.RequestLemmas.{octets_of}
use Rattle.journal.proofs.request.RequestMessages.octet_count.Goals as goal

pub returns : goal.returns
returns c =
    let whole : octets_in c.args.self.now ≡ length c.self.inside.first.items + octets_in (octets_of c.self.inside.more.items) =
    ap octets_in (sym c.self.view_is) ∙ sum_by-cons length c.self.inside.first.items (octets_of c.self.inside.more.items) in
    let taken : octets_in (octets_of (take c.loop-message.message-index c.deref-message-items.result.now)) ≡ octets_in (octets_of c.self.inside.more.items) =
    ap (λ (ms : List (Vec ℕ Global)). octets_in (octets_of ms))
    (take_all c.loop-message.message-index c.deref-message-items.result.now c.loop-message-test.false ∙ c.deref-message-items.ensures.value) in
    omega (arith, c.loop-message.invariant, whole, taken)
