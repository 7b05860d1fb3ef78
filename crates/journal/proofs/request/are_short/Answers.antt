use Rattle.std.proofs.Common.{ℕ, List, subst, sym, refl, Vec, Global}
use Rattle.std.specs.Prelude.{All}
use Rattle.std.proofs.lemmas.List.{take_all}
use Rattle.journal.specs.Batch.{IsShort}
use Rattle.journal.proofs.PartLemmas.{not_so}
use Rattle.journal.proofs.RequestLemmas.{octets_of, short_at, short_more}
use Rattle.journal.proofs.request.are_short.Goals as goal

pub returns-then-not-is_short : goal.returns-then-not-is_short
returns-then-not-is_short c = (
  λ t. absurd (not_so t),
  λ all. c.if-not-is_short.ensures.1 (subst IsShort (sym c.deref.ensures.value)
      (short_at c.args.messages.now c.loop-message.message-index c.message-item.result all c.loop-message-test.true c.message-item.is)),
)

pub loop-message-preserved : goal.loop-message-preserved
loop-message-preserved c =
    short_more c.args.messages.now c.loop-message.message-index c.message-item.result c.loop-message-test.true c.message-item.is c.loop-message.invariant
    (subst IsShort c.deref.ensures.value (c.if-not-is_short.ensures.0 refl))

pub returns : goal.returns
returns c = (
  λ t. subst (λ (ms : List (Vec ℕ Global)). All IsShort (octets_of ms))
      (take_all c.loop-message.message-index c.args.messages.now c.loop-message-test.false) c.loop-message.invariant,
  λ all. refl,
)
