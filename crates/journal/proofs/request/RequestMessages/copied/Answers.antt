use Rattle.std.proofs.Common.{◌≡◌, ℕ, List, map, ap, subst, ◌∙◌, Bor}
use Rattle.std.specs.Prelude.{MatchOption}
use Rattle.std.proofs.lemmas.List.{take_all}
use Rattle.journal.specs.Batch.{Messages, IsRequest}
use Rattle.journal.proofs.request.RequestMessages.copied.Goals as goal

pub returns : goal.returns
returns c =
    subst (λ (ms : Messages). MatchOption c.of.result (IsRequest ms → ⊥) (λ request. request ≡ ms))
    (c.loop-message.invariant ∙ ap (λ (bs : List (Bor (List ℕ))). map (λ (b : Bor (List ℕ)). b.now) bs)
    (take_all c.loop-message.message-index c.args.messages.now c.loop-message-test.false)) c.of.ensures
