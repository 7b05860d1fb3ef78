use Rattle.std.proofs.Common.{List, ℕ, ◌++◌, ap, sym, ◌∙◌}
use Rattle.journal.specs.Frame.{summed}
use Rattle.journal.proofs.FrameLemmas.{behind_mark, frame_in, frame_out}
use Rattle.journal.proofs.frame.frame_among.Goals as goal

pub returns-in_err-behind-clause-found : goal.returns-in_err-behind-clause-found
returns-in_err-behind-clause-found c = rw c.from_residual.ensures (λ number low high body rest frame.
    c.in_err-behind.ensures _ (behind_mark c.args.salt.now number c.args.octets.now body rest frame
    ∙ ap (λ (o : List ℕ). o ++ (summed c.args.salt.now number body ++ rest)) c.mark_of.ensures))

pub returns-in_err-number-clause-found : goal.returns-in_err-number-clause-found
returns-in_err-number-clause-found c = rw c.from_residual-in_err-number.ensures (λ number low high body rest frame.
    c.in_err-number.ensures.found number low high body rest
    (frame_in c.args.salt.now number c.args.octets.now c.in_ok-behind.behind.now body rest
    (c.in_ok-behind.ensures ∙ ap (λ (o : List ℕ). o ++ c.in_ok-behind.behind.now) (sym c.mark_of.ensures)) frame))

pub returns-clause-found : goal.returns-clause-found
returns-clause-found c = (
  c.in_ok-number.ensures.found.0,
  c.in_ok-number.ensures.found.1,
  frame_out c.args.salt.now c.in_ok-number.number c.args.octets.now c.in_ok-behind.behind.now c.in_ok-number.body.now c.in_ok-number.rest.now
      (c.in_ok-behind.ensures ∙ ap (λ (o : List ℕ). o ++ c.in_ok-behind.behind.now) (sym c.mark_of.ensures)) c.in_ok-number.ensures.found.2,
)
