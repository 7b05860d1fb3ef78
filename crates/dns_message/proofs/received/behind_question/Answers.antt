use Rattle.std.proofs.Common.{Ok, sym, ap, ◌∙◌, option_map}
use Rattle.dns_message.specs.Reads.{question_of}
use Rattle.dns_message.proofs.ReceivedLemmas.{question_found}
use Rattle.dns_message.proofs.received.behind_question.Goals as goal

pub returns : goal.returns
returns c =
    question_found _ _ _ _ (sym c.in_ok-at.was ∙ c.behind_name.ensures)
    (λ name. c.question_end.ensures name ∙ ap (λ msg. option_map (λ q. q.1) (question_of msg (Ok (name, c.in_ok-at.at)))) c.octets.ensures)
