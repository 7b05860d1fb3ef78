use Rattle.std.proofs.Common.{[], refl}
use Rattle.dns_message.proofs.AnswersLemmas.{filled_all, filled_fits, filled_stops}
use Rattle.message_laws.proofs.laws.records_are_taken_from_the_front.Goals as goal

pub returns : goal.returns
returns c = record {
  all = λ head question opt limit list. filled_all head question opt limit [] list;
  fit = λ head question opt limit list. filled_fits head question opt limit [] list (λ some. absurd (some refl));
  greedy = λ head question opt limit list. filled_stops head question opt limit [] list;
}
