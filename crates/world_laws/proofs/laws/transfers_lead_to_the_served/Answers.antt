-- The window's entries have their versions' serials, and what a transfer has got of them is in turn; so each list leads to the version served.
use Rattle.world_laws.proofs.SendEnds.{answer_at_once, answer_in_line, answer_in_steps}
use Rattle.world_laws.proofs.WindowPlay.{played_now, played_serials}
use Rattle.world_laws.proofs.laws.transfers_lead_to_the_served.Goals as goal

pub returns-clause-window : goal.returns-clause-window
returns-clause-window c = played_serials

pub returns-clause-at_once : goal.returns-clause-at_once
returns-clause-at_once c = λ first keep window lines replies world name request query octets is sent e asks ixfr answers.
    answer_at_once lines first keep window _ world (played_now lines replies first keep window world e) is sent name request query octets asks ixfr answers

pub returns-clause-in_one_line : goal.returns-clause-in_one_line
returns-clause-in_one_line c = λ first keep window lines replies world later name request query octets is sent e asks ixfr answers.
    answer_in_line lines first keep window _ world (played_now lines replies first keep window world e) is sent name request query octets later asks ixfr answers

pub returns-clause-in_steps : goal.returns-clause-in_steps
returns-clause-in_steps c = λ first keep window lines replies world later place begun name request query step octets is sent e asks ixfr line_is open_so answers.
    answer_in_steps lines replies first keep window place begun name request query is sent asks line_is open_so world later step octets e ixfr answers
