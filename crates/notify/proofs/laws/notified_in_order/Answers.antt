use Rattle.notify.proofs.CourseLemmas.{in_order, newer_alone}
use Rattle.notify.proofs.laws.notified_in_order.Goals as goal

pub returns-clause-ordered : goal.returns-clause-ordered
returns-clause-ordered c = in_order

pub returns-clause-answered : goal.returns-clause-answered
returns-clause-answered c = newer_alone
