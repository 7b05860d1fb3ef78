use Rattle.update_messages.proofs.JoinedLemmas.{lent_told, told_some}
use Rattle.update_messages.proofs.read.read_request.Goals as goal

pub returns-in-Some-2 : goal.returns-in-Some-2
returns-in-Some-2 c =
    lent_told c.args.messages.now c.in-Some.more.now c.in-Some.first.now c.in-Some-2.update c.read_more.result c.in-Some.ensures.cases.0
    (told_some _ _ _ _ c.in-Some-2.is c.in_ok-update.ensures) c.read_more.ensures
