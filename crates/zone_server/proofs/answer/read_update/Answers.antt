-- What is told of a request that asks for an update and isn't read is told of it, whatever is known.
use Rattle.zone_server.proofs.ReplyLemmas.{heard_update, told_unread, told_bad, told_starved}
use Rattle.zone_server.proofs.answer.read_update.Goals as goal

pub returns-in-Update : goal.returns-in-Update
returns-in-Update c = heard_update c.args.request.now c.parse.result c.in-Update.update c.parse.ensures c.in-Update.is

pub returns-in-NoMemory : goal.returns-in-NoMemory
returns-in-NoMemory c = λ first may reader.
    told_starved first may c.args.request.now reader c.parse.result c.in-NoMemory.head _ _ c.requires c.parse.ensures c.in-NoMemory.is c.header_alone.ensures c.code.ensures.code c.code.ensures.serials

pub returns-in-Fault : goal.returns-in-Fault
returns-in-Fault c = λ first may reader.
    told_unread first may c.args.request.now reader c.parse.result c.in-Fault.head c.in-Fault.code _ _ c.parse.ensures c.in-Fault.is c.header_alone-in-Fault.ensures c.code-in-Fault.ensures.code c.code-in-Fault.ensures.serials

pub returns-in-BadOpt : goal.returns-in-BadOpt
returns-in-BadOpt c = λ first may reader.
    told_bad first may c.args.request.now reader c.parse.result c.in-BadOpt.head c.in-BadOpt.question c.in-BadOpt.code c.in-BadOpt.dnssec_ok _ _ c.parse.ensures c.in-BadOpt.is c.of_bad.ensures c.code-in-BadOpt.ensures.code c.code-in-BadOpt.ensures.serials
