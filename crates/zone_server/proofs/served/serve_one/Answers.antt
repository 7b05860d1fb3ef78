-- What is answered later.
use Rattle.std.proofs.Common.{rules}
use Rattle.zone_server.proofs.ServeOneLemmas.{served_reply, served_silent, served_update, served_gone, served_transfer, served_few}
use Rattle.zone_server.proofs.StartedLemmas.{starts}
use Rattle.zone_server.proofs.served.serve_one.Goals as goal

pub returns-in-Bytes : goal.returns-in-Bytes
returns-in-Bytes g c = served_reply g.Z.FirstZone.zone c.args.peer c.args.request.now c.args.reader.now c.answer_request.new.reader c.answer_request.new.out c.in-Bytes.len c.requires.later c.in-Bytes.ensures.answer

pub unreachable-requires : goal.unreachable-requires
unreachable-requires g c = served_silent g.Z.FirstZone.zone c.args.peer c.args.request.now c.requires.later c.in-Silent.ensures.answer.0

pub returns-in-Update : goal.returns-in-Update
returns-in-Update g c =
    served_update g.Z.FirstZone.zone c.args.peer c.args.request.now c.args.reader.now c.answer_request.new.reader c.serve_update-len.new.reader c.serve_update-len.new.out c.serve_update-len.result.0 c.serve_update-len.result.1
    c.in-Update.ensures.answer.1 c.serve_update-len.ensures.bound c.serve_update-len.ensures.replied c.serve_update-len.ensures.reported

pub start_transfer-requires : goal.start_transfer-requires
start_transfer-requires g c =
    (search rules, starts g.Z.FirstZone.zone c.args.peer c.args.request.now c.args.reader.now c.answer_request.new.reader c.answer_request.new.reader c.answer_request.new.query c.in-Transfer.strong c.in-Transfer.ensures.answer)

pub returns-in-Ok : goal.returns-in-Ok
returns-in-Ok g c =
    served_transfer g.Z.FirstZone.zone c.args.peer c.args.request.now c.args.reader.now c.answer_request.new.reader c.start_transfer.new.reader c.answer_request.new.query c.in-Transfer.strong c.in-Transfer.ensures.answer c.answer_request.new.out c.in-Ok.version c.in-Ok.chain
    c.in-Ok.ensures.version c.in-Ok.ensures.chained

pub returns-in-Err : goal.returns-in-Err
returns-in-Err g c =
    served_few g.Z.FirstZone.zone c.args.peer c.args.request.now c.args.reader.now c.answer_request.new.reader c.start_transfer.new.reader c.answer_request.new.query c.in-Transfer.strong c.in-Transfer.ensures.answer c.answer_request.new.out c.in-Err.ensures.spent

pub returns-in-Spent : goal.returns-in-Spent
returns-in-Spent g c = served_gone g.Z.FirstZone.zone c.args.peer c.args.request.now c.args.reader.now c.answer_request.new.reader c.answer_request.new.out c.requires.later c.in-Spent.ensures.answer.0 c.in-Spent.ensures.answer.1
