-- What is answered at once, and what later.
use Rattle.std.proofs.Common.{inl, inr}
use Rattle.zone_server.specs.Replied.{IsNow}
use Rattle.zone_server.specs.declared.answer.Now.TheVariants.{Bytes, Silent, Later, Spent}
use Rattle.zone_server.proofs.AnswerLemmas.{permitted_later}
use Rattle.zone_server.proofs.NowLemmas.{now_spent}
use Rattle.zone_server.proofs.answer.answer_now.Goals as goal

pub returns-in-Bytes : goal.returns-in-Bytes
returns-in-Bytes g c =
    let now : IsNow g.Z.FirstZone.zone c.args.peer c.args.request.now c.args.reader.now c.answer_request.new.reader c.answer_request.new.out (Bytes c.in-Bytes.len) = c.in-Bytes.ensures.answer in
    record { now = now; spent = now_spent g.Z.FirstZone.zone c.args.peer c.args.request.now c.args.reader.now c.answer_request.new.reader c.answer_request.new.out (Bytes c.in-Bytes.len) now }

pub returns-in-Silent : goal.returns-in-Silent
returns-in-Silent g c =
    let now : IsNow g.Z.FirstZone.zone c.args.peer c.args.request.now c.args.reader.now c.answer_request.new.reader c.answer_request.new.out Silent = c.in-Silent.ensures.answer in
    record { now = now; spent = now_spent g.Z.FirstZone.zone c.args.peer c.args.request.now c.args.reader.now c.answer_request.new.reader c.answer_request.new.out Silent now }

pub returns-in-Update : goal.returns-in-Update
returns-in-Update g c =
    let now : IsNow g.Z.FirstZone.zone c.args.peer c.args.request.now c.args.reader.now c.answer_request.new.reader c.answer_request.new.out Later = inl c.in-Update.ensures.answer in
    record { now = now; spent = now_spent g.Z.FirstZone.zone c.args.peer c.args.request.now c.args.reader.now c.answer_request.new.reader c.answer_request.new.out Later now }

pub returns-in-Transfer : goal.returns-in-Transfer
returns-in-Transfer g c =
    let now : IsNow g.Z.FirstZone.zone c.args.peer c.args.request.now c.args.reader.now c.answer_request.new.reader c.answer_request.new.out Later =
    inr (permitted_later g.Z.FirstZone.zone c.args.peer c.args.request.now c.args.reader.now c.answer_request.new.reader c.answer_request.new.query c.in-Transfer.strong c.in-Transfer.ensures.answer) in
    record { now = now; spent = now_spent g.Z.FirstZone.zone c.args.peer c.args.request.now c.args.reader.now c.answer_request.new.reader c.answer_request.new.out Later now }

pub returns-in-Spent : goal.returns-in-Spent
returns-in-Spent g c =
    let now : IsNow g.Z.FirstZone.zone c.args.peer c.args.request.now c.args.reader.now c.answer_request.new.reader c.answer_request.new.out Spent = c.in-Spent.ensures.answer in
    record { now = now; spent = now_spent g.Z.FirstZone.zone c.args.peer c.args.request.now c.args.reader.now c.answer_request.new.reader c.answer_request.new.out Spent now }
