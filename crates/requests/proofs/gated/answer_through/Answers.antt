-- One datagram after another, each through the gate.
use Rattle.std.proofs.Common.{◌≡◌, refl, arith}
use Rattle.requests.specs.declared.udp.DatagramsEnd.TheVariants.{Device, Spent}
use Rattle.requests.proofs.ExchangeLemmas.{known_first, known_more, known_ends, known_done, turn_made, turn_spent, turn_fails}
use Rattle.requests.proofs.TurnLemmas.{grows_itself, grows_more}
use Rattle.requests.proofs.gated.answer_through.Goals as goal

pub loop-done-init : goal.loop-done-init
loop-done-init g c = (grows_itself _, known_first _ _ _ _ _)

pub loop-done-preserved : goal.loop-done-preserved
loop-done-preserved g c =
    let made = turn_made g.A.Handler.is_reply c.args.allowed.rules.now _ _ _ _ _ _ _ _ _ _ c.in-Some.ensures.receives c.in-Some.ensures.same c.in-Ok.ensures.answered in
    (grows_more _ _ _ c.loop-done.invariant.0 c.answer_from-answered.ensures.grows, known_more _ _ _ _ _ _ _ _ _ _ _ _ c.loop-done.invariant.1 made)

pub returns-in_default-clause-answered : goal.returns-in_default-clause-answered
returns-in_default-clause-answered g c =
    let fails = turn_fails g.A.Handler.is_reply c.args.allowed.rules.now _ _ _ _ _ (c.in_default.ensures.nothing refl) (c.in_default.ensures.counted refl) in
    known_ends g.A.Handler.is_reply c.args.allowed.rules.now Device _ _ _ _ _ _ _ _ _ _ _ c.loop-done-test.true c.loop-done.invariant.1 fails

pub returns-in-Err-clause-grows : goal.returns-in-Err-clause-grows
returns-in-Err-clause-grows g c = grows_more _ _ _ c.loop-done.invariant.0 c.answer_from-answered.ensures.grows

pub returns-in-Err-clause-answered : goal.returns-in-Err-clause-answered
returns-in-Err-clause-answered g c =
    let spent = turn_spent g.A.Handler.is_reply c.args.allowed.rules.now _ _ _ _ _ _ _ _ _ c.answer_from-answered.ensures.grows c.in-Some.ensures.receives c.in-Some.ensures.same c.in-Err.ensures.spent c.in-Err.ensures.same in
    known_ends g.A.Handler.is_reply c.args.allowed.rules.now Spent _ _ _ _ _ _ _ _ _ _ _ c.loop-done-test.true c.loop-done.invariant.1 spent

pub returns-clause-answered : goal.returns-clause-answered
returns-clause-answered g c =
    let all : c.loop-done._done ≡ c.args.most = omega arith in
    known_done g.A.Handler.is_reply c.args.allowed.rules.now _ _ _ _ _ _ _ _ all c.loop-done.invariant.1
