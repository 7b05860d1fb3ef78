use Rattle.std.proofs.Common.{arith}
use Rattle.world_run.specs.declared.phase.Progress.TheVariants.{On, Done}
use Rattle.world_run.proofs.StepLemmas.{none_once, made_once, further, stayed, ended, passed}
use Rattle.world_run.proofs.words.take_steps.Goals as goal

pub loop-preserved : goal.loop-preserved
loop-preserved c =
    let made = rw c.in-Ok-Some.field-0-is at c.in-Ok-Some.ensures.ok in
    let once = made_once c.loop.machine c.make_step.new.machine c.loop.phase c.in-Ok-Some.event (On c.in-Ok-On.further) made (rw c.in-Ok-On.field-0-is at c.in-Ok-On.ensures.ok) in
    further c.loop.counter c.args.machine.now c.loop.machine c.make_step.new.machine c.args.first c.loop.phase c.in-Ok-On.further (omega arith) once c.loop.invariant

pub returns-in-Ok-None-clause-ok : goal.returns-in-Ok-None-clause-ok
returns-in-Ok-None-clause-ok c =
    let none = rw c.in-Ok-None.field-0-is at c.in-Ok-None.ensures.ok in
    stayed c.loop.counter c.args.machine.now c.loop.machine c.make_step.new.machine c.args.first c.loop.phase (omega arith) (none_once c.loop.machine c.loop.phase none.0) none.1 c.loop.invariant

pub returns-in-Ok-Done-clause-ok : goal.returns-in-Ok-Done-clause-ok
returns-in-Ok-Done-clause-ok c =
    let made = rw c.in-Ok-Some.field-0-is at c.in-Ok-Some.ensures.ok in
    let once = made_once c.loop.machine c.make_step.new.machine c.loop.phase c.in-Ok-Some.event (Done c.in-Ok-Done.end) made (rw c.in-Ok-Done.field-0-is at c.in-Ok-Done.ensures.ok) in
    ended c.loop.counter c.args.machine.now c.loop.machine c.make_step.new.machine c.args.first c.loop.phase c.in-Ok-Done.end (omega arith) once c.loop.invariant

pub returns-clause-ok : goal.returns-clause-ok
returns-clause-ok c = passed c.loop.counter c.args.machine.now c.loop.machine c.args.first c.loop.phase (omega arith) c.loop.invariant
