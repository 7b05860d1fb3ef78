-- The step on a word that a line takes.
use Rattle.std.proofs.Common.{◌≡◌, refl, sym, ap, ◌∙◌, subst, ℕ, Bool, true, false, inl, inr, List, Option, Some, None}
use Rattle.std.specs.Prelude.{if◌then◌else◌}
use Rattle.cell_core.specs.Words.{State}
use Rattle.zone_tree.specs.Version.{Version as Numbered}
use Rattle.world_run.specs.declared.calls.UnderWay.{UnderWay}
use Rattle.world_run.specs.declared.phase.Phase.{Phase}
use Rattle.world_run.specs.declared.phase.Phase.TheVariants as phase
use Rattle.world_run.specs.declared.phase.Progress.{Progress}
use Rattle.world_run.specs.declared.phase.Progress.TheVariants.{On, Done}
use Rattle.world_run.specs.declared.start.Start.{Start}
use Rattle.world_run.specs.declared.start.Start.TheVariants.{Refused, Answers, Takes}
use Rattle.world_run.specs.declared.step.Call.{Call}
use Rattle.world_run.specs.declared.step.WorldReply.{WorldReply}
use Rattle.world_run.specs.declared.step.WorldStep.TheVariants.{Begin, Next}
use Rattle.world_laws.specs.Lines.{name_of, TakesOneStep}
use Rattle.world_run.specs.Phases.{word_step, step_name}
use Rattle.world_run.specs.World.{World, call_of, step_once, is_full, begin_call, begin_under, start, stepped, next, turn}
use Rattle.world_laws.proofs.RunLemmas.{one_step}

-- a call's step has its word step's name
name_is : (at : Phase) → step_name at ≡ name_of (word_step at)
name_is (phase.Load name) = refl
name_is (phase.Look name owner) = refl
name_is (phase.Seek owner seeking) = refl
name_is (phase.Gain owner seeking) = refl
name_is (phase.Raise name owner) = refl
name_is (phase.Note name owner) = refl
name_is (phase.Probe version keeping) = refl
name_is (phase.Prepare version keeping) = refl
name_is (phase.Swap keeping) = refl
name_is (phase.Settle keeping) = refl
name_is (phase.Keep given keeping) = refl
name_is (phase.Enter given kept keeping) = refl
name_is (phase.Release owner for) = refl
name_is (phase.Bury owner for) = refl
name_is (phase.Fade owner number for) = refl
name_is (phase.Reset owner number for) = refl
name_is (phase.Free owner number for) = refl

stepped_one : (world : World) (name : List ℕ) (at : Phase) (o : Option (Progress × State Numbered)) → step_once world.words at ≡ o → TakesOneStep world (stepped world name at o).0 (stepped world name at o).1
stepped_one world name at None is = inl (refl, refl)
stepped_one world name at (Some (On further, words)) is =
    let s = one_step world.words words at (On further) is in inr (word_step at, s.event, s.makes, ap Some (name_is at))
stepped_one world name at (Some (Done end, words)) is =
    let s = one_step world.words words at (Done end) is in inr (word_step at, s.event, s.makes, ap Some (name_is at))

next_one : (world : World) (name : List ℕ) (call : Option UnderWay) → TakesOneStep world (next world name call).0 (next world name call).1
next_one world name None = inl (refl, refl)
next_one world name (Some call) = stepped_one world name call.phase (step_once world.words call.phase) refl

-- a line that goes on with a call takes one step
pub next_takes_one : (world after : World) (name : List ℕ) (reply : WorldReply) → turn world (Next name) ≡ Some (reply, after) → TakesOneStep world reply after
next_takes_one world after name reply e =
    let reported : next world name (call_of name world.calls) ≡ (reply, after) = (let f = e in cc) in
    subst (λ (t : WorldReply × World). TakesOneStep world t.0 t.1) reported (next_one world name (call_of name world.calls))

-- what a line leaves of the words, where it is played
abbrev KeepsWords : World → Option (WorldReply × World) → Type 0
KeepsWords world o = (reply : WorldReply) (after : World) → o ≡ Some (reply, after) → after.words ≡ world.words

to_some : (world : World) (played : WorldReply × World) → played.1.words ≡ world.words → KeepsWords world (Some played)
to_some world played same reply after e =
    let pair : played ≡ (reply, after) = (let i = e in cc) in
    sym (ap (λ (t : WorldReply × World). t.1.words) pair) ∙ same

to_if : (world : World) (test : Bool) (played : WorldReply × World) → played.1.words ≡ world.words → KeepsWords world (if test then None else Some played)
to_if world true played same reply after e = absurd (let wrong = e in cc)
to_if world false played same reply after e = to_some world played same reply after e

begin_keeps : (world : World) (name : List ℕ) (call : Call) (how : Start) → KeepsWords world (begin_call world name call how)
begin_keeps world name call Refused = to_some world _ refl
begin_keeps world name call (Answers given) = to_if world (is_full world) _ refl
begin_keeps world name call (Takes at) = to_if world (is_full world) _ refl

under_keeps : (world : World) (name : List ℕ) (call : Call) (other : Option UnderWay) → KeepsWords world (begin_under world name call other)
under_keeps world name call None = begin_keeps world name call (start world call)
under_keeps world name call (Some other) = to_some world _ refl

-- a line that begins a call takes none
pub begin_takes_none : (world after : World) (name : List ℕ) (call : Call) (reply : WorldReply) → turn world (Begin name call) ≡ Some (reply, after) → after.words ≡ world.words
begin_takes_none world after name call reply e = under_keeps world name call (call_of name world.calls) reply after e
