-- Whatever lines are played, each update that makes a version is told NOERROR at its end, and each line is of the call of one, or publishes
-- nothing.
use Rattle.std.proofs.Common.{◌≡◌, refl, sym, ap, ◌∙◌, subst, ℕ, zero, suc, ◌+◌, ◌^◌, ◌<◌, ◌≤◌, Bool, true, false, ◌⊎◌, inl, inr, List, [], ◌∷◌, ◌++◌, length, take, arith, Option, Some, None, length-append, append_assoc}
use Rattle.std.specs.Prelude.{bytes_eq, if◌then◌else◌}
use Rattle.std.specs.List.{slice_get}
use Rattle.std.specs.Option.{option_and_then}
use Rattle.std.proofs.lemmas.Bool.{cases_Bool}
use Rattle.std.proofs.lemmas.Bool.Decides.{eqb_tells}
use Rattle.std.proofs.lemmas.List.{append-nil, length-map}
use Rattle.std.proofs.lemmas.Option.{slice_get_within}
use Rattle.std.proofs.lemmas.Slice.Eq.{bytes_eq-Decides}
use Rattle.cell_core.proofs.SeatLemmas.{push_cases, get_push_new}
use Rattle.cell_core.specs.Cell.{Cell}
use Rattle.cell_core.specs.Shows.{Shows}
use Rattle.serve_core.specs.Heading.{heading_of_update}
use Rattle.serve_core.specs.declared.heading.Heading.{Heading}
use Rattle.dns_message.specs.declared.update.Update.{Update as DynamicUpdate}
use Rattle.dns_rdata.specs.declared.numbers.Rcode.TheVariants.{NoError}
use Rattle.dns_rdata.specs.Record.{Record}
use Rattle.zone_tree.specs.Version.{Version as Numbered}
use Rattle.world_run.specs.declared.calls.UnderWay.{UnderWay}
use Rattle.world_run.specs.declared.phase.End.{End}
use Rattle.world_run.specs.declared.phase.End.TheVariants.{Owned, OwnedWeakly, Replied, NoSlot, Kept, Sent}
use Rattle.world_run.specs.declared.phase.Phase.{Phase}
use Rattle.world_run.specs.declared.phase.Phase.TheVariants as phase
use Rattle.world_run.specs.declared.phase.Progress.{Progress}
use Rattle.world_run.specs.declared.phase.Progress.TheVariants.{On, Done}
use Rattle.world_run.specs.declared.phase.Purpose.{Purpose}
use Rattle.world_run.specs.declared.phase.Purpose.TheVariants as purpose
use Rattle.world_run.specs.declared.start.Start.{Start}
use Rattle.world_run.specs.declared.start.Start.TheVariants.{Refused, Answers, Takes}
use Rattle.world_run.specs.declared.step.Answer.{Answer}
use Rattle.world_run.specs.declared.step.Call.{Call}
use Rattle.world_run.specs.declared.step.StepName.{StepName}
use Rattle.world_run.specs.declared.step.WorldReply.{WorldReply}
use Rattle.world_run.specs.declared.step.WorldReply.TheVariants.{Answered, Step, Last, NotEnabled}
use Rattle.world_run.specs.declared.step.WorldStep.{WorldStep as Line}
use Rattle.world_run.specs.declared.step.WorldStep.TheVariants.{Whole, Begin, Next}
use Rattle.world_laws.specs.InTurn.{EndsUnder, IsOpen, IsOfCall, GivesAt, IsToldNoError, LeavesPublished, AreToldInTurn}
use Rattle.world_run.specs.Phases.{step_name, updates}
use Rattle.world_laws.specs.Replays.{Sends, IsSentAt}
use Rattle.world_laws.specs.UpdateAnswers.{heading_for, heading_of}
use Rattle.world_run.specs.World.{World, started, call_of, without_call, code_reply, answer_at, step_once, steps_up_to, most_steps, is_full, all_made, whole, begin_call, begin_under, start, stepped, next, turn, onto_replies, play}
use Rattle.world_laws.proofs.CallReplays.{Script, scripted, Placed, updates_in, Zones}
use Rattle.world_laws.proofs.OtherCalls.{any_update, AtMostOne, found_any, found_alone}
use Rattle.world_laws.proofs.FirstLemmas.{Unchanged, FirstOf, IsFirst, IsProbe, first_by, start_first}
use Rattle.world_laws.proofs.UsePlay.{BeginsOk, start_begins, entries_ok, turn_in_use, turn_same, started_in_use, started_less, started_few}
use Rattle.world_laws.proofs.UseLists.{swapped_in, swapped_at}
use Rattle.world_laws.proofs.UseWorld.{AllInUse}
use Rattle.world_laws.proofs.HeldLemmas.{same_length}
use Rattle.world_laws.proofs.ReplayLemmas.{Goes, found_here, found_behind, found_new, by_after, AddedBy, Turned, turn_comes, goes_as, AllSent, all_sent, start_goes, no_updates, place_in, update_at, goes_replayed, replayed_us}
use Rattle.world_laws.proofs.SwapLemmas.{HeadEnd, HeadAt, step_keeps}

-- which line may have begun the update that is under way
abbrev BeganBy : List Line → List WorldReply → ℕ → List UnderWay → ℕ → Heading → Type 0
BeganBy lines replies top calls = λ sent head.
    (name : List ℕ) × (call : UnderWay) × (call_of name calls ≡ Some call) × (heading_of call.phase ≡ Some head) × IsOpen lines replies sent top name

-- an update that made a version has been told NOERROR, or is under way behind its swap
abbrev IsToldSo : List Line → List WorldReply → ℕ → List UnderWay → Placed → Type 0
IsToldSo lines replies top calls one =
    ((place : ℕ) × GivesAt lines replies one.place place (code_reply (heading_of_update one.update) NoError))
    ⊎ ((name : List ℕ) × (call : UnderWay) × (call_of name calls ≡ Some call) × (heading_of call.phase ≡ Some (heading_of_update one.update)) × (swapped_in call.phase ≡ 1) × IsOpen lines replies one.place top name)

-- what has a header is an update
head_updates_for : (for : Purpose) (head : Heading) (owner : ℕ) → heading_for for ≡ Some head → updates (phase.Release owner for) ≡ true
head_updates_for purpose.Drop head owner e = absurd (let wrong = e in cc)
head_updates_for (purpose.Sent sending owners) head owner e = absurd (let wrong = e in cc)
head_updates_for (purpose.Publish keeping kept entry) head owner e = refl
head_updates_for (purpose.Oldest other kept entry leaving) head owner e = refl
head_updates_for (purpose.Leaves other kept entry leaving) head owner e = refl

head_updates : (at : Phase) (head : Heading) → heading_of at ≡ Some head → updates at ≡ true
head_updates (phase.Load name) head e = absurd (let wrong = e in cc)
head_updates (phase.Look name owner) head e = absurd (let wrong = e in cc)
head_updates (phase.Seek owner seeking) head e = absurd (let wrong = e in cc)
head_updates (phase.Gain owner seeking) head e = absurd (let wrong = e in cc)
head_updates (phase.Raise name owner) head e = absurd (let wrong = e in cc)
head_updates (phase.Note name owner) head e = absurd (let wrong = e in cc)
head_updates (phase.Probe version keeping) head e = refl
head_updates (phase.Prepare version keeping) head e = refl
head_updates (phase.Swap keeping) head e = refl
head_updates (phase.Settle keeping) head e = refl
head_updates (phase.Keep given keeping) head e = refl
head_updates (phase.Enter given kept keeping) head e = refl
head_updates (phase.Release owner for) head e = head_updates_for for head owner e
head_updates (phase.Bury owner for) head e = head_updates_for for head owner e
head_updates (phase.Fade owner number for) head e = head_updates_for for head owner e
head_updates (phase.Reset owner number for) head e = head_updates_for for head owner e
head_updates (phase.Free owner number for) head e = head_updates_for for head owner e

-- an update that made its swap is told NOERROR
kept_answer : (end : End) (head : Heading) → swapped_at (Done end) ≡ 1 → HeadEnd head end → answer_at end ≡ code_reply head NoError
kept_answer (Owned name owner number) head swapped is = absurd (omega (arith, swapped))
kept_answer (OwnedWeakly name owner number) head swapped is = absurd (omega (arith, swapped))
kept_answer (Replied given) head swapped is = absurd (omega (arith, swapped))
kept_answer (NoSlot other) head swapped is = absurd (omega (arith, swapped))
kept_answer (Kept other owner entry) head swapped is = ap (λ h. code_reply h NoError) is
kept_answer (Sent sending) head swapped is = absurd (omega (arith, swapped))

-- names that are the same octets
same_name : (one two : List ℕ) → bytes_eq one two ≡ true → one ≡ two
same_name one two e = (bytes_eq-Decides one two).0 e

no_both : (b : Bool) → b ≡ true → b ≡ false → ⊥
no_both b t f = let wrong : true ≡ false = sym t ∙ f in cc

-- a call that is found stays so where another is put behind it, and where one of another name is taken out
found_old : (name : List ℕ) (calls : List UnderWay) (call more : UnderWay) → call_of name calls ≡ Some call → call_of name (calls ++ more ∷ []) ≡ Some call
found_old name [] call more e = absurd (let wrong = e in cc)
found_old name (x ∷ calls) call more e =
    elim (cases_Bool (bytes_eq x.name name)) [
      | inl same ↦ found_here name x (calls ++ more ∷ []) same ∙ (sym (found_here name x calls same) ∙ e)
      | inr other ↦ found_behind name x (calls ++ more ∷ []) other ∙ found_old name calls call more (sym (found_behind name x calls other) ∙ e)
    ]

taken_away : (name : List ℕ) (x : UnderWay) (calls : List UnderWay) → bytes_eq x.name name ≡ true → without_call name (x ∷ calls) ≡ without_call name calls
taken_away name x calls same = rw same refl

left_there : (name : List ℕ) (x : UnderWay) (calls : List UnderWay) → bytes_eq x.name name ≡ false → without_call name (x ∷ calls) ≡ x ∷ without_call name calls
left_there name x calls other = rw other refl

found_beside : (gone name : List ℕ) (calls : List UnderWay) (call : UnderWay) → bytes_eq gone name ≡ false → call_of name calls ≡ Some call → call_of name (without_call gone calls) ≡ Some call
found_beside gone name [] call apart e = absurd (let wrong = e in cc)
found_beside gone name (x ∷ calls) call apart e =
    elim (cases_Bool (bytes_eq x.name gone)) [
      | inl out ↦ (
          let is = same_name x.name gone out in
          let other : bytes_eq x.name name ≡ false = ap (λ n. bytes_eq n name) is ∙ apart in
          ap (call_of name) (taken_away gone x calls out) ∙ found_beside gone name calls call apart (sym (found_behind name x calls other) ∙ e)
          )
      | inr stays ↦ ap (call_of name) (left_there gone x calls stays) ∙ elim (cases_Bool (bytes_eq x.name name)) [
        | inl same ↦ found_here name x (without_call gone calls) same ∙ (sym (found_here name x calls same) ∙ e)
        | inr other ↦ found_behind name x (without_call gone calls) other ∙ found_beside gone name calls call apart (sym (found_behind name x calls other) ∙ e)
      ]
    ]

none_without : (name : List ℕ) (calls : List UnderWay) → call_of name (without_call name calls) ≡ None
none_without name [] = refl
none_without name (x ∷ calls) =
    elim (cases_Bool (bytes_eq x.name name)) [
      | inl same ↦ ap (call_of name) (taken_away name x calls same) ∙ none_without name calls
      | inr other ↦ ap (call_of name) (left_there name x calls other) ∙ (found_behind name x (without_call name calls) other ∙ none_without name calls)
    ]

-- of two updates under way each is the other
found_first : (name : List ℕ) (x : UnderWay) (calls : List UnderWay) (call : UnderWay) → bytes_eq x.name name ≡ true → call_of name (x ∷ calls) ≡ Some call → x ≡ call
found_first name x calls call same e = (let f : Some x ≡ Some call = sym (found_here name x calls same) ∙ e in cc)

one_update : (one two : List ℕ) (calls : List UnderWay) (a b : UnderWay) → AtMostOne calls → call_of one calls ≡ Some a → call_of two calls ≡ Some b → updates a.phase ≡ true → updates b.phase ≡ true → one ≡ two
one_update one two [] a b alone e f t u = absurd (let wrong = e in cc)
one_update one two (x ∷ calls) a b alone e f t u =
    elim (cases_Bool (bytes_eq x.name one)) [
      | inl first ↦ elim (cases_Bool (bytes_eq x.name two)) [
        | inl second ↦ sym (same_name x.name one first) ∙ same_name x.name two second
        | inr later ↦ (
            let is = found_first one x calls a first e in
            absurd (found_any two calls b (sym (found_behind two x calls later) ∙ f) u (alone.0 (ap (λ (c : UnderWay). updates c.phase) is ∙ t)))
            )
      ]
      | inr behind ↦ elim (cases_Bool (bytes_eq x.name two)) [
        | inl second ↦ (
            let is = found_first two x calls b second f in
            absurd (found_any one calls a (sym (found_behind one x calls behind) ∙ e) t (alone.0 (ap (λ (c : UnderWay). updates c.phase) is ∙ u)))
            )
        | inr later ↦ one_update one two calls a b alone.1 (sym (found_behind one x calls behind) ∙ e) (sym (found_behind two x calls later) ∙ f) t u
      ]
    ]

-- a call stays under way where the line doesn't end it
open_on : (lines : List Line) (replies : List WorldReply) (sent top : ℕ) (name : List ℕ) → ((given : Answer) → EndsUnder lines replies top name given → ⊥) → IsOpen lines replies sent top name → IsOpen lines replies sent (top + 1) name
open_on lines replies sent top name goes_on o = record {
  call = o.call;
  line = o.line;
  reply = o.reply;
  before = (let b = o.before in omega (arith, b));
  unended = λ between given l m ends. elim (eqb_tells between top) [
    | inl here ↦ goes_on given (subst (λ p. EndsUnder lines replies p name given) here.1 ends)
    | inr apart ↦ o.unended between given l (omega (arith, m, apart.1)) ends
  ];
}

-- a line of another kind, or of another call, and one that isn't a call's last, end none
abbrev pub Tells : List Line → List WorldReply → ℕ → Line → WorldReply → Type 0
Tells lines replies top line given = (slice_get lines top ≡ Some line) × (slice_get replies top ≡ Some given)

whole_ends_none : (lines : List Line) (replies : List WorldReply) (top : ℕ) (call : Call) (name : List ℕ) (given : Answer) → slice_get lines top ≡ Some (Whole call) → EndsUnder lines replies top name given → ⊥
whole_ends_none lines replies top call name given here ends = let wrong : Some (Whole call) ≡ Some (Next name) = sym here ∙ ends.0 in cc

begin_ends_none : (lines : List Line) (replies : List WorldReply) (top : ℕ) (begun : List ℕ) (call : Call) (name : List ℕ) (given : Answer) → slice_get lines top ≡ Some (Begin begun call) → EndsUnder lines replies top name given → ⊥
begin_ends_none lines replies top begun call name given here ends = let wrong : Some (Begin begun call) ≡ Some (Next name) = sym here ∙ ends.0 in cc

other_ends_none : (lines : List Line) (replies : List WorldReply) (top : ℕ) (other name : List ℕ) (given : Answer) → slice_get lines top ≡ Some (Next other) → bytes_eq other name ≡ false → EndsUnder lines replies top name given → ⊥
other_ends_none lines replies top other name given here apart ends =
    let is : other ≡ name = (let e : Some (Next other) ≡ Some (Next name) = sym here ∙ ends.0 in cc) in
    no_both (bytes_eq other name) ((bytes_eq-Decides other name).1 is) apart

refused_ends_none : (lines : List Line) (replies : List WorldReply) (top : ℕ) (name : List ℕ) (given : Answer) → slice_get replies top ≡ Some NotEnabled → EndsUnder lines replies top name given → ⊥
refused_ends_none lines replies top name given here ends = let wrong : Some NotEnabled ≡ Some (Last ends.1 given) = sym here ∙ ends.2 in cc

step_ends_none : (lines : List Line) (replies : List WorldReply) (top : ℕ) (name : List ℕ) (step : StepName) (given : Answer) → slice_get replies top ≡ Some (Step step) → EndsUnder lines replies top name given → ⊥
step_ends_none lines replies top name step given here ends = let wrong : Some (Step step) ≡ Some (Last ends.1 given) = sym here ∙ ends.2 in cc

-- what becomes of a call under way behind a line: it is there still and isn't ended; or the line takes its next step, and it goes on, or ends
abbrev pub Fate : List Line → List WorldReply → ℕ → World → Line → WorldReply → World → List ℕ → UnderWay → Type 0
Fate lines replies top before line given after name call =
    ((call_of name after.calls ≡ Some call) × ((answer : Answer) → EndsUnder lines replies top name answer → ⊥))
    ⊎ (((further : Phase) × (words : Zones) × (step_once before.words call.phase ≡ Some (On further, words)) × (call_of name after.calls ≡ Some (record { name = name; phase = further })) × ((answer : Answer) → EndsUnder lines replies top name answer → ⊥) × (after.words ≡ words))
    ⊎ ((end : End) × (words : Zones) × (step_once before.words call.phase ≡ Some (Done end, words)) × (after.calls ≡ without_call name before.calls) × EndsUnder lines replies top name (answer_at end)))

abbrev FateBehind : List Line → List WorldReply → ℕ → World → Line → List ℕ → UnderWay → Option (WorldReply × World) → Type 0
FateBehind lines replies top before line name call o = (given : WorldReply) (after : World) → o ≡ Some (given, after) → slice_get replies top ≡ Some given → Fate lines replies top before line given after name call

fate_some : (lines : List Line) (replies : List WorldReply) (top : ℕ) (before : World) (line : Line) (name : List ℕ) (call : UnderWay) (played : WorldReply × World)
    → (slice_get replies top ≡ Some played.0 → Fate lines replies top before line played.0 played.1 name call) → FateBehind lines replies top before line name call (Some played)
fate_some lines replies top before line name call played f given after e here =
    let pair : played ≡ (given, after) = (let i = e in cc) in
    subst (λ (p : WorldReply × World). Fate lines replies top before line p.0 p.1 name call) pair (f (here ∙ ap (λ (p : WorldReply × World). Some p.0) (sym pair)))

fate_if : (lines : List Line) (replies : List WorldReply) (top : ℕ) (before : World) (line : Line) (name : List ℕ) (call : UnderWay) (test : Bool) (one two : Option (WorldReply × World))
    → FateBehind lines replies top before line name call one → FateBehind lines replies top before line name call two → FateBehind lines replies top before line name call (if test then one else two)
fate_if lines replies top before line name call true one two a b = a
fate_if lines replies top before line name call false one two a b = b

fate_none : (lines : List Line) (replies : List WorldReply) (top : ℕ) (before : World) (line : Line) (name : List ℕ) (call : UnderWay) → FateBehind lines replies top before line name call None
fate_none lines replies top before line name call given after e here = absurd (let wrong = e in cc)

made_calls : (world : World) (call : Call) (came : Progress × Zones) → (all_made world call came).1.calls ≡ world.calls
made_calls world call (On at, words) = refl
made_calls world call (Done end, words) = refl

whole_fate : (lines : List Line) (replies : List WorldReply) (top : ℕ) (world : World) (made : Call) (how : Start) (name : List ℕ) (call : UnderWay) → slice_get lines top ≡ Some (Whole made) → call_of name world.calls ≡ Some call
    → FateBehind lines replies top world (Whole made) name call (whole world made how)
whole_fate lines replies top world made Refused name call here found = fate_some lines replies top world (Whole made) name call _ (λ reported. inl (found, λ answer. whole_ends_none lines replies top made name answer here))
whole_fate lines replies top world made (Answers answer) name call here found =
    fate_if lines replies top world (Whole made) name call (is_full world) _ _ (fate_none lines replies top world (Whole made) name call)
    (fate_some lines replies top world (Whole made) name call _ (λ reported. inl (found, λ answer. whole_ends_none lines replies top made name answer here)))
whole_fate lines replies top world made (Takes at) name call here found =
    fate_if lines replies top world (Whole made) name call (is_full world) _ _ (fate_none lines replies top world (Whole made) name call)
    (fate_some lines replies top world (Whole made) name call _ (λ reported. inl (ap (call_of name) (made_calls world made (steps_up_to most_steps world.words at)) ∙ found, λ answer. whole_ends_none lines replies top made name answer here)))

begin_fate : (lines : List Line) (replies : List WorldReply) (top : ℕ) (world : World) (begun : List ℕ) (made : Call) (how : Start) (name : List ℕ) (call : UnderWay) → slice_get lines top ≡ Some (Begin begun made) → call_of name world.calls ≡ Some call
    → FateBehind lines replies top world (Begin begun made) name call (begin_call world begun made how)
begin_fate lines replies top world begun made Refused name call here found = fate_some lines replies top world (Begin begun made) name call _ (λ reported. inl (found, λ answer. begin_ends_none lines replies top begun made name answer here))
begin_fate lines replies top world begun made (Answers answer) name call here found =
    fate_if lines replies top world (Begin begun made) name call (is_full world) _ _ (fate_none lines replies top world (Begin begun made) name call)
    (fate_some lines replies top world (Begin begun made) name call _ (λ reported. inl (found, λ answer. begin_ends_none lines replies top begun made name answer here)))
begin_fate lines replies top world begun made (Takes at) name call here found =
    fate_if lines replies top world (Begin begun made) name call (is_full world) _ _ (fate_none lines replies top world (Begin begun made) name call)
    (fate_some lines replies top world (Begin begun made) name call _ (λ reported. inl (found_old name world.calls call (record { name = begun; phase = at }) found, λ answer. begin_ends_none lines replies top begun made name answer here)))

under_fate : (lines : List Line) (replies : List WorldReply) (top : ℕ) (world : World) (begun : List ℕ) (made : Call) (other : Option UnderWay) (name : List ℕ) (call : UnderWay) → slice_get lines top ≡ Some (Begin begun made) → call_of name world.calls ≡ Some call
    → FateBehind lines replies top world (Begin begun made) name call (begin_under world begun made other)
under_fate lines replies top world begun made None name call here found = begin_fate lines replies top world begun made (start world made) name call here found
under_fate lines replies top world begun made (Some other) name call here found = fate_some lines replies top world (Begin begun made) name call _ (λ reported. inl (found, λ answer. begin_ends_none lines replies top begun made name answer here))

-- the call of the line's own name
own_fate : (lines : List Line) (replies : List WorldReply) (top : ℕ) (world : World) (name : List ℕ) (call : UnderWay) (o : Option (Progress × Zones)) → slice_get lines top ≡ Some (Next name) → call_of name world.calls ≡ Some call → step_once world.words call.phase ≡ o
    → slice_get replies top ≡ Some (stepped world name call.phase o).0 → Fate lines replies top world (Next name) (stepped world name call.phase o).0 (stepped world name call.phase o).1 name call
own_fate lines replies top world name call None here found is reported = inl (found, λ answer. refused_ends_none lines replies top name answer reported)
own_fate lines replies top world name call (Some (On further, words)) here found is reported =
    inr (inl (further, words, is, found_new name (without_call name world.calls) further (none_without name world.calls), λ answer. step_ends_none lines replies top name (step_name call.phase) answer reported, refl))
own_fate lines replies top world name call (Some (Done end, words)) here found is reported = inr (inr (end, words, is, refl, (here, step_name call.phase, reported)))

-- and one of another name
beside_fate : (lines : List Line) (replies : List WorldReply) (top : ℕ) (world : World) (other : List ℕ) (stepping : UnderWay) (o : Option (Progress × Zones)) (name : List ℕ) (call : UnderWay) → slice_get lines top ≡ Some (Next other) → bytes_eq other name ≡ false → call_of name world.calls ≡ Some call
    → Fate lines replies top world (Next other) (stepped world other stepping.phase o).0 (stepped world other stepping.phase o).1 name call
beside_fate lines replies top world other stepping None name call here apart found = inl (found, λ answer. other_ends_none lines replies top other name answer here apart)
beside_fate lines replies top world other stepping (Some (On further, words)) name call here apart found =
    inl (found_old name (without_call other world.calls) call (record { name = other; phase = further }) (found_beside other name world.calls call apart found), λ answer. other_ends_none lines replies top other name answer here apart)
beside_fate lines replies top world other stepping (Some (Done end, words)) name call here apart found =
    inl (found_beside other name world.calls call apart found, λ answer. other_ends_none lines replies top other name answer here apart)

next_fate : (lines : List Line) (replies : List WorldReply) (top : ℕ) (world : World) (other : List ℕ) (o : Option UnderWay) (name : List ℕ) (call : UnderWay) → slice_get lines top ≡ Some (Next other) → call_of other world.calls ≡ o → call_of name world.calls ≡ Some call
    → slice_get replies top ≡ Some (next world other o).0 → Fate lines replies top world (Next other) (next world other o).0 (next world other o).1 name call
next_fate lines replies top world other None name call here e found reported = inl (found, λ answer. refused_ends_none lines replies top name answer reported)
next_fate lines replies top world other (Some stepping) name call here e found reported =
    elim (cases_Bool (bytes_eq other name)) [
      | inl same ↦ (
          let is = same_name other name same in
          let it : stepping ≡ call = (let f : Some stepping ≡ Some call = sym e ∙ (ap (λ n. call_of n world.calls) is ∙ found) in cc) in
          subst (λ n. Fate lines replies top world (Next other) (stepped world other stepping.phase (step_once world.words stepping.phase)).0 (stepped world other stepping.phase (step_once world.words stepping.phase)).1 n call) is
          (subst (λ c. Fate lines replies top world (Next other) (stepped world other stepping.phase (step_once world.words stepping.phase)).0 (stepped world other stepping.phase (step_once world.words stepping.phase)).1 other c) it
          (own_fate lines replies top world other stepping (step_once world.words stepping.phase) here e refl reported))
          )
      | inr apart ↦ beside_fate lines replies top world other stepping (step_once world.words stepping.phase) name call here apart found
    ]

pub fate : (lines : List Line) (replies : List WorldReply) (top : ℕ) (world : World) (line : Line) (given : WorldReply) (after : World) (name : List ℕ) (call : UnderWay) → turn world line ≡ Some (given, after) → Tells lines replies top line given → call_of name world.calls ≡ Some call
    → Fate lines replies top world line given after name call
fate lines replies top world (Whole made) given after name call e reported found = whole_fate lines replies top world made (start world made) name call reported.0 found given after e reported.1
fate lines replies top world (Begin begun made) given after name call e reported found = under_fate lines replies top world begun made (call_of begun world.calls) name call reported.0 found given after e reported.1
fate lines replies top world (Next other) given after name call e reported found =
    fate_some lines replies top world (Next other) name call (next world other (call_of other world.calls)) (λ here. next_fate lines replies top world other (call_of other world.calls) name call reported.0 refl found here) given after e reported.1

-- the line that began the update under way is still the one
began_on : (lines : List Line) (replies : List WorldReply) (top : ℕ) (world : World) (line : Line) (given : WorldReply) (after : World) → Tells lines replies top line given → turn world line ≡ Some (given, after) → AtMostOne world.calls → any_update after.calls ≡ true → (sent : ℕ) (head : Heading)
    → by_after (scripted (IsSentAt lines) (top + 1) (BeganBy lines replies top world.calls)) top line given after sent head → BeganBy lines replies (top + 1) after.calls sent head
began_on lines replies top world line given after t e one some sent head by =
    elim by [
      | inl old ↦ elim (fate lines replies top world line given after old.0 old.1 e t old.2) [
        | inl stays ↦ (old.0, old.1, stays.0, old.3, open_on lines replies sent top old.0 stays.1 old.4)
        | inr goes ↦ elim goes [
          | inl steps ↦ (
              let keeps = step_keeps world.words steps.1 old.1.phase (On steps.0) steps.2 in
              (old.0, record { name = old.0; phase = steps.0 }, steps.3, keeps.1 head old.3, open_on lines replies sent top old.0 steps.4 old.4)
              )
          | inr ends ↦ absurd (no_both (any_update after.calls) some (ap any_update ends.3 ∙ found_alone old.0 world.calls old.1 old.2 one (head_updates old.1.phase head old.3)))
        ]
      ]
      | inr begun ↦ (
        begun.2,
        begun.5,
        begun.6,
        begun.7,
        record {
          call = begun.3;
          line = ap (slice_get lines) begun.0 ∙ (t.0 ∙ ap Some begun.4);
          reply = ap (slice_get replies) begun.0 ∙ (t.1 ∙ ap Some begun.1);
          before = (let is = begun.0 in omega (arith, is));
          unended = λ between answer l m. absurd (let is = begun.0 in omega (arith, is, l, m));
        },
      )
    ]

-- what was told of an update is, and one under way goes on, or is told NOERROR
told_on : (lines : List Line) (replies : List WorldReply) (top : ℕ) (world : World) (line : Line) (given : WorldReply) (after : World) (one : Placed) → Tells lines replies top line given → turn world line ≡ Some (given, after) → IsToldSo lines replies top world.calls one → IsToldSo lines replies (top + 1) after.calls one
told_on lines replies top world line given after one t e s =
    elim s [
      | inl reported ↦ inl reported
      | inr under ↦ elim (fate lines replies top world line given after under.0 under.1 e t under.2) [
        | inl stays ↦ inr (under.0, under.1, stays.0, under.3, under.4, open_on lines replies one.place top under.0 stays.1 under.5)
        | inr goes ↦ elim goes [
          | inl steps ↦ (
              let keeps = step_keeps world.words steps.1 under.1.phase (On steps.0) steps.2 in
              inr (under.0, record { name = under.0; phase = steps.0 }, steps.3, keeps.1 (heading_of_update one.update) under.3, keeps.0 under.4, open_on lines replies one.place top under.0 steps.4 under.5)
              )
          | inr ends ↦ (
              let keeps = step_keeps world.words ends.1 under.1.phase (Done ends.0) ends.2 in
              let is = kept_answer ends.0 (heading_of_update one.update) (keeps.0 under.4) (keeps.1 (heading_of_update one.update) under.3) in
              inl (top, inr (under.0, under.5, subst (λ a. EndsUnder lines replies top under.0 a) is ends.4))
              )
        ]
      ]
    ]

-- an update that a line adds: that of a whole call is told NOERROR at once
made_told : (world : World) (call : Call) (came : Progress × Zones) (head : Heading) (given : WorldReply) (after : World) → swapped_at came.0 ≡ 1 → HeadAt head came.0 → Unchanged world.words came → (after.words ≡ world.words → ⊥) → all_made world call came ≡ (given, after) → given ≡ Answered (code_reply head NoError)
made_told world call (On at, words) head given after swapped headed same changed e = absurd (changed (ap (λ (p : WorldReply × World). p.1.words) (sym e) ∙ same))
made_told world call (Done end, words) head given after swapped headed same changed e = ap (λ (p : WorldReply × World). p.0) (sym e) ∙ ap Answered (kept_answer end head swapped headed)

all_told : (world : World) (call : Call) (at : Phase) (head : Heading) (test : Bool) (given : WorldReply) (after : World) → swapped_at (steps_up_to most_steps world.words at).0 ≡ 1 → HeadAt head (steps_up_to most_steps world.words at).0 → Unchanged world.words (steps_up_to most_steps world.words at) → (after.words ≡ world.words → ⊥)
    → (if test then None else Some (all_made world call (steps_up_to most_steps world.words at))) ≡ Some (given, after) → given ≡ Answered (code_reply head NoError)
all_told world call at head true given after swapped headed same changed e = absurd (let wrong = e in cc)
all_told world call at head false given after swapped headed same changed e =
    made_told world call (steps_up_to most_steps world.words at) head given after swapped headed same changed (some_pair (all_made world call (steps_up_to most_steps world.words at)) (given, after) e)
  where
    some_pair : (one two : WorldReply × World) → Some one ≡ Some two → one ≡ two
    some_pair one two f = (let g = f in cc)

-- its steps, once the first was taken, are taken to the end
taken_first : (world : World) (cell : Cell Numbered) (call : Call) (at : Phase) (how : Start) → how ≡ Takes at → FirstOf world.words how → BeginsOk world cell call how → IsFirst world.words at × (IsProbe at → length cell.published < 2 ^ 64)
taken_first world cell call at how is first ok =
    let f = subst (λ h. FirstOf world.words h) is first in
    let o = subst (λ h. BeginsOk world cell call h) is ok in
    (f, o.1)

-- the words are others where one update more is told
words_change : (S T : Script) (first : List Record) (world after : World) (one : Placed) (g : Goes S first world) (h : Goes T first after) → h.us ≡ g.us ++ one ∷ [] → after.words ≡ world.words → ⊥
words_change S T first world after one g h added same =
    let shows = subst (λ w. Shows w h.tells.cell) same h.tells.shows in
    let lengths = same_length world.words g.tells.cell h.tells.cell g.tells.shows shows in
    let before = g.tells.replays.counted in
    let now = h.tells.replays.counted in
    let us = length-map g.us (λ (o : Placed). o.update) in
    let later = length-map h.us (λ (o : Placed). o.update) in
    let more : length h.us ≡ length (g.us ++ one ∷ []) = ap length added in
    omega (arith, lengths, before, now, us, later, more, length-append g.us (one ∷ []))

-- that of a call that the line goes on with is under way behind its swap, or told NOERROR
step_told : (lines : List Line) (replies : List WorldReply) (top : ℕ) (world : World) (name : List ℕ) (call : UnderWay) (progress : Progress) (words : Zones) (one : Placed) → slice_get lines top ≡ Some (Next name) → swapped_at progress ≡ 1 → HeadAt (heading_of_update one.update) progress → IsOpen lines replies one.place top name
    → slice_get replies top ≡ Some (stepped world name call.phase (Some (progress, words))).0 → IsToldSo lines replies (top + 1) (stepped world name call.phase (Some (progress, words))).1.calls one
step_told lines replies top world name call (On further) words one here swapped headed still reported =
    inr (name, record { name = name; phase = further }, found_new name (without_call name world.calls) further (none_without name world.calls), headed, swapped, open_on lines replies one.place top name (λ answer. step_ends_none lines replies top name (step_name call.phase) answer reported) still)
step_told lines replies top world name call (Done end) words one here swapped headed still reported =
    inl (top, inr (name, still, (here, step_name call.phase, reported ∙ ap (λ a. Some (Last (step_name call.phase) a)) (kept_answer end (heading_of_update one.update) swapped headed))))

step_by_turn : (world : World) (name : List ℕ) (call : UnderWay) (progress : Progress) (words : Zones) (given : WorldReply) (after : World) → turn world (Next name) ≡ Some (given, after) → call_of name world.calls ≡ Some call → step_once world.words call.phase ≡ Some (progress, words)
    → stepped world name call.phase (Some (progress, words)) ≡ (given, after)
step_by_turn world name call progress words given after e found is =
    let reported : next world name (call_of name world.calls) ≡ (given, after) = (let f = e in cc) in
    ap (stepped world name call.phase) (sym is) ∙ (ap (next world name) (sym found) ∙ reported)

-- the name of the update under way
own_open : (lines : List Line) (replies : List WorldReply) (top : ℕ) (world : World) (name : List ℕ) (call : UnderWay) (sent : ℕ) (head : Heading) → AtMostOne world.calls → call_of name world.calls ≡ Some call → updates call.phase ≡ true → BeganBy lines replies top world.calls sent head
    → (heading_of call.phase ≡ Some head) × IsOpen lines replies sent top name
own_open lines replies top world name call sent head one found is by =
    let same = one_update by.0 name world.calls by.1 call one by.2 found (head_updates by.1.phase head by.3) is in
    let it : by.1 ≡ call = (let f : Some by.1 ≡ Some call = sym by.2 ∙ (ap (λ n. call_of n world.calls) same ∙ found) in cc) in
    (subst (λ (c : UnderWay). heading_of c.phase ≡ Some head) it by.3, subst (λ n. IsOpen lines replies sent top n) same by.4)

-- what is so at each line
record Now (lines : List Line) (replies : List WorldReply) (first : List Record) (top : ℕ) (world : World) : Type 0 where
  goes : Goes (scripted (IsSentAt lines) top (BeganBy lines replies top world.calls)) first world
  all_in_use : AllInUse world
  less : world.window ≤ 16
  few : length world.entries ≤ 16
  reported : (k : ℕ) (one : Placed) → slice_get goes.us k ≡ Some one → IsToldSo lines replies top world.calls one

abbrev LineFact : List Line → List WorldReply → List Placed → ℕ → World → World → Type 0
LineFact lines replies us top world after =
    LeavesPublished world.words after.words ⊎ ((k : ℕ) × (one : Placed) × (slice_get us k ≡ Some one) × IsOfCall lines replies one.place top)

abbrev TurnOf : (lines : List Line) (replies : List WorldReply) (first : List Record) (top : ℕ) (world : World) → Now lines replies first top world → Line → WorldReply → World → Type 0
TurnOf lines replies first top world n line given after =
    Turned (scripted (IsSentAt lines) (top + 1) (BeganBy lines replies top world.calls)) first world n.goes.us line top given after

told_new : (lines : List Line) (replies : List WorldReply) (first : List Record) (top : ℕ) (world : World) (line : Line) (given : WorldReply) (after : World) (one : Placed) → Tells lines replies top line given → turn world line ≡ Some (given, after) → (n : Now lines replies first top world)
    → (t : TurnOf lines replies first top world n line given after) → t.goes.us ≡ n.goes.us ++ one ∷ [] → AddedBy (scripted (IsSentAt lines) (top + 1) (BeganBy lines replies top world.calls)) world line top one
    → IsToldSo lines replies (top + 1) after.calls one × IsOfCall lines replies one.place top
told_new lines replies first top world (Whole call) given after one t e n turned added by =
    let how : start world call ≡ Takes by.1 = by.2 in
    let begins = start_begins (scripted (IsSentAt lines) top (BeganBy lines replies top world.calls)) first world call n.goes n.all_in_use in
    let firsts = taken_first world n.goes.tells.cell call by.1 (start world call) how (start_first world call (entries_ok world n.all_in_use n.few)) begins in
    let same = first_by world.words n.goes.tells.cell by.1 (step_once world.words by.1) refl firsts.0 n.goes.tells.shows firsts.1 in
    let changed = words_change _ _ first world after one n.goes turned.goes added in
    let played : (if is_full world then None else Some (all_made world call (steps_up_to most_steps world.words by.1))) ≡ Some (given, after) = ap (whole world call) (sym how) ∙ e in
    let is = all_told world call by.1 (heading_of_update one.update) (is_full world) given after by.3 by.4 same changed played in
    (inl (top, inl (sym by.0, t.1 ∙ ap Some is)), inl (sym by.0))
told_new lines replies first top world (Begin name call) given after one t e n turned added by = absurd by
told_new lines replies first top world (Next name) given after one t e n turned added by =
    let own = own_open lines replies top world name by.0 one.place (heading_of_update one.update) n.goes.one by.1 by.3 by.2 in
    let pair = step_by_turn world name by.0 by.4 by.5 given after e by.1 by.6 in
    let reported : slice_get replies top ≡ Some (stepped world name by.0.phase (Some (by.4, by.5))).0 = t.1 ∙ ap (λ (p : WorldReply × World). Some p.0) (sym pair) in
    let is = step_told lines replies top world name by.0 by.4 by.5 one t.0 by.7 (by.8 (heading_of_update one.update) own.0) own.1 reported in
    (subst (λ (p : WorldReply × World). IsToldSo lines replies (top + 1) p.1.calls one) pair is, inr (name, own.1, t.0))

record After (lines : List Line) (replies : List WorldReply) (first : List Record) (top : ℕ) (world : World) (us : List Placed) (after : World) : Type 0 where
  now : Now lines replies first (top + 1) after
  more : List Placed
  extends : now.goes.us ≡ us ++ more
  fact : LineFact lines replies now.goes.us top world after

line_now : (lines : List Line) (replies : List WorldReply) (first : List Record) (top : ℕ) (world : World) (line : Line) (given : WorldReply) (after : World) → Tells lines replies top line given → ((request : List ℕ) → Sends request line → IsSentAt lines top request) → turn world line ≡ Some (given, after) → (n : Now lines replies first top world)
    → After lines replies first top world n.goes.us after
line_now lines replies first top world line given after t sent e n =
    let turned : TurnOf lines replies first top world n line given after = turn_comes (scripted (IsSentAt lines) top (BeganBy lines replies top world.calls)) first world line sent n.goes given after e in
    let goes = goes_as (scripted (IsSentAt lines) (top + 1) (by_after (scripted (IsSentAt lines) (top + 1) (BeganBy lines replies top world.calls)) top line given after)) (top + 1) (BeganBy lines replies (top + 1) after.calls) first after (omega arith)
    (λ some sent head by. began_on lines replies top world line given after t e n.goes.one some sent head by) turned.goes in
    let all_in_use = turn_in_use (scripted (IsSentAt lines) top (BeganBy lines replies top world.calls)) first world line n.goes n.all_in_use n.few given after e in
    let same_on = turn_same world line given after e in
    elim turned.comes [
      | inl same ↦ (
          let is : goes.0.us ≡ n.goes.us = goes.1 ∙ same.0 in
          record {
            now = record {
              goes = goes.0;
              all_in_use = all_in_use;
              less = subst (λ w. w ≤ 16) (sym same_on.1) n.less;
              few = same_on.2 n.less n.few;
              reported = λ k one at. told_on lines replies top world line given after one t e (n.reported k one (ap (λ us. slice_get us k) (sym is) ∙ at));
            };
            more = [];
            extends = is ∙ sym (append-nil n.goes.us);
            fact = inl same.1;
          }
          )
      | inr adds ↦ (
          let is : goes.0.us ≡ n.goes.us ++ adds.0 ∷ [] = goes.1 ∙ adds.1 in
          let new = told_new lines replies first top world line given after adds.0 t e n turned adds.1 adds.2 in
          record {
            now = record {
              goes = goes.0;
              all_in_use = all_in_use;
              less = subst (λ w. w ≤ 16) (sym same_on.1) n.less;
              few = same_on.2 n.less n.few;
              reported = λ k one at. elim (push_cases n.goes.us adds.0 one k (ap (λ us. slice_get us k) (sym is) ∙ at)) [
                | inl old ↦ told_on lines replies top world line given after one t e (n.reported k one old)
                | inr it ↦ subst (λ o. IsToldSo lines replies (top + 1) after.calls o) it new.0
              ];
            };
            more = adds.0 ∷ [];
            extends = is;
            fact = inr (length n.goes.us, adds.0, ap (λ us. slice_get us (length n.goes.us)) is ∙ get_push_new n.goes.us adds.0 (length n.goes.us) refl, new.1);
          }
          )
    ]

-- and at all of them
abbrev EachLine : List Line → List WorldReply → List Placed → ℕ → World → List Line → Type 0
EachLine lines replies us top world [] = Unit {0}
EachLine lines replies us top world (line ∷ rest) =
    (given : WorldReply) (after : World) → turn world line ≡ Some (given, after) → LineFact lines replies us top world after × EachLine lines replies us (top + 1) after rest

record Out (lines : List Line) (replies : List WorldReply) (first : List Record) (top : ℕ) (world : World) (rest : List Line) (us : List Placed) (behind : World) : Type 0 where
  last : ℕ
  at_end : last ≡ top + length rest
  now : Now lines replies first last behind
  more : List Placed
  extends : now.goes.us ≡ us ++ more
  each : EachLine lines replies now.goes.us top world rest

get_more : (xs ys : List Placed) (k : ℕ) (y : Placed) → slice_get xs k ≡ Some y → slice_get (xs ++ ys) k ≡ Some y
get_more [] ys k y e = absurd (let wrong = e in cc)
get_more (x ∷ xs) ys zero y e = e
get_more (x ∷ xs) ys (suc k) y e = get_more xs ys k y e

fact_more : (lines : List Line) (replies : List WorldReply) (us later more : List Placed) (top : ℕ) (world after : World) → later ≡ us ++ more → LineFact lines replies us top world after → LineFact lines replies later top world after
fact_more lines replies us later more top world after is fact =
    elim fact [
      | inl leaves ↦ inl leaves
      | inr of ↦ inr (of.0, of.1, ap (λ l. slice_get l of.0) is ∙ get_more us more of.0 of.1 of.2, of.3)
    ]

abbrev At : {X : Type 0} → List X → List X → ℕ → Type 0
At {X} all rest top = (place : ℕ) (x : X) → slice_get rest place ≡ Some x → slice_get all (top + place) ≡ Some x

at_next : {X : Type 0} (all rest : List X) (x : X) (top : ℕ) → At all (x ∷ rest) top → (slice_get all top ≡ Some x) × At all rest (top + 1)
at_next {X} all rest x top at =
    let here : top + 0 ≡ top = omega arith in (
      ap (slice_get all) (sym here) ∙ at 0 x refl,
      λ place y e. (let there : top + 1 + place ≡ top + suc place = omega arith in ap (slice_get all) there ∙ at (suc place) y e),
    )

out_line : (lines : List Line) (replies : List WorldReply) (first : List Record) (top : ℕ) (world : World) (line : Line) (rest : List Line) (given : WorldReply) (after behind : World) (n : Now lines replies first top world) → turn world line ≡ Some (given, after) → (a : After lines replies first top world n.goes.us after)
    → Out lines replies first (top + 1) after rest a.now.goes.us behind → Out lines replies first top world (line ∷ rest) n.goes.us behind
out_line lines replies first top world line rest given after behind n e a out = record {
  last = out.last;
  at_end = (let is = out.at_end in omega (arith, is));
  now = out.now;
  more = a.more ++ out.more;
  extends = out.extends ∙ (ap (λ us. us ++ out.more) a.extends ∙ append_assoc n.goes.us a.more out.more);
  each = λ other others f. (
      let pair : (given, after) ≡ (other, others) = (let g : Some (given, after) ≡ Some (other, others) = sym e ∙ f in cc) in
      subst (λ (p : WorldReply × World). LineFact lines replies out.now.goes.us top world p.1 × EachLine lines replies out.now.goes.us (top + 1) p.1 rest) pair
      (fact_more lines replies a.now.goes.us out.now.goes.us out.more top world after out.extends a.fact, out.each)
      );
}

abbrev OutFrom : List Line → List WorldReply → List Record → ℕ → List Line → Type 0
OutFrom lines replies first top rest =
    (world : World) (n : Now lines replies first top world) (reported : List WorldReply) (behind : World) → At replies reported top → play world rest ≡ Some (reported, behind) → Out lines replies first top world rest n.goes.us behind

rest_out : (lines : List Line) (replies : List WorldReply) (first : List Record) (top : ℕ) (world : World) (line : Line) (rest : List Line) (n : Now lines replies first top world) (given : WorldReply) (after : World) (reported : List WorldReply) (behind : World) (o : Option (List WorldReply × World)) → turn world line ≡ Some (given, after) → slice_get lines top ≡ Some line
    → ((request : List ℕ) → Sends request line → IsSentAt lines top request) → OutFrom lines replies first (top + 1) rest → At replies reported top → play after rest ≡ o → onto_replies given o ≡ Some (reported, behind) → Out lines replies first top world (line ∷ rest) n.goes.us behind
rest_out lines replies first top world line rest n given after reported behind None e here sent all at p f = absurd (let wrong = f in cc)
rest_out lines replies first top world line rest n given after reported behind (Some played) e here sent all at p f =
    let pair : (given ∷ played.0, played.1) ≡ (reported, behind) = (let i = f in cc) in
    let same = ap (λ (t : List WorldReply × World). t.0) pair in
    let parts = at_next replies played.0 given top (subst (λ ts. At replies ts top) (sym same) at) in
    let a = line_now lines replies first top world line given after (here, parts.0) sent e n in
    subst (λ (w : World). Out lines replies first top world (line ∷ rest) n.goes.us w) (ap (λ (t : List WorldReply × World). t.1) pair)
    (out_line lines replies first top world line rest given after played.1 n e a (all after a.now played.0 played.1 parts.1 p))

line_out : (lines : List Line) (replies : List WorldReply) (first : List Record) (top : ℕ) (world : World) (line : Line) (rest : List Line) (n : Now lines replies first top world) (reported : List WorldReply) (behind : World) (o : Option (WorldReply × World)) → turn world line ≡ o → slice_get lines top ≡ Some line
    → ((request : List ℕ) → Sends request line → IsSentAt lines top request) → OutFrom lines replies first (top + 1) rest → At replies reported top → option_and_then (λ t. onto_replies t.0 (play t.1 rest)) o ≡ Some (reported, behind) → Out lines replies first top world (line ∷ rest) n.goes.us behind
line_out lines replies first top world line rest n reported behind None e here sent all at f = absurd (let wrong = f in cc)
line_out lines replies first top world line rest n reported behind (Some t) e here sent all at f = rest_out lines replies first top world line rest n t.0 t.1 reported behind (play t.1 rest) e here sent all at refl f

play_out : (lines : List Line) (replies : List WorldReply) (first : List Record) (top : ℕ) (rest : List Line) → At lines rest top → AllSent (IsSentAt lines) top rest → OutFrom lines replies first top rest
play_out lines replies first top [] at_lines sent world n reported behind at e =
    let pair : ([], world) ≡ (reported, behind) = (let i = e in cc) in
    subst (λ (w : World). Out lines replies first top world [] n.goes.us w) (ap (λ (t : List WorldReply × World). t.1) pair)
    (record { last = top; at_end = omega arith; now = n; more = []; extends = sym (append-nil n.goes.us); each = tt })
play_out lines replies first top (line ∷ rest) at_lines sent world n reported behind at e =
    let parts = at_next lines rest line top at_lines in
    line_out lines replies first top world line rest n reported behind (turn world line) refl parts.0 sent.0 (play_out lines replies first (top + 1) rest parts.1 sent.1) at e

-- the line at a place
abbrev EachAt : (lines : List Line) (replies : List WorldReply) (us : List Placed) (top : ℕ) (rest : List Line) → Type 0
EachAt lines replies us top rest =
    (world : World) (place : ℕ) (line : Line) (earlier : List WorldReply) (before : World) (reply : WorldReply) (after : World) → EachLine lines replies us top world rest → slice_get rest place ≡ Some line → play world (take place rest) ≡ Some (earlier, before) → turn before line ≡ Some (reply, after)
    → LineFact lines replies us (top + place) before after

each_played : (lines : List Line) (replies : List WorldReply) (us : List Placed) (top : ℕ) (rest : List Line) (given : WorldReply) (between : World) (place : ℕ) (line : Line) (earlier : List WorldReply) (before : World) (reply : WorldReply) (after : World) (o : Option (List WorldReply × World)) → EachAt lines replies us (top + 1) rest
    → EachLine lines replies us (top + 1) between rest → slice_get rest place ≡ Some line → play between (take place rest) ≡ o → onto_replies given o ≡ Some (earlier, before) → turn before line ≡ Some (reply, after) → LineFact lines replies us (top + 1 + place) before after
each_played lines replies us top rest given between place line earlier before reply after None all each at p e f = absurd (let wrong = e in cc)
each_played lines replies us top rest given between place line earlier before reply after (Some played) all each at p e f =
    let pair : (given ∷ played.0, played.1) ≡ (earlier, before) = (let i = e in cc) in
    let same : played.1 ≡ before = ap (λ (t : List WorldReply × World). t.1) pair in
    all between place line played.0 before reply after each at (p ∙ ap (λ w. Some (played.0, w)) same) f

each_turn : (lines : List Line) (replies : List WorldReply) (us : List Placed) (top : ℕ) (world : World) (first_line : Line) (rest : List Line) (place : ℕ) (line : Line) (earlier : List WorldReply) (before : World) (reply : WorldReply) (after : World) (o : Option (WorldReply × World)) → turn world first_line ≡ o → EachAt lines replies us (top + 1) rest
    → EachLine lines replies us top world (first_line ∷ rest) → slice_get rest place ≡ Some line → option_and_then (λ t. onto_replies t.0 (play t.1 (take place rest))) o ≡ Some (earlier, before) → turn before line ≡ Some (reply, after) → LineFact lines replies us (top + 1 + place) before after
each_turn lines replies us top world first_line rest place line earlier before reply after None t all each at e f = absurd (let wrong = e in cc)
each_turn lines replies us top world first_line rest place line earlier before reply after (Some reported) t all each at e f =
    each_played lines replies us top rest reported.0 reported.1 place line earlier before reply after (play reported.1 (take place rest)) all (each reported.0 reported.1 t).1 at refl e f

each_at : (lines : List Line) (replies : List WorldReply) (us : List Placed) (top : ℕ) (rest : List Line) → EachAt lines replies us top rest
each_at lines replies us top [] world place line earlier before reply after each at e f = absurd (let wrong = at in cc)
each_at lines replies us top (x ∷ rest) world zero line earlier before reply after each at e f =
    let pair : ([], world) ≡ (earlier, before) = (let i = e in cc) in
    let same : world ≡ before = ap (λ (t : List WorldReply × World). t.1) pair in
    let is : x ≡ line = (let i = at in cc) in
    let here : top + 0 ≡ top = omega arith in
    let played : turn world x ≡ Some (reply, after) = ap (turn world) is ∙ (ap (λ w. turn w line) same ∙ f) in
    subst (λ p. LineFact lines replies us p before after) (sym here) (subst (λ w. LineFact lines replies us top w after) same (each reply after played).0)
each_at lines replies us top (x ∷ rest) world (suc place) line earlier before reply after each at e f =
    let there : top + 1 + place ≡ top + suc place = omega arith in
    subst (λ p. LineFact lines replies us p before after) there
    (each_turn lines replies us top world x rest place line earlier before reply after (turn world x) refl (each_at lines replies us (top + 1) rest) each at e f)

-- what is told of updates behind all lines
told_out : (lines : List Line) (replies : List WorldReply) (last : ℕ) (world : World) (one : Placed) (update : DynamicUpdate) → last ≡ length lines → one.update ≡ update → IsToldSo lines replies last world.calls one → IsToldNoError lines replies world one.place update
told_out lines replies last world one update end is s =
    elim s [
      | inl reported ↦ inl (reported.0, subst (λ (u : DynamicUpdate). GivesAt lines replies one.place reported.0 (code_reply (heading_of_update u) NoError)) is reported.1)
      | inr under ↦ inr (under.0, under.1, subst (λ p. IsOpen lines replies one.place p under.0) end under.5, under.2, under.3 ∙ ap (λ (u : DynamicUpdate). Some (heading_of_update u)) is)
    ]

started_now : (lines : List Line) (replies : List WorldReply) (first : List Record) (keep window : ℕ) → Now lines replies first 0 (started first keep window)
started_now lines replies first keep window = record {
  goes = start_goes (scripted (IsSentAt lines) 0 (BeganBy lines replies 0 [])) first keep window;
  all_in_use = started_in_use first keep window;
  less = started_less first keep window;
  few = started_few first keep window;
  reported = λ k one at. absurd (no_updates (scripted (IsSentAt lines) 0 (BeganBy lines replies 0 [])) first keep window k one at);
}

-- whatever lines were played, updates are told in turn
pub told_in_turn : (first : List Record) (keep window : ℕ) (lines : List Line) (replies : List WorldReply) (world : World) → play (started first keep window) lines ≡ Some (replies, world) → AreToldInTurn first keep window lines replies world
told_in_turn first keep window lines replies world e =
    let at_lines : At lines lines 0 = λ place x f. (let here : 0 + place ≡ place = omega arith in ap (slice_get lines) here ∙ f) in
    let at_replies : At replies replies 0 = λ place x f. (let here : 0 + place ≡ place = omega arith in ap (slice_get replies) here ∙ f) in
    let out = play_out lines replies first 0 lines at_lines (all_sent lines) (started first keep window) (started_now lines replies first keep window) replies world at_replies e in
    let plain = goes_as (scripted (IsSentAt lines) out.last (BeganBy lines replies out.last world.calls)) out.last (λ place head. Unit {0}) first world (omega arith) (λ some place head by. tt) out.now.goes in
    let same = replayed_us first lines out.last world plain.0 in
    let end : out.last ≡ length lines = (let is = out.at_end in omega (arith, is)) in
    let r = goes_replayed first lines out.last world plain.0 in
    record {
      replayed = r;
      reported = λ k update at. (
          let one = update_at plain.0.us k update (ap (λ us. slice_get us k) (sym same.0) ∙ at) in
          let here : slice_get out.now.goes.us k ≡ Some one.0 = ap (λ us. slice_get us k) (sym plain.1) ∙ one.1 in
          let reported = told_out lines replies out.last world one.0 update end one.2 (out.now.reported k one.0 here) in
          let place : r.in_turn.place k ≡ one.0.place = same.1 k ∙ ap place_in one.1 in
          subst (λ p. IsToldNoError lines replies world p update) (sym place) reported
          );
      others = λ place line earlier before reply after at p f. (
          let fact = each_at lines replies out.now.goes.us 0 lines (started first keep window) place line earlier before reply after out.each at p f in
          let here : 0 + place ≡ place = omega arith in
          elim fact [
            | inl leaves ↦ inl leaves
            | inr of ↦ (
                let there : slice_get plain.0.us of.0 ≡ Some of.1 = ap (λ us. slice_get us of.0) plain.1 ∙ of.2 in
                let is : r.in_turn.place of.0 ≡ of.1.place = same.1 of.0 ∙ ap place_in there in
                let n : length (updates_in plain.0.us) ≡ length plain.0.us = length-map plain.0.us (λ (o : Placed). o.update) in
                let m : length r.updates ≡ length (updates_in plain.0.us) = ap length same.0 in
                let less = slice_get_within plain.0.us of.0 of.1 there in
                inr (of.0, omega (arith, n, m, less), subst (λ s. IsOfCall lines replies s place) (sym is) (subst (λ p. IsOfCall lines replies of.1.place p) here of.3))
                )
          ]
          );
    }
