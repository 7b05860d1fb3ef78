-- The examples compute, once it is told what the update comes to.
use Rattle.std.proofs.Common.{refl, ap, List, [], ◌∷◌, ℕ, Option}
use Rattle.std.specs.Prelude.{codes}
use Rattle.std.specs.Option.{option_and_then, option_map}
use Rattle.cell_core.specs.Words.{word_of, first_slot}
use Rattle.cell_core.specs.WordSteps.{with_new_owner, with_note, with_slot, with_weak_word}
use Rattle.cell_core.specs.declared.words.Owner.TheVariants.{Holding, Weakly}
use Rattle.dns_rdata.specs.Record.{Record}
use Rattle.world_run.specs.declared.judged.Judged.{Judged}
use Rattle.world_run.specs.declared.step.Answer.TheVariants.{Owner}
use Rattle.world_run.specs.declared.step.Call.TheVariants.{Load, Drop, Up, Fade, Update}
use Rattle.world_run.specs.declared.step.WorldReply.{WorldReply}
use Rattle.world_run.specs.declared.step.WorldReply.TheVariants.{Answered}
use Rattle.world_run.specs.declared.step.WorldStep.{WorldStep}
use Rattle.world_run.specs.declared.step.WorldStep.TheVariants.{Whole, Begin, Next}
use Rattle.world_run.specs.Numbered.{first_version}
use Rattle.world_run.specs.World.{World, loaded_once, update_start, whole, onto_replies, play, steps_up_to}
use Rattle.world_laws.proofs.laws.examples.Goals as goal

-- the world behind `load a`
abbrev a_loaded : List Record → World
a_loaded first = record {
  words = with_new_owner (Holding 0 0) (record (loaded_once (first_version first)) { latest = word_of 0 2; granted = 2 });
  names = record { name = codes "a"; owner = 1 } ∷ [];
  weak_names = [];
  calls = [];
  keep = 0;
  window = 0;
  kept = 0 ∷ [];
  entries = [];
}

-- the world behind `load a` and `weak a w`
abbrev weak_loaded : List Record → World
weak_loaded first = record {
  words = with_new_owner (Weakly 0 0) (with_note (with_slot 0 (with_weak_word 2 (first_slot (first_version first))) (a_loaded first).words));
  names = record { name = codes "a"; owner = 1 } ∷ [];
  weak_names = record { name = codes "w"; owner = 2 } ∷ [];
  calls = [];
  keep = 0;
  window = 0;
  kept = 0 ∷ [];
  entries = [];
}

-- the replies to both, to an update by what it comes to, and to further lines
abbrev behind_weak : List Record → List ℕ → List WorldStep → Option Judged → Option (List WorldReply)
behind_weak first request lines what =
    option_map (λ played. played.0) (onto_replies (Answered (Owner (codes "a") 0)) (onto_replies (Answered (Owner (codes "w") 0)) (option_and_then (λ reported. onto_replies reported.0 (play reported.1 lines)) (whole (weak_loaded first) (Update request) (update_start (weak_loaded first) what)))))

-- the replies to `load a`, to an update by what it comes to, and to further lines
abbrev behind_update : List Record → List ℕ → List WorldStep → Option Judged → Option (List WorldReply)
behind_update first request lines what =
    option_map (λ played. played.0) (onto_replies (Answered (Owner (codes "a") 0)) (option_and_then (λ reported. onto_replies reported.0 (play reported.1 lines)) (whole (a_loaded first) (Update request) (update_start (a_loaded first) what))))

pub returns-clause-two_versions : goal.returns-clause-two_versions
unfolding steps_up_to
returns-clause-two_versions c first second head request made =
    ap (behind_update first request (Whole (Load (codes "b")) ∷ Whole (Drop (codes "a")) ∷ Whole (Drop (codes "a")) ∷ Whole (Drop (codes "b")) ∷ [])) made

pub returns-clause-one_step_at_a_time : goal.returns-clause-one_step_at_a_time
unfolding steps_up_to
returns-clause-one_step_at_a_time c first second head request made =
    ap (behind_update first request (Begin (codes "x") (Drop (codes "a")) ∷ Next (codes "x") ∷ Whole (Load (codes "a")) ∷ Next (codes "x") ∷ Next (codes "x") ∷ Next (codes "x") ∷ Next (codes "x") ∷ Next (codes "x") ∷ [])) made

pub returns-clause-weak_lines : goal.returns-clause-weak_lines
unfolding steps_up_to
returns-clause-weak_lines c first = refl

pub returns-clause-raised : goal.returns-clause-raised
unfolding steps_up_to
returns-clause-raised c first second head request made =
    ap (behind_weak first request (Begin (codes "x") (Drop (codes "a")) ∷ Next (codes "x") ∷ Whole (Up (codes "w") (codes "b")) ∷ Next (codes "x") ∷ Whole (Drop (codes "b")) ∷ Whole (Up (codes "w") (codes "e")) ∷ Whole (Fade (codes "w")) ∷ [])) made
