-- Where a step on a word can't be made.
use Rattle.std.proofs.Common.{rules, ◌≡◌, refl, Option, Some, None}
use Rattle.cell_core.specs.Words.{State}
use Rattle.cell_core.specs.WordSteps.{Makes, HasWordStep}
use Rattle.cell_core.specs.Made.{made}
use Rattle.cell_core.specs.declared.words.WordStep.{WordStep}
use Rattle.cell_core.specs.declared.words.WordEvent.{WordEvent}

-- what the function makes is a step
pub made_makes : {T : Type 0} (old new : State T) (step : WordStep T) (event : WordEvent) → made old step ≡ Some (event, new) → Makes old step event new
made_makes old new step event e = search rules

none_left : {T : Type 0} (old : State T) (step : WordStep T) (o : Option (WordEvent × State T)) → made old step ≡ o → (HasWordStep old step → ⊥) → made old step ≡ None
none_left old step None e none = e
none_left old step (Some r) e none = absurd (none (r.0, r.1, made_makes old r.1 step r.0 e))

-- without a step it makes nothing
pub none_made : {T : Type 0} (old : State T) (step : WordStep T) → (HasWordStep old step → ⊥) → made old step ≡ None
none_made old step none = none_left old step (made old step) refl none

-- what a step makes is what the function makes
pub makes_made : {T : Type 0} (old new : State T) (step : WordStep T) (event : WordEvent) → Makes old step event new → made old step ≡ Some (event, new)
makes_made old new step event m = search rules
