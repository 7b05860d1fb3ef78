-- What is printed for lines that aren't executed, and the names of the steps on words (own).
use Rattle.std.specs.Prelude.{ℕ, List, codes}
use Rattle.world_run.specs.declared.fault.WorldFault.{WorldFault}
use Rattle.world_run.specs.declared.fault.WorldFault.TheVariants.{NoMemory, Limit}
use Rattle.world_run.specs.declared.step.StepName.{StepName}
use Rattle.world_run.specs.declared.step.StepName.TheVariants as step

-- the code and the name of each reason why lines aren't executed (own)
abbrev pub world_words : WorldFault → List ℕ
world_words NoMemory = codes "V1 NoMemory"
world_words Limit = codes "V2 Limit"

-- the name of a step on a word (own)
abbrev pub step_words : StepName → List ℕ
step_words step.Load = codes "load"
step_words step.Probe = codes "probe"
step_words step.Prepare = codes "prepare"
step_words step.Swap = codes "swap"
step_words step.Settle = codes "settle"
step_words step.Release = codes "release"
step_words step.Bury = codes "bury"
step_words step.Look = codes "look"
step_words step.Raise = codes "raise"
step_words step.Note = codes "note"
step_words step.Fade = codes "fade"
step_words step.Reset = codes "reset"
step_words step.Free = codes "free"
