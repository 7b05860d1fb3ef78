-- Lemmas on what is told of a fault.
use Rattle.std.proofs.Common.{ℕ, List, ◌++◌, Option, Result, Ok, Err, OnOk}
use Rattle.std.specs.Io.KnownBytes.{Appends}
use Rattle.commands.specs.Lines.{Writes}
use Rattle.commands.proofs.LinesLemmas.{Appends-twice}
use Rattle.commands.specs.Report.{AppendsSome}

-- what is written behind something that was written is something with it
pub AppendsSome-behind : {T E : Type 0} (r : Result T E) (before between after : Option (List ℕ)) (first second : List ℕ) → Appends before between first → Writes r between after second → OnOk r (AppendsSome before after)
AppendsSome-behind (Ok t) before between after first second done writes = (first ++ second, Appends-twice before between after first second done writes)
AppendsSome-behind (Err e) before between after first second done writes = tt
