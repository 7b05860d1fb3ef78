use Rattle.std.proofs.Common.{◌∷◌, ◌++◌}
use Rattle.zone_lexing.specs.Entries.{entries_of}
use Rattle.master_file.specs.Records.{start}
use Rattle.zone_lexing.proofs.LayoutLemmas.{joined-entries}
use Rattle.master_file.proofs.LineLemmas.{same_cause}
use Rattle.master_file.proofs.text_laws.parentheses_change_no_zone.Goals as goal

pub returns : goal.returns
returns c = λ origin text more out inside. same_cause (start origin) (entries_of (text ++ 10 ∷ more)) (entries_of (text ++ 32 ∷ more)) (joined-entries text more out inside)
