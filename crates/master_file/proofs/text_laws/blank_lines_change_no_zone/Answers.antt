use Rattle.std.proofs.Common.{List, ◌∷◌, ◌++◌, ◌+◌, refl, ap, ◌∙◌}
use Rattle.zone_lexing.specs.Entries.{Entry, entries_of}
use Rattle.zone_lexing.specs.Lines.{lowered}
use Rattle.zone_lexing.specs.Order.{lfs}
use Rattle.master_file.specs.Records.{records_from, start}
use Rattle.master_file.specs.ZoneText.{zone_of_read}
use Rattle.zone_lexing.proofs.LayoutLemmas.{blank-entries, blank_first-entries}
use Rattle.master_file.proofs.LineLemmas.{lowered_zero, zone-lines}
use Rattle.master_file.proofs.text_laws.blank_lines_change_no_zone.Goals as goal

pub returns-clause-behind : goal.returns-clause-behind
returns-clause-behind c = λ origin text blanks more blank.
    ap (λ (es : List Entry). zone_of_read (records_from (start origin) es)) (blank-entries text blanks more blank)
    ∙ zone-lines (lowered (lfs text + 1)) (lowered_zero (lfs text + 1)) (start origin) (entries_of (text ++ 10 ∷ more))

pub returns-clause-first : goal.returns-clause-first
returns-clause-first c = λ origin blanks more blank.
    ap (λ (es : List Entry). zone_of_read (records_from (start origin) es)) (blank_first-entries blanks more blank)
    ∙ zone-lines (lowered 0) refl (start origin) (entries_of more)
