use Rattle.std.proofs.Common.{List, ap}
use Rattle.zone_lexing.specs.Entries.{Entry}
use Rattle.master_file.specs.Records.{records_from, start}
use Rattle.master_file.specs.ZoneText.{zone_of_read}
use Rattle.zone_lexing.proofs.LayoutLemmas.{remark-entries, remark_last-entries}
use Rattle.master_file.proofs.text_laws.comments_change_no_zone.Goals as goal

pub returns-clause-line : goal.returns-clause-line
returns-clause-line c = λ origin text remark more out is. ap (λ (es : List Entry). zone_of_read (records_from (start origin) es)) (remark-entries text remark more out is)

pub returns-clause-last : goal.returns-clause-last
returns-clause-last c = λ origin text remark out is. ap (λ (es : List Entry). zone_of_read (records_from (start origin) es)) (remark_last-entries text remark out is)
