use Rattle.std.proofs.Common.{List, ap}
use Rattle.zone_lexing.specs.Entries.{Entry}
use Rattle.master_file.specs.Records.{records_from, start}
use Rattle.master_file.specs.ZoneText.{zone_of_read}
use Rattle.zone_lexing.proofs.LayoutLemmas.{cr_lf-entries}
use Rattle.master_file.proofs.text_laws.line_ends_change_no_zone.Goals as goal

pub returns : goal.returns
returns c = λ origin text more no_cr. ap (λ (es : List Entry). zone_of_read (records_from (start origin) es)) (cr_lf-entries text more no_cr)
