use Rattle.std.proofs.Common.{◌≤◌, length, map, ap, ◌∙◌}
use Rattle.dns_rdata.specs.Record.{Record, IsLawful}
use Rattle.zone_lexing.specs.Entries.{entries_of}
use Rattle.master_file.specs.Records.{records_from, start}
use Rattle.master_file.specs.WrittenZone.{soa_first, line_words}
use Rattle.zone_lexing.proofs.SpellingLemmas.{lines-read}
use Rattle.master_file.proofs.ZoneLawLemmas.{lines_are, lines_spelt, each_first}
use Rattle.master_file.proofs.ZoneBackLemmas.{record_judged, records_are}
use Rattle.master_file.proofs.zone_laws.written_zone_is_read_back.Goals as goal

pub returns-clause-record : goal.returns-clause-record
returns-clause-record c = record_judged

pub returns-clause-records : goal.returns-clause-records
returns-clause-records c = λ zone origin lawful short.
    let rs = soa_first zone in
    let all = each_first IsLawful zone lawful in
    ap (records_from (start origin)) (ap entries_of (lines_are rs) ∙ lines-read (map line_words rs) 1 (lines_spelt rs all)) ∙ records_are (start origin) 1 rs all (each_first (λ (r : Record). length r.rdata ≤ 4096) zone short)
