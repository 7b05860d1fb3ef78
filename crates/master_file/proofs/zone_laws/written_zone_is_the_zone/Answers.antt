use Rattle.std.proofs.Common.{◌≤◌, length, map, ap, ◌∙◌}
use Rattle.dns_rdata.specs.Record.{Record, IsLawful}
use Rattle.zone_lexing.specs.Entries.{entries_of}
use Rattle.zone_lexing.proofs.SpellingLemmas.{lines-read}
use Rattle.master_file.specs.ZoneText.{zone_of_read}
use Rattle.master_file.specs.Records.{records_from, start}
use Rattle.master_file.specs.WrittenZone.{soa_first, line_words}
use Rattle.master_file.proofs.AgainLemmas.{zone_again}
use Rattle.master_file.proofs.ZoneLawLemmas.{lines_are, lines_spelt, each_first}
use Rattle.master_file.proofs.ZoneBackLemmas.{records_are}
use Rattle.master_file.proofs.zone_laws.written_zone_is_the_zone.Goals as goal

pub returns : goal.returns
returns c = λ zone origin is.
    let rs = soa_first zone in
    let all = each_first IsLawful zone is.rules.lawful in
    let short = each_first (λ (r : Record). length r.rdata ≤ 4096) zone is.limits.short in
    ap zone_of_read (ap (records_from (start origin)) (ap entries_of (lines_are rs) ∙ lines-read (map line_words rs) 1 (lines_spelt rs all)) ∙ records_are (start origin) 1 rs all short)
    ∙ zone_again zone is
