use Rattle.std.proofs.Common.{map, ap, ◌∙◌}
use Rattle.dns_rdata.specs.Record.{IsLawful}
use Rattle.zone_lexing.specs.Entries.{entries_of}
use Rattle.master_file.specs.WrittenZone.{soa_first, line_words}
use Rattle.zone_lexing.proofs.SpellingLemmas.{lines-read}
use Rattle.master_file.proofs.ZoneLawLemmas.{lines_are, lines_spelt, each_first}
use Rattle.master_file.proofs.zone_laws.written_zone_has_an_entry_a_record.Goals as goal

pub returns-clause-lines : goal.returns-clause-lines
returns-clause-lines c = λ zone. lines_are (soa_first zone)

pub returns-clause-entries : goal.returns-clause-entries
returns-clause-entries c = λ zone lawful.
    ap entries_of (lines_are (soa_first zone)) ∙ lines-read (map line_words (soa_first zone)) 1 (lines_spelt (soa_first zone) (each_first IsLawful zone lawful))
