use Rattle.master_file.specs.Records.{records_of}
use Rattle.master_file.proofs.IsZoneLemmas.{read_is_zone, zone_is_read}
use Rattle.master_file.proofs.ReadableLemmas.{records_readable}
use Rattle.master_file.proofs.zone_laws.text_without_a_fault_is_a_zone.Goals as goal

pub returns-clause-is_zone : goal.returns-clause-is_zone
returns-clause-is_zone c = λ origin text zone name octets small e. read_is_zone (records_of origin text) zone (records_readable origin text name octets small) e

pub returns-clause-reported : goal.returns-clause-reported
returns-clause-reported c = λ origin text none is. zone_is_read (records_of origin text) none is
