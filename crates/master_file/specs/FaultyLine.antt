-- What is sought among a text's records, to tell the line that shows a fault.
use Rattle.std.specs.Prelude.{Bool, List}
use Rattle.std.specs.List.{list_any}
use Rattle.dns_name.specs.Name.{Name, is_same}
use Rattle.dns_rdata.specs.Record.{Record}
use Rattle.master_file.specs.declared.faulty.Sought.{Sought}
use Rattle.master_file.specs.declared.faulty.Sought.TheVariants.{Limit, SecondSoa, Conflict}
use Rattle.master_file.specs.declared.record_entry.RecordEntry.{RecordEntry}
use Rattle.master_file.specs.ZoneText.{is_too_many, is_second_soa, is_conflict}

-- whether a record shows what is sought, beside those read before it
abbrev pub shows : Sought → List Record → RecordEntry → Bool
shows Limit = is_too_many
shows SecondSoa = is_second_soa
shows Conflict = is_conflict

-- whether a name is one of others, whatever its case is (RFC 4343, 3)
abbrev pub is_among : List Name → Name → Bool
is_among names name = list_any (is_same name) names
