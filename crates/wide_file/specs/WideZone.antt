-- The zone of a zone file (RFC 1035, 5; RFC 2181, 5.2 and 10.1).
use Rattle.std.specs.Prelude.{ℕ, ◌≤◌, List, length, Some, None, Result, Ok, Err}
use Rattle.dns_name.specs.Name.{Name}
use Rattle.dns_rdata.specs.Limits.{max_data}
use Rattle.dns_rdata.specs.Record.{Record, IsLawful}
use Rattle.master_file.specs.Records.{Read}
use Rattle.master_file.specs.ZoneText.{record_in, zone_of_read}
use Rattle.master_file.specs.declared.fault.FileFault.{FileFault}
use Rattle.master_file.specs.declared.record_entry.RecordEntry.{RecordEntry}
use Rattle.wide_file.specs.Fault.{at_file}
use Rattle.wide_file.specs.Included.{Files, Placed, Whole, whole_of}
use Rattle.wide_file.specs.PlainText.{Spelled, laid, place_of, put_all, unwritten}
use Rattle.wide_file.specs.declared.wide_fault.WideFault.{WideFault}

-- the records of entries, as of a text without a fault: each on its line of the plain text
abbrev pub laid_read : List Placed → Read
laid_read entries = record { rrs = laid unwritten entries; fault = None }

-- a fault of a plain text, by its line there: in the file of that line, on that line of it
abbrev pub fault_in : Spelled → FileFault → WideFault
fault_in plain fault = let place = place_of plain fault.line in at_file place.file (record { line = place.line; cause = fault.cause })

abbrev pub placed_fault : Spelled → Result (List Record) FileFault → Result (List Record) WideFault
placed_fault plain (Ok zone) = Ok zone
placed_fault plain (Err fault) = Err (fault_in plain fault)

-- the zone of what is read of files: a fault of an entry is reported before one of the zone (own)
abbrev pub zone_of_whole : Whole → Result (List Record) WideFault
zone_of_whole whole = elim whole.fault [
  | Some fault ↦ Err fault
  | None ↦ placed_fault (put_all unwritten whole.entries) (zone_of_read (laid_read whole.entries))
]

-- the zone of a zone file, by the texts of the files that it includes
abbrev pub wide_zone : Files → Name → List ℕ → Result (List Record) WideFault
wide_zone files origin text = zone_of_whole (whole_of files origin text)

-- a record is one that a zone may have
pub record IsOfZone (rr : RecordEntry) : Type 0 where
  pub lawful : IsLawful (record_in rr)
  pub short : length rr.rdata.octets ≤ max_data
