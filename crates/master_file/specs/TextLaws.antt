-- What the laws of a zone's text are told in.
use Rattle.std.specs.Prelude.{◌≡◌, ℕ, List, [], ◌∷◌, filter, Option, Some, None, Result, Ok, Err}
use Rattle.std.specs.List.{Contains}
use Rattle.dns_name.specs.Name.{Name}
use Rattle.dns_rdata.specs.Record.{Record}
use Rattle.zone_tree.specs.Zone.{is_of}
use Rattle.master_file.specs.declared.fault.FileFault.{FileFault}
use Rattle.master_file.specs.declared.record_entry.RecordEntry.{RecordEntry}
use Rattle.master_file.specs.ZoneText.{record_in}

-- what is told of a fault; what is read stays
abbrev pub on_fault : {A E F : Type 0} → (E → F) → Result A E → Result A F
on_fault f (Ok x) = Ok x
on_fault f (Err fault) = Err (f fault)

-- a fault on another line
abbrev pub on_line : (ℕ → ℕ) → FileFault → FileFault
on_line change fault = record fault { line = change fault.line }

-- a record is a text's, its TTL apart
pub record IsRead (rrs : List RecordEntry) (r : Record) : Type 0 where
  pub rr : RecordEntry
  pub read : Contains rrs rr
  pub owner : rr.owner ≡ r.owner
  pub rtype : rr.rdata.rtype ≡ r.rtype
  pub rdata : rr.rdata.octets ≡ r.rdata

-- a text's records of an owner and a type
abbrev pub rrs_of : Name → ℕ → List RecordEntry → List RecordEntry
rrs_of owner rtype rrs = filter (λ rr. is_of owner rtype (record_in rr)) rrs

-- the TTL of the last of records
abbrev pub last_ttl : List RecordEntry → Option ℕ
last_ttl [] = None
last_ttl (rr ∷ []) = Some rr.ttl.0
last_ttl (rr ∷ next ∷ rrs) = last_ttl (next ∷ rrs)
