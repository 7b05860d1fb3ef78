-- The records that a transfer sends (RFC 5936, 2.2; RFC 1995, 4).
use Rattle.std.specs.Prelude.{◌≤◌, length}
use Rattle.dns_rdata.specs.Limits.{max_data}
use Rattle.dns_rdata.specs.Record.{Record, IsLawful}

-- a record that a zone may have, with at most 4,096 octets of data (own)
pub record IsSendable (r : Record) : Type 0 where
  pub lawful : IsLawful r
  pub short : length r.rdata ≤ max_data
