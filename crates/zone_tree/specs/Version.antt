-- Versions of a zone: each has a number and the zone's serial (RFC 1035, 3.3.13), and knows what it changed of the one before it
-- (RFC 1995, 4).
use Rattle.std.specs.Prelude.{◌≡◌, ℕ, List, [], ◌∷◌, Option, MatchOption}
use Rattle.dns_rdata.specs.Data.{serial_of}
use Rattle.dns_rdata.specs.Record.{Record}
use Rattle.zone_tree.specs.Zone.{soa_of}
use Rattle.zone_tree.specs.Change.{left_out}

-- the data of the first of records; none of none
abbrev pub first_data : List Record → List ℕ
first_data [] = []
first_data (r ∷ rs) = r.rdata

-- a zone's serial: that of its SOA (RFC 1035, 3.3.13)
abbrev pub zone_serial : List Record → ℕ
zone_serial zone = serial_of (first_data (soa_of zone))

-- what a zone changed of the one before it: that zone's SOA, the records that it took out and those that it put in, SOA apart
-- (RFC 1995, 4)
pub record Changes : Type 0 where
  pub old_soa : List Record
  pub deletions : List Record
  pub additions : List Record

-- changes are those from one zone to another
pub record AreChanges (changes : Changes) (before after : List Record) : Type 0 where
  pub old_soa : changes.old_soa ≡ soa_of before
  pub deletions : changes.deletions ≡ left_out before after
  pub additions : changes.additions ≡ left_out after before

-- a version: its number, counted from 0, its zone, and what it changed of the version before it; none of the first
pub record Version : Type 0 where
  pub number : ℕ
  pub zone : List Record
  pub changes : Option Changes

-- a version knows what it changed of a zone
abbrev pub KnowsChanges : List Record → Version → Type 0
KnowsChanges before version = MatchOption version.changes ⊥ (λ changes. AreChanges changes before version.zone)
