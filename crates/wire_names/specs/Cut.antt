-- How the octets of a name are cut where a pointer stands for the rest of it (RFC 1035, 4.1.4).
use Rattle.std.specs.Prelude.{◌≡◌, ℕ, ◌<◌, ◌≤◌, Bool, List, ◌++◌, length, take, drop, Option, Some, None, IfSome}
use Rattle.dns_name.specs.Labels.{labels_in}
use Rattle.wire_names.specs.Table.{Table, parent_of, position_in}
use Rattle.wire_names.specs.Written.{pointer_to, written, entries_of, starts_of}
use Rattle.wire_names.specs.declared.write.Cut.{Cut}

-- so many of the octets, and then a pointer, where there is one
abbrev pub cut_octets : List ℕ → ℕ → Option ℕ → List ℕ
cut_octets octets len None = take len octets
cut_octets octets len (Some target) = take len octets ++ pointer_to target

-- octets are cut as their name is written where there is this table: up to its longest suffix that the table has, and none of
-- the octets where the name is in full
pub record IsCut (compress : Bool) (table : Table) (octets : List ℕ) (cut : Cut) : Type 0 where
  pub text : written compress table (labels_in octets) ≡ cut_octets octets cut.len cut.target
  pub entries : (at : ℕ) → entries_of compress table at (labels_in octets) ≡ take cut.labels (starts_of at (labels_in octets))
  pub within : cut.len ≤ length octets
  pub few : cut.labels ≤ length (labels_in octets)
  pub new : (i : ℕ) → i < cut.labels → position_in table (drop i (labels_in octets)) ≡ None
  pub known : 0 < cut.labels → cut.parent < 258
  pub parent : 0 < cut.labels → cut.parent ≡ parent_of table (drop cut.labels (labels_in octets))
  pub low : IfSome cut.target (λ target. target < 16384)
