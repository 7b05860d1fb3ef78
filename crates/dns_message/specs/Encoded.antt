-- What a write into a buffer leaves, and what a count of records tells.
use Rattle.std.specs.Prelude.{◌≡◌, ℕ, ◌+◌, ◌^◌, ◌<◌, ◌≤◌, List, length, take, Option, Some, None}
use Rattle.wire_names.specs.Table.{Table, IsTable, table_of, keyed}
use Rattle.wire_names.specs.Entry.{Entry}
use Rattle.wire_names.specs.Written.{IsOverwritten}
use Rattle.dns_message.specs.Encoding.{Encoding}

-- a table is true of a message: at each of its positions, which a pointer can name, its name is read (RFC 1035, 4.1.4)
pub record IsTrueOf (msg : List ℕ) (table : Table) : Type 0 where
  pub targets : IsTable msg (keyed table)
  pub names : table_of msg (keyed table) ≡ table

-- octets and the table after them were written at a position of a buffer: the octets end before the next position, all
-- else is as it was, and the positions and keys are those of the table, which is true of the message that ends there
pub record IsEncoded (written : List ℕ × Table) (old new : List ℕ) (at : ℕ) (positions : List Entry) (next : ℕ) : Type 0 where
  pub octets : IsOverwritten old new at written.0 next
  pub positions_are : positions ≡ keyed written.1
  pub true_of : IsTrueOf (take next new) written.1

-- so many octets don't fit a buffer from a position on, and what stands before the position is as it was
pub record IsStopped (old new : List ℕ) (at size : ℕ) : Type 0 where
  pub short : length old < at + size
  pub front : take at new ≡ take at old

-- octets are written part by part into a buffer at a position, which gives the position after them; none where they don't
-- fit
abbrev pub WritesParts : List ℕ → List ℕ → ℕ → List ℕ → Option ℕ → Type 0
WritesParts old new at octets None = IsStopped old new at (length octets)
WritesParts old new at octets (Some next) = IsOverwritten old new at octets next

-- something is written into a buffer at a position, where names are at the positions before, and then at the positions
-- after: it gives the position after it; none where it doesn't fit
abbrev pub WritesEncoding : Encoding → List ℕ → List ℕ → ℕ → List Entry → List Entry → Option ℕ → Type 0
WritesEncoding put old new at before after None = IsStopped old new at (length (put (table_of (take at old) before) at).0)
WritesEncoding put old new at before after (Some next) = IsEncoded (put (table_of (take at old) before) at) old new at after next

-- a count, of 16 bits: none of more
abbrev pub Counts : ℕ → Option ℕ → Type 0
Counts total None = 2 ^ 16 ≤ total
Counts total (Some count) = count ≡ total
