-- Tables that are true of a message.
use Rattle.std.proofs.Common.{◌≡◌, ℕ, List, [], ◌++◌, take, refl, sym, ap, subst, ◌∙◌}
use Rattle.wire_names.specs.Table.{Table, IsTable, table_of, keyed}
use Rattle.wire_names.specs.Entry.{Entry}
use Rattle.wire_names.specs.Written.{IsOverwritten}
use Rattle.wire_names.proofs.TabledLemmas.{IsTableOf, IsTable-longer, IsTable-nothing, table_goes_on}
use Rattle.dns_message.specs.Encoded.{IsTrueOf, IsEncoded}

-- entries that stand for a table are its entries
places_are : (msg : List ℕ) (positions : List Entry) (table : Table) → IsTable msg positions → table_of msg positions ≡ table → positions ≡ keyed table
places_are msg positions table all e = all.entries_are ∙ ap keyed e

-- the table that positions stand for is true of the message
pub IsTrueOf-positions : (msg : List ℕ) (positions : List Entry) (table : Table) → IsTable msg positions → table_of msg positions ≡ table → IsTrueOf msg table
IsTrueOf-positions msg positions table all is =
    let own = subst (λ (x : List Entry). IsTableOf msg x table) (places_are msg positions table all is) (record { all = all; is = is }) in
    record { targets = own.all; names = own.is }

-- an empty table is true of every message
pub IsTrueOf-nothing : (msg : List ℕ) → IsTrueOf msg []
IsTrueOf-nothing msg = record { targets = IsTable-nothing msg; names = refl }

-- and a table stays true of a message that goes on
pub IsTrueOf-more : (msg more : List ℕ) (table : Table) → IsTrueOf msg table → IsTrueOf (msg ++ more) table
IsTrueOf-more msg more table h =
    record { targets = IsTable-longer msg more (keyed table) h.targets; names = table_goes_on msg more (keyed table) h.targets ∙ h.names }

-- what was written at a position, by the positions that stand for the table behind it
pub IsEncoded-positions : (written : List ℕ × Table) (old new : List ℕ) (at : ℕ) (positions : List Entry) (next : ℕ) → IsOverwritten old new at written.0 next → IsTable (take next new) positions → table_of (take next new) positions ≡ written.1 → IsEncoded written old new at positions next
IsEncoded-positions written old new at positions next put all is = record {
  octets = put;
  positions_are = places_are (take next new) positions written.1 all is;
  true_of = IsTrueOf-positions (take next new) positions written.1 all is;
}

-- and the positions then make a table, which is the one behind it
pub lawful : {written : List ℕ × Table} {old new : List ℕ} {at : ℕ} {positions : List Entry} {next : ℕ} → IsEncoded written old new at positions next → IsTable (take next new) positions
lawful {written} {old} {new} {at} {positions} {next} w = subst (IsTable (take next new)) (sym w.positions_are) w.true_of.targets

pub table_is : {written : List ℕ × Table} {old new : List ℕ} {at : ℕ} {positions : List Entry} {next : ℕ} → IsEncoded written old new at positions next → table_of (take next new) positions ≡ written.1
table_is {written} {old} {new} {at} {positions} {next} w = ap (table_of (take next new)) w.positions_are ∙ w.true_of.names
