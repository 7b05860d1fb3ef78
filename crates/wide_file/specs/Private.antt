-- What the contracts of private functions cite.
use Rattle.std.specs.Prelude.{List, Option}
use Rattle.std.specs.List.{AllByRecursion}
use Rattle.wide_file.specs.Included.{Placed, Whole}
use Rattle.wide_file.specs.PlainText.{Spelled, put_all}
use Rattle.wide_file.specs.WideZone.{IsOfZone}
use Rattle.wide_file.specs.declared.record_entry.WideEntry.{WideEntry}
use Rattle.wide_file.specs.declared.record_entry.WideEntry.TheVariants as entry
use Rattle.wide_file.specs.declared.wide_fault.WideFault.{WideFault}

-- a text with all that is read, and the fault after it
abbrev pub put_whole : Spelled → Whole → Spelled × Option WideFault
put_whole plain whole = (put_all plain whole.entries, whole.fault)

-- the records are such as a zone may have
abbrev pub IsEntryOfZone : WideEntry → Type 0
IsEntryOfZone (entry.Record rr) = IsOfZone rr
IsEntryOfZone (entry.LeftOut left) = Unit {0}
IsEntryOfZone (entry.Include own) = Unit {0}

abbrev pub IsPlacedOfZone : Placed → Type 0
IsPlacedOfZone placed = IsEntryOfZone placed.own

abbrev pub AreOfZone : List Placed → Type 0
AreOfZone entries = AllByRecursion IsPlacedOfZone entries
