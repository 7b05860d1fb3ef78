-- Records in order, put into sets one after another (RFC 2181, 5).
use Rattle.std.specs.Prelude.{◌≡◌, List}
use Rattle.std.specs.List.{AllByRecursion}
use Rattle.std.specs.List.Sorted.{IsStrictlySortedBy}
use Rattle.std.specs.declared.cmp.Ordering.TheVariants.{Less}
use Rattle.dns_rdata.specs.Record.{Record}
use Rattle.zone_tree.specs.Sets.{set_cmp}
use Rattle.transfer_core.specs.Take.{held_cmp}

-- a record comes after all others
abbrev pub IsBehindAll : Record → List Record → Type 0
IsBehindAll r records = AllByRecursion (λ s. held_cmp s r ≡ Less) records

-- sets in strictly ascending order (RFC 4034, 6.1)
abbrev pub AreInOrder : List (List Record) → Type 0
AreInOrder sets = IsStrictlySortedBy set_cmp sets
