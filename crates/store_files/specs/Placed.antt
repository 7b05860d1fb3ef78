-- Why a journal isn't the store's (own).
use Rattle.std.specs.Prelude.{⊤}
use Rattle.store_files.specs.declared.pair.PairFault.{PairFault}
use Rattle.store_files.specs.declared.pair.PairFault.TheVariants.{Before, Unknown}

-- it is unknown which of the two journals is there after a crash
abbrev pub IsUnknown : PairFault → Type 0
IsUnknown (Before fault) = ⊥
IsUnknown (Unknown fault) = ⊤
