-- What is told of a transfer that isn't taken (own).
use Rattle.std.specs.Prelude.{ℕ, List, codes}
use Rattle.transfer_core.specs.declared.fault.TransferFault.{TransferFault}
use Rattle.transfer_core.specs.declared.fault.TransferFault.TheVariants.{Broken, WrongBase, NotInZone, NoMemory}

-- the code and the name of a fault
abbrev pub fault_words : TransferFault → List ℕ
fault_words Broken = codes "X1 Broken"
fault_words WrongBase = codes "X2 WrongBase"
fault_words NotInZone = codes "X3 NotInZone"
fault_words NoMemory = codes "X4 NoMemory"
