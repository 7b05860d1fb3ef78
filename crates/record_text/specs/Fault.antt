-- What a fault of data is in a zone's text, and what is printed of a fault.
use Rattle.std.specs.Prelude.{ℕ, List, ◌∷◌, ◌++◌, codes}
use Rattle.dns_rdata.specs.declared.data.DataFault.{DataFault}
use Rattle.dns_rdata.specs.declared.data.DataFault.TheVariants as fault
use Rattle.record_text.specs.declared.cause.Cause.{Cause}
use Rattle.record_text.specs.declared.cause.Cause.TheVariants.{Directive, BadName, Number, BadClass, UnknownType, BadData, Unclosed, NoTtl, NoOwner, Outside, Apex, Conflict, Limit, NoMemory}

-- what a fault of octets that are to be data is called here
abbrev pub cause_of_data : DataFault → Cause
cause_of_data fault.BadLength = BadData
cause_of_data fault.TooLong = Limit
cause_of_data fault.NoMemory = NoMemory

-- the code of a fault (own)
abbrev pub code_of : Cause → List ℕ
code_of Directive = codes "M1"
code_of BadName = codes "M2"
code_of Number = codes "M3"
code_of BadClass = codes "M4"
code_of UnknownType = codes "M5"
code_of BadData = codes "M6"
code_of Unclosed = codes "M7"
code_of NoTtl = codes "M8"
code_of NoOwner = codes "M9"
code_of Outside = codes "M10"
code_of Apex = codes "M11"
code_of Conflict = codes "M12"
code_of Limit = codes "M13"
code_of NoMemory = codes "M14"

-- its name (own)
abbrev pub name_of : Cause → List ℕ
name_of Directive = codes "Directive"
name_of BadName = codes "BadName"
name_of Number = codes "Number"
name_of BadClass = codes "BadClass"
name_of UnknownType = codes "UnknownType"
name_of BadData = codes "BadData"
name_of Unclosed = codes "Unclosed"
name_of NoTtl = codes "NoTtl"
name_of NoOwner = codes "NoOwner"
name_of Outside = codes "Outside"
name_of Apex = codes "Apex"
name_of Conflict = codes "Conflict"
name_of Limit = codes "Limit"
name_of NoMemory = codes "NoMemory"

-- what is printed of it: its code and its name, a space between (own)
abbrev pub printed : Cause → List ℕ
printed cause = code_of cause ++ 32 ∷ name_of cause
