-- OPCODEs that are counted by themselves (RFC 6895, 2.2).
use Rattle.std.specs.Prelude.{ℕ, ◌==◌, List, [], ◌∷◌, codes, if◌then◌else◌}
use Rattle.counters.specs.declared.opcode.Opcode.{Opcode}
use Rattle.counters.specs.declared.opcode.Opcode.TheVariants.{Query, Iquery, Status, Notify, Update, Dso, Other}

-- all, in the order of their places
abbrev pub all_opcodes : List Opcode
all_opcodes = Query ∷ (Iquery ∷ (Status ∷ (Notify ∷ (Update ∷ (Dso ∷ (Other ∷ []))))))

-- the place of each
abbrev pub opcode_index : Opcode → ℕ
opcode_index Query = 0
opcode_index Iquery = 1
opcode_index Status = 2
opcode_index Notify = 3
opcode_index Update = 4
opcode_index Dso = 5
opcode_index Other = 6

-- the word of each in a label
abbrev pub opcode_word : Opcode → List ℕ
opcode_word Query = codes "QUERY"
opcode_word Iquery = codes "IQUERY"
opcode_word Status = codes "STATUS"
opcode_word Notify = codes "NOTIFY"
opcode_word Update = codes "UPDATE"
opcode_word Dso = codes "DSO"
opcode_word Other = codes "other"

-- the OPCODE of a number
abbrev pub opcode_of : ℕ → Opcode
opcode_of n =
    if n == 0 then Query
    else if n == 1 then Iquery
    else if n == 2 then Status
    else if n == 4 then Notify
    else if n == 5 then Update
    else if n == 6 then Dso
    else Other
