-- Reasons why connections end (own).
use Rattle.std.specs.Prelude.{ℕ, List, [], ◌∷◌, codes}
use Rattle.counters.specs.declared.connection_end.ConnectionEnd.{ConnectionEnd}
use Rattle.counters.specs.declared.connection_end.ConnectionEnd.TheVariants.{Done, Idle, Limit, Fault}

-- all, in the order of their places
abbrev pub all_connection_ends : List ConnectionEnd
all_connection_ends = Done ∷ (Idle ∷ (Limit ∷ (Fault ∷ [])))

-- the place of each
abbrev pub connection_end_index : ConnectionEnd → ℕ
connection_end_index Done = 0
connection_end_index Idle = 1
connection_end_index Limit = 2
connection_end_index Fault = 3

-- the word of each in a label
abbrev pub connection_end_word : ConnectionEnd → List ℕ
connection_end_word Done = codes "done"
connection_end_word Idle = codes "idle"
connection_end_word Limit = codes "limit"
connection_end_word Fault = codes "fault"
