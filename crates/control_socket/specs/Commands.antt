-- The commands of a control socket (own).
use Rattle.std.specs.Prelude.{◌≡◌, ◌<◌, ℕ, List, ◌∷◌, ◌++◌, codes, length}
use Rattle.control_socket.specs.declared.client.Heard.{Heard}
use Rattle.control_socket.specs.declared.client.Heard.TheVariants.{Nothing, Command, Unknown}
use Rattle.control_socket.specs.declared.command.ControlCommand.{ControlCommand}
use Rattle.control_socket.specs.declared.command.ControlCommand.TheVariants.{Reload, Status, Stats, Stop}

-- a command's word
abbrev pub word_of : ControlCommand → List ℕ
word_of Reload = codes "reload"
word_of Status = codes "status"
word_of Stats = codes "stats"
word_of Stop = codes "stop"

-- what the octets say that a client has sent: a command only where they begin with its word and a newline; nothing yet only where there is room for more
abbrev pub IsHeard : List ℕ → Heard → Type 0
IsHeard sent Nothing = length sent < 256
IsHeard sent (Command command) = (rest : List ℕ) × (sent ≡ word_of command ++ 10 ∷ rest)
IsHeard sent Unknown = Unit {0}
