-- Requests on connections, each under a key of its own (own).
use Rattle.std.specs.Prelude.{◌≡◌, ℕ, List, ◌++◌}
use Rattle.dns_message.specs.Frame.{frame_of}
use Rattle.tcp_connections.specs.Served.{Knowledge, Extends}

-- nothing that was known is forgotten, whatever the key
abbrev pub EachGrows : {T : Type 0} → (ℕ → Knowledge T) → (ℕ → Knowledge T) → Type 0
EachGrows later before = (key : ℕ) → Extends (later key) (before key)

-- the first of the requests that octets hold is one of those that are answered later: it waits for its reply, and those after it for theirs
abbrev pub Waits : (List ℕ → Type 0) → List ℕ → Type 0
Waits is_later held = (request rest : List ℕ) × (held ≡ frame_of request ++ rest) × is_later request
