-- Transports of requests.
use Rattle.std.specs.Prelude.{ℕ, List, [], ◌∷◌, codes}
use Rattle.counters.specs.declared.transport.Transport.{Transport}
use Rattle.counters.specs.declared.transport.Transport.TheVariants.{Udp, Tcp}

-- all, in the order of their places
abbrev pub all_transports : List Transport
all_transports = Udp ∷ (Tcp ∷ [])

-- the place of each
abbrev pub transport_index : Transport → ℕ
transport_index Udp = 0
transport_index Tcp = 1

-- the word of each in a label
abbrev pub transport_word : Transport → List ℕ
transport_word Udp = codes "udp"
transport_word Tcp = codes "tcp"
