-- Datagrams held in memory, whose octets contracts can name (own).
use Rattle.std.specs.Prelude.{ℕ, ◌∷◌, ◌++◌, List, [], drop}
use Rattle.requests.specs.Datagrams.{Datagram, count_of}

-- the datagrams that are left to be received, and those that were sent; the positions of the sends that fail, counted from 0, and the position
-- of the next send; the number of sends and receives that have failed
pub record DatagramsState : Type 0 where
  pub left : List Datagram
  pub sent : List Datagram
  pub refused : List ℕ
  pub sends : ℕ
  pub faults : ℕ

-- the octets that contracts name: the datagrams that are left to be received, and those that were sent
abbrev pub datagram_octets : DatagramsState → List Datagram × List Datagram
datagram_octets datagrams = (datagrams.left, datagrams.sent)

-- no datagram is received or sent yet
abbrev pub datagrams_of : List Datagram → List ℕ → DatagramsState
datagrams_of datagrams refused = record { left = datagrams; sent = []; refused = refused; sends = 0; faults = 0 }

-- after a receive: the first of the datagrams that were left is removed
abbrev pub after_receive : DatagramsState → DatagramsState
after_receive datagrams = record { left = drop 1 datagrams.left; sent = datagrams.sent; refused = datagrams.refused; sends = datagrams.sends; faults = datagrams.faults }

-- after a receive that fails; the failure is counted
abbrev pub after_failure : DatagramsState → DatagramsState
after_failure datagrams = record { left = datagrams.left; sent = datagrams.sent; refused = datagrams.refused; sends = datagrams.sends; faults = count_of datagrams.faults 1 }

-- after a send
abbrev pub after_send : DatagramsState → Datagram → DatagramsState
after_send datagrams datagram = record { left = datagrams.left; sent = datagrams.sent ++ datagram ∷ []; refused = datagrams.refused; sends = count_of datagrams.sends 1; faults = datagrams.faults }

-- after a send that fails; the failure is counted
abbrev pub after_refusal : DatagramsState → DatagramsState
after_refusal datagrams = record { left = datagrams.left; sent = datagrams.sent; refused = datagrams.refused; sends = count_of datagrams.sends 1; faults = count_of datagrams.faults 1 }
