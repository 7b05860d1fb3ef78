-- Datagrams that are received and sent (RFC 1035, 4.2.1), and the count of what failed (own).
use Rattle.std.specs.Prelude.{◌≡◌, ℕ, ◌+◌, ◌-◌, ◌^◌, min, max, List, [], ◌∷◌, ◌++◌, ◌⊎◌, Option, Some, IfSome}
use Rattle.std.specs.declared.net.socket_addr.SocketAddr.{SocketAddr}
use Rattle.serve_core.specs.declared.peer.Peer.{Peer}
use Rattle.serve_core.specs.declared.transport.Transport.TheVariants.{Udp}

-- a peer that sends its request as a datagram (RFC 1035, 4.2.1)
abbrev pub by_datagram : Peer → Peer
by_datagram peer = record peer { transport = Udp }

-- a datagram's octets, and the address of its sender or of its receiver
abbrev pub Datagram : Type 0
Datagram = List ℕ × SocketAddr

-- a datagram was received, the first of those that were left, and nothing was sent
abbrev pub Receives : Option (List Datagram × List Datagram) → Option (List Datagram × List Datagram) → Datagram → Type 0
Receives old new datagram = IfSome old (λ o. (rest : List Datagram) × (o.0 ≡ datagram ∷ rest) × (new ≡ Some (rest, o.1)))

-- datagrams were sent, after those already sent, and nothing was received
abbrev pub Sends : Option (List Datagram × List Datagram) → Option (List Datagram × List Datagram) → List Datagram → Type 0
Sends old new datagrams = IfSome old (λ o. new ≡ Some (o.0, o.1 ++ datagrams))

-- the count of failures, and so many more; the count stops at 2^64 - 1
abbrev pub count_of : ℕ → ℕ → ℕ
count_of faults more = max faults (min (faults + more) (2 ^ 64 - 1))

-- a datagram was sent; or it wasn't, which is counted
abbrev pub SendsOrFails : Option (List Datagram × List Datagram) → ℕ → Option (List Datagram × List Datagram) → ℕ → Datagram → Type 0
SendsOrFails old faults new later datagram = (Sends old new (datagram ∷ []) × (later ≡ faults)) ⊎ ((new ≡ old) × (later ≡ count_of faults 1))

-- messages were sent to an address, in their order, except for so many that failed to be sent
pub data AreSent (to : SocketAddr) : List (List ℕ) → List Datagram → ℕ → Type 0 where
  none : AreSent to [] [] 0
  sent : {messages : List (List ℕ)} {datagrams : List Datagram} {failed : ℕ} (message : List ℕ) → AreSent to messages datagrams failed → AreSent to (message ∷ messages) ((message, to) ∷ datagrams) failed
  failed : {messages : List (List ℕ)} {datagrams : List Datagram} {failed all : ℕ} (message : List ℕ) → AreSent to messages datagrams failed → all ≡ failed + 1 → AreSent to (message ∷ messages) datagrams all
