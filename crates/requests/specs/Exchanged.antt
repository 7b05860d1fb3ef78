-- What is sent as datagrams: the reply to each that was received, to its sender, in their order (RFC 1035, 4.2.1).
use Rattle.std.specs.Prelude.{◌≡◌, ℕ, ◌+◌, ◌<◌, List, [], ◌∷◌, ◌++◌, length, Option, None, Some}
use Rattle.rights.specs.declared.rule.Rule.{Rule}
use Rattle.std.specs.declared.net.socket_addr.SocketAddr.{SocketAddr}
use Rattle.serve_core.specs.declared.peer.Peer.{Peer}
use Rattle.serve_core.specs.declared.transport.Transport.TheVariants.{Udp}
use Rattle.requests.specs.Allowed.{IsPeer}
use Rattle.requests.specs.Datagrams.{Datagram, Receives, Sends, AreSent, count_of}
use Rattle.requests.specs.Served.{Learned, Grows}
use Rattle.requests.specs.declared.udp.DatagramsEnd.{DatagramsEnd}
use Rattle.requests.specs.declared.udp.DatagramsEnd.TheVariants.{Done, Device, Spent}

-- what a reply is, by the peer, by what is known before it and when it is made, the request, and the reply's messages
module _ {T : Type 0} (IsReply : Peer → Learned T → Learned T → List ℕ → List (List ℕ) → Type 0) where
  -- a request's reply goes to its sender, by what is known then; how many of its messages failed to be sent is counted
  pub record RepliesTo (peer : Peer) (seen : Learned T) (request : List ℕ) (from : SocketAddr) (later : Learned T) (old : Option (List Datagram × List Datagram)) (faults : ℕ) (new : Option (List Datagram × List Datagram)) (more : ℕ) : Type 0 where
    pub messages : List (List ℕ)
    pub reply : IsReply peer seen later request messages
    pub datagrams : List Datagram
    pub failed : ℕ
    pub sent : AreSent from messages datagrams failed
    pub output : Sends old new datagrams
    pub counted : more ≡ count_of faults failed

-- the same, and the rules by which peers may update and transfer
module _ {T : Type 0} (IsReply : Peer → Learned T → Learned T → List ℕ → List (List ℕ) → Type 0) (rules : List Rule) where
  -- datagrams that were received, those that were sent, how many failed to be sent, and what is known then: each received datagram has its
  -- reply, which goes to its sender, a peer by its address and the request; and nothing that was known before is forgotten
  pub data Exchanges (start : Learned T) : List Datagram → List Datagram → ℕ → Learned T → Type 0 where
    none : Exchanges start [] [] 0 start
    next : {received more sent longer datagrams : List Datagram} {faults failed all : ℕ} {seen before later : Learned T} {from : SocketAddr} {peer : Peer} {request : List ℕ} {messages : List (List ℕ)} → Exchanges start received sent faults seen
        → Grows before seen → Grows later before → IsPeer rules Udp from request peer → IsReply peer before later request messages → AreSent from messages datagrams failed
        → more ≡ received ++ (request, from) ∷ [] → longer ≡ sent ++ datagrams → all ≡ faults + failed → Exchanges start more longer all later

  -- between two states of the datagrams, so many that were received have been answered
  pub record Exchanged (start : Learned T) (old : List Datagram × List Datagram) (faults done : ℕ) (seen : Learned T) (new : List Datagram × List Datagram) (more : ℕ) : Type 0 where
    pub received : List Datagram
    pub datagrams : List Datagram
    pub failed : ℕ
    pub last : Learned T
    pub exchanges : Exchanges start received datagrams failed last
    pub grown : Grows seen last
    pub input : old.0 ≡ received ++ new.0
    pub output : new.1 ≡ old.1 ++ datagrams
    pub number : length received ≡ done
    pub counted : more ≡ count_of faults failed

  -- a request from an address is answered as that of a peer that sends from there, by what is known then; its reply goes to that address
  abbrev pub AnswersFrom : Learned T → List ℕ → SocketAddr → Learned T → Option (List Datagram × List Datagram) → ℕ → Option (List Datagram × List Datagram) → ℕ → Type 0
  AnswersFrom seen request from later old faults new more =
      (peer : Peer) × (before : Learned T) × Grows before seen × Grows later before × IsPeer rules Udp from request peer × RepliesTo IsReply peer before request from later old faults new more

  -- one datagram is received and answered
  pub record TurnMade (seen : Learned T) (old : List Datagram × List Datagram) (faults : ℕ) (later : Learned T) (new : List Datagram × List Datagram) (more : ℕ) : Type 0 where
    pub request : List ℕ
    pub from : SocketAddr
    pub peer : Peer
    pub messages : List (List ℕ)
    pub datagrams : List Datagram
    pub failed : ℕ
    pub before : Learned T
    pub begun : Grows before seen
    pub grows : Grows later before
    pub asks : IsPeer rules Udp from request peer
    pub reply : IsReply peer before later request messages
    pub sent : AreSent from messages datagrams failed
    pub input : old.0 ≡ (request, from) ∷ new.0
    pub output : new.1 ≡ old.1 ++ datagrams
    pub counted : more ≡ count_of faults failed

  -- how a turn ends: it is made; or no datagram is received, which is counted; or one is received and gets no reply, since no version can
  -- be loaded
  abbrev pub TurnsBy : Option DatagramsEnd → Learned T → List Datagram × List Datagram → ℕ → Learned T → Option (List Datagram × List Datagram) → ℕ → Type 0
  TurnsBy None seen old faults later new more = (next : List Datagram × List Datagram) × (new ≡ Some next) × TurnMade seen old faults later next more
  TurnsBy (Some Done) seen old faults later new more = ⊥
  TurnsBy (Some Device) seen old faults later new more = (new ≡ Some old) × (later ≡ seen) × (more ≡ count_of faults 1)
  TurnsBy (Some Spent) seen old faults later new more = Grows later seen × (datagram : Datagram) × Receives (Some old) new datagram × (more ≡ faults)

  -- how the answering ends: as many are answered as were asked for; or fewer, since the next one fails to be received, which is counted; or
  -- fewer, since the next one is received and gets no reply, because no version can be loaded
  abbrev pub EndsBy : DatagramsEnd → Learned T → List Datagram × List Datagram → ℕ → ℕ → Learned T → Option (List Datagram × List Datagram) → ℕ → Type 0
  EndsBy Done start old faults most seen new more = (m : List Datagram × List Datagram) × (new ≡ Some m) × Exchanged start old faults most seen m more
  EndsBy Device start old faults most seen new more = (m : List Datagram × List Datagram) × (done before : ℕ) × (new ≡ Some m) × (done < most) × Exchanged start old faults done seen m before × (more ≡ count_of before 1)
  EndsBy Spent start old faults most seen new more = (m : List Datagram × List Datagram) × (done : ℕ) × (datagram : Datagram) × (new ≡ Some m) × (done < most) × Exchanged start old faults done seen (datagram ∷ m.0, m.1) more
