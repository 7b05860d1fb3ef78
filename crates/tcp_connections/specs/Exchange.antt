-- A request of a stream, and its reply (RFC 1035, 4.2.2).
use Rattle.std.specs.Prelude.{◌≡◌, ℕ, List, ◌++◌}
use Rattle.dns_message.specs.Frame.{frame_of}
use Rattle.requests.specs.Octets.{frames_of}
use Rattle.tcp_connections.specs.Served.{Knowledge, Extends}

module _ {T : Type 0} (IsReply : Knowledge T → Knowledge T → List ℕ → List (List ℕ) → Type 0) where
  -- a request is read from the stream, and its reply is written
  pub record Exchange (seen : Knowledge T) (old : List ℕ × List ℕ) (later : Knowledge T) (new : List ℕ × List ℕ) : Type 0 where
    pub request : List ℕ
    pub messages : List (List ℕ)
    pub grows : Extends later seen
    pub reply : IsReply seen later request messages
    pub input : old.0 ≡ frame_of request ++ new.0
    pub output : new.1 ≡ old.1 ++ frames_of messages
