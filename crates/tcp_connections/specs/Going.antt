-- How a connection goes on, and how it ends: the replies to its requests, in their order (RFC 1035, 4.2.2; RFC 7766, 6.2.1.1).
use Rattle.std.specs.Prelude.{◌≡◌, ℕ, List, [], ◌++◌, Option, Some, IfSome}
use Rattle.tcp_connections.specs.Served.{Knowledge, Served, EndsAs}
use Rattle.requests.specs.declared.stream_end.StreamEnd.{StreamEnd}
use Rattle.requests.specs.declared.stream_end.StreamEnd.TheVariants.{Clean, Torn, Device, Spent, NoMemory}
use Rattle.tcp_connections.specs.Requests.{Waits}
use Rattle.tcp_connections.specs.Kept.{Kept, told_by}

-- a connection is held up: nothing is to be written, and the first request that is held is one of those that are answered later
pub record IsHeldUp (is_later : List ℕ → Type 0) (kept : Kept) : Type 0 where
  pub waits : Waits is_later kept.held
  pub ready : kept.ready ≡ []
  pub later : kept.later ≡ []

-- what a reply is, by the list of what is known to be published before it and that of what is known when it is made, the request, and the
-- reply's messages
module _ {T : Type 0} (IsReply : Knowledge T → Knowledge T → List ℕ → List (List ℕ) → Type 0) where
  -- all frames between two states of a stream have been answered, if it reports its octets
  abbrev pub Known : Knowledge T → Option (List ℕ × List ℕ) → Knowledge T → Option (List ℕ × List ℕ) → Type 0
  Known start old seen new = IfSome old (λ o. (mid : List ℕ × List ℕ) × (new ≡ Some mid) × Served IsReply start o seen mid)

  -- whatever has been answered still is, and maybe more, from any state in which it began
  abbrev pub Goes : Knowledge T → Option (List ℕ × List ℕ) → Knowledge T → Option (List ℕ × List ℕ) → Type 0
  Goes seen reported later new = (start : Knowledge T) (old : Option (List ℕ × List ℕ)) → Known start old seen reported → Known start old later new

  -- the same of what a connection keeps, whatever its stream reports
  abbrev pub Keeps : Knowledge T → Kept → Knowledge T → Kept → Type 0
  Keeps seen kept later more = (octets : Option (List ℕ × List ℕ)) → Goes seen (told_by kept octets) later (told_by more octets)

  -- a prefix of what was written before and of what such an answering writes has been written
  pub record PartlyTold (start : Knowledge T) (old : List ℕ × List ℕ) (seen : Knowledge T) (new : Option (List ℕ × List ℕ)) : Type 0 where
    pub left : List ℕ
    pub front : List ℕ
    pub back : List ℕ
    pub whole : List ℕ × List ℕ
    pub served : Served IsReply start old seen whole
    pub written : whole.1 ≡ front ++ back
    pub now : new ≡ Some (left, front)

  -- how a connection ends, from some state of its stream: all is answered and written except for a torn frame, or a prefix of it is
  abbrev pub Ends : StreamEnd → Knowledge T → List ℕ × List ℕ → Knowledge T → Option (List ℕ × List ℕ) → Type 0
  Ends Clean start old seen new = EndsAs IsReply Clean start old seen new
  Ends Torn start old seen new = EndsAs IsReply Torn start old seen new
  Ends Device start old seen new = PartlyTold start old seen new
  Ends Spent start old seen new = PartlyTold start old seen new
  Ends NoMemory start old seen new = PartlyTold start old seen new

  -- a connection ends, from any state in which it began
  abbrev pub Stops : StreamEnd → Knowledge T → Option (List ℕ × List ℕ) → Knowledge T → Option (List ℕ × List ℕ) → Type 0
  Stops end seen reported later new = (start : Knowledge T) (old : Option (List ℕ × List ℕ)) → Known start old seen reported → IfSome old (λ o. Ends end start o later new)
