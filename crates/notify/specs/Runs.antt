-- Runs of the machine: all that is sent over time, to whom, and what that is to each secondary (RFC 1996, 3.6).
use Rattle.std.specs.Prelude.{◌≡◌, ℕ, List, [], ◌∷◌, map, take, Option, None, Some}
use Rattle.std.specs.List.{AllByRecursion}
use Rattle.std.specs.declared.net.socket_addr.SocketAddr.{SocketAddr}
use Rattle.dns_name.specs.Name.{Name}
use Rattle.dns_rdata.specs.Record.{Record}
use Rattle.notify.specs.Course.{Sending, Course}
use Rattle.notify.specs.Notified.{Notified, untold, shown}
use Rattle.notify.specs.Notify.{notify_octets}
use Rattle.notify.specs.Turns.{GoesOn, Hears}
use Rattle.notify.specs.declared.due.Due.{Due}
use Rattle.notify.specs.declared.due.Due.TheVariants.{Send, Silent}
use Rattle.notify.specs.declared.due.Heard.{Heard}
use Rattle.notify.specs.declared.secondary.Secondary.{Secondary}

-- a datagram that was sent: where to, its octets, the number and the zone of the version that was served, and when
pub record Posted : Type 0 where
  pub to : SocketAddr
  pub octets : List ℕ
  pub number : ℕ
  pub zone : List Record
  pub time : ℕ

-- all that was sent, the last first, once what is due is done
abbrev pub posted : ℕ → List Record → ℕ → Option Due → List ℕ → List Posted → List Posted
posted number zone time None out sent = sent
posted number zone time (Some (Silent to)) out sent = sent
posted number zone time (Some (Send to len)) out sent = record { to = to; octets = take len out; number = number; zone = zone; time = time } ∷ sent

-- a run: all that was sent, the last first, and what is known of the secondaries then. They were told nothing at first; the clock shows some
-- time; some version is served, and what is due is done; and some octets are received from some address
pub data Run (addresses : List SocketAddr) : List Posted → Notified → Type 0 where
  begins : {sent : List Posted} {new : Notified} (clock : ℕ) → sent ≡ [] → new ≡ record { secondaries = map untold addresses; time = 0; clock = clock } → Run addresses sent new
  shows : {sent : List Posted} {old new : Notified} (now : ℕ) → Run addresses sent old → new ≡ shown now old → Run addresses sent new
  goes : {sent more : List Posted} {old new : Notified} (number id : ℕ) (zone : List Record) (due : Option Due) (out : List ℕ) → Run addresses sent old
      → GoesOn number id zone old due out new → more ≡ posted number zone old.time due out sent → Run addresses more new
  hears : {sent : List Posted} {old new : Notified} (apex : Name) (from : SocketAddr) (octets : List ℕ) (heard : Option Heard) → Run addresses sent old → Hears apex from octets old heard new → Run addresses sent new

-- no two addresses are the same
abbrev pub AreDistinct : List SocketAddr → Type 0
AreDistinct [] = Unit {0}
AreDistinct (address ∷ addresses) = AllByRecursion (λ other. address ≡ other → ⊥) addresses × AreDistinct addresses

-- what of all that was sent went to an address, in its order
pub data IsSentTo (address : SocketAddr) : List Posted → List Posted → Type 0 where
  none : IsSentTo address [] []
  its : {post : Posted} {sent own : List Posted} → post.to ≡ address → IsSentTo address sent own → IsSentTo address (post ∷ sent) (post ∷ own)
  others : {post : Posted} {sent own : List Posted} → (post.to ≡ address → ⊥) → IsSentTo address sent own → IsSentTo address (post ∷ sent) own

-- a datagram is the NOTIFY of the version that was served, of an ID
pub record IsNotify (post : Posted) (sending : Sending) : Type 0 where
  pub octets : post.octets ≡ notify_octets sending.id post.zone
  pub number : post.number ≡ sending.number
  pub time : post.time ≡ sending.time

abbrev pub AreNotifies : List Posted → List Sending → Type 0
AreNotifies [] [] = Unit {0}
AreNotifies [] (sending ∷ sendings) = ⊥
AreNotifies (post ∷ posts) [] = ⊥
AreNotifies (post ∷ posts) (sending ∷ sendings) = IsNotify post sending × AreNotifies posts sendings

-- all that went to a secondary's address are the NOTIFYs of a course of that secondary
abbrev pub TakesCourse : List Posted → ℕ → Secondary → Type 0
TakesCourse sent time s = (own : List Posted) → IsSentTo s.address sent own → (sendings : List Sending) × AreNotifies own sendings × Course sendings time s
