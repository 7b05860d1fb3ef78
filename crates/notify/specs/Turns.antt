-- What is done next, and what is heard (RFC 1996, 3.6; own).
use Rattle.std.specs.Prelude.{◌≡◌, ℕ, Bool, true, false, ◌<◌, ◌≤◌, ◌++◌, List, ◌∷◌, length, take, All, Option, None, Some, MatchOption}
use Rattle.std.specs.List.{AllWithin, HoldsAt}
use Rattle.std.specs.declared.net.socket_addr.SocketAddr.{SocketAddr}
use Rattle.dns_name.specs.Name.{Name}
use Rattle.dns_rdata.specs.Record.{Record}
use Rattle.notify.specs.Notified.{Notified}
use Rattle.notify.specs.Notify.{notify_octets}
use Rattle.notify.specs.Copies.{is_due, falls_silent, as_silent, next_notify, as_notified, is_answered_by, as_answered}
use Rattle.notify.specs.declared.due.Due.{Due}
use Rattle.notify.specs.declared.due.Due.TheVariants.{Send, Silent}
use Rattle.notify.specs.declared.due.Heard.{Heard}
use Rattle.notify.specs.declared.due.Heard.TheVariants.{Answered, Again}
use Rattle.notify.specs.declared.secondary.Secondary.{Secondary}

-- the first of a list that passes, with what stands before it, where none does, and after it
pub record IsFirst {A : Type 0} (Passes : A → Type 0) (all front : List A) (first : A) (back : List A) : Type 0 where
  pub parts : all ≡ front ++ first ∷ back
  pub passes : Passes first
  pub before : All (λ other. Passes other → ⊥) front

-- the place of the first of a list that passes; none where none does
abbrev pub FindsFirst : {A : Type 0} → (A → Type 0) → List A → Option ℕ → Type 0
FindsFirst Passes xs found =
    MatchOption found
    (AllWithin (λ other. Passes other → ⊥) xs 0 (length xs))
    (λ place. (place < length xs) × HoldsAt Passes xs place × AllWithin (λ other. Passes other → ⊥) xs 0 place)

-- a secondary's turn, at what is due to it: it is told of as one that doesn't answer; or a version's NOTIFY goes to its address, of the
-- ID that it has or that is given, and it is told so
abbrev pub TurnsAs : ℕ → ℕ → ℕ → List Record → List ℕ → Secondary → Due → Secondary → Type 0
TurnsAs time number id zone out s (Silent to) later = (falls_silent s ≡ true) × (to ≡ s.address) × (later ≡ as_silent s)
TurnsAs time number id zone out s (Send to len) later =
    let telling = next_notify number id time s.telling in
    (falls_silent s ≡ false) × (to ≡ s.address) × (take len out ≡ notify_octets telling.id zone) × (len ≤ length out) × (later ≡ as_notified telling s)

-- where a version of this number and zone is served: the first secondary that something is due to has its turn, and all others stay as
-- they are; or nothing is due to any
abbrev pub GoesOn : ℕ → ℕ → List Record → Notified → Option Due → List ℕ → Notified → Type 0
GoesOn number id zone old None out new = All (λ s. is_due old.time number s ≡ true → ⊥) old.secondaries × (new ≡ old)
GoesOn number id zone old (Some due) out new =
    (front : List Secondary) × (s : Secondary) × (back : List Secondary) × (later : Secondary)
    × IsFirst (λ other. is_due old.time number other ≡ true) old.secondaries front s back
    × TurnsAs old.time number id zone out s due later
    × (new ≡ record old { secondaries = front ++ later ∷ back })

-- octets from an address answer what the secondary there was told last
abbrev pub IsAnsweredBy : Name → SocketAddr → List ℕ → Secondary → Type 0
IsAnsweredBy apex from octets s = (s.address ≡ from) × (is_answered_by apex octets s ≡ true)

-- what is heard of a secondary that answers: that it does, or does so again
abbrev pub heard_of : Bool → Heard
heard_of true = Again
heard_of false = Answered

-- octets that were received from an address answer what the first secondary was told of which they do, and all others stay as they are; or
-- they answer none, and nothing changes
abbrev pub Hears : Name → SocketAddr → List ℕ → Notified → Option Heard → Notified → Type 0
Hears apex from octets old None new = All (λ s. IsAnsweredBy apex from octets s → ⊥) old.secondaries × (new ≡ old)
Hears apex from octets old (Some heard) new =
    (front : List Secondary) × (s : Secondary) × (back : List Secondary)
    × IsFirst (IsAnsweredBy apex from octets) old.secondaries front s back
    × (heard ≡ heard_of s.silent)
    × (new ≡ record old { secondaries = front ++ as_answered s ∷ back })
