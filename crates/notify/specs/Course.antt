-- What a secondary is sent over time, and what it answers (RFC 1996, 3.6).
use Rattle.std.specs.Prelude.{◌≡◌, ℕ, ◌+◌, ◌≤◌, true, false, List, [], ◌∷◌, Option, None, Some}
use Rattle.std.specs.declared.net.socket_addr.SocketAddr.{SocketAddr}
use Rattle.dns_name.specs.Name.{Name}
use Rattle.notify.specs.Notified.{untold}
use Rattle.notify.specs.Copies.{first_wait, is_due, falls_silent, as_silent, next_notify, as_notified, is_answered_by, as_answered}
use Rattle.notify.specs.declared.secondary.Secondary.{Secondary}
use Rattle.notify.specs.declared.secondary.Telling.{Telling}

-- a NOTIFY that was sent: its version's number, its ID, and when
pub record Sending : Type 0 where
  pub number : ℕ
  pub id : ℕ
  pub time : ℕ

-- what is sent, by what is told
abbrev pub sending_of : Telling → ℕ → Sending
sending_of telling time = record { number = telling.number; id = telling.id; time = time }

-- all that a secondary was sent, the last first, up to a time, and what is known of it then: it is told nothing at first; time passes; what
-- is due to it is done; and it answers
pub data Course : List Sending → ℕ → Secondary → Type 0 where
  begins : {sent : List Sending} {time : ℕ} {s : Secondary} (address : SocketAddr) → sent ≡ [] → s ≡ untold address → Course sent time s
  passes : {sent : List Sending} {before time : ℕ} {s : Secondary} → Course sent before s → before ≤ time → Course sent time s
  reported : {sent more : List Sending} {time : ℕ} {s later : Secondary} (number id : ℕ) → Course sent time s → is_due time number s ≡ true → falls_silent s ≡ false
      → more ≡ sending_of (next_notify number id time s.telling) time ∷ sent → later ≡ as_notified (next_notify number id time s.telling) s → Course more time later
  silent : {sent : List Sending} {time : ℕ} {s later : Secondary} (number : ℕ) → Course sent time s → is_due time number s ≡ true → falls_silent s ≡ true → later ≡ as_silent s → Course sent time later
  answered : {sent : List Sending} {time : ℕ} {s later : Secondary} (apex : Name) (octets : List ℕ) → Course sent time s → is_answered_by apex octets s ≡ true → later ≡ as_answered s → Course sent time later

-- a NOTIFY is of no older version than the one before it, a second later or more, and of the same ID where it is of the same version
pub record FollowsOn (before after : Sending) : Type 0 where
  pub newer : before.number ≤ after.number
  pub later : before.time + first_wait ≤ after.time
  pub same : before.number ≡ after.number → before.id ≡ after.id

-- and so is each of those that were sent, the last first
abbrev pub InOrder : List Sending → Type 0
InOrder [] = Unit {0}
InOrder (last ∷ []) = Unit {0}
InOrder (last ∷ before ∷ sent) = FollowsOn before last × InOrder (before ∷ sent)
