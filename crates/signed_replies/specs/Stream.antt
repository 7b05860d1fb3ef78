-- Messages of a reply that are signed one after another (RFC 8945, 5.3.1).
use Rattle.std.specs.Prelude.{◌≡◌, ◌⊎◌, ℕ, ◌+◌, ◌-◌, ◌^◌, Bool, true, false, not, ◌&&◌, List, [], ◌∷◌, length, nat_lt, nat_le, Option, Some, None, if◌then◌else◌}
use Rattle.dns_message.specs.Message.{message_limit, number_at}
use Rattle.tsig.specs.Digested.{mac_over, mac_later}
use Rattle.tsig.specs.Keys.{SharedKey}
use Rattle.tsig.specs.Signing.{stamped, tsig_size, fitted, signed_within, signed_later}
use Rattle.tsig.specs.declared.request_tsig.RequestTsig.{RequestTsig}
use Rattle.tsig.specs.declared.stamp.Stamp.{Stamp}
use Rattle.tsig.specs.declared.tsig_error.TsigError.TheVariants.{NoError}

-- how the next message is signed: by a key, with a Time Signed, after a MAC, and whether it isn't the first
pub record SignerState : Type 0 where
  pub key : SharedKey
  pub stamp : Stamp
  pub prior : List ℕ
  pub begun : Bool

-- whether a message has a header, and leaves room for a TSIG and its count, as each that we make does
abbrev pub has_room : List ℕ → Bool
has_room plain = not (nat_lt (length plain) 12) && nat_le (length plain + 237) message_limit && nat_lt (number_at plain 10) (2 ^ 16 - 1)

-- a message that is signed: the first after its request's MAC and with all variables, a later one after the MAC before it and with the times alone
abbrev pub signed_as : SignerState → Bool → List ℕ → List ℕ
signed_as s false plain = signed_within s.key s.prior s.stamp message_limit plain
signed_as s true plain = signed_later s.key s.prior s.stamp plain

-- and its MAC
abbrev pub mac_as : SignerState → Bool → List ℕ → List ℕ
mac_as s false plain = let sent = fitted (tsig_size s.key s.stamp) message_limit plain in mac_over s.key s.prior sent (stamped s.stamp sent [])
mac_as s true plain = mac_later s.key s.prior plain (stamped s.stamp plain [])

-- how the message after it is signed
abbrev pub signer_after : SignerState → List ℕ → SignerState
signer_after s plain = if has_room plain then record { key = s.key; stamp = s.stamp; prior = mac_as s s.begun plain; begun = true } else s

-- a message as it is sent; without that room it isn't signed
abbrev pub sent_as : SignerState → List ℕ → List ℕ
sent_as s plain = if has_room plain then signed_as s s.begun plain else plain

-- messages, each signed after the one before
unfoldable pub signed_stream : SignerState → List (List ℕ) → List (List ℕ)
signed_stream s [] = []
signed_stream s (plain ∷ more) = sent_as s plain ∷ signed_stream (signer_after s plain) more

-- the same of a reply that is signed; any other is sent as it is
abbrev pub sent_by : Option SignerState → List ℕ → List ℕ
sent_by None plain = plain
sent_by (Some s) plain = sent_as s plain

abbrev pub stream_by : Option SignerState → List (List ℕ) → List (List ℕ)
stream_by None messages = messages
stream_by (Some s) messages = signed_stream s messages

-- the messages of a reply on a connection are signed one after another: with the time of the first and a fudge of 300 seconds, or, of a reply that is made message by message, of 14,400
abbrev pub AreSignedInOrder : SharedKey → ℕ → RequestTsig → ℕ → List (List ℕ) → List (List ℕ) → Type 0
AreSignedInOrder key now tsig limit plains messages =
    (fudge : ℕ) × ((fudge ≡ 300) ⊎ (fudge ≡ 14400))
    × (messages ≡ signed_stream (record { key = key; stamp = record { time = now; fudge = fudge; error = NoError }; prior = tsig.mac.items; begun = false }) plains)
