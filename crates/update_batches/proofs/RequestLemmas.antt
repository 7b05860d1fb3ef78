-- The messages of a request that is read as an update.
use Rattle.std.proofs.Common.{◌≡◌, ℕ, ◌<◌, ◌≤◌, ◌^◌, ◌⊎◌, inl, inr, List, [], ◌∷◌, length, arith}
use Rattle.std.proofs.lemmas.Bool.{cases_lt}
use Rattle.dns_message.specs.Request.{reads}
use Rattle.dns_message.specs.declared.query.Parsed.TheVariants.{Update as Says}
use Rattle.dns_message.specs.declared.update.Update.{Update}
use Rattle.journal.specs.Batch.{IsShort}

-- no octets are no update (RFC 1035, 4.1.1)
read_some : (octets : List ℕ) (update : Update) → reads octets ≡ Says update → 0 < length octets
read_some [] update e = absurd (cc e)
read_some (x ∷ octets) update e = omega arith

-- an update that can't stand in a batch as a message has more octets than two octets can count
pub too_long : (octets : List ℕ) (update : Update) → reads octets ≡ Says update → (IsShort octets → ⊥) → 2 ^ 16 ≤ length octets
too_long octets update e none = by (cases_lt (length octets) (2 ^ 16))
  where
    by : (length octets < 2 ^ 16) ⊎ (2 ^ 16 ≤ length octets) → 2 ^ 16 ≤ length octets
    by (inl short) = absurd (none (record { some = read_some octets update e; short = short }))
    by (inr long) = long

-- and one that can has no more
pub not_long : (octets : List ℕ) → IsShort octets → 2 ^ 16 ≤ length octets → ⊥
not_long octets is long = omega (arith, is.short, long)
