-- How the reply to a signed request is judged (RFC 8945, 5.4).
use Rattle.std.specs.Prelude.{ℕ, ◌==◌, Bool, not, ◌&&◌, List, length, nat_lt, Option, Some, None, if◌then◌else◌}
use Rattle.dns_message.specs.Reads.{is_reply}
use Rattle.dns_message.specs.Tsig.{place_in}
use Rattle.dns_message.specs.declared.tsig.Place.{Place}
use Rattle.dns_message.specs.declared.tsig.Place.TheVariants.{Bare, Bad, At}
use Rattle.hmac.specs.Hmac.{mac_size}
use Rattle.tsig.specs.Keys.{SharedKey, is_named}
use Rattle.tsig.specs.Tsig.{Tsig, tsig_at}
use Rattle.tsig.specs.Verification.{is_right, is_timely}

-- whether the TSIG at a position is a key's, its MAC whole, and that of the message behind the MAC of its request, and its time within its fudge
abbrev pub is_taken : SharedKey → List ℕ → ℕ → List ℕ → ℕ → Tsig → Bool
is_taken key prior now msg start tsig =
    is_named tsig.owner tsig.algorithm key && length tsig.fields.mac == mac_size key.secret.algorithm
    && is_right key prior msg start tsig.fields && is_timely now tsig.fields

-- the position of such a TSIG; none of another
abbrev pub taken_at : SharedKey → List ℕ → ℕ → List ℕ → ℕ → Option Tsig → Option ℕ
taken_at key prior now msg start None = None
taken_at key prior now msg start (Some tsig) = if is_taken key prior now msg start tsig then Some start else None

-- by where the TSIG stands
abbrev pub taken_by : SharedKey → List ℕ → ℕ → List ℕ → Option Place → Option ℕ
taken_by key prior now msg None = None
taken_by key prior now msg (Some Bare) = None
taken_by key prior now msg (Some Bad) = None
taken_by key prior now msg (Some (At start)) = taken_at key prior now msg start (tsig_at msg start)

-- where the TSIG of a reply stands that the holder of a key signed behind this MAC; none of fewer than twelve octets, of a request, and of a reply that isn't signed so
abbrev pub reply_start : SharedKey → List ℕ → ℕ → List ℕ → Option ℕ
reply_start key prior now msg =
    if nat_lt (length msg) 12 then None
    else if not (is_reply msg) then None
    else taken_by key prior now msg (place_in msg)
