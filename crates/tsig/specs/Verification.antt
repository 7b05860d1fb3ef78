-- How a request is judged by its TSIG (RFC 8945, 5.2).
use Rattle.std.specs.Prelude.{ℕ, ◌-◌, ◌/◌, Bool, not, ◌&&◌, List, [], length, take, nat_lt, nat_le, max, bytes_eq, Option, Some, None, if◌then◌else◌}
use Rattle.dns_message.specs.Reads.{is_reply}
use Rattle.dns_message.specs.Tsig.{place_in}
use Rattle.dns_message.specs.declared.tsig.Place.{Place}
use Rattle.dns_message.specs.declared.tsig.Place.TheVariants.{Bare, Bad, At}
use Rattle.hmac.specs.Hmac.{mac_size}
use Rattle.tsig.specs.Digested.{without_tsig, mac_over}
use Rattle.tsig.specs.Fields.{Fields}
use Rattle.tsig.specs.Keys.{SharedKey, key_of}
use Rattle.tsig.specs.Tsig.{Tsig, tsig_at}
use Rattle.tsig.specs.declared.request_tsig.RequestTsig.{RequestTsig}
use Rattle.tsig.specs.declared.verifying.Verification.{Verification}
use Rattle.tsig.specs.declared.verifying.Verification.TheVariants.{Unsigned, Silent, Malformed, BadKey, BadSig, BadTime, BadTrunc, Signed}

-- whether a MAC of this size may be one that is cut short: no more octets than the whole has, and neither under 10 nor under the half of these
-- (RFC 8945, 5.2.2.1)
abbrev pub is_size : ℕ → ℕ → Bool
is_size whole size = nat_le size whole && nat_le (max 10 (whole / 2)) size

-- whether the MAC of the TSIG at a position is the message's, or the beginning of it (RFC 8945, 5.2.2)
unfoldable pub is_right : SharedKey → List ℕ → List ℕ → ℕ → Fields → Bool
is_right key prior msg start f = bytes_eq f.mac (take (length f.mac) (mac_over key prior (without_tsig msg start f.original) f))

-- whether a time is within the fudge of now (RFC 8945, 5.2.3)
abbrev pub is_timely : ℕ → Fields → Bool
is_timely now f = nat_le (now - f.time) f.fudge && nat_le (f.time - now) f.fudge

-- what a reply has to know of a request's TSIG: which key it names, where it stands, its MAC, its times
abbrev pub request_tsig_of : ℕ → ℕ → Fields → RequestTsig
request_tsig_of index start f = record { key = index; start = start; mac = record { items = f.mac }; time = f.time; fudge = f.fudge }

-- a request whose MAC is right: its time, and whether its MAC is whole (RFC 8945, 5.2.3 and 5.2.4)
abbrev pub after_mac : ℕ → ℕ → ℕ → ℕ → Fields → Verification
after_mac now index start whole f =
    if not (is_timely now f) then BadTime (request_tsig_of index start f)
    else if nat_lt (length f.mac) whole then BadTrunc (request_tsig_of index start f)
    else Signed (request_tsig_of index start f)

-- a request whose key is known: the size of its MAC, its MAC, and what comes after these (RFC 8945, 5.2.2)
abbrev pub by_mac : ℕ → List ℕ → ℕ → Tsig → ℕ → SharedKey → Verification
by_mac now msg start tsig index key =
    if not (is_size (mac_size key.secret.algorithm) (length tsig.fields.mac)) then Malformed
    else if not (is_right key [] msg start tsig.fields) then BadSig tsig
    else after_mac now index start (mac_size key.secret.algorithm) tsig.fields

-- by the key that its TSIG names (RFC 8945, 5.2.1)
abbrev pub by_key : ℕ → List ℕ → ℕ → Tsig → Option (ℕ × SharedKey) → Verification
by_key now msg start tsig None = BadKey tsig
by_key now msg start tsig (Some found) = by_mac now msg start tsig found.0 found.1

-- by what its TSIG is
abbrev pub by_tsig : List SharedKey → ℕ → List ℕ → ℕ → Option Tsig → Verification
by_tsig keys now msg start None = Malformed
by_tsig keys now msg start (Some tsig) = by_key now msg start tsig (key_of tsig.owner tsig.algorithm keys)

-- by where its TSIG stands (RFC 8945, 5.2): one that can't be read to its end has none, and is told FORMERR as any other
abbrev pub by_place : List SharedKey → ℕ → List ℕ → Option Place → Verification
by_place keys now msg None = Unsigned
by_place keys now msg (Some Bare) = Unsigned
by_place keys now msg (Some Bad) = Malformed
by_place keys now msg (Some (At start)) = by_tsig keys now msg start (tsig_at msg start)

-- what octets are by their TSIG: fewer than twelve, or a reply, are nothing that is answered (RFC 8945, 5.2)
abbrev pub verified : List SharedKey → ℕ → List ℕ → Verification
verified keys now msg =
    if nat_lt (length msg) 12 then Silent
    else if is_reply msg then Silent
    else by_place keys now msg (place_in msg)
