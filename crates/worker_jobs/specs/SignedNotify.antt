-- How a NOTIFY is signed, and what counts of a reply to it (RFC 1996, 3.6 and 4.7; RFC 8945, 5.3 and 5.4).
use Rattle.std.specs.Prelude.{ℕ, List, [], length, nat_lt, Option, None, Some, slice_get, if◌then◌else◌}
use Rattle.dns_message.specs.Message.{number_at}
use Rattle.signed_replies.specs.Signed.{stamp_at}
use Rattle.tsig.specs.Digested.{without_tsig, mac_over}
use Rattle.tsig.specs.Keys.{SharedKey}
use Rattle.tsig.specs.Replies.{reply_start}
use Rattle.tsig.specs.Signing.{fitted, signed_within, stamped, tsig_size}

-- the key at an index of a server's keys; none where there is none, or there are no keys
abbrev pub key_at : Option (List SharedKey) → ℕ → Option SharedKey
key_at None index = None
key_at (Some keys) index = slice_get keys index

-- the most octets of a NOTIFY that is signed (own)
abbrev pub signed_limit : ℕ
signed_limit = 1024

-- a NOTIFY that is signed by a key at a time (RFC 8945, 5.1)
abbrev pub signed_notify : SharedKey → ℕ → List ℕ → List ℕ
signed_notify key now plain = signed_within key [] (stamp_at now) signed_limit plain

-- and its MAC
abbrev pub notify_mac : SharedKey → ℕ → List ℕ → List ℕ
notify_mac key now plain = let sent = fitted (tsig_size key (stamp_at now)) signed_limit plain in mac_over key [] sent (stamped (stamp_at now) sent [])

-- the MAC of the NOTIFY that was sent last, after one was sent at a time; as before where it isn't signed, or has no header
abbrev pub mac_by : Option SharedKey → List ℕ → ℕ → List ℕ → List ℕ
mac_by None before now plain = before
mac_by (Some key) before now plain = if nat_lt (length plain) 12 then before else notify_mac key now plain

-- the same, by the index of the key by which NOTIFYs are signed
abbrev pub mac_sent : Option (List SharedKey) → Option ℕ → List ℕ → ℕ → List ℕ → List ℕ
mac_sent keys None before now plain = before
mac_sent keys (Some index) before now plain = mac_by (key_at keys index) before now plain

-- a reply without its TSIG, which stands at a position: with its own ID
abbrev pub plain_at : List ℕ → Option ℕ → Option (List ℕ)
plain_at reply None = None
plain_at reply (Some start) = Some (without_tsig reply start (number_at reply 0))

-- what counts of a reply that has to be signed by a key, at a time, as the reply to a NOTIFY with this MAC: none of it where it isn't (RFC 8945, 5.4)
abbrev pub signed_part : SharedKey → List ℕ → ℕ → List ℕ → Option (List ℕ)
signed_part key mac now reply = plain_at reply (reply_start key mac now reply)

abbrev pub signed_part_by : Option SharedKey → List ℕ → ℕ → List ℕ → Option (List ℕ)
signed_part_by None mac now reply = None
signed_part_by (Some key) mac now reply = signed_part key mac now reply

-- what counts of a reply to the NOTIFY whose MAC this is, by the index of the key by which NOTIFYs are signed: all of it where they aren't
abbrev pub counted_part : Option (List SharedKey) → Option ℕ → List ℕ → ℕ → List ℕ → Option (List ℕ)
counted_part keys None mac now reply = Some reply
counted_part keys (Some index) mac now reply = signed_part_by (key_at keys index) mac now reply
