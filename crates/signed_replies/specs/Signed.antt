-- What a request gets, by its TSIG (RFC 8945, 5.2 and 5.3).
use Rattle.std.specs.Prelude.{◌≡◌, ℕ, List, [], ◌∷◌, length, map, nat_lt, Option, Some, None, slice_get, if◌then◌else◌}
use Rattle.std.specs.declared.net.socket_addr.SocketAddr.{SocketAddr}
use Rattle.dns_rdata.specs.declared.numbers.Rcode.{Rcode}
use Rattle.dns_rdata.specs.declared.numbers.Rcode.TheVariants.{FormErr, NotAuth}
use Rattle.dns_message.specs.Message.{message_limit, number_at}
use Rattle.dns_message.specs.Octets.{fit}
use Rattle.dns_message.specs.Reads.{header_of}
use Rattle.dns_message.specs.Request.{is_update, reads}
use Rattle.dns_message.specs.declared.edns.Edns.{Edns}
use Rattle.dns_message.specs.declared.query.Parsed.{Parsed}
use Rattle.dns_message.specs.declared.query.Parsed.TheVariants as parsed
use Rattle.requests.specs.Allowed.{IsPeer}
use Rattle.rights.specs.declared.rule.Rule.{Rule}
use Rattle.serve_core.specs.Heading.{header_alone, coded}
use Rattle.serve_core.specs.Transport.{limit_of}
use Rattle.serve_core.specs.declared.peer.Peer.{Peer}
use Rattle.serve_core.specs.declared.transport.Transport.{Transport}
use Rattle.serve_core.specs.declared.transport.Transport.TheVariants.{Udp}
use Rattle.tsig.specs.Digested.{without_tsig}
use Rattle.tsig.specs.Keys.{SharedKey}
use Rattle.tsig.specs.Signing.{signed_within, with_error_tsig}
use Rattle.tsig.specs.Verification.{verified}
use Rattle.tsig.specs.declared.request_tsig.RequestTsig.{RequestTsig}
use Rattle.tsig.specs.declared.stamp.Stamp.{Stamp}
use Rattle.tsig.specs.declared.tsig_error.TsigError.TheVariants as error
use Rattle.tsig.specs.declared.verifying.Verification.{Verification}
use Rattle.tsig.specs.declared.verifying.Verification.TheVariants.{Unsigned, Silent, Malformed, BadKey, BadSig, BadTime, BadTrunc, Signed}
use Rattle.signed_replies.specs.Rights.{rules_of}

-- a request without its TSIG, which stands at a position: with its own ID, and not Original ID, so that the reply has that one (RFC 1035, 4.1.1)
abbrev pub plain_of : List ℕ → ℕ → List ℕ
plain_of request start = without_tsig request start (number_at request 0)

-- the OPT that a request is obeyed by: of a query alone
abbrev pub edns_read : Parsed → Option Edns
edns_read (parsed.Query query) = query.edns
edns_read (parsed.Update update) = None
edns_read parsed.Silent = None
edns_read (parsed.Fault head code) = None
edns_read (parsed.BadOpt head question code dnssec_ok) = None
edns_read (parsed.NoMemory head) = None

abbrev pub edns_of : List ℕ → Option Edns
edns_of request = if is_update request then None else edns_read (reads request)

-- the most octets of the reply to a request without its TSIG (RFC 1035, 4.2; RFC 6891, 6.2.3)
abbrev pub reply_limit : Transport → List ℕ → ℕ
reply_limit transport request = limit_of transport (edns_of request)

-- the reply that has a code, and the header alone
abbrev pub error_reply : Transport → Rcode → List ℕ → List ℕ
error_reply transport code request = fit (coded (header_alone (header_of request)) code) (limit_of transport None)

-- what the TSIG of a reply says that is signed at a time, with no error
abbrev pub stamp_at : ℕ → Stamp
stamp_at time = record { time = time; fudge = 300; error = error.NoError }

-- what the TSIG says that tells of a time outside the fudge: the request's time and fudge, and the server's time (RFC 8945, 5.2.3)
abbrev pub stamp_late : RequestTsig → ℕ → Stamp
stamp_late tsig now = record { time = tsig.time; fudge = tsig.fudge; error = error.BadTime now }

-- and the one that tells of a MAC that is cut short (RFC 8945, 5.2.4)
abbrev pub stamp_short : ℕ → Stamp
stamp_short now = record { time = now; fudge = 300; error = error.BadTrunc }

-- a reply that is signed after the MAC of its request (RFC 8945, 5.3); what has no header is no message, and isn't signed
abbrev pub signed_reply : SharedKey → List ℕ → Stamp → ℕ → List ℕ → List ℕ
signed_reply key mac stamp limit plain = if nat_lt (length plain) 12 then plain else signed_within key mac stamp limit plain

-- the reply that tells an error of a request's TSIG, signed; none without a key, which is of no request (`tsig::signed_alone`)
abbrev pub signed_error : Transport → Option SharedKey → RequestTsig → Stamp → List ℕ → List (List ℕ)
signed_error transport None tsig stamp request = []
signed_error transport (Some key) tsig stamp request =
    signed_reply key tsig.mac.items stamp (limit_of transport None) (error_reply transport NotAuth request) ∷ []

-- the reply to an update by datagram that was queued, signed at a time; none without a key
abbrev pub signed_queued : Option SharedKey → RequestTsig → ℕ → List ℕ → List (List ℕ)
signed_queued None tsig now plain = []
signed_queued (Some key) tsig now plain = signed_reply key tsig.mac.items (stamp_at now) (limit_of Udp None) plain ∷ []

-- what octets are by their TSIG, at a time; more of them than a message has are no message, and have none (RFC 1035, 4.2.2)
abbrev pub received : List SharedKey → ℕ → List ℕ → Verification
received keys now request = if nat_lt message_limit (length request) then Unsigned else verified keys now request

-- messages that come as datagrams are signed, each for itself, with a time and under a limit (RFC 8945, 5.3)
abbrev pub AreSignedAlone : SharedKey → ℕ → RequestTsig → ℕ → List (List ℕ) → List (List ℕ) → Type 0
AreSignedAlone key now tsig limit plains messages = messages ≡ map (signed_reply key tsig.mac.items (stamp_at now) limit) plains

-- the keys, the rules of their holders, what a reply is to a request without TSIG, by the peer and by what is known before it and when it is made, and how its messages are signed, by the key, the
-- time, the request's TSIG and the limit
module _ {K : Type 0} (keys : List SharedKey) (rights : List (List Rule)) (IsReply : Peer → K → K → List ℕ → List (List ℕ) → Type 0) (AreSigned : SharedKey → ℕ → RequestTsig → ℕ → List (List ℕ) → List (List ℕ) → Type 0) where
  -- the messages of a reply to the request without its TSIG, to the peer that the rules of the key's holder make of who sends that from an address, signed at a time (RFC 8945, 5.3)
  abbrev pub IsSignedReply : Option SharedKey → ℕ → RequestTsig → Peer → K → K → List ℕ → List (List ℕ) → Type 0
  IsSignedReply None now tsig peer before later request messages = messages ≡ []
  IsSignedReply (Some key) now tsig peer before later request messages =
      let plain = plain_of request tsig.start in
      (from : SocketAddr) × (own : Peer) × IsPeer (rules_of rights tsig.key) peer.transport from plain own
      × (plains : List (List ℕ)) × IsReply own before later plain plains × AreSigned key now tsig (reply_limit peer.transport plain) plains messages

  -- by what the request is by its TSIG (RFC 8945, 5.2)
  abbrev pub IsReplyBy : Verification → ℕ → Peer → K → K → List ℕ → List (List ℕ) → Type 0
  IsReplyBy Unsigned now peer before later request messages = IsReply peer before later request messages
  IsReplyBy Silent now peer before later request messages = messages ≡ []
  IsReplyBy Malformed now peer before later request messages = messages ≡ error_reply peer.transport FormErr request ∷ []
  IsReplyBy (BadKey tsig) now peer before later request messages = messages ≡ with_error_tsig tsig error.BadKey (error_reply peer.transport NotAuth request) ∷ []
  IsReplyBy (BadSig tsig) now peer before later request messages = messages ≡ with_error_tsig tsig error.BadSig (error_reply peer.transport NotAuth request) ∷ []
  IsReplyBy (BadTime tsig) now peer before later request messages = messages ≡ signed_error peer.transport (slice_get keys tsig.key) tsig (stamp_late tsig now) request
  IsReplyBy (BadTrunc tsig) now peer before later request messages = messages ≡ signed_error peer.transport (slice_get keys tsig.key) tsig (stamp_short now) request
  IsReplyBy (Signed tsig) now peer before later request messages = IsSignedReply (slice_get keys tsig.key) now tsig peer before later request messages

  -- at some time, the clock's, and by what is known then, which grows
  abbrev pub IsReplyTo : (K → K → Type 0) → Peer → K → K → List ℕ → List (List ℕ) → Type 0
  IsReplyTo Grows peer seen later request messages =
      (now : ℕ) × (before : K) × Grows before seen × Grows later before × IsReplyBy (received keys now request) now peer before later request messages

-- the keys, the rules of their holders, and which requests without TSIG may be answered later, by the peer
module _ (keys : List SharedKey) (rights : List (List Rule)) (IsLater : Peer → List ℕ → Type 0) where
  -- a request may be answered later that may without its TSIG, by the peer that the rules of the key's holder make of who sends that from an address
  abbrev pub IsLaterBy : Verification → Peer → List ℕ → Type 0
  IsLaterBy Unsigned peer request = IsLater peer request
  IsLaterBy Silent peer request = ⊥
  IsLaterBy Malformed peer request = ⊥
  IsLaterBy (BadKey tsig) peer request = ⊥
  IsLaterBy (BadSig tsig) peer request = ⊥
  IsLaterBy (BadTime tsig) peer request = ⊥
  IsLaterBy (BadTrunc tsig) peer request = ⊥
  IsLaterBy (Signed tsig) peer request =
      let plain = plain_of request tsig.start in
      (from : SocketAddr) × (own : Peer) × IsPeer (rules_of rights tsig.key) peer.transport from plain own × IsLater own plain

  abbrev pub IsLaterTo : Peer → List ℕ → Type 0
  IsLaterTo peer request = (now : ℕ) × IsLaterBy (received keys now request) peer request
