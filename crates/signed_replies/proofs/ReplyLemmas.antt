-- What a request gets, by what it is by its TSIG.
use Rattle.std.proofs.Common.{◌≡◌, ℕ, ◌<◌, ◌≤◌, true, false, List, [], ◌∷◌, length, Option, None, Some, Result, IfOk, slice_get, refl, sym, ap, subst, ◌∙◌, arith, if◌then◌else◌}
use Rattle.std.specs.Prelude.{nat_lt}
use Rattle.std.proofs.lemmas.Bool.Decides.{nat_tests}
use Rattle.std.proofs.lemmas.Result.{IfOk-weaker}
use Rattle.dns_message.specs.Message.{message_limit}
use Rattle.dns_message.specs.Reads.{is_reply}
use Rattle.dns_message.specs.Tsig.{place_in}
use Rattle.requests.proofs.TurnLemmas.{grows_itself}
use Rattle.requests.specs.Allowed.{IsPeer}
use Rattle.requests.specs.Datagrams.{by_datagram}
use Rattle.requests.specs.Octets.{messages_in}
use Rattle.requests.specs.Served.{Learned, Grows}
use Rattle.rights.specs.declared.rule.Rule.{Rule}
use Rattle.serve_core.specs.declared.peer.Peer.{Peer}
use Rattle.serve_core.specs.declared.transport.Transport.{Transport}
use Rattle.std.specs.declared.net.socket_addr.SocketAddr.{SocketAddr}
use Rattle.tsig.specs.Keys.{SharedKey}
use Rattle.tsig.specs.Verification.{verified, by_place}
use Rattle.tsig.specs.declared.request_tsig.RequestTsig.{RequestTsig}
use Rattle.tsig.specs.declared.stamp.Stamp.{Stamp}
use Rattle.tsig.specs.declared.verifying.Verification.{Verification}
use Rattle.tsig.specs.declared.verifying.Verification.TheVariants.{Unsigned, Silent}
use Rattle.signed_replies.specs.Rights.{rules_of}
use Rattle.signed_replies.specs.Signed.{received, plain_of, reply_limit, stamp_at, signed_reply, signed_error, AreSignedAlone, IsReplyBy, IsReplyTo, IsSignedReply}

pub not_fewer : (a b : ℕ) → b ≤ a → nat_lt a b ≡ false
not_fewer a b e = grind (arith, nat_tests)

fewer : (a b : ℕ) → a < b → nat_lt a b ≡ true
fewer a b e = grind (arith, nat_tests)

-- octets that a message may have are what their TSIG says
pub received_is : (keys : List SharedKey) (now : ℕ) (request : List ℕ) → length request ≤ message_limit → received keys now request ≡ verified keys now request
received_is keys now request short = ap (λ b. if b then Unsigned else verified keys now request) (not_fewer message_limit (length request) short)

-- more octets have no TSIG
pub too_many : (keys : List SharedKey) (now : ℕ) (request : List ℕ) → message_limit < length request → received keys now request ≡ Unsigned
too_many keys now request long = ap (λ b. if b then Unsigned else verified keys now request) (fewer message_limit (length request) long)

-- fewer octets than a header has are nothing that is answered
pub too_few : (keys : List SharedKey) (now : ℕ) (request : List ℕ) → length request < 12 → received keys now request ≡ Silent
too_few keys now request few =
    received_is keys now request (omega (arith, few))
    ∙ ap (λ b. if b then Silent else (if is_reply request then Silent else by_place keys now request (place_in request))) (fewer (length request) 12 few)

-- what is known grows
module _ {K : Type 0} (Grows : K → K → Type 0) (itself : (known : K) → Grows known known) where
  -- nothing is replied to what isn't answered
  pub silent_by : (keys : List SharedKey) (rights : List (List Rule)) (IsReply : Peer → K → K → List ℕ → List (List ℕ) → Type 0)
      (AreSigned : SharedKey → ℕ → RequestTsig → ℕ → List (List ℕ) → List (List ℕ) → Type 0) (peer : Peer) (seen : K) (request : List ℕ)
      → received keys 0 request ≡ Silent → IsReplyTo keys rights IsReply AreSigned Grows peer seen seen request []
  silent_by keys rights IsReply AreSigned peer seen request is = (0, seen, itself seen, itself seen, subst (λ v. IsReplyBy keys rights IsReply AreSigned v 0 peer seen seen request []) (sym is) refl)

  -- what a request gets by what it is, it gets
  pub reply_by : (keys : List SharedKey) (rights : List (List Rule)) (IsReply : Peer → K → K → List ℕ → List (List ℕ) → Type 0)
      (AreSigned : SharedKey → ℕ → RequestTsig → ℕ → List (List ℕ) → List (List ℕ) → Type 0) (verification : Verification) (now : ℕ) (peer : Peer)
      (seen later : K) (request : List ℕ) (messages : List (List ℕ)) → verification ≡ received keys now request
      → (before : K) × Grows before seen × Grows later before × IsReplyBy keys rights IsReply AreSigned verification now peer before later request messages
      → IsReplyTo keys rights IsReply AreSigned Grows peer seen later request messages
  reply_by keys rights IsReply AreSigned verification now peer seen later request messages is r = (now, r.0, r.1, r.2, subst (λ v. IsReplyBy keys rights IsReply AreSigned v now peer r.0 later request messages) is r.3)

  -- what is replied without asking a handler is replied by what is known
  pub at_once_by : (keys : List SharedKey) (rights : List (List Rule)) (IsReply : Peer → K → K → List ℕ → List (List ℕ) → Type 0)
      (AreSigned : SharedKey → ℕ → RequestTsig → ℕ → List (List ℕ) → List (List ℕ) → Type 0) (verification said : Verification) (now : ℕ) (peer : Peer) (seen : K) (request : List ℕ) (messages : List (List ℕ))
      → verification ≡ said → IsReplyBy keys rights IsReply AreSigned said now peer seen seen request messages
      → (before : K) × Grows before seen × Grows seen before × IsReplyBy keys rights IsReply AreSigned verification now peer before seen request messages
  at_once_by keys rights IsReply AreSigned verification said now peer seen request messages is reply =
      (seen, itself seen, itself seen, subst (λ v. IsReplyBy keys rights IsReply AreSigned v now peer seen seen request messages) (sym is) reply)

  -- and what a handler is asked for
  pub then_by : (keys : List SharedKey) (rights : List (List Rule)) (IsReply : Peer → K → K → List ℕ → List (List ℕ) → Type 0)
      (AreSigned : SharedKey → ℕ → RequestTsig → ℕ → List (List ℕ) → List (List ℕ) → Type 0) (verification said : Verification) (now : ℕ) (peer : Peer) (seen later : K) (request : List ℕ) (messages : List (List ℕ))
      → verification ≡ said → (before : K) × Grows before seen × Grows later before × IsReplyBy keys rights IsReply AreSigned said now peer before later request messages
      → (before : K) × Grows before seen × Grows later before × IsReplyBy keys rights IsReply AreSigned verification now peer before later request messages
  then_by keys rights IsReply AreSigned verification said now peer seen later request messages is reply =
      (reply.0, reply.1, reply.2, subst (λ v. IsReplyBy keys rights IsReply AreSigned v now peer reply.0 later request messages) (sym is) reply.3)

-- what datagrams get
-- nothing is replied to what isn't answered
pub silent_to : {T : Type 0} (keys : List SharedKey) (rights : List (List Rule)) (IsReply : Peer → Learned T → Learned T → List ℕ → List (List ℕ) → Type 0)
    (AreSigned : SharedKey → ℕ → RequestTsig → ℕ → List (List ℕ) → List (List ℕ) → Type 0) (peer : Peer) (seen : Learned T) (request : List ℕ)
    → received keys 0 request ≡ Silent → IsReplyTo keys rights IsReply AreSigned Grows peer seen seen request []
silent_to keys rights IsReply AreSigned peer seen request is = silent_by Grows grows_itself keys rights IsReply AreSigned peer seen request is

-- what a request gets by what it is, it gets
pub reply_to : {T : Type 0} (keys : List SharedKey) (rights : List (List Rule)) (IsReply : Peer → Learned T → Learned T → List ℕ → List (List ℕ) → Type 0)
    (AreSigned : SharedKey → ℕ → RequestTsig → ℕ → List (List ℕ) → List (List ℕ) → Type 0) (verification : Verification) (now : ℕ) (peer : Peer)
    (seen later : Learned T) (request : List ℕ) (messages : List (List ℕ)) → verification ≡ received keys now request
    → (before : Learned T) × Grows before seen × Grows later before × IsReplyBy keys rights IsReply AreSigned verification now peer before later request messages
    → IsReplyTo keys rights IsReply AreSigned Grows peer seen later request messages
reply_to keys rights IsReply AreSigned verification now peer seen later request messages is r = reply_by Grows grows_itself keys rights IsReply AreSigned verification now peer seen later request messages is r

-- what is replied without asking a handler is replied by what is known
pub told_at_once : {T : Type 0} (keys : List SharedKey) (rights : List (List Rule)) (IsReply : Peer → Learned T → Learned T → List ℕ → List (List ℕ) → Type 0)
    (AreSigned : SharedKey → ℕ → RequestTsig → ℕ → List (List ℕ) → List (List ℕ) → Type 0) (verification said : Verification) (now : ℕ) (peer : Peer) (seen : Learned T) (request : List ℕ) (messages : List (List ℕ))
    → verification ≡ said → IsReplyBy keys rights IsReply AreSigned said now peer seen seen request messages
    → (before : Learned T) × Grows before seen × Grows seen before × IsReplyBy keys rights IsReply AreSigned verification now peer before seen request messages
told_at_once keys rights IsReply AreSigned verification said now peer seen request messages is reply = at_once_by Grows grows_itself keys rights IsReply AreSigned verification said now peer seen request messages is reply

-- and what a handler is asked for
pub told_then : {T : Type 0} (keys : List SharedKey) (rights : List (List Rule)) (IsReply : Peer → Learned T → Learned T → List ℕ → List (List ℕ) → Type 0)
    (AreSigned : SharedKey → ℕ → RequestTsig → ℕ → List (List ℕ) → List (List ℕ) → Type 0) (verification said : Verification) (now : ℕ) (peer : Peer) (seen later : Learned T) (request : List ℕ) (messages : List (List ℕ))
    → verification ≡ said → (before : Learned T) × Grows before seen × Grows later before × IsReplyBy keys rights IsReply AreSigned said now peer before later request messages
    → (before : Learned T) × Grows before seen × Grows later before × IsReplyBy keys rights IsReply AreSigned verification now peer before later request messages
told_then keys rights IsReply AreSigned verification said now peer seen later request messages is reply = then_by Grows grows_itself keys rights IsReply AreSigned verification said now peer seen later request messages is reply

-- what is known when a handler is asked lies between what was known before and what is known then
pub replied_as : {T E : Type 0} (IsReply : Peer → Learned T → Learned T → List ℕ → List (List ℕ) → Type 0) (peer : Peer) (seen mid later : Learned T) (request out : List ℕ) (made : Result (Option ℕ) E) → Grows mid seen
    → Grows later mid → IfOk made (λ len. IsReply peer mid later request (messages_in len out))
    → IfOk made (λ len. (before : Learned T) × Grows before seen × Grows later before × IsReply peer before later request (messages_in len out))
replied_as IsReply peer seen mid later request out made first last said = IfOk-weaker made _ _ (λ len is. (mid, first, last, is)) said

-- a reply whose messages are signed by the key that the request names
pub signed_reply_by : {K : Type 0} (keys : List SharedKey) (rights : List (List Rule)) (IsReply : Peer → K → K → List ℕ → List (List ℕ) → Type 0)
    (AreSigned : SharedKey → ℕ → RequestTsig → ℕ → List (List ℕ) → List (List ℕ) → Type 0) (found : Option SharedKey) (key : SharedKey) (now : ℕ) (tsig : RequestTsig) (peer : Peer) (before later : K)
    (request : List ℕ) (from : SocketAddr) (own : Peer) (plains messages : List (List ℕ)) → found ≡ Some key
    → IsPeer (rules_of rights tsig.key) peer.transport from (plain_of request tsig.start) own → IsReply own before later (plain_of request tsig.start) plains
    → AreSigned key now tsig (reply_limit peer.transport (plain_of request tsig.start)) plains messages → IsSignedReply keys rights IsReply AreSigned found now tsig peer before later request messages
signed_reply_by keys rights IsReply AreSigned found key now tsig peer before later request from own plains messages is by reply are =
    subst (λ f. IsSignedReply keys rights IsReply AreSigned f now tsig peer before later request messages) (sym is) (from, own, by, plains, reply, are)

-- and none without a key
pub signed_reply_none : {K : Type 0} (keys : List SharedKey) (rights : List (List Rule)) (IsReply : Peer → K → K → List ℕ → List (List ℕ) → Type 0)
    (AreSigned : SharedKey → ℕ → RequestTsig → ℕ → List (List ℕ) → List (List ℕ) → Type 0) (found : Option SharedKey) (now : ℕ) (tsig : RequestTsig) (peer : Peer) (before later : K) (request : List ℕ)
    → found ≡ None → IsSignedReply keys rights IsReply AreSigned found now tsig peer before later request []
signed_reply_none keys rights IsReply AreSigned found now tsig peer before later request is =
    subst (λ f. IsSignedReply keys rights IsReply AreSigned f now tsig peer before later request []) (sym is) refl

-- the reply to a request without its TSIG, by whoever was asked as the peer that the rules of the key's holder make of its sender, is signed
pub signed_as : {K : Type 0} (keys : List SharedKey) (rights : List (List Rule)) (IsReply : Peer → K → K → List ℕ → List (List ℕ) → Type 0)
    (AreSigned : SharedKey → ℕ → RequestTsig → ℕ → List (List ℕ) → List (List ℕ) → Type 0) (found : Option SharedKey) (key : SharedKey) (now : ℕ) (tsig : RequestTsig) (peer : Peer) (before later : K)
    (request inner : List ℕ) (from : SocketAddr) (own asked : Peer) (plains messages : List (List ℕ)) → found ≡ Some key → inner ≡ plain_of request tsig.start
    → IsPeer (rules_of rights tsig.key) peer.transport from inner own → asked ≡ own → IsReply asked before later inner plains
    → AreSigned key now tsig (reply_limit peer.transport inner) plains messages → IsSignedReply keys rights IsReply AreSigned found now tsig peer before later request messages
signed_as keys rights IsReply AreSigned found key now tsig peer before later request inner from own asked plains messages is plain by same reply are =
    signed_reply_by keys rights IsReply AreSigned found key now tsig peer before later request from own plains messages is
    (subst (λ (l : List ℕ). IsPeer (rules_of rights tsig.key) peer.transport from l own) plain by)
    (subst (λ (l : List ℕ). IsReply own before later l plains) plain (subst (λ (p : Peer). IsReply p before later inner plains) same reply))
    (subst (λ (l : List ℕ). AreSigned key now tsig (reply_limit peer.transport l) plains messages) plain are)

-- one message is signed alone
pub one_alone : (key : SharedKey) (now : ℕ) (tsig : RequestTsig) (limit own : ℕ) (stamp : Stamp) (plain sent : List ℕ) → stamp ≡ stamp_at now → own ≡ limit → sent ≡ signed_reply key tsig.mac.items stamp own plain
    → AreSignedAlone key now tsig limit (plain ∷ []) (sent ∷ [])
one_alone key now tsig limit own stamp plain sent stamped same is =
    ap (λ l. l ∷ []) (is ∙ ap (λ (s : Stamp). signed_reply key tsig.mac.items s own plain) stamped ∙ ap (λ n. signed_reply key tsig.mac.items (stamp_at now) n plain) same)

-- octets that are read as having no TSIG are received so
pub unsigned_at : (keys : List SharedKey) (now : ℕ) (request message : List ℕ) → length request ≤ message_limit → message ≡ request → ((all : List SharedKey) (time : ℕ) → verified all time message ≡ Unsigned)
    → Unsigned ≡ received keys now request
unsigned_at keys now request message short same is = sym (received_is keys now request short ∙ ap (verified keys now) (sym same) ∙ is keys now)

-- and as they are verified
pub verified_at : (keys own : List SharedKey) (now : ℕ) (request message : List ℕ) (said : Verification) → length request ≤ message_limit → message ≡ request → own ≡ keys → said ≡ verified own now message → said ≡ received keys now request
verified_at keys own now request message said short same from is = is ∙ ap (λ (l : List SharedKey). verified l now message) from ∙ ap (verified keys now) same ∙ sym (received_is keys now request short)

-- the reply that tells an error, by the key that was found
pub error_told : (keys own : List SharedKey) (transport : Transport) (found : Option SharedKey) (tsig : RequestTsig) (stamp want : Stamp) (request : List ℕ) (messages : List (List ℕ)) → messages ≡ signed_error transport found tsig stamp request
    → found ≡ slice_get own tsig.key → own ≡ keys → stamp ≡ want → messages ≡ signed_error transport (slice_get keys tsig.key) tsig want request
error_told keys own transport found tsig stamp want request messages is there from stamped =
    is ∙ ap (λ (o : Option SharedKey). signed_error transport o tsig stamp request) (there ∙ ap (λ (l : List SharedKey). slice_get l tsig.key) from)
    ∙ ap (λ (s : Stamp). signed_error transport (slice_get keys tsig.key) tsig s request) stamped

-- what is replied without asking a handler, whoever sends the request
pub told_to_all : {T : Type 0} (keys : List SharedKey) (rights : List (List Rule)) (IsReply : Peer → Learned T → Learned T → List ℕ → List (List ℕ) → Type 0)
    (AreSigned : SharedKey → ℕ → RequestTsig → ℕ → List (List ℕ) → List (List ℕ) → Type 0) (verification said : Verification) (now : ℕ) (seen later : Learned T) (request : List ℕ) (messages : List (List ℕ))
    → verification ≡ said → Grows later seen → ((asking : Peer) → IsReplyBy keys rights IsReply AreSigned said now (by_datagram asking) seen later request messages)
    → (before : Learned T) × Grows before seen × Grows later before × ((asking : Peer) → IsReplyBy keys rights IsReply AreSigned verification now (by_datagram asking) before later request messages)
told_to_all keys rights IsReply AreSigned verification said now seen later request messages is grows reply =
    (seen, grows_itself seen, grows, λ asking. subst (λ v. IsReplyBy keys rights IsReply AreSigned v now (by_datagram asking) seen later request messages) (sym is) (reply asking))
