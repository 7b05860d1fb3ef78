-- Lemmas on what a request gets on its line: a reply, or the messages of a transfer.
use Rattle.std.proofs.Common.{◌≡◌, ℕ, Bool, true, false, cond, List, [], ◌∷◌, ◌++◌, Option, Some, None, IfSome, take, Result, Ok, Err, IsErr, codes, refl, sym, ap, ◌∙◌, ⊎_elim, subst, append_assoc}
use Rattle.std.specs.Io.KnownBytes.{Appends}
use Rattle.hex.specs.Hex.{encode_lower}
use Rattle.dns_rdata.specs.Record.{Record}
use Rattle.dns_message.specs.Reads.{header_of}
use Rattle.dns_message.specs.Request.{update_of, reads, IsWant, Tells}
use Rattle.dns_message.specs.Updates.{update_in}
use Rattle.dns_message.specs.declared.query.Head.{Head}
use Rattle.dns_message.specs.declared.query.Query.{Query as QueryAsked}
use Rattle.dns_message.specs.declared.query.Parsed.{Parsed}
use Rattle.dns_message.specs.declared.query.Parsed.TheVariants.{Silent, Fault, BadOpt, Query, Update, NoMemory}
use Rattle.serve_core.specs.Served.{Got, ForNothing, got_of, limit_for, StandsIn, IsBehind, ServesSaid}
use Rattle.serve_core.specs.Transfers.{peer_over, is_permitted, messages_to, reply_to_peer}
use Rattle.serve_core.specs.Transport.{limit_of}
use Rattle.dns_message.specs.Octets.{fit}
use Rattle.serve_core.specs.declared.peer.Peer.{Peer}
use Rattle.serve_core.specs.declared.served.Responded.{Responded}
use Rattle.serve_core.specs.declared.transport.Transport.{Transport}
use Rattle.zone_tree.specs.Version.{Version, KnowsChanges}
use Rattle.commands.specs.Versions.{Past, all_of, followed_by, changes_for, Keeping, kept_with, Holds}
use Rattle.commands.proofs.VersionsLemmas.{followed_same, followed_other, holds_next}
use Rattle.serve_core.proofs.ServedLemmas.{gets_told}
use Rattle.serve_core.proofs.WantLemmas.{reads-want}
use Rattle.commands.specs.Answers.{transfer_in, transfer_on, written, written_for, WritesFor, WritesSaid, WritesReply}
use Rattle.commands.specs.Lines.{spaced, spaced_behind, Begins, Writes}
use Rattle.commands.proofs.LinesLemmas.{Appends-twice, IsWritten}
use Rattle.commands.proofs.PartsLemmas.{IsWritten-front, Begins-front, Begins-first, Writes-behind, Writes-refused}

-- an update is no query for a transfer
no_transfer : (zone : List Record) (peer : Peer) (head : Head) (o : _) → transfer_in zone peer (update_of head o) ≡ None
no_transfer zone peer head None = refl
no_transfer zone peer head (Some (Ok update)) = refl
no_transfer zone peer head (Some (Err bad)) = refl

-- a request asks for the transfer that what is told of it says
pub transfer_told : (zone : List Record) (peer : Peer) (request : List ℕ) (reported : Parsed) → Tells request reported → transfer_on zone peer request ≡ transfer_in zone peer reported
unfolding transfer_on
transfer_told zone peer request reported tells =
    ⊎_elim
    (λ (e : reported ≡ reads request). ap (transfer_in zone peer) (sym e))
    (λ (want : IsWant request reported).
    ap (transfer_in zone peer) (reads-want request reported want)
    ∙ no_transfer zone peer (header_of request) (update_in (header_of request) request)
    ∙ sym (ap (transfer_in zone peer) want.is))
    tells

-- a test that gives something holds
given : (b : Bool) (query wanted : QueryAsked) → cond b (Some query) None ≡ Some wanted → (b ≡ true) × (query ≡ wanted)
given true query wanted e = (refl, cc)
given false query wanted e = absurd (cc)

-- the transfer of a query is permitted where it is sent
pub permitted_in : (zone : List Record) (peer : Peer) (said : Parsed) (query : QueryAsked) → transfer_in zone peer said ≡ Some query → is_permitted zone peer query ≡ true
permitted_in zone peer (Query asked) query e =
    let is = given (is_permitted zone peer asked) asked query e in ap (is_permitted zone peer) (sym is.1) ∙ is.0
permitted_in zone peer Silent query e = absurd (cc)
permitted_in zone peer (Fault head code) query e = absurd (cc)
permitted_in zone peer (BadOpt head question code dnssec_ok) query e = absurd (cc)
permitted_in zone peer (Update update) query e = absurd (cc)
permitted_in zone peer (NoMemory head) query e = absurd (cc)

-- behind a transfer the zone stays
stays_in : (transport : Transport) (zone : List Record) (peer : Peer) (said : Parsed) (query : QueryAsked) → transfer_in zone peer said ≡ Some query → (got_of transport true ForNothing zone said).zone ≡ zone
stays_in transport zone peer (Query asked) query e = refl
stays_in transport zone peer Silent query e = refl
stays_in transport zone peer (Fault head code) query e = refl
stays_in transport zone peer (BadOpt head question code dnssec_ok) query e = refl
stays_in transport zone peer (Update update) query e = absurd (cc)
stays_in transport zone peer (NoMemory head) query e = refl

-- what is kept behind what is served are the versions behind it
behind_served : (past : Past) (kept : Keeping) (next : Option Version) (zone : List Record) → Holds past kept → IsBehind next kept.newest zone → IfSome next (λ version. KnowsChanges kept.newest.zone version)
    → Holds (followed_by past zone) (kept_with kept next)
behind_served past kept None zone holds same known = subst (λ (p : Past). Holds p kept) (sym (followed_same past zone (same ∙ sym holds.newest))) holds
behind_served past kept (Some next) zone holds behind known =
    let other = followed_other past zone (λ e. behind.1 (behind.0 ∙ e ∙ holds.newest)) in
    let goes_on = holds_next past kept next holds known in
    subst (λ (p : Past). Holds p (kept_with kept (Some next))) (sym other)
    (subst (λ (z : List Record). Holds (record { older = all_of past; newest = z }) (kept_with kept (Some next))) behind.0 goes_on)

-- what was served is written, and the next version is kept
pub writes_served : {T E : Type 0} (result : Result T E) (transport : Transport) (said : Parsed) (past : Past) (kept behind : Keeping) (served : Responded) (out : List ℕ) (before after : Option (List ℕ)) → Holds past kept
    → ServesSaid served transport true kept.newest said out → IfSome served.next (λ version. KnowsChanges kept.newest.zone version) → behind ≡ kept_with kept served.next
    → ((reply : Option (List ℕ)) → StandsIn served.len (limit_for transport said) out reply → Writes result before after (written reply ++ 10 ∷ [])) → WritesReply result transport said past behind before after
writes_served result transport said past kept behind served out before after holds serves known goes line =
    let at : got_of transport true serves.want kept.newest.zone said ≡ got_of transport true serves.want past.newest said =
    ap (λ (z : List Record). got_of transport true serves.want z said) (sym holds.newest) in
    record {
      want = serves.want;
      line = subst (λ (g : Got). Writes result before after (written g.reply ++ 10 ∷ [])) at (line (got_of transport true serves.want kept.newest.zone said).reply serves.reply);
      goes_on = subst (λ (g : Got). Holds (followed_by past g.zone) behind) at
          (subst (λ (k : Keeping). Holds (followed_by past (got_of transport true serves.want kept.newest.zone said).zone) k) (sym goes) (behind_served past kept served.next _ holds serves.zone known));
    }

-- the line for no reply, and for one
pub line_of_none : {T E : Type 0} (result : Result T E) (limit : ℕ) (out : List ℕ) (before after : Option (List ℕ)) (len : Option ℕ) → len ≡ None → Writes result before after (codes "-" ++ 10 ∷ [])
    → (reply : Option (List ℕ)) → StandsIn len limit out reply → Writes result before after (written reply ++ 10 ∷ [])
line_of_none result limit out before after None e line None is_present = line
line_of_none result limit out before after None e line (Some octets) is_present = absurd (cc)
line_of_none result limit out before after (Some len) e line reply is_present = absurd (cc)

pub line_of_some : {T E : Type 0} (result : Result T E) (limit : ℕ) (out : List ℕ) (before after : Option (List ℕ)) (found : Option ℕ) (len : ℕ) → found ≡ Some len → Writes result before after (encode_lower (take len out) ++ 10 ∷ [])
    → (reply : Option (List ℕ)) → StandsIn found limit out reply → Writes result before after (written reply ++ 10 ∷ [])
line_of_some result limit out before after None len e line reply is_present = absurd (cc)
line_of_some result limit out before after (Some found) len e line reply is_present =
    let same : found ≡ len = cc in
    rw is_present.1 (subst (λ (n : ℕ). Writes result before after (encode_lower (take n out) ++ 10 ∷ [])) (sym same) line)

-- a reply is the line for what a request says that asks for no transfer
pub said_reply : {T E : Type 0} (result : Result T E) (transport : Transport) (said : Parsed) (past : Past) (kept behind : Keeping) (before after : Option (List ℕ)) → Holds past kept
    → None ≡ transfer_in kept.newest.zone (peer_over transport true) said → WritesReply result transport said past behind before after → WritesSaid result transport said past behind before after
said_reply result transport said past kept behind before after holds none reply =
    let on : transfer_in past.newest (peer_over transport true) said ≡ None = ap (λ (z : List Record). transfer_in z (peer_over transport true) said) holds.newest ∙ sym none in
    record { want = reply.want; line = rw on reply.line; goes_on = reply.goes_on }

-- a query gets its reply, and the versions stay
pub query_reply : {T E : Type 0} (result : Result T E) (transport : Transport) (query : QueryAsked) (past : Past) (kept : Keeping) (before after : Option (List ℕ)) → Holds past kept
    → Writes result before after (encode_lower (fit (reply_to_peer kept.newest.zone (peer_over transport true) query) (limit_of transport query.edns)) ++ 10 ∷ []) → WritesReply result transport (Query query) past kept before after
query_reply result transport query past kept before after holds line = record {
  want = ForNothing;
  line = subst (λ (z : List Record). Writes result before after (encode_lower (fit (reply_to_peer z (peer_over transport true) query) (limit_of transport query.edns)) ++ 10 ∷ [])) (sym holds.newest) line;
  goes_on = subst (λ (p : Past). Holds p kept) (sym (followed_same past past.newest refl)) holds;
}

-- the messages of a transfer are the line for what a request says that asks for it, and the versions stay
pub said_messages : {T E : Type 0} (result : Result T E) (transport : Transport) (said : Parsed) (query : QueryAsked) (past : Past) (kept : Keeping) (before after : Option (List ℕ)) → Holds past kept
    → Some query ≡ transfer_in kept.newest.zone (peer_over transport true) said
    → Writes result before after (spaced (messages_to kept.newest.zone (changes_for past query) (peer_over transport true) query) ++ 10 ∷ []) → WritesSaid result transport said past kept before after
said_messages result transport said query past kept before after holds some line =
    let on : transfer_in past.newest (peer_over transport true) said ≡ Some query = ap (λ (z : List Record). transfer_in z (peer_over transport true) said) holds.newest ∙ sym some in
    let stays = followed_same past (got_of transport true ForNothing past.newest said).zone (stays_in transport past.newest (peer_over transport true) said query on) in
    record {
      want = ForNothing;
      line = rw on (subst (λ (z : List Record). Writes result before after (spaced (messages_to z (changes_for past query) (peer_over transport true) query) ++ 10 ∷ [])) (sym holds.newest) line);
      goes_on = subst (λ (p : Past). Holds p kept) (sym stays) holds;
    }

-- the line for what is told of a request is the request's
pub writes_told : {T E : Type 0} (result : Result T E) (transport : Transport) (request : List ℕ) (reported : Parsed) (past : Past) (kept : Keeping) (before after : Option (List ℕ)) → Tells request reported
    → WritesSaid result transport reported past kept before after → WritesFor result transport (Some request) past kept before after
writes_told result transport request reported past kept before after tells said =
    let gets = gets_told transport true said.want past.newest request reported tells in
    let on : transfer_on past.newest (peer_over transport true) request ≡ transfer_in past.newest (peer_over transport true) reported = transfer_told past.newest (peer_over transport true) request reported tells in
    record {
      want = gets.0;
      line = rw on (subst (λ (g : Got). Writes result before after (written_for transport past (transfer_in past.newest (peer_over transport true) reported) g.reply ++ 10 ∷ [])) gets.1 said.line);
      goes_on = subst (λ (g : Got). Holds (followed_by past g.zone) kept) gets.1 said.goes_on;
    }

-- a beginning of what is written behind other octets is one of all
pub Begins-last : (before between after : Option (List ℕ)) (first second : List ℕ) → Appends before between first → Begins between after second → Begins before after (first ++ second)
Begins-last before between after first second grown begins = record {
  done = first ++ begins.done;
  rest = begins.rest;
  grown = Appends-twice before between after first begins.done grown begins.grown;
  whole = append_assoc first begins.done begins.rest ∙ ap (λ (xs : List ℕ). first ++ xs) begins.whole;
}

-- the first of the messages that are left is written in front of the others
spaced_first : (messages : List (List ℕ)) (message : List ℕ) (more : List (List ℕ)) → messages ≡ message ∷ more → spaced_behind messages ≡ (codes " " ++ encode_lower message) ++ spaced_behind more
spaced_first messages message more e = ap spaced_behind e

-- messages are written with a space between them, and a line end
pub spaced_line : {T E : Type 0} (result : Result T E) (messages : List (List ℕ)) (message : List ℕ) (more : List (List ℕ)) (before first last after : Option (List ℕ)) → messages ≡ message ∷ more → Appends before first (encode_lower message)
    → Appends first last (spaced_behind more) → Writes result last after (10 ∷ []) → Writes result before after (spaced messages ++ 10 ∷ [])
spaced_line result messages message more before first last after e one others end =
    rw e (Writes-behind result before last after (encode_lower message ++ spaced_behind more) (10 ∷ []) (Appends-twice before first last (encode_lower message) (spaced_behind more) one others) end)

-- at an error a beginning of the first message, or of the others behind it, is a beginning of the line
pub spaced_broken : {T E : Type 0} (result : Result T E) (messages : List (List ℕ)) (message : List ℕ) (more : List (List ℕ)) (before after : Option (List ℕ)) → messages ≡ message ∷ more → IsErr result
    → Begins before after (encode_lower message ++ spaced_behind more) → Writes result before after (spaced messages ++ 10 ∷ [])
spaced_broken result messages message more before after e refused begins = rw e (Writes-refused result before after _ refused (Begins-first before after (encode_lower message ++ spaced_behind more) (10 ∷ []) begins))

-- where a space, or a message behind it, is broken off, a beginning of all is written
pub broken_space : {T E : Type 0} (result : Result T E) (messages : List (List ℕ)) (message : List ℕ) (more : List (List ℕ)) (before between after : Option (List ℕ)) (all : List ℕ) → messages ≡ message ∷ more → IsErr result
    → IsWritten before between all (spaced_behind messages) → Begins between after (codes " ") → Writes result before after all
broken_space result messages message more before between after all e refused is begins =
    Writes-refused result before after all refused
    (Begins-front before between after all (spaced_behind messages) (codes " " ++ encode_lower message) (spaced_behind more) (spaced_first messages message more e) is (Begins-first between after (codes " ") (encode_lower message) begins))

pub broken_message : {T E : Type 0} (result : Result T E) (messages : List (List ℕ)) (message : List ℕ) (more : List (List ℕ)) (before between space after : Option (List ℕ)) (all : List ℕ) → messages ≡ message ∷ more → IsErr result
    → IsWritten before between all (spaced_behind messages) → Appends between space (codes " ") → Begins space after (encode_lower message) → Writes result before after all
broken_message result messages message more before between space after all e refused is one begins =
    Writes-refused result before after all refused
    (Begins-front before between after all (spaced_behind messages) (codes " " ++ encode_lower message) (spaced_behind more) (spaced_first messages message more e) is (Begins-last between space after (codes " ") (encode_lower message) one begins))

-- one message more is written, behind a space
pub one_more : (messages : List (List ℕ)) (message : List ℕ) (more : List (List ℕ)) (before between space after : Option (List ℕ)) (all : List ℕ) → messages ≡ message ∷ more
    → IsWritten before between all (spaced_behind messages) → Appends between space (codes " ") → Appends space after (encode_lower message) → IsWritten before after all (spaced_behind more)
one_more messages message more before between space after all e is one octets =
    IsWritten-front before between after all (spaced_behind messages) (codes " " ++ encode_lower message) (spaced_behind more) (spaced_first messages message more e) is (Appends-twice between space after (codes " ") (encode_lower message) one octets)
