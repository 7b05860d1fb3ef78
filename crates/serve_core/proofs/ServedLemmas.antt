-- What a request gets, by what is told of its octets.
use Rattle.std.proofs.Common.{◌≡◌, ◌≤◌, ℕ, ◌==◌, Bool, true, List, take, Option, Some, None, Ok, Err, unwrap_or, refl, sym, ap, ◌∙◌, ⊎_elim, subst}
use Rattle.dns_rdata.specs.Record.{Record}
use Rattle.dns_rdata.specs.declared.numbers.Rcode.{Rcode}
use Rattle.dns_rdata.specs.declared.numbers.Rcode.TheVariants.{NoError}
use Rattle.dns_message.specs.Reads.{header_of}
use Rattle.dns_message.specs.Request.{update_of, reads, IsWant, Tells}
use Rattle.dns_message.specs.Updates.{update_in}
use Rattle.dns_message.specs.Octets.{fit}
use Rattle.dns_message.specs.declared.edns.Edns.{Edns}
use Rattle.dns_message.specs.declared.query.Head.{Head}
use Rattle.dns_message.specs.declared.query.Query.{Query as QueryAsked}
use Rattle.dns_message.specs.declared.query.Parsed.{Parsed}
use Rattle.dns_message.specs.declared.query.Parsed.TheVariants.{Update as SaysUpdate, NoMemory}
use Rattle.dns_message.specs.declared.update.Update.{Update}
use Rattle.dns_message.proofs.UpdatesLemmas.{head_kept}
use Rattle.zone_tree.specs.Version.{Version}
use Rattle.update_core.specs.Verdict.{verdict}
use Rattle.update_core.specs.Act.{act}
use Rattle.update_core.specs.Applied.{code_of, code_told, next_of, IsTold}
use Rattle.update_core.specs.declared.outcome.Outcome.{Outcome}
use Rattle.update_core.specs.declared.outcome.Outcome.TheVariants.{Refused, Unchanged, Next, NoMemory as Starved}
use Rattle.serve_core.specs.Heading.{heading_of_update, coded}
use Rattle.serve_core.specs.Served.{Got, Want, ForNothing, ForReading, ForMaking, got, got_for, got_of, reported, answered, without_memory, limit_for, StandsIn, IsBehind, ServesSaid, Serves}
use Rattle.serve_core.specs.Transfers.{peer_over, reply_to_peer}
use Rattle.serve_core.specs.Transport.{limit_of}
use Rattle.serve_core.specs.declared.heading.Heading.{Heading}
use Rattle.serve_core.specs.declared.peer.Peer.{Peer}
use Rattle.serve_core.specs.declared.served.Responded.{Responded}
use Rattle.serve_core.specs.declared.transport.Transport.{Transport}
use Rattle.serve_core.proofs.WantLemmas.{reads-want}

-- an update for which there is no memory is told as such, whatever it says
starved_update : (head : Head) (o : _) → ((update : Update) → o ≡ Some (Ok update) → update.head ≡ head) → head.opcode ≡ 5 → without_memory (update_of head o) ≡ NoMemory head
starved_update head None kept e =
    let is_update : (head.opcode == 5) ≡ true = ap (λ (n : ℕ). n == 5) e in
    rw is_update refl
starved_update head (Some (Ok update)) kept e = ap (λ (h : Head). NoMemory h) (kept update refl)
starved_update head (Some (Err bad)) kept e =
    let is_update : (head.opcode == 5) ≡ true = ap (λ (n : ℕ). n == 5) e in
    rw is_update refl

-- a request for which there is no memory is told as such, whatever it says
starved_request : (msg : List ℕ) (reported : Parsed) → IsWant msg reported → without_memory (reads msg) ≡ reported
starved_request msg reported want =
    ap without_memory (reads-want msg reported want)
    ∙ starved_update (header_of msg) (update_in (header_of msg) msg) (head_kept (header_of msg) msg) want.update
    ∙ sym want.is

-- no update tells of a limit that matters
update_limit : (transport : Transport) (head : Head) (o : _) → limit_for transport (update_of head o) ≡ limit_of transport None
update_limit transport head None = refl
update_limit transport head (Some (Ok update)) = refl
update_limit transport head (Some (Err bad)) = refl

want_limit : (transport : Transport) (msg : List ℕ) (reported : Parsed) → IsWant msg reported → limit_for transport reported ≡ limit_for transport (reads msg)
want_limit transport msg reported want =
    ap (limit_for transport) want.is
    ∙ sym (update_limit transport (header_of msg) (update_in (header_of msg) msg))
    ∙ ap (limit_for transport) (sym (reads-want msg reported want))

-- memory that is wanted makes no difference where it was told already
told_already : (transport : Transport) (may : Bool) (want : Want) (zone : List Record) (head : Head) → got_of transport may want zone (NoMemory head) ≡ got_for transport may zone (NoMemory head)
told_already transport may ForNothing zone head = refl
told_already transport may ForReading zone head = refl
told_already transport may ForMaking zone head = refl

wanted_got : (transport : Transport) (may : Bool) (wants : Want) (zone : List Record) (msg : List ℕ) (reported : Parsed) → IsWant msg reported → got_of transport may wants zone reported ≡ got_of transport may ForReading zone (reads msg)
wanted_got transport may wants zone msg reported want =
    ap (got_of transport may wants zone) want.is
    ∙ told_already transport may wants zone (header_of msg)
    ∙ ap (got_for transport may zone) (sym want.is)
    ∙ ap (got_for transport may zone) (sym (starved_request msg reported want))

-- what is got of what is told of a request is what the request gets, wherever memory was wanted
pub gets_told : (transport : Transport) (may : Bool) (want : Want) (zone : List Record) (request : List ℕ) (reported : Parsed) → Tells request reported → (wanted : Want) × (got_of transport may want zone reported ≡ got transport may wanted zone request)
unfolding got
gets_told transport may want zone request reported tells =
    ⊎_elim (λ (e : reported ≡ reads request). (want, ap (got_of transport may want zone) e)) (λ (wants : IsWant request reported). (ForReading, wanted_got transport may want zone request reported wants)) tells

-- what is served of what is told of a request is what the request gets
pub serves_told : (served : Responded) (transport : Transport) (may : Bool) (version : Version) (request out : List ℕ) (reported said : Parsed) → Tells request reported → reported ≡ said → ServesSaid served transport may version said out
    → Serves served transport may version request out
unfolding got
serves_told served transport may version request out reported said tells is serves =
    ⊎_elim
    (λ (e : reported ≡ reads request).
    let same : said ≡ reads request = sym is ∙ e in
    record {
      want = serves.want;
      reply = subst (λ p. StandsIn served.len (limit_for transport p) out (got_of transport may serves.want version.zone p).reply) same serves.reply;
      zone = subst (λ p. IsBehind served.next version (got_of transport may serves.want version.zone p).zone) same serves.zone;
    })
    (λ (want : IsWant request reported).
    let same : got_of transport may serves.want version.zone said ≡ got_of transport may ForReading version.zone (reads request) = ap (got_of transport may serves.want version.zone) (sym is) ∙ wanted_got transport may serves.want version.zone request reported want in
    let limit : limit_for transport said ≡ limit_for transport (reads request) = ap (limit_for transport) (sym is) ∙ want_limit transport request reported want in
    record {
      want = ForReading;
      reply = subst (λ (g : Got). StandsIn served.len (limit_for transport (reads request)) out g.reply) same (subst (λ (n : ℕ). StandsIn served.len n out (got_of transport may serves.want version.zone said).reply) limit serves.reply);
      zone = subst (λ (g : Got). IsBehind served.next version g.zone) same serves.zone;
    })
    tells

-- a reply behind which the zone stays
pub serves_reply : (served : Responded) (transport : Transport) (may : Bool) (version : Version) (said : Parsed) (octets out : List ℕ) (len : ℕ) → served.len ≡ Some len → served.next ≡ None → len ≤ limit_for transport said
    → take len out ≡ octets → got_of transport may ForNothing version.zone said ≡ record { reply = Some octets; zone = version.zone } → ServesSaid served transport may version said out
serves_reply served transport may version said octets out len is_len is_none short written gets = record {
  want = ForNothing;
  reply = rw (is_len, gets) (short, ap Some (sym written));
  zone = rw (is_none, gets) refl;
}

-- and a code, whose heading is another way to say the one that the request has
pub serves_code : (served : Responded) (transport : Transport) (may : Bool) (version : Version) (said : Parsed) (heading own : Heading) (code : Rcode) (out : List ℕ) (len : ℕ) → served.len ≡ Some len → served.next ≡ None → len ≤ limit_of transport None
    → limit_for transport said ≡ limit_of transport None → heading ≡ own → take len out ≡ fit (coded heading code) (limit_of transport None) → got_of transport may ForNothing version.zone said ≡ reported transport own code version.zone → ServesSaid served transport may version said out
serves_code served transport may version said heading own code out len is_len is_none short limit same written gets =
    serves_reply served transport may version said (fit (coded own code) (limit_of transport None)) out len is_len is_none (subst (λ (n : ℕ). len ≤ n) (sym limit) short)
    (written ∙ ap (λ (h : Heading). fit (coded h code) (limit_of transport None)) same) gets

-- what was written for a peer is what it gets over its transport
pub answered_over : (transport : Transport) (may : Bool) (zone : List Record) (query : QueryAsked) (peer : Peer) (octets : List ℕ) → peer ≡ peer_over transport may → peer.transport ≡ transport → octets ≡ fit (reply_to_peer zone peer query) (limit_of peer.transport query.edns) → octets ≡ fit (reply_to_peer zone (peer_over transport may) query) (limit_of transport query.edns)
answered_over transport may zone query peer octets same carried written =
    written
    ∙ ap (λ (t : Transport). fit (reply_to_peer zone peer query) (limit_of t query.edns)) carried
    ∙ ap (λ (p : Peer). fit (reply_to_peer zone p query) (limit_of transport query.edns)) same

pub short_over : (transport : Transport) (edns : Option Edns) (peer : Peer) (len : ℕ) → peer.transport ≡ transport → len ≤ limit_of peer.transport edns → len ≤ limit_of transport edns
short_over transport edns peer len carried short = subst (λ (t : Transport). len ≤ limit_of t edns) carried short

-- what an update gets that breaks no rule, and that makes this zone
taken : (transport : Transport) (may : Bool) (version : Version) (update : Update) (zone : List Record) → verdict version.zone update may ≡ None → act version.zone update ≡ Some zone
    → got_of transport may ForNothing version.zone (SaysUpdate update) ≡ reported transport (heading_of_update update) NoError zone
taken transport may version update zone passed acts =
    let none : code_of version.zone update may ≡ None = rw (passed, acts) refl in
    ap (answered transport (heading_of_update update) version.zone (act version.zone update)) none
    ∙ ap (λ (z : Option (List Record)). reported transport (heading_of_update update) NoError (unwrap_or z version.zone)) acts

-- the reply to an update is by what becomes of it, and so is the version behind it
pub serves_update : (served : Responded) (transport : Transport) (may : Bool) (version : Version) (update : Update) (out : List ℕ) (outcome : Outcome) → IsTold version update may outcome
    → StandsIn served.len (limit_of transport None) out (Some (fit (coded (heading_of_update update) (code_told outcome)) (limit_of transport None))) → served.next ≡ next_of outcome → ServesSaid served transport may version (SaysUpdate update) out
serves_update served transport may version update out (Refused code) is reply next =
    let gets : got_of transport may ForNothing version.zone (SaysUpdate update) ≡ reported transport (heading_of_update update) code version.zone = ap (answered transport (heading_of_update update) version.zone (act version.zone update)) is in
    record {
      want = ForNothing;
      reply = subst (λ (g : Got). StandsIn served.len (limit_of transport None) out g.reply) (sym gets) reply;
      zone = rw next (ap (λ (g : Got). g.zone) gets);
    }
serves_update served transport may version update out Unchanged is reply next =
    let gets = taken transport may version update version.zone is.0 is.1 in
    record {
      want = ForNothing;
      reply = subst (λ (g : Got). StandsIn served.len (limit_of transport None) out g.reply) (sym gets) reply;
      zone = rw next (ap (λ (g : Got). g.zone) gets);
    }
serves_update served transport may version update out (Next made) is reply next =
    let gets = taken transport may version update made.zone is.0 is.1 in
    record {
      want = ForNothing;
      reply = subst (λ (g : Got). StandsIn served.len (limit_of transport None) out g.reply) (sym gets) reply;
      zone = rw next (sym (ap (λ (g : Got). g.zone) gets), is.2, is.3);
    }
serves_update served transport may version update out Starved is reply next = record {
  want = ForMaking;
  reply = reply;
  zone = rw next refl;
}
