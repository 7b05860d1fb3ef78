-- What is replied, by what is told of a request.
use Rattle.std.proofs.Common.{◌≡◌, ◌≢◌, ◌≤◌, ◌==◌, refl, ℕ, Bool, true, false, not, ◌&&◌, ◌||◌, nat_lt, List, [], ◌∷◌, length, take, Option, None, Some, option_and_then, inl, inr, ⊎_elim, sym, ap, ◌∙◌, subst, unwrap_or, if◌then◌else◌, Ok, Err, lit≤, arith, ◌+◌, ◌++◌, length-append}
use Rattle.std.proofs.lemmas.Bool.{eqb-true}
use Rattle.std.proofs.lemmas.Bool.Decides.{nat_tests}
use Rattle.std.specs.Option.{option_to_list, option_or, is_some}
use Rattle.dns_rdata.specs.Record.{Record}
use Rattle.dns_rdata.specs.declared.numbers.Rcode.{Rcode}
use Rattle.dns_rdata.specs.declared.numbers.Rcode.TheVariants.{NoError, ServFail, NotImp}
use Rattle.dns_message.specs.Message.{message_limit}
use Rattle.dns_message.specs.Octets.{fit}
use Rattle.dns_message.specs.Reads.{header_of, opcode_of, is_reply, body_in, seen}
use Rattle.dns_message.specs.Request.{is_update, reads, query_of, update_of, IsWant, Tells}
use Rattle.dns_message.specs.Updates.{update_in}
use Rattle.dns_message.specs.declared.edns.Edns.{Edns}
use Rattle.dns_message.specs.declared.query.Head.{Head}
use Rattle.dns_message.specs.declared.query.Question.{Question}
use Rattle.dns_message.specs.declared.query.Query.{Query as QueryAsked}
use Rattle.dns_message.specs.declared.query.Parsed.{Parsed}
use Rattle.dns_message.specs.declared.query.Parsed.TheVariants.{Silent as IsSilent, Fault, BadOpt, Query, Update as SaysUpdate, NoMemory}
use Rattle.dns_message.specs.declared.update.Update.{Update}
use Rattle.zone_tree.specs.Version.{Version}
use Rattle.update_core.specs.Verdict.{verdict}
use Rattle.update_core.specs.Act.{act}
use Rattle.update_core.specs.Applied.{code_of}
use Rattle.dns_engine.specs.Replayed.{IsReplay}
use Rattle.dns_engine.specs.Held.{EngineState, IsLatest}
use Rattle.snapshot_cell.specs.Tokens.{ReaderState}
use Rattle.dns_engine.specs.Chain.{ChainState, changes_by}
use Rattle.dns_rdata.specs.Numbers.{type_IXFR}
use Rattle.zone_tree.specs.Zone.{soa_of}
use Rattle.requests.specs.Served.{Learned, Grows, BeginsWith}
use Rattle.requests.proofs.TurnLemmas.{grows_itself}
use Rattle.dns_engine.specs.Outcomes.{IsTold, made, refused, unchanged, full, starved}
use Rattle.serve_core.specs.declared.transport.Transport.{Transport}
use Rattle.serve_core.specs.declared.transport.Transport.TheVariants.{Udp, Tcp}
use Rattle.serve_core.specs.Transport.{limit_of, room_of}
use Rattle.serve_core.specs.declared.heading.Heading.{Heading}
use Rattle.serve_core.specs.Heading.{header_alone, heading_of_update, heading_of_bad, coded}
use Rattle.serve_core.specs.declared.peer.Peer.{Peer}
use Rattle.serve_core.specs.Transfers.{is_permitted, reply_to_peer, list_for, messages_to}
use Rattle.serve_core.specs.Replies.{replies_to, IsNoTransfer}
use Rattle.serve_core.specs.Served.{Got, Want, ForNothing, ForReading, ForMaking, got_of, reported, answered, limit_for}
use Rattle.dns_message.proofs.ReadLemmas.{judged}
use Rattle.serve_core.proofs.WantLemmas.{reads-want}
use Rattle.zone_server.specs.declared.answer.UpdateOutcome.{UpdateOutcome}
use Rattle.zone_server.specs.Known.{learned_by, HasLoaded, IsNoOlder}
use Rattle.zone_server.proofs.KnownLemmas.{loaded_latest}
use Rattle.zone_server.proofs.AboutLemmas.{latest_known, unmade_about, made_about, known_about, no_older}
use Rattle.zone_server.proofs.WantedLemmas.{wanted_got}
use Rattle.zone_server.specs.Updated.{TellsOf, IsJudged, by_engine, in_version, IsToldOf, read, unread, bad_opt, starved as starved_reading}
use Rattle.zone_server.specs.Replied.{TellsFor, TellsAbout, asks_changes, IsChained, IsReplied, IsQuery, IsAtOnce, LoadsFor}

no_want : (head : Head) (heard : Parsed) → heard ≡ NoMemory head → heard ≡ IsSilent → ⊥
no_want head heard wants is = cc

no_query_wanted : (head : Head) (heard : Parsed) (query : QueryAsked) → heard ≡ NoMemory head → heard ≡ Query query → ⊥
no_query_wanted head heard query wants is = cc

-- what is said is no query
abbrev pub IsNoQuery : Parsed → Type 0
IsNoQuery IsSilent = Unit {0}
IsNoQuery (Fault head code) = Unit {0}
IsNoQuery (BadOpt head question code dnssec_ok) = Unit {0}
IsNoQuery (Query query) = ⊥
IsNoQuery (SaysUpdate update) = Unit {0}
IsNoQuery (NoMemory head) = Unit {0}

update_no_query : (head : Head) (o : _) → IsNoQuery (update_of head o)
update_no_query head None = tt
update_no_query head (Some (Ok update)) = tt
update_no_query head (Some (Err bad)) = tt

-- what is heard as no query is none
heard_no_query : (request : List ℕ) (heard said : Parsed) → Tells request heard → heard ≡ said → IsNoQuery said → IsNoQuery (reads request)
heard_no_query request heard said tells is plain =
    ⊎_elim (λ (e : heard ≡ reads request). subst IsNoQuery (sym is ∙ e) plain) (λ (want : IsWant request heard). subst IsNoQuery (sym (reads-want request heard want)) (update_no_query (header_of request) (update_in (header_of request) request))) tells

-- what is heard as a query is one
pub heard_query : (request : List ℕ) (heard : Parsed) (query : QueryAsked) → Tells request heard → heard ≡ Query query → reads request ≡ Query query
heard_query request heard query tells is =
    ⊎_elim (λ (e : heard ≡ reads request). sym e ∙ is) (λ (want : IsWant request heard). absurd (no_query_wanted (header_of request) heard query want.is is)) tells

no_query_told : (first : List Record) (peer : Peer) (known later : Learned Version) (version : Version) (said : Parsed) → IsNoQuery said → TellsFor first peer known later version None said
no_query_told first peer known later version IsSilent plain = tt
no_query_told first peer known later version (Fault head code) plain = tt
no_query_told first peer known later version (BadOpt head question code dnssec_ok) plain = tt
no_query_told first peer known later version (Query query) plain = absurd plain
no_query_told first peer known later version (SaysUpdate update) plain = tt
no_query_told first peer known later version (NoMemory head) plain = tt

no_query_replies : (zone : List Record) (changes : Option (List Record)) (peer : Peer) (wants : Want) (said : Parsed) → IsNoQuery said
    → option_to_list (got_of peer.transport peer.may_update wants zone said).reply ≡ replies_to zone changes peer wants said
no_query_replies zone changes peer wants IsSilent plain = refl
no_query_replies zone changes peer wants (Fault head code) plain = refl
no_query_replies zone changes peer wants (BadOpt head question code dnssec_ok) plain = refl
no_query_replies zone changes peer wants (Query query) plain = absurd plain
no_query_replies zone changes peer wants (SaysUpdate update) plain = refl
no_query_replies zone changes peer wants (NoMemory head) plain = refl

-- what a request gets that is no query
got_replied : (first : List Record) (peer : Peer) (known later : Learned Version) (version : Version) (request : List ℕ) (messages : List (List ℕ)) (wants : Want) → IsReplay first version → IsNoQuery (reads request) → TellsAbout first peer known later version wants (reads request)
    → messages ≡ option_to_list (got_of peer.transport peer.may_update wants version.zone (reads request)).reply → IsReplied first peer known later request messages
got_replied first peer known later version request messages wants replayed plain about gets = record {
  version = version;
  replayed = replayed;
  changes = None;
  reported = no_query_told first peer known later version (reads request) plain;
  want = wants;
  about = about;
  reply = gets ∙ no_query_replies version.zone None peer wants (reads request) plain;
}

-- what is said is a code, or that memory is wanted, or nothing
abbrev pub IsCodeAlone : Parsed → Type 0
IsCodeAlone IsSilent = Unit {0}
IsCodeAlone (Fault head code) = Unit {0}
IsCodeAlone (BadOpt head question code dnssec_ok) = Unit {0}
IsCodeAlone (Query query) = ⊥
IsCodeAlone (SaysUpdate update) = ⊥
IsCodeAlone (NoMemory head) = Unit {0}

alone_no_query : (said : Parsed) → IsCodeAlone said → IsNoQuery said
alone_no_query IsSilent alone = tt
alone_no_query (Fault head code) alone = tt
alone_no_query (BadOpt head question code dnssec_ok) alone = tt
alone_no_query (Query query) alone = alone
alone_no_query (SaysUpdate update) alone = tt
alone_no_query (NoMemory head) alone = tt

alone_about : (first : List Record) (peer : Peer) (known later : Learned Version) (version : Version) (wants : Want) (said : Parsed) → IsCodeAlone said → TellsAbout first peer known later version wants said
alone_about first peer known later version wants IsSilent alone = tt
alone_about first peer known later version wants (Fault head code) alone = tt
alone_about first peer known later version wants (BadOpt head question code dnssec_ok) alone = tt
alone_about first peer known later version wants (Query query) alone = absurd alone
alone_about first peer known later version wants (SaysUpdate update) alone = absurd alone
alone_about first peer known later version wants (NoMemory head) alone = tt

wanted_about : (first : List Record) (peer : Peer) (known later : Learned Version) (version : Version) (said : Parsed) → TellsAbout first peer known later version ForReading said
wanted_about first peer known later version IsSilent = tt
wanted_about first peer known later version (Fault head code) = tt
wanted_about first peer known later version (BadOpt head question code dnssec_ok) = tt
wanted_about first peer known later version (Query query) = tt
wanted_about first peer known later version (SaysUpdate update) = tt
wanted_about first peer known later version (NoMemory head) = tt

no_changes : {P : Type 0} (b : Bool) → b ≡ false → b ≡ true → P
no_changes b is other = absurd (cc)

no_other : {P : Type 0} (b : Bool) → b ≡ true → b ≡ false → P
no_other b is other = absurd (cc)

-- a transfer that is permitted in a version gets its messages, by a chain that tells what changed
abbrev pub IsTransferred : List Record → Peer → Learned Version → ReaderState Version → Version → List ℕ → List (List ℕ) → Type 0
IsTransferred first peer known after version request messages = (replied : IsReplied first peer known (learned_by after) request messages) × (replied.version ≡ version)

messages_same : (zone : List Record) (a b : Option (List Record)) (peer : Peer) (query : QueryAsked) → list_for zone a query ≡ list_for zone b query → messages_to zone a peer query ≡ messages_to zone b peer query
messages_same zone a b peer query same = rw same refl

transferred_by : (first : List Record) (peer : Peer) (known : Learned Version) (before after : ReaderState Version) (version : Version) (request : List ℕ) (query : QueryAsked) (chain : ChainState) (ixfr : Bool) → (query.question.rtype.0 == type_IXFR) ≡ ixfr → IsNoOlder known.published version → IsReplay first version → IsLatest first before.seen version → reads request ≡ Query query
    → is_permitted version.zone peer query ≡ true → IsChained first query version before after chain → IsTransferred first peer known after version request (messages_to version.zone (changes_by (soa_of version.zone) chain) peer query)
transferred_by first peer known before after version request query chain true ixfr fresh replayed latest asked may chained =
    let t = chained.0 ixfr in
    let asks : asks_changes version.zone peer query ≡ true = rw (may, ixfr) refl in (
      record {
        version = version;
        replayed = replayed;
        changes = t.changes;
        reported = subst (TellsFor first peer known (learned_by after) version t.changes) (sym asked) (λ e. (fresh, t.reported), no_other (asks_changes version.zone peer query) asks);
        want = ForNothing;
        about = subst (TellsAbout first peer known (learned_by after) version ForNothing) (sym asked) tt;
        reply = messages_same version.zone (changes_by (soa_of version.zone) chain) t.changes peer query t.list
            ∙ transfer_sent version.zone t.changes peer query may
            ∙ ap (replies_to version.zone t.changes peer ForNothing) (sym asked);
      },
      refl,
    )
  where
    transfer_sent : (zone : List Record) (changes : Option (List Record)) (peer : Peer) (query : QueryAsked) → is_permitted zone peer query ≡ true → messages_to zone changes peer query ≡ replies_to zone changes peer ForNothing (Query query)
    transfer_sent zone changes peer query may = rw may refl
transferred_by first peer known before after version request query chain false other fresh replayed latest asked may chained =
    let none = chained.1 other in
    let asks : asks_changes version.zone peer query ≡ false = rw (may, other) refl in
    let same : changes_by (soa_of version.zone) chain ≡ None = ap (changes_by (soa_of version.zone)) none.1 in (
      record {
        version = version;
        replayed = replayed;
        changes = None;
        reported = subst (TellsFor first peer known (learned_by after) version None) (sym asked)
            (no_changes (asks_changes version.zone peer query) asks, λ e. subst (λ (r : ReaderState Version). IsLatest first r.seen version) (sym none.0) latest);
        want = ForNothing;
        about = subst (TellsAbout first peer known (learned_by after) version ForNothing) (sym asked) tt;
        reply = ap (λ (c : Option (List Record)). messages_to version.zone c peer query) same
            ∙ transfer_sent version.zone peer query may
            ∙ ap (replies_to version.zone None peer ForNothing) (sym asked);
      },
      refl,
    )
  where
    transfer_sent : (zone : List Record) (peer : Peer) (query : QueryAsked) → is_permitted zone peer query ≡ true → messages_to zone None peer query ≡ replies_to zone None peer ForNothing (Query query)
    transfer_sent zone peer query may = rw may refl

pub transfer_replied : (first : List Record) (peer : Peer) (known : Learned Version) (before after : ReaderState Version) (version : Version) (request : List ℕ) (query : QueryAsked) (chain : ChainState) → IsNoOlder known.published version → IsReplay first version → IsLatest first before.seen version → reads request ≡ Query query
    → is_permitted version.zone peer query ≡ true → IsChained first query version before after chain → IsTransferred first peer known after version request (messages_to version.zone (changes_by (soa_of version.zone) chain) peer query)
transfer_replied first peer known before after version request query chain fresh replayed latest asked may chained =
    transferred_by first peer known before after version request query chain (query.question.rtype.0 == type_IXFR) refl fresh replayed latest asked may chained

-- what the reader has seen behind a transfer
pub chained_grows : (first : List Record) (query : QueryAsked) (version : Version) (before after : ReaderState Version) (chain : ChainState) → IsChained first query version before after chain → Grows (learned_by after) (learned_by before)
chained_grows first query version before after chain chained = by (query.question.rtype.0 == type_IXFR) refl
  where
    by : (b : Bool) → (query.question.rtype.0 == type_IXFR) ≡ b → Grows (learned_by after) (learned_by before)
    by true ixfr = (chained.0 ixfr).grown
    by false other = subst (λ (r : ReaderState Version). Grows (learned_by r) (learned_by before)) (sym (chained.1 other).0) (grows_itself (learned_by before))

-- the first version is a replay of no update
abbrev pub first_version : List Record → Version
first_version first = record { number = 0; zone = first; changes = None }

pub first_replay : (first : List Record) → IsReplay first (first_version first)
first_replay first = record { updates = []; changing = tt; zone = refl; number = refl }

-- a reply that is the same in each version
pub same_replied : (first : List Record) (peer : Peer) (known later : Learned Version) (version : Version) (request out octets : List ℕ) (said : Parsed) (len : ℕ) → IsReplay first version → Tells request said → IsCodeAlone said → take len out ≡ octets
    → got_of peer.transport peer.may_update ForNothing version.zone said ≡ record { reply = Some octets; zone = version.zone } → IsReplied first peer known later request (take len out ∷ [])
same_replied first peer known later version request out octets said len replayed tells alone written gets =
    ⊎_elim
    (λ (e : said ≡ reads request).
    got_replied first peer known later version request (take len out ∷ []) ForNothing replayed plain (subst (TellsAbout first peer known later version ForNothing) e (alone_about first peer known later version ForNothing said alone))
    (messages ∙ ap (λ (p : Parsed). option_to_list (got_of peer.transport peer.may_update ForNothing version.zone p).reply) e))
    (λ (want : IsWant request said).
    got_replied first peer known later version request (take len out ∷ []) ForReading replayed plain (wanted_about first peer known later version (reads request))
    (messages ∙ ap (λ (g : Got). option_to_list g.reply) (wanted_got peer.transport peer.may_update ForNothing version.zone request said want)))
    tells
  where
    plain : IsNoQuery (reads request)
    plain = heard_no_query request said said tells refl (alone_no_query said alone)

    messages : take len out ∷ [] ≡ option_to_list (got_of peer.transport peer.may_update ForNothing version.zone said).reply
    messages = ap (λ (o : List ℕ). o ∷ []) written ∙ sym (ap (λ (g : Got). option_to_list g.reply) gets)

no_code : (zone after : List Record) (update : Update) (may : Bool) → verdict zone update may ≡ None → act zone update ≡ Some after → code_of zone update may ≡ None
no_code zone after update may taken acts =
    ap (λ v. option_or v (if is_some (act zone update) then None else Some ServFail)) taken ∙ ap (λ (o : Option (List Record)). if is_some o then None else Some ServFail) acts

module _ (transport : Transport) (update : Update) (may : Bool) (out : List ℕ) (len : ℕ) where
  -- an update that is taken gets NOERROR
  taken_got : (zone after : List Record) → verdict zone update may ≡ None → act zone update ≡ Some after → got_of transport may ForNothing zone (SaysUpdate update) ≡ reported transport (heading_of_update update) NoError after
  taken_got zone after taken acts =
      ap (λ c. answered transport (heading_of_update update) zone (act zone update) c) (no_code zone after update may taken acts)
      ∙ ap (λ (o : Option (List Record)). reported transport (heading_of_update update) NoError (unwrap_or o zone)) acts

  said : (old : Version) (code : Rcode) → take len out ≡ fit (coded (heading_of_update update) code) (limit_of transport None) → (other : Rcode) → code ≡ other → Some (take len out) ≡ Some (fit (coded (heading_of_update update) other) (limit_of transport None))
  said old code written other same = ap Some (written ∙ ap (λ c. fit (coded (heading_of_update update) c) (limit_of transport None)) same)

  module _ (first : List Record) (known later : List Version) (old new : EngineState) (code : Rcode) (written : take len out ≡ fit (coded (heading_of_update update) code) (limit_of transport None)) (before : IsLatest first old.held.published old.held.last)
      (after : IsLatest first new.held.published new.held.last) (saw : later ≡ new.held.published) (fresh : IsNoOlder known old.held.last) where
    -- what an update gets, about the versions that are known when it is told
    abbrev IsSaid : Type 0
    IsSaid = (want : Want) × (TellsOf first may known later old.held.last want update) × ((got_of transport may want old.held.last.zone (SaysUpdate update)).reply ≡ Some (take len out))

    no_zone : (o : _) (zone : List Record) → o ≡ Some old.held.last.zone → o ≡ Some zone → zone ≢ old.held.last.zone → ⊥
    no_zone o zone is other changed = changed (the_same)
      where
        the_same : zone ≡ old.held.last.zone
        the_same = cc

    no_code_for : (o : _) → o ≡ Some code → o ≡ None → ⊥
    no_code_for o is other = cc

    -- what is told of an update is what it gets
    pub told_said : IsTold old update may code new → IsSaid
    told_said (made next taken makes is_code left is_new) = (
      ForNothing,
      made_about first may known later old new update next fresh before after saw makes is_new,
      ap (λ (g : Got). g.reply) (taken_got old.held.last.zone next.zone taken makes.zone) ∙ sym (said old.held.last code written NoError is_code),
    )
    told_said (refused is_code same) = (
      ForNothing,
      unmade_about first may known later old.held.last update fresh (known_about first later old new before saw same)
          (λ zone taken acts changed. no_code_for (code_of old.held.last.zone update may) is_code (no_code old.held.last.zone zone update may taken acts)),
      ap (λ (g : Got). g.reply) (ap (λ c. answered transport (heading_of_update update) old.held.last.zone (act old.held.last.zone update) c) is_code) ∙ sym (ap Some written),
    )
    told_said (unchanged taken acts is_code same) = (
      ForNothing,
      unmade_about first may known later old.held.last update fresh (known_about first later old new before saw same) (λ zone again makes changed. no_zone (act old.held.last.zone update) zone acts makes changed),
      ap (λ (g : Got). g.reply) (taken_got old.held.last.zone old.held.last.zone taken acts) ∙ sym (said old.held.last code written NoError is_code),
    )
    told_said (full most is_code same) = (ForMaking, (fresh, latest_known first later old.held.last (known_about first later old new before saw same)), sym (said old.held.last code written ServFail is_code))
    told_said (starved taken is_code same) = (ForMaking, (fresh, latest_known first later old.held.last (known_about first later old new before saw same)), sym (said old.held.last code written ServFail is_code))

-- an update's code is its reply, about the versions that are known when it is told
pub update_replied : (first : List Record) (peer : Peer) (known later : Learned Version) (version : Version) (request out : List ℕ) (update : Update) (len : ℕ) (wants : Want) → IsReplay first version → reads request ≡ SaysUpdate update
    → TellsOf first peer.may_update known.published later.published version wants update → (got_of peer.transport peer.may_update wants version.zone (SaysUpdate update)).reply ≡ Some (take len out) → IsReplied first peer known later request (take len out ∷ [])
update_replied first peer known later version request out update len wants replayed reading about gets =
    got_replied first peer known later version request (take len out ∷ []) wants replayed (subst IsNoQuery (sym reading) tt) (subst (TellsAbout first peer known later version wants) (sym reading) about)
    (ap option_to_list (sym gets) ∙ ap (λ (p : Parsed). option_to_list (got_of peer.transport peer.may_update wants version.zone p).reply) (sym reading))

-- what asks for an update by its header, where memory is wanted to read it
want_of : (request : List ℕ) → is_update request ≡ true → IsWant request (NoMemory (header_of request))
want_of request asks = record {
  whole = whole_of (nat_lt (length request) 12) (is_reply request) (opcode_of request == 5) (length request) refl asks;
  asks = no_reply (nat_lt (length request) 12) (is_reply request) (opcode_of request == 5) asks;
  update = eqb-true _ _ (opcode (nat_lt (length request) 12) (is_reply request) (opcode_of request == 5) asks);
  is = refl;
}
  where
    whole_of : (short reply op : Bool) (n : ℕ) → nat_lt n 12 ≡ short → not short && not reply && op ≡ true → 12 ≤ n
    whole_of true reply op n e asks = absurd (cc)
    whole_of false reply op n e asks = grind (arith, nat_tests)

    no_reply : (short reply op : Bool) → not short && not reply && op ≡ true → reply ≡ false
    no_reply true reply op asks = cc
    no_reply false true op asks = cc
    no_reply false false op asks = refl

    opcode : (short reply op : Bool) → not short && not reply && op ≡ true → op ≡ true
    opcode true reply op asks = cc
    opcode false true op asks = cc
    opcode false false op asks = asks

-- what asks for an update is read as one, or gets a code
update_said : (request : List ℕ) → is_update request ≡ true → reads request ≡ update_of (header_of request) (update_in (header_of request) request)
update_said request asks = reads-want request (NoMemory (header_of request)) (want_of request asks)

-- what is said is an update, a code, or that memory is wanted
abbrev pub IsOfUpdate : Parsed → Type 0
IsOfUpdate IsSilent = ⊥
IsOfUpdate (Fault head code) = Unit {0}
IsOfUpdate (BadOpt head question code dnssec_ok) = Unit {0}
IsOfUpdate (Query query) = ⊥
IsOfUpdate (SaysUpdate update) = Unit {0}
IsOfUpdate (NoMemory head) = Unit {0}

of_update : (head : Head) (o : _) → IsOfUpdate (update_of head o)
of_update head None = tt
of_update head (Some (Ok update)) = tt
of_update head (Some (Err bad)) = tt

-- what asks for an update is heard as such
pub heard_of_update : (request : List ℕ) (heard : Parsed) → is_update request ≡ true → Tells request heard → IsOfUpdate heard
heard_of_update request heard asks tells =
    ⊎_elim (λ (e : heard ≡ reads request). subst IsOfUpdate (sym (e ∙ update_said request asks)) (of_update (header_of request) (update_in (header_of request) request)))
    (λ (want : IsWant request heard). subst IsOfUpdate (sym want.is) tt) tells

-- what is said is neither an update nor that memory is wanted
abbrev pub IsOther : Parsed → Type 0
IsOther IsSilent = Unit {0}
IsOther (Fault head code) = Unit {0}
IsOther (BadOpt head question code dnssec_ok) = Unit {0}
IsOther (Query query) = Unit {0}
IsOther (SaysUpdate update) = ⊥
IsOther (NoMemory head) = ⊥

query_other : (head : Head) (o : _) → IsOther (query_of head o)
query_other head None = tt
query_other head (Some (question, serial, Ok edns)) = tt
query_other head (Some (question, serial, Err fault)) = tt

judged_other : (short reply : Bool) (head : Head) (asked : _) (update : _)
    → not short && not reply && (head.opcode == 5) ≡ false → IsOther (judged (short || reply) head asked update)
judged_other true reply head asked update other = tt
judged_other false true head asked update other = tt
judged_other false false head asked update other =
    elim (head.opcode == 0) as (λ b. IsOther (if b then query_of head asked else if head.opcode == 5 then update_of head update else Fault head NotImp)) [
      | true ↦ query_other head asked
      | false ↦ subst (λ b. IsOther (if b then update_of head update else Fault head NotImp)) (sym other) tt
    ]

-- what doesn't ask for an update isn't read as one
pub other_said : (request : List ℕ) (said : Parsed) → is_update request ≡ false → said ≡ reads request → IsOther said
other_said request said other is =
    subst IsOther (sym is)
    (judged_other (nat_lt (length request) 12) (is_reply request) (header_of request) (option_and_then (seen request) (body_in request)) (update_in (header_of request) request) other)

-- what asks for an update is no query
pub update_is_no_query : (request : List ℕ) → is_update request ≡ true → IsQuery request → ⊥
update_is_no_query request asks query =
    subst IsOfUpdate (sym (update_said request asks) ∙ query.1) (of_update (header_of request) (update_in (header_of request) request))

-- what asks for an update gets a reply
pub update_is_not_silent : (request : List ℕ) → is_update request ≡ true → reads request ≡ IsSilent → ⊥
update_is_not_silent request asks silent = subst IsOfUpdate (sym (update_said request asks) ∙ silent) (of_update (header_of request) (update_in (header_of request) request))

-- what is heard as an update is one
pub heard_update : (request : List ℕ) (heard : Parsed) (update : Update) → Tells request heard → heard ≡ SaysUpdate update → reads request ≡ SaysUpdate update
heard_update request heard update tells is =
    ⊎_elim (λ (e : heard ≡ reads request). sym e ∙ is) (λ (want : IsWant request heard). absurd (no_update_wanted (header_of request) want.is is)) tells
  where
    no_update_wanted : (head : Head) → heard ≡ NoMemory head → heard ≡ SaysUpdate update → ⊥
    no_update_wanted head wants said = cc

-- what is heard as a code is read so
heard_fault : (request : List ℕ) (heard : Parsed) (head : Head) (code : Rcode) → Tells request heard → heard ≡ Fault head code → reads request ≡ Fault head code
heard_fault request heard head code tells is =
    ⊎_elim (λ (e : heard ≡ reads request). sym e ∙ is) (λ (want : IsWant request heard). absurd (no_fault_wanted (header_of request) want.is is)) tells
  where
    no_fault_wanted : (other : Head) → heard ≡ NoMemory other → heard ≡ Fault head code → ⊥
    no_fault_wanted other wants said = cc

-- and what is heard as a request whose OPT isn't obeyed
heard_bad : (request : List ℕ) (heard : Parsed) (head : Head) (question : Question) (code : Rcode) (dnssec_ok : Bool) → Tells request heard → heard ≡ BadOpt head question code dnssec_ok → reads request ≡ BadOpt head question code dnssec_ok
heard_bad request heard head question code dnssec_ok tells is =
    ⊎_elim (λ (e : heard ≡ reads request). sym e ∙ is) (λ (want : IsWant request heard). absurd (no_bad_wanted (header_of request) want.is is)) tells
  where
    no_bad_wanted : (other : Head) → heard ≡ NoMemory other → heard ≡ BadOpt head question code dnssec_ok → ⊥
    no_bad_wanted other wants said = cc

update_wants_nothing : (head other : Head) (o : _) → update_of head o ≡ NoMemory other → ⊥
update_wants_nothing head other None e = cc
update_wants_nothing head other (Some (Ok update)) e = cc
update_wants_nothing head other (Some (Err bad)) e = cc

-- where memory is told to be wanted, it was
heard_want : (request : List ℕ) (heard : Parsed) (head : Head) → is_update request ≡ true → Tells request heard → heard ≡ NoMemory head → IsWant request (NoMemory head)
heard_want request heard head asks tells is =
    ⊎_elim (λ (e : heard ≡ reads request). absurd (update_wants_nothing (header_of request) head (update_in (header_of request) request) (sym (update_said request asks) ∙ sym e ∙ is)))
    (λ (want : IsWant request heard). subst (IsWant request) is want) tells

-- what is told of a request that isn't read as an update is told of it
pub told_unread : (first : List Record) (may : Bool) (request : List ℕ) (reader : ReaderState Version) (heard : Parsed) (head : Head) (code : Rcode) (heading : Heading) (t : UpdateOutcome) → Tells request heard → heard ≡ Fault head code → heading ≡ header_alone head → t.code ≡ code → t.serials ≡ None → IsToldOf first may request reader reader heading t
told_unread first may request reader heard head code heading t tells is alone same none =
    unread head (heard_fault request heard head code tells is ∙ ap (λ c. Fault head c) (sym same)) alone none refl

pub told_bad : (first : List Record) (may : Bool) (request : List ℕ) (reader : ReaderState Version) (heard : Parsed) (head : Head) (question : Question) (code : Rcode) (dnssec_ok : Bool) (heading : Heading) (t : UpdateOutcome) → Tells request heard → heard ≡ BadOpt head question code dnssec_ok → heading ≡ heading_of_bad head question dnssec_ok
    → t.code ≡ code → t.serials ≡ None → IsToldOf first may request reader reader heading t
told_bad first may request reader heard head question code dnssec_ok heading t tells is repeats same none =
    bad_opt head question dnssec_ok (heard_bad request heard head question code dnssec_ok tells is ∙ ap (λ c. BadOpt head question c dnssec_ok) (sym same)) repeats none refl

pub told_starved : (first : List Record) (may : Bool) (request : List ℕ) (reader : ReaderState Version) (heard : Parsed) (head : Head) (heading : Heading) (t : UpdateOutcome) → is_update request ≡ true → Tells request heard → heard ≡ NoMemory head → heading ≡ header_alone head → t.code ≡ ServFail → t.serials ≡ None → IsToldOf first may request reader reader heading t
told_starved first may request reader heard head heading t asks tells is alone same none =
    starved_reading head (heard_want request heard head asks tells is) alone same none refl

-- an update of a peer that may not update is judged by the first rule that it breaks
judged_got : (transport : Transport) (zone : List Record) (update : Update) (may : Bool) (code : Rcode) → may ≡ false → verdict zone update false ≡ Some code
    → got_of transport may ForNothing zone (SaysUpdate update) ≡ reported transport (heading_of_update update) code zone
judged_got transport zone update may code is gives =
    ap (λ m. got_of transport m ForNothing zone (SaysUpdate update)) is
    ∙ ap (λ v. answered transport (heading_of_update update) zone (act zone update) (option_or v (if is_some (act zone update) then None else Some ServFail))) gives

-- the code that is told of a request that asks for an update is its reply
module _ (first : List Record) (peer : Peer) (before after : ReaderState Version) (request out : List ℕ) (len : ℕ) (short : len ≤ limit_of peer.transport None) where
  code_of_heading : Heading → Rcode → List ℕ
  code_of_heading heading code = fit (coded heading code) (limit_of peer.transport None)

  met_seen : (met : ReaderState Version) (published : List Version) → after ≡ record met { seen = published } → after.seen ≡ published
  met_seen met published is = ap (λ (r : ReaderState Version). r.seen) is

  no_code_of : (version : Version) (update : Update) (code : Rcode) → peer.may_update ≡ false → verdict version.zone update false ≡ Some code → verdict version.zone update peer.may_update ≡ None → ⊥
  no_code_of version update code may gives taken = no_both (verdict version.zone update false) gives (sym (ap (verdict version.zone update) may) ∙ taken)
    where
      no_both : (o : _) → o ≡ Some code → o ≡ None → ⊥
      no_both o is other = cc

  judged_replied : (update : Update) (t : UpdateOutcome) → reads request ≡ SaysUpdate update → IsJudged first update peer.may_update before after t → take len out ≡ fit (coded (heading_of_update update) t.code) (limit_of peer.transport None) → IsReplied first peer (learned_by before) (learned_by after) request (take len out ∷ [])
  judged_replied update t reading (by_engine serials asks is updated) written =
      let s = told_said peer.transport update peer.may_update out len first before.seen after.seen updated.old updated.new t.code written updated.meets.latest updated.meets_again.latest (met_seen updated.met updated.new.held.published updated.meets_again.seen)
      (no_older first before.seen updated.old.held.published updated.old.held.last updated.meets.begun updated.meets.latest) updated.reported in
      update_replied first peer (learned_by before) (learned_by after) updated.old.held.last request out update len s.0 updated.meets.replayed reading s.1 s.2
  judged_replied update t reading (in_version version may replayed loaded gives none) written =
      update_replied first peer (learned_by before) (learned_by after) version request out update len ForNothing replayed reading
      (unmade_about first peer.may_update before.seen after.seen version update (no_older first before.seen after.seen version loaded.begun (loaded_latest first before after (record { number = version.number; value = version }) loaded)) (loaded_latest first before after (record { number = version.number; value = version }) loaded) (λ zone taken acts changed. no_code_of version update t.code may gives taken))
      (ap (λ (g : Got). g.reply) (judged_got peer.transport version.zone update peer.may_update t.code may gives) ∙ sym (ap Some written))

  -- a request that can't be read as an update gets a code, whatever version is served
  said_as : (saying : Parsed) (heading other : Heading) (code : Rcode) → Tells request saying → IsCodeAlone saying → heading ≡ other
      → got_of peer.transport peer.may_update ForNothing first saying ≡ reported peer.transport other code first → take len out ≡ fit (coded heading code) (limit_of peer.transport None) → IsReplied first peer (learned_by before) (learned_by after) request (take len out ∷ [])
  said_as saying heading other code tells alone same gets written =
      same_replied first peer (learned_by before) (learned_by after) (first_version first) request out (fit (coded other code) (limit_of peer.transport None)) saying len (first_replay first) tells alone (written ∙ ap (λ (h : Heading). fit (coded h code) (limit_of peer.transport None)) same) gets

  pub told_replied : (heading : Heading) (t : UpdateOutcome) → IsToldOf first peer.may_update request before after heading t → take len out ≡ fit (coded heading t.code) (limit_of peer.transport None) → IsReplied first peer (learned_by before) (learned_by after) request (take len out ∷ [])
  told_replied heading t (read update reading same judged) written =
      judged_replied update t reading judged (written ∙ ap (λ (h : Heading). fit (coded h t.code) (limit_of peer.transport None)) same)
  told_replied heading t (unread head reading same none stays) written = said_as (Fault head t.code) heading (header_alone head) t.code (inl (sym reading)) tt same refl written
  told_replied heading t (bad_opt head question dnssec_ok reading same none stays) written =
      said_as (BadOpt head question t.code dnssec_ok) heading (heading_of_bad head question dnssec_ok) t.code (inl (sym reading)) tt same refl written
  told_replied heading t (starved_reading head want same code none stays) written =
      said_as (NoMemory head) heading (header_alone head) t.code (inr want) tt same (ap (λ c. reported peer.transport (header_alone head) c first) (sym code)) written

-- octets that get no reply
pub silent_replied : (first : List Record) (peer : Peer) (known later : Learned Version) (request : List ℕ) → reads request ≡ IsSilent → IsReplied first peer known later request []
silent_replied first peer known later request silent = record {
  version = first_version first;
  replayed = first_replay first;
  changes = None;
  reported = subst (TellsFor first peer known later (first_version first) None) (sym silent) tt;
  want = ForNothing;
  about = subst (TellsAbout first peer known later (first_version first) ForNothing) (sym silent) tt;
  reply = ap (replies_to first None peer ForNothing) (sym silent);
}

limit_by : (transport : Transport) (edns : Option Edns) → limit_of transport edns ≤ message_limit
limit_by Udp None = lit≤ tt
limit_by Udp (Some edns) = omega arith
limit_by Tcp edns = lit≤ tt

-- no reply is over the limit of a stream
pub limit_most : (peer : Peer) (said : Parsed) → limit_for peer.transport said ≤ message_limit
limit_most peer IsSilent = limit_by peer.transport None
limit_most peer (Fault head code) = limit_by peer.transport None
limit_most peer (BadOpt head question code dnssec_ok) = limit_by peer.transport None
limit_most peer (Query query) = limit_by peer.transport query.edns
limit_most peer (SaysUpdate update) = limit_by peer.transport None
limit_most peer (NoMemory head) = limit_by peer.transport None

-- an update's reply keeps the least limit
pub update_limit : (transport : Transport) (request : List ℕ) → is_update request ≡ true → limit_for transport (reads request) ≡ limit_of transport None
update_limit transport request asks = ap (limit_for transport) (update_said request asks) ∙ by (update_in (header_of request) request)
  where
    by : (o : _) → limit_for transport (update_of (header_of request) o) ≡ limit_of transport None
    by None = refl
    by (Some (Ok update)) = refl
    by (Some (Err bad)) = refl

-- no buffer that has room for a stream's reply is too small for a peer's
pub room_most : (peer : Peer) → room_of peer.transport ≤ message_limit
room_most peer = by peer.transport
  where
    by : (transport : Transport) → room_of transport ≤ message_limit
    by Udp = lit≤ tt
    by Tcp = lit≤ tt

-- what is answered at once without a version
pub code_now : (first : List Record) (peer : Peer) (reader : ReaderState Version) (request out : List ℕ) (saying : Parsed) (heading own : Heading) (code : Rcode) (len : ℕ) → is_update request ≡ false → reads request ≡ saying → IsCodeAlone saying → len ≤ limit_of peer.transport None
    → limit_for peer.transport saying ≡ limit_of peer.transport None → heading ≡ own → got_of peer.transport peer.may_update ForNothing first saying ≡ reported peer.transport own code first → ((zone : List Record) → IsNoTransfer zone peer saying)
    → ((version : Version) → LoadsFor first reader reader version saying) → take len out ≡ fit (coded heading code) (limit_of peer.transport None)
    → (len ≤ limit_for peer.transport (reads request)) × (replied : IsReplied first peer (learned_by reader) (learned_by reader) request (take len out ∷ [])) × IsAtOnce peer request replied.version × LoadsFor first reader reader replied.version (reads request)
code_now first peer reader request out saying heading own code len other reading plain short limit same gets none stays written =
    let within : len ≤ limit_for peer.transport saying = subst (λ (n : ℕ). len ≤ n) (sym limit) short in
    let replied = same_replied first peer (learned_by reader) (learned_by reader) (first_version first) request out (fit (coded own code) (limit_of peer.transport None)) saying len (first_replay first) (inl (sym reading)) plain (written ∙ ap (λ (h : Heading). fit (coded h code) (limit_of peer.transport None)) same) gets in (
      subst (λ p. len ≤ limit_for peer.transport p) (sym reading) within,
      replied,
      record { other = other; plain = subst (IsNoTransfer replied.version.zone peer) (sym reading) (none replied.version.zone) },
      subst (LoadsFor first reader reader replied.version) (sym reading) (stays replied.version),
    )

-- a query that is answered at once, in the version that is loaded for it
pub query_now : (first : List Record) (peer : Peer) (before after : ReaderState Version) (version : Version) (request out : List ℕ) (query : QueryAsked) (len : ℕ) → IsReplay first version → IsLatest first after.seen version → HasLoaded first before after version → is_update request ≡ false → reads request ≡ Query query
    → is_permitted version.zone peer query ≡ false → take len out ≡ fit (reply_to_peer version.zone peer query) (limit_of peer.transport query.edns) → len ≤ limit_of peer.transport query.edns
    → (len ≤ limit_for peer.transport (reads request)) × (replied : IsReplied first peer (learned_by before) (learned_by after) request (take len out ∷ [])) × IsAtOnce peer request replied.version × LoadsFor first before after replied.version (reads request)
query_now first peer before after version request out query len replayed latest loaded other asked may written short =
    let gets : take len out ∷ [] ≡ replies_to version.zone None peer ForNothing (Query query) = rw (may, written) refl in
    let plain : asks_changes version.zone peer query ≡ false = rw may refl in (
      subst (λ p. len ≤ limit_for peer.transport p) (sym asked) short,
      record {
        version = version;
        replayed = replayed;
        changes = None;
        reported = subst (TellsFor first peer (learned_by before) (learned_by after) version None) (sym asked) (no_changes (asks_changes version.zone peer query) plain, λ e. latest);
        want = ForNothing;
        about = subst (TellsAbout first peer (learned_by before) (learned_by after) version ForNothing) (sym asked) tt;
        reply = gets ∙ ap (replies_to version.zone None peer ForNothing) (sym asked);
      },
      record { other = other; plain = subst (IsNoTransfer version.zone peer) (sym asked) may },
      subst (LoadsFor first before after version) (sym asked) loaded,
    )

-- who knew more before knew less
older_known : (shorter longer : List Version) (version : Version) → BeginsWith longer shorter → IsNoOlder longer version → IsNoOlder shorter version
older_known shorter longer version grown fresh =
    let same : length longer ≡ length (shorter ++ grown.0) = ap length grown.1 in
    let long : length (shorter ++ grown.0) ≡ length shorter + length grown.0 = length-append shorter grown.0 in
    omega (arith, same, long, fresh)

tells_older : (first : List Record) (peer : Peer) (shorter longer later : Learned Version) (version : Version) (changes : Option (List Record)) (said : Parsed) → Grows longer shorter → TellsFor first peer longer later version changes said
    → TellsFor first peer shorter later version changes said
tells_older first peer shorter longer later version changes IsSilent grown t = tt
tells_older first peer shorter longer later version changes (Fault head code) grown t = tt
tells_older first peer shorter longer later version changes (BadOpt head question code dnssec_ok) grown t = tt
tells_older first peer shorter longer later version changes (Query query) grown t = (λ e. (older_known shorter.published longer.published version grown.published (t.0 e).0, (t.0 e).1), t.1)
tells_older first peer shorter longer later version changes (SaysUpdate update) grown t = tt
tells_older first peer shorter longer later version changes (NoMemory head) grown t = tt

of_older : (first : List Record) (may : Bool) (shorter longer later : List Version) (version : Version) (wants : Want) (update : Update) → BeginsWith longer shorter → TellsOf first may longer later version wants update → TellsOf first may shorter later version wants update
of_older first may shorter longer later version ForNothing update grown t = (older_known shorter longer version grown t.0, t.1, t.2)
of_older first may shorter longer later version ForReading update grown t = tt
of_older first may shorter longer later version ForMaking update grown t = (older_known shorter longer version grown t.0, t.1)

about_older : (first : List Record) (peer : Peer) (shorter longer later : Learned Version) (version : Version) (wants : Want) (said : Parsed) → Grows longer shorter → TellsAbout first peer longer later version wants said → TellsAbout first peer shorter later version wants said
about_older first peer shorter longer later version wants IsSilent grown t = tt
about_older first peer shorter longer later version wants (Fault head code) grown t = tt
about_older first peer shorter longer later version wants (BadOpt head question code dnssec_ok) grown t = tt
about_older first peer shorter longer later version wants (Query query) grown t = tt
about_older first peer shorter longer later version wants (SaysUpdate update) grown t = of_older first peer.may_update shorter.published longer.published later.published version wants update grown.published t
about_older first peer shorter longer later version wants (NoMemory head) grown t = tt

-- and gets the same reply
pub still_replied : (first : List Record) (peer : Peer) (shorter longer later : Learned Version) (request : List ℕ) (messages : List (List ℕ)) → Grows longer shorter → IsReplied first peer longer later request messages → IsReplied first peer shorter later request messages
still_replied first peer shorter longer later request messages grown r = record {
  version = r.version;
  replayed = r.replayed;
  changes = r.changes;
  reported = tells_older first peer shorter longer later r.version r.changes (reads request) grown r.reported;
  want = r.want;
  about = about_older first peer shorter longer later r.version r.want (reads request) grown r.about;
  reply = r.reply;
}
