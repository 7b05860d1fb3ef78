-- What a question for what changed gets, and what that leads to.
use Rattle.std.proofs.Common.{◌≡◌, refl, sym, ap, ◌∙◌, subst, ℕ, ◌<◌, ◌≤◌, ◌⊎◌, All, Bool, true, false, inl, inr, List, length, map, Option, Some, None}
use Rattle.std.specs.Prelude.{◌==◌, ◌&&◌, ◌||◌, not, is_some, unwrap_or, if◌then◌else◌}
use Rattle.cell_core.specs.Words.{State}
use Rattle.dns_message.specs.Message.{Message}
use Rattle.dns_message.specs.Request.{reads}
use Rattle.dns_message.specs.declared.query.Parsed.TheVariants as parsed
use Rattle.dns_message.specs.declared.query.Query.{Query as QueryAsked}
use Rattle.dns_message.specs.declared.update.Update.{Update as DynamicUpdate}
use Rattle.dns_name.specs.Name.{Name, is_same}
use Rattle.dns_rdata.specs.Numbers.{class_IN, type_AXFR, type_IXFR}
use Rattle.dns_rdata.specs.declared.numbers.Serial.{Serial}
use Rattle.dns_rdata.specs.Record.{Record}
use Rattle.dns_rdata.specs.SerialOrder.{serial_less}
use Rattle.serve_core.specs.declared.peer.Peer.{Peer}
use Rattle.serve_core.specs.declared.transport.Transport.TheVariants.{Tcp}
use Rattle.serve_core.specs.Heading.{reply_opt}
use Rattle.serve_core.specs.Reply.{asks_transfer}
use Rattle.serve_core.specs.Transport.{is_stream}
use Rattle.serve_core.specs.Transfers.{peer_over, is_unfit, is_permitted, is_current, list_for, messages_to}
use Rattle.transfer_core.proofs.FullLemmas.{full_taken}
use Rattle.transfer_core.proofs.PackedLemmas.{all_records}
use Rattle.transfer_core.specs.Chain.{reported, told_changes}
use Rattle.transfer_core.specs.Lists.{full, as_sent}
use Rattle.transfer_core.specs.Packed.{spelt, packed, octets_of}
use Rattle.transfer_core.specs.Take.{take as taken_by}
use Rattle.zone_tree.specs.Version.{Version as Numbered, zone_serial}
use Rattle.zone_tree.specs.Zone.{IsZone, apex_of, soa_of}
use Rattle.world_run.specs.declared.step.Answer.TheVariants.{Messages}
use Rattle.world_laws.specs.Leads.{records_of, LeadFromAny, LeadFromAsker, IsUntold, AnswerIxfr}
use Rattle.world_laws.specs.Replays.{AreReplays}
use Rattle.world_run.specs.Transfers.{sent_for, sent_answer, messages_answer}
use Rattle.world_run.specs.declared.entries.Entry.{Entry}
use Rattle.world_run.specs.declared.sending.Sending.{Sending}
use Rattle.world_laws.proofs.ChainLists.{Zone}
use Rattle.world_laws.proofs.LeadLemmas.{zone_at, zone_is}
use Rattle.world_laws.proofs.SpeltLemmas.{taken_spelt}

both : (a b : Bool) → (a && b) ≡ true → (a ≡ true) × (b ≡ true)
both true b e = (refl, e)
both false b e = absurd (let wrong = e in cc)

neither : (a b : Bool) → (a || b) ≡ false → (a ≡ false) × (b ≡ false)
neither true b e = absurd (let wrong = e in cc)
neither false b e = (refl, e)

some_by : (o : Option Serial) → not (is_some o) ≡ false → (serial : Serial) × (o ≡ Some serial)
some_by None e = absurd (let wrong = e in cc)
some_by (Some serial) e = (serial, refl)

not_true : (b : Bool) → not b ≡ true → b ≡ false
not_true true e = absurd (let wrong = e in cc)
not_true false e = refl

-- it tells the serial that is held
tells_serial : (zone : Zone) (peer : Peer) (query : QueryAsked) → query.question.rtype.0 ≡ type_IXFR → is_permitted zone peer query ≡ true → (serial : Serial) × (query.serial ≡ Some serial)
tells_serial zone peer query is permitted =
    let q = query.question in
    let a : Bool = q.class.0 == class_IN in
    let b : Bool = asks_transfer q in
    let c : Bool = is_unfit peer query in
    let d : Bool = is_same q.name (apex_of zone) in
    let one = both (((a && b) && not c) && d) peer.may_transfer permitted in
    let two = both ((a && b) && not c) d one.0 in
    let three = both (a && b) (not c) two.0 in
    let fit = not_true c three.1 in
    let parts = neither (q.rtype.0 == type_AXFR && not (is_stream peer.transport)) (q.rtype.0 == type_IXFR && not (is_some query.serial)) fit in
    let ixfr : (q.rtype.0 == type_IXFR) ≡ true = ap (λ t. t == type_IXFR) is in
    let none : not (is_some query.serial) ≡ false = ap (λ x. x && not (is_some query.serial)) (sym ixfr) ∙ parts.1 in
    some_by query.serial none

-- the list that is sent
list_by : (zone : Zone) (changes : Option (List Record)) (query : QueryAsked) (serial : Serial) → query.question.rtype.0 ≡ type_IXFR → query.serial ≡ Some serial
    → list_for zone changes query ≡ (if not (serial_less serial.0 (zone_serial zone)) then soa_of zone else unwrap_or changes (full zone))
list_by zone changes query serial is asks =
    let axfr : (query.question.rtype.0 == type_AXFR) ≡ false = ap (λ t. t == type_AXFR) is in
    ap (λ b. if b then full zone else if is_current zone query.serial then soa_of zone else unwrap_or changes (full zone)) axfr
    ∙ ap (λ o. if is_current zone o then soa_of zone else unwrap_or changes (full zone)) asks

-- the records of the messages of a list
records_so : (query : QueryAsked) (list : List Record) → records_of (packed query.head query.question (reply_opt query.edns) list) ≡ map as_sent (map (spelt query.question.name) list)
records_so query list = ap (map as_sent) (all_records query.head (Some query.question) (reply_opt query.edns) (map (spelt query.question.name) list))

-- what a transfer gets of a version that was published, by what was got of those behind the asker's
module _ (S : List ℕ → Type 0) (first : Zone) (published : List Numbered) (ups : List DynamicUpdate) (r : AreReplays S first published ups)
    (octets_sent : (request : List ℕ) → S request → All (λ octet. octet < 256) request) (is : IsZone first) (version : Numbered) (within : version.number ≤ length ups) (served : version.zone ≡ zone_at first ups version.number) (entries : List Entry) (words : State Numbered) where
  -- the version in whole
  whole_so : (name : Name) → LeadFromAny first ups version (map as_sent (map (spelt name) (full version.zone)))
  whole_so name asker known =
      let one = zone_is S first published ups r octets_sent is asker known in
      let two = zone_is S first published ups r octets_sent is version.number within in
      let zone : IsZone version.zone = subst IsZone (sym served) two.0 in
      let apex : apex_of version.zone ≡ apex_of (zone_at first ups asker) = ap apex_of served ∙ (two.1 ∙ sym one.1) in
      taken_spelt (zone_at first ups asker) name (full version.zone) ∙ full_taken (zone_at first ups asker) version.zone zone apex

  abbrev Leads : Serial → QueryAsked → List Message → Type 0
  Leads serial query messages =
      ((serial_less serial.0 (zone_serial version.zone) ≡ false) × (records_of messages ≡ map as_sent (map (spelt query.question.name) (soa_of version.zone))))
      ⊎ (((records_of messages ≡ map as_sent (map (spelt query.question.name) (full version.zone))) × LeadFromAny first ups version (records_of messages) × IsUntold entries words version serial)
      ⊎ LeadFromAsker first ups version serial query.question.name (records_of messages))

  abbrev pub ChangesLead : QueryAsked → List Numbered → Type 0
  ChangesLead query got = (serial : Serial) → query.serial ≡ Some serial → LeadFromAsker first ups version serial query.question.name (map as_sent (map (spelt query.question.name) (reported (soa_of version.zone) got)))

  leads_by : (serial : Serial) (query : QueryAsked) (less whole : Bool) (got : List Numbered) → query.serial ≡ Some serial → serial_less serial.0 (zone_serial version.zone) ≡ less → (whole ≡ false → IsUntold entries words version serial) → (whole ≡ true → ChangesLead query got)
      → Leads serial query (packed query.head query.question (reply_opt query.edns) (if not less then soa_of version.zone else unwrap_or (told_changes whole (soa_of version.zone) got) (full version.zone)))
  leads_by serial query false whole got asks e untold changes = inl (e, records_so query (soa_of version.zone))
  leads_by serial query true false got asks e untold changes =
      inr (inl (records_so query (full version.zone), λ asker known. ap (taken_by (zone_at first ups asker)) (records_so query (full version.zone)) ∙ whole_so query.question.name asker known, untold refl))
  leads_by serial query true true got asks e untold changes =
      inr (inr (subst (LeadFromAsker first ups version serial query.question.name) (sym (records_so query (reported (soa_of version.zone) got))) (changes refl serial asks)))

  -- the messages that it gets
  sent_by : (sending : Sending) (query : QueryAsked) (permitted : Bool) (octets : List (List ℕ)) → is_permitted sending.version.zone (peer_over Tcp true) query ≡ permitted
      → messages_answer (if permitted then Some (messages_to sending.version.zone (told_changes sending.whole (soa_of sending.version.zone) sending.got) (peer_over Tcp true) query) else None) ≡ Messages octets
      → (is_permitted sending.version.zone (peer_over Tcp true) query ≡ true) × (messages_to sending.version.zone (told_changes sending.whole (soa_of sending.version.zone) sending.got) (peer_over Tcp true) query ≡ octets)
  sent_by sending query true octets p e = (p, (let m = e in cc))
  sent_by sending query false octets p e = absurd (let wrong = e in cc)

  pub answer_by : (sending : Sending) (query : QueryAsked) (octets : List (List ℕ)) → sending.version ≡ version → reads sending.request ≡ parsed.Query query → query.question.rtype.0 ≡ type_IXFR → ((serial : Serial) → query.serial ≡ Some serial → sending.whole ≡ false → IsUntold entries words version serial) → (sending.whole ≡ true → ChangesLead query sending.got)
      → sent_answer sending ≡ Messages octets → AnswerIxfr first ups entries words version query octets
  answer_by sending query octets same reads_so ixfr untold changes e =
      let peer : Peer = peer_over Tcp true in
      let said : messages_answer (sent_for sending (parsed.Query query)) ≡ Messages octets = ap (λ said. messages_answer (sent_for sending said)) (sym reads_so) ∙ e in
      let a = sent_by sending query (is_permitted sending.version.zone peer query) octets refl said in
      let asks = tells_serial sending.version.zone peer query ixfr a.0 in
      let serial : Serial = asks.0 in
      let list : list_for sending.version.zone (told_changes sending.whole (soa_of sending.version.zone) sending.got) query
      ≡ (if not (serial_less serial.0 (zone_serial version.zone)) then soa_of version.zone else unwrap_or (told_changes sending.whole (soa_of version.zone) sending.got) (full version.zone)) =
      list_by sending.version.zone (told_changes sending.whole (soa_of sending.version.zone) sending.got) query serial ixfr asks.1
      ∙ ap (λ (v : Numbered). if not (serial_less serial.0 (zone_serial v.zone)) then soa_of v.zone else unwrap_or (told_changes sending.whole (soa_of v.zone) sending.got) (full v.zone)) same in
      record {
        served = served;
        serial = serial;
        asks = asks.1;
        messages = packed query.head query.question (reply_opt query.edns) (if not (serial_less serial.0 (zone_serial version.zone)) then soa_of version.zone else unwrap_or (told_changes sending.whole (soa_of version.zone) sending.got) (full version.zone));
        sent = sym a.1 ∙ ap (λ l. octets_of (packed query.head query.question (reply_opt query.edns) l)) list;
        leads = leads_by serial query (serial_less serial.0 (zone_serial version.zone)) sending.whole sending.got asks.1 refl (untold serial asks.1) changes;
      }
