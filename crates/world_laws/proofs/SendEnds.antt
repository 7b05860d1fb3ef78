-- What a transfer gets at its end, whether it is answered at once, in one line, or step by step, leads to the version that is served.
use Rattle.std.proofs.Common.{◌≡◌, ◌≢◌, refl, sym, ap, ◌∙◌, subst, ℕ, zero, suc, ◌+◌, ◌-◌, ◌<◌, Bool, true, false, inl, inr, List, [], ◌∷◌, ◌++◌, length, length-append, map, take, arith, Option, Some, None}
use Rattle.std.specs.Prelude.{if◌then◌else◌, Ok}
use Rattle.std.specs.List.{slice_get}
use Rattle.std.proofs.lemmas.Bool.Decides.{eqb_tells}
use Rattle.std.proofs.lemmas.Option.{slice_get_within}
use Rattle.dns_message.specs.Request.{reads}
use Rattle.dns_message.specs.declared.query.Parsed.TheVariants as parsed
use Rattle.dns_message.specs.declared.query.Query.{Query as QueryAsked}
use Rattle.dns_message.specs.declared.update.Update.{Update as DynamicUpdate}
use Rattle.dns_rdata.specs.Numbers.{type_IXFR}
use Rattle.dns_rdata.specs.declared.numbers.Serial.{Serial}
use Rattle.transfer_core.proofs.VersionLemmas.{list_told, list_taken}
use Rattle.transfer_core.specs.Chain.{zones_of, reported}
use Rattle.transfer_core.specs.Lists.{AreVersions, as_sent, incremental, newest}
use Rattle.transfer_core.specs.Packed.{spelt}
use Rattle.transfer_core.specs.Take.{take as taken_by}
use Rattle.zone_tree.specs.Version.{Version as Numbered, zone_serial}
use Rattle.zone_tree.specs.Zone.{IsZone, soa_of}
use Rattle.world_run.specs.World.{World, started, version_of, call_of, none_got, answer_at, step_once, steps_up_to, most_steps, is_full, all_made, whole, begin_call, begin_under, stepped, next, start, turn, play, given_up, weak_given_up}
use Rattle.world_run.specs.declared.calls.UnderWay.{UnderWay}
use Rattle.world_run.specs.declared.entries.Entry.{Entry}
use Rattle.world_run.specs.declared.phase.End.{End}
use Rattle.world_run.specs.declared.phase.End.TheVariants.{Owned, OwnedWeakly, Replied, NoSlot, Kept, Sent}
use Rattle.world_run.specs.declared.phase.Phase.{Phase}
use Rattle.world_run.specs.declared.phase.Progress.{Progress}
use Rattle.world_run.specs.declared.phase.Progress.TheVariants.{On, Done}
use Rattle.world_run.specs.declared.sending.Sending.{Sending}
use Rattle.world_run.specs.declared.start.Start.{Start}
use Rattle.world_run.specs.declared.start.Start.TheVariants.{Refused, Answers, Takes}
use Rattle.world_run.specs.declared.step.Answer.{Answer}
use Rattle.world_run.specs.declared.step.Answer.TheVariants.{Messages}
use Rattle.world_run.specs.declared.step.Call.{Call}
use Rattle.world_run.specs.declared.step.Call.TheVariants.{Transfer}
use Rattle.world_run.specs.declared.step.StepName.{StepName}
use Rattle.world_run.specs.declared.step.WorldReply.{WorldReply}
use Rattle.world_run.specs.declared.step.WorldReply.TheVariants.{Answered, Begun, Last, NotEnabled}
use Rattle.world_run.specs.declared.step.WorldStep.{WorldStep as Line}
use Rattle.world_run.specs.declared.step.WorldStep.TheVariants.{Whole, Begin, Next}
use Rattle.world_run.specs.Transfers.{sent_answer}
use Rattle.world_laws.specs.InTurn.{IsOpen}
use Rattle.world_laws.specs.Leads.{AreOctets, zones_behind, LeadFromAsker, AnswerIxfr, AnswerFor, AnswerSince}
use Rattle.world_laws.specs.Replays.{IsSent, IsSentAt}
use Rattle.world_laws.proofs.CallReplays.{script, updates_in, Zones, further_none}
use Rattle.world_laws.proofs.ChainLists.{Zone, differs_behind}
use Rattle.world_laws.proofs.InTurnLemmas.{fate}
use Rattle.world_laws.proofs.LeadLemmas.{zone_at}
use Rattle.world_laws.proofs.LeadReplies.{answer_by}
use Rattle.world_laws.proofs.ReplayLemmas.{found_new}
use Rattle.world_laws.proofs.SendStarts.{served, transfer_begins, transfer_answers}
use Rattle.world_laws.proofs.SendSteps.{Sends, SendsIn, SendsAt, sends_on, once_sends, many_sends, newest_behind}
use Rattle.world_laws.proofs.SpeltLemmas.{taken_spelt}
use Rattle.world_laws.proofs.WindowPlay.{Now, After, play_on, at_all, started_now, known_replayed, known_held}
use Rattle.world_laws.proofs.WindowSerials.{zone_more, zones_more}

-- a zone behind one
behind_get : (first : Zone) (ups : List DynamicUpdate) (k n j : ℕ) → j < n → slice_get (zones_behind first ups k n) j ≡ Some (zone_at first ups (k + 1 + j))
behind_get first ups k zero j l = absurd (omega (arith, l))
behind_get first ups k (suc n) zero l = (let at : k + 1 ≡ k + 1 + 0 = omega arith in ap (λ i. Some (zone_at first ups i)) at)
behind_get first ups k (suc n) (suc j) l = (let at : k + 1 + 1 + j ≡ k + 1 + suc j = omega arith in behind_get first ups (k + 1) n j (omega (arith, l)) ∙ ap (λ i. Some (zone_at first ups i)) at)

-- the asker's version has the serial that is told
asker_serial : (first : Zone) (ups : List DynamicUpdate) (words : Zones) (entries : List Entry) (version : Numbered) (request : List ℕ) (sending : Sending) (query : QueryAsked) (serial : Serial) → reads request ≡ parsed.Query query → (s : Sends first ups words entries version request sending) → query.serial ≡ Some serial → zone_serial (zone_at first ups s.asker) ≡ serial.0
asker_serial first ups words entries version request sending query serial reads_so s asks =
    let a = s.asked in
    let before = a.before in
    let within = a.within in
    let same_query : a.query ≡ query = (let e : parsed.Query a.query ≡ parsed.Query query = sym a.reads_so ∙ reads_so in cc) in
    let same_serial : a.serial ≡ serial = (let e : Some a.serial ≡ Some serial = sym a.asks ∙ (ap (λ (q : QueryAsked). q.serial) same_query ∙ asks) in cc) in
    let here : zone_at first ups s.asker ≡ zone_at first s.seen s.asker = ap (λ u. zone_at first u s.asker) s.grown ∙ zone_more first s.seen s.more s.asker (omega (arith, before, within)) in
    ap zone_serial here ∙ (a.serial_is ∙ ap (λ (x : Serial). x.0) same_serial)

-- where each version behind the asker's was got, what changed leads from there
changes_lead : (first : Zone) (ups : List DynamicUpdate) (words : Zones) (entries : List Entry) (version : Numbered) (request : List ℕ) (sending : Sending) (query : QueryAsked) (serial : Serial) → reads request ≡ parsed.Query query → (s : Sends first ups words entries version request sending) → sending.whole ≡ true → query.serial ≡ Some serial
    → LeadFromAsker first ups version serial query.question.name (map as_sent (map (spelt query.question.name) (reported (soa_of version.zone) sending.got)))
changes_lead first ups words entries version request sending query serial reads_so s whole_so asks =
    let a = s.asked in
    let got = sending.got in
    let name = query.question.name in
    let zone = zone_at first s.seen s.asker in
    let count : s.asker + length got ≡ version.number = s.all whole_so in
    let before = a.before in
    let within = a.within in
    let n : version.number - s.asker ≡ length got = omega (arith, count) in
    let serial_is = asker_serial first ups words entries version request sending query serial reads_so s asks in
    let zones : zones_of got ≡ zones_behind first s.seen s.asker (version.number - s.asker) = s.got.zones ∙ ap (zones_behind first s.seen s.asker) (sym n) in
    let last : newest zone (zones_of got) ≡ version.zone = ap (newest zone) s.got.zones ∙ (newest_behind first s.seen s.asker (length got) zone refl ∙ (ap (zone_at first s.seen) count ∙ sym a.served)) in
    let list : reported (soa_of version.zone) got ≡ incremental zone (zones_of got) = list_told zone got version.zone s.got.behind last in
    let versions : AreVersions zone (zones_of got) = subst (AreVersions zone) (sym zones) a.versions in
    let some : got ≢ [] = λ e. (let m : length got ≡ 0 = ap length e in absurd (omega (arith, m, count, before))) in
    let taken : taken_by zone (map as_sent (incremental zone (zones_of got))) ≡ Ok version.zone = list_taken zone got version.zone (record { some = some; behind = s.got.behind; last = last }) versions in
    let here : zone_at first ups s.asker ≡ zone = ap (λ u. zone_at first u s.asker) s.grown ∙ zone_more first s.seen s.more s.asker (omega (arith, before, within)) in
    let all : zones_behind first ups s.asker (version.number - s.asker) ≡ zones_of got = ap (λ u. zones_behind first u s.asker (version.number - s.asker)) s.grown ∙ (zones_more first s.seen s.more s.asker (version.number - s.asker) (omega (arith, before, within)) ∙ sym zones) in
    record {
      asker = s.asker;
      before = a.before;
      serial_is = serial_is;
      newest = λ number l m e. (
          let j : s.asker + 1 + (number - (s.asker + 1)) ≡ number = omega (arith, l) in
          let there : slice_get (zones_behind first s.seen s.asker (version.number - s.asker)) (number - (s.asker + 1)) ≡ Some (zone_at first s.seen number) =
          behind_get first s.seen s.asker (version.number - s.asker) (number - (s.asker + 1)) (omega (arith, l, m)) ∙ ap (λ i. Some (zone_at first s.seen i)) j in
          let now : zone_at first ups number ≡ zone_at first s.seen number = ap (λ u. zone_at first u number) s.grown ∙ zone_more first s.seen s.more number (omega (arith, m, within)) in
          differs_behind serial.0 zone (zones_behind first s.seen s.asker (version.number - s.asker)) (number - (s.asker + 1)) (zone_at first s.seen number) (ap zone_serial (sym here) ∙ serial_is) a.versions.serials there (ap zone_serial (sym now) ∙ e)
          );
      changes = ap (λ l. map as_sent (map (spelt name) l)) (list ∙ (ap (λ z. incremental z (zones_of got)) (sym here) ∙ ap (incremental (zone_at first ups s.asker)) (sym all)));
      taken = ap (λ z. taken_by z (map as_sent (map (spelt name) (reported (soa_of version.zone) got)))) here ∙ (taken_spelt zone name (reported (soa_of version.zone) got) ∙ (ap (λ l. taken_by zone (map as_sent l)) list ∙ taken));
    }

-- what is told where a call may be begun
unless_full : (full : Bool) (one two : WorldReply × World) → (if full then None else Some one) ≡ Some two → one ≡ two
unless_full true one two e = absurd (let wrong = e in cc)
unless_full false one two e = (let f = e in cc)

-- a transfer's end gives its messages
end_sends : (first : Zone) (ups : List DynamicUpdate) (words : Zones) (entries : List Entry) (version : Numbered) (request : List ℕ) (end : End) (given : Answer) → answer_at end ≡ given → SendsAt first ups words entries version request (Done end) → (sending : Sending) × Sends first ups words entries version request sending × (sent_answer sending ≡ given)
end_sends first ups words entries version request (Owned name owner number) given e s = absurd s
end_sends first ups words entries version request (OwnedWeakly name owner number) given e s = absurd s
end_sends first ups words entries version request (Replied told_answer) given e s = absurd s
end_sends first ups words entries version request (NoSlot head) given e s = absurd s
end_sends first ups words entries version request (Kept head owner entry) given e s = absurd s
end_sends first ups words entries version request (Sent sending) given e s = (sending, s, e)

module _ (lines : List Line) (first : Zone) (keep window top : ℕ) (world : World) (n : Now lines first keep window top world) (is : IsZone first) (octets_sent : AreOctets lines) where
  -- by what was got
  answer_sent : (entries : List Entry) (words : Zones) (version : Numbered) (request : List ℕ) (sending : Sending) (query : QueryAsked) (octets : List (List ℕ)) → reads request ≡ parsed.Query query → query.question.rtype.0 ≡ type_IXFR → Sends first (updates_in n.goes.us) words entries version request sending → sent_answer sending ≡ Messages octets
      → AnswerIxfr first (updates_in n.goes.us) entries words version query octets
  answer_sent entries words version request sending query octets reads_so ixfr s e =
      let ups = updates_in n.goes.us in
      let a = s.asked in
      let more : length ups ≡ length (s.seen ++ s.more) = ap length s.grown in
      let m = length-append s.seen s.more in
      let within = a.within in
      let zone : version.zone ≡ zone_at first ups version.number = a.served ∙ sym (ap (λ u. zone_at first u version.number) s.grown ∙ zone_more first s.seen s.more version.number within) in
      answer_by (IsSent lines) first n.goes.tells.cell.published ups n.goes.tells.replays octets_sent is version (omega (arith, more, m, within)) zone entries words sending query octets s.got.version_is (ap reads s.got.request_is ∙ reads_so) ixfr
      (λ serial asks whole_not. (
      let u = s.untold whole_not in
      let same_query : a.query ≡ query = (let f : parsed.Query a.query ≡ parsed.Query query = sym a.reads_so ∙ reads_so in cc) in
      let same_serial : a.serial ≡ serial = (let f : Some a.serial ≡ Some serial = sym a.asks ∙ (ap (λ (q : QueryAsked). q.serial) same_query ∙ asks) in cc) in
      let l : a.entry.number < u.0 = subst (λ k. k < u.0) (sym a.entry_is) u.1 in
      inr (a.place, a.entry, u.0, a.entry_at, a.entry_serial ∙ ap (λ (x : Serial). x.0) same_serial, l, u.2, u.3)
      ))
      (λ whole_so serial asks. changes_lead first ups words entries version request sending query serial reads_so s whole_so asks) e

  -- or where nothing was
  pub answer_at_once : (name request : List ℕ) (query : QueryAsked) (octets : List (List ℕ)) → reads request ≡ parsed.Query query → query.question.rtype.0 ≡ type_IXFR → start world (Transfer name request) ≡ Answers (Messages octets) → AnswerFor first lines world world name query octets
  answer_at_once name request query octets reads_so ixfr e =
      let a = transfer_answers lines first keep window top world n name request query (Messages octets) reads_so e in
      let s = served lines first keep window top world n name a.version a.has in
      let h = known_held lines first keep window top world n in
      let is_answer = answer_by (IsSent lines) first n.goes.tells.cell.published (updates_in n.goes.us) n.goes.tells.replays octets_sent is a.version s.within s.zone world.entries world.words (none_got a.owner a.version request) query octets refl reads_so ixfr (λ serial asks whole_not. a.untold serial asks) (λ whole_so. absurd (let wrong = whole_so in cc)) a.gives in
      record { held = h.0; version = a.version; has = a.has; answer = subst (λ u. AnswerIxfr first u world.entries world.words a.version query octets) (sym h.1) is_answer }

  -- a call in one line
  all_answers : (call : Call) (came : Progress × Zones) (given : Answer) (after : World) → all_made world call came ≡ (Answered given, after) → (end : End) × (came.0 ≡ Done end) × (answer_at end ≡ given) × (came.1 ≡ after.words)
  all_answers call (On at, words) given after e = absurd (let wrong : NotEnabled ≡ Answered given = ap (λ (p : WorldReply × World). p.0) e in cc)
  all_answers call (Done end, words) given after e = (end, refl, (let f : Answered (answer_at end) ≡ Answered given = ap (λ (p : WorldReply × World). p.0) e in cc), ap (λ (p : WorldReply × World). p.1.words) e)

  takes_answers : (name request : List ℕ) (query : QueryAsked) (octets : List (List ℕ)) (at : Phase) (after : World) → reads request ≡ parsed.Query query → query.question.rtype.0 ≡ type_IXFR → start world (Transfer name request) ≡ Takes at
      → all_made world (Transfer name request) (steps_up_to most_steps world.words at) ≡ (Answered (Messages octets), after) → AnswerFor first lines world after name query octets
  takes_answers name request query octets at after reads_so ixfr how e =
      let b = transfer_begins lines first keep window top world n name request query at is octets_sent reads_so how in
      let ups = updates_in n.goes.us in
      let came = steps_up_to most_steps world.words at in
      let s = many_sends first ups world.entries b.version request most_steps (script (IsSentAt lines) top) n.goes.us world.words at refl n.goes.tells b.sends in
      let a = all_answers (Transfer name request) came (Messages octets) after e in
      let ended : SendsAt first ups came.1 world.entries b.version request (Done a.0) = subst (SendsAt first ups came.1 world.entries b.version request) a.1 s in
      let sent = end_sends first ups came.1 world.entries b.version request a.0 (Messages octets) a.2 ended in
      let h = known_held lines first keep window top world n in
      record {
        held = h.0;
        version = b.version;
        has = b.has;
        answer = subst (λ w. AnswerIxfr first h.0.replayed.updates world.entries w b.version query octets) a.3
            (subst (λ u. AnswerIxfr first u world.entries came.1 b.version query octets) (sym h.1) (answer_sent world.entries came.1 b.version request sent.0 query octets reads_so ixfr sent.1 sent.2));
      }

  whole_answers : (name request : List ℕ) (query : QueryAsked) (octets : List (List ℕ)) (how : Start) (after : World) → reads request ≡ parsed.Query query → query.question.rtype.0 ≡ type_IXFR → start world (Transfer name request) ≡ how
      → whole world (Transfer name request) how ≡ Some (Answered (Messages octets), after) → AnswerFor first lines world after name query octets
  whole_answers name request query octets Refused after reads_so ixfr how e =
      let pair : (NotEnabled, world) ≡ (Answered (Messages octets), after) = (let f = e in cc) in
      absurd (let wrong : NotEnabled ≡ Answered (Messages octets) = ap (λ (p : WorldReply × World). p.0) pair in cc)
  whole_answers name request query octets (Answers given) after reads_so ixfr how e =
      let pair = unless_full (is_full world) (Answered given, world) (Answered (Messages octets), after) e in
      let same : given ≡ Messages octets = (let g : Answered given ≡ Answered (Messages octets) = ap (λ (p : WorldReply × World). p.0) pair in cc) in
      let there : world ≡ after = ap (λ (p : WorldReply × World). p.1) pair in
      subst (λ w. AnswerFor first lines world w name query octets) there (answer_at_once name request query octets reads_so ixfr (how ∙ ap Answers same))
  whole_answers name request query octets (Takes at) after reads_so ixfr how e =
      takes_answers name request query octets at after reads_so ixfr how (unless_full (is_full world) (all_made world (Transfer name request) (steps_up_to most_steps world.words at)) (Answered (Messages octets), after) e)

  pub answer_in_line : (name request : List ℕ) (query : QueryAsked) (octets : List (List ℕ)) (after : World) → reads request ≡ parsed.Query query → query.question.rtype.0 ≡ type_IXFR
      → turn world (Whole (Transfer name request)) ≡ Some (Answered (Messages octets), after) → AnswerFor first lines world after name query octets
  answer_in_line name request query octets after reads_so ixfr e = whole_answers name request query octets (start world (Transfer name request)) after reads_so ixfr refl e

-- a call that is put under way
record IsBegun (world : World) (begun : List ℕ) (call : Call) (after : World) : Type 0 where
  at : Phase
  how : start world call ≡ Takes at
  there : call_of begun after.calls ≡ Some (record { name = begun; phase = at })

begun_if : (world : World) (begun : List ℕ) (call : Call) (after : World) (how : Start) → start world call ≡ how → call_of begun world.calls ≡ None → begin_call world begun call how ≡ Some (Begun, after) → IsBegun world begun call after
begun_if world begun call after Refused how none e =
    let pair : (NotEnabled, world) ≡ (Begun, after) = (let f = e in cc) in
    absurd (let wrong : NotEnabled ≡ Begun = ap (λ (p : WorldReply × World). p.0) pair in cc)
begun_if world begun call after (Answers given) how none e =
    let pair = unless_full (is_full world) (Answered given, world) (Begun, after) e in
    absurd (let wrong : Answered given ≡ Begun = ap (λ (p : WorldReply × World). p.0) pair in cc)
begun_if world begun call after (Takes at) how none e =
    let behind : World = record world { names = given_up call world.names; weak_names = weak_given_up call world.weak_names; calls = world.calls ++ record { name = begun; phase = at } ∷ [] } in
    let pair = unless_full (is_full world) (Begun, behind) (Begun, after) e in
    let calls : world.calls ++ record { name = begun; phase = at } ∷ [] ≡ after.calls = ap (λ (p : WorldReply × World). p.1.calls) pair in
    record { at = at; how = how; there = ap (call_of begun) (sym calls) ∙ found_new begun world.calls at none }

begun_under : (world : World) (begun : List ℕ) (call : Call) (after : World) (o : Option UnderWay) → call_of begun world.calls ≡ o → begin_under world begun call o ≡ Some (Begun, after) → IsBegun world begun call after
begun_under world begun call after None none e = begun_if world begun call after (start world call) refl none e
begun_under world begun call after (Some other) used e =
    let pair : (NotEnabled, world) ≡ (Begun, after) = (let f = e in cc) in
    absurd (let wrong : NotEnabled ≡ Begun = ap (λ (p : WorldReply × World). p.0) pair in cc)

-- a call that takes its last step
record IsEnded (world : World) (begun : List ℕ) (call : UnderWay) (given : Answer) (after : World) : Type 0 where
  end : End
  words : Zones
  steps : step_once world.words call.phase ≡ Some (Done end, words)
  gives : answer_at end ≡ given
  behind : words ≡ after.words

ended_by : (world : World) (begun : List ℕ) (call : UnderWay) (step : StepName) (given : Answer) (after : World) (o : Option (Progress × Zones)) → step_once world.words call.phase ≡ o → stepped world begun call.phase o ≡ (Last step given, after) → IsEnded world begun call given after
ended_by world begun call step given after None is e = absurd (let wrong : NotEnabled ≡ Last step given = ap (λ (p : WorldReply × World). p.0) e in cc)
ended_by world begun call step given after (Some (On further, words)) is e = absurd (let f = ap (λ (p : WorldReply × World). p.0) e in let wrong = f in cc)
ended_by world begun call step given after (Some (Done end, words)) is e = record { end = end; words = words; steps = is; gives = (let f = ap (λ (p : WorldReply × World). p.0) e in cc); behind = ap (λ (p : WorldReply × World). p.1.words) e }

module _ (lines : List Line) (replies : List WorldReply) (first : Zone) (keep window place : ℕ) (begun name request : List ℕ) (query : QueryAsked) (is : IsZone first) (octets_sent : AreOctets lines) (reads_so : reads request ≡ parsed.Query query)
    (line_is : slice_get lines place ≡ Some (Begin begun (Transfer name request))) (open_so : IsOpen lines replies place (length lines) begun) where
  -- the call that the line began is under way, and has got so far what it asks for
  record Under (top : ℕ) (world : World) (n : Now lines first keep window top world) : Type 0 where
    earlier : List WorldReply
    before : World
    reached : play (started first keep window) (take place lines) ≡ Some (earlier, before)
    version : Numbered
    has : version_of name before ≡ Some version
    call : UnderWay
    there : call_of begun world.calls ≡ Some call
    sends : SendsIn first (updates_in n.goes.us) world.words before.entries version request call.phase

  abbrev Track : (top : ℕ) (world : World) → Now lines first keep window top world → Type 0
  Track top world n = place < top → Under top world n

  -- at its line
  begins_under : (top : ℕ) (world : World) (line : Line) (given : WorldReply) (after : World) → place ≡ top → slice_get lines top ≡ Some line → slice_get replies top ≡ Some given → turn world line ≡ Some (given, after) → (n : Now lines first keep window top world)
      → (a : After lines first keep window top (updates_in n.goes.us) world.words after) → Under (top + 1) after a.now
  begins_under top world line given after at here told_so e n a =
      let line_so : line ≡ Begin begun (Transfer name request) = (let f : Some line ≡ Some (Begin begun (Transfer name request)) = sym here ∙ (ap (slice_get lines) (sym at) ∙ line_is) in cc) in
      let given_so : given ≡ Begun = (let f : Some given ≡ Some Begun = sym told_so ∙ (ap (slice_get replies) (sym at) ∙ open_so.reply) in cc) in
      let t : turn world (Begin begun (Transfer name request)) ≡ Some (Begun, after) = ap (turn world) (sym line_so) ∙ (e ∙ ap (λ g. Some (g, after)) given_so) in
      let b = begun_under world begun (Transfer name request) after (call_of begun world.calls) refl t in
      let s = transfer_begins lines first keep window top world n name request query b.at is octets_sent reads_so b.how in
      record {
        earlier = n.earlier;
        before = world;
        reached = ap (λ k. play (started first keep window) (take k lines)) at ∙ n.reached;
        version = s.version;
        has = s.has;
        call = record { name = begun; phase = b.at };
        there = b.there;
        sends = subst (λ u. SendsIn first u after.words world.entries s.version request b.at) (sym a.grown) (sends_on first (updates_in n.goes.us) world.entries s.version request world.words after.words a.more b.at a.further s.sends);
      }

  -- at a further one
  goes_under : (top : ℕ) (world : World) (line : Line) (given : WorldReply) (after : World) → place < top → slice_get lines top ≡ Some line → slice_get replies top ≡ Some given → turn world line ≡ Some (given, after) → (n : Now lines first keep window top world)
      → (a : After lines first keep window top (updates_in n.goes.us) world.words after) → Under top world n → Under (top + 1) after a.now
  goes_under top world line given after behind_it here told_so e n a u =
      elim (fate lines replies top world line given after begun u.call e (here, told_so) u.there) [
        | inl stays ↦ record {
          earlier = u.earlier;
          before = u.before;
          reached = u.reached;
          version = u.version;
          has = u.has;
          call = u.call;
          there = stays.0;
          sends = subst (λ us. SendsIn first us after.words u.before.entries u.version request u.call.phase) (sym a.grown) (sends_on first (updates_in n.goes.us) u.before.entries u.version request world.words after.words a.more u.call.phase a.further u.sends);
        }
        | inr goes ↦ elim goes [
          | inl steps ↦ (
              let once = once_sends first (updates_in n.goes.us) u.before.entries u.version request (script (IsSentAt lines) top) n.goes.us world.words steps.1 u.call.phase (On steps.0) steps.2 refl n.goes.tells u.sends in
              record {
                earlier = u.earlier;
                before = u.before;
                reached = u.reached;
                version = u.version;
                has = u.has;
                call = record { name = begun; phase = steps.0 };
                there = steps.3;
                sends = subst (λ us. SendsIn first us after.words u.before.entries u.version request steps.0) (sym a.grown)
                    (subst (λ w. SendsIn first (updates_in n.goes.us ++ a.more) w u.before.entries u.version request steps.0) (sym steps.5) (sends_on first (updates_in n.goes.us) u.before.entries u.version request steps.1 steps.1 a.more steps.0 (further_none steps.1) once.sends));
              }
              )
          | inr ends ↦ absurd (open_so.unended top (answer_at ends.0) behind_it (slice_get_within lines top line here) ends.4)
        ]
      ]

  on : (top : ℕ) (world : World) (line : Line) (given : WorldReply) (after : World) → slice_get lines top ≡ Some line → slice_get replies top ≡ Some given → turn world line ≡ Some (given, after) → (n : Now lines first keep window top world)
      → (a : After lines first keep window top (updates_in n.goes.us) world.words after) → Track top world n → Track (top + 1) after a.now
  on top world line given after here told_so e n a so less =
      elim (eqb_tells place top) [
        | inl same ↦ begins_under top world line given after same.1 here told_so e n a
        | inr apart ↦ (let l : place < top = (let other = apart.1 in omega (arith, less, other)) in goes_under top world line given after l here told_so e n a (so l))
      ]

  pub answer_in_steps : (world after : World) (step : StepName) (octets : List (List ℕ)) → play (started first keep window) lines ≡ Some (replies, world) → query.question.rtype.0 ≡ type_IXFR → turn world (Next begun) ≡ Some (Last step (Messages octets), after) → AnswerSince first keep window lines world after place name query octets
  answer_in_steps world after step octets played ixfr e =
      let b = play_on lines replies first keep window Track on lines 0 (at_all lines) (started first keep window) (started_now lines first keep window) replies world (at_all replies) (λ less. absurd (omega (arith, less))) played in
      let top = 0 + length lines in
      let within = slice_get_within lines place (Begin begun (Transfer name request)) line_is in
      let u = b.is (omega (arith, within)) in
      let n = b.now in
      let t : next world begun (call_of begun world.calls) ≡ (Last step (Messages octets), after) = (let f = e in cc) in
      let ended = ended_by world begun u.call step (Messages octets) after (step_once world.words u.call.phase) refl (ap (next world begun) (sym u.there) ∙ t) in
      let once = once_sends first (updates_in n.goes.us) u.before.entries u.version request (script (IsSentAt lines) top) n.goes.us world.words ended.words u.call.phase (Done ended.end) ended.steps refl n.goes.tells u.sends in
      let sent = end_sends first (updates_in n.goes.us) ended.words u.before.entries u.version request ended.end (Messages octets) ended.gives once.sends in
      let r = known_replayed lines first keep window top world n in
      record {
        replayed = r.0;
        earlier = u.earlier;
        before = u.before;
        reached = u.reached;
        version = u.version;
        has = u.has;
        answer = subst (λ w. AnswerIxfr first r.0.updates u.before.entries w u.version query octets) ended.behind
            (subst (λ us. AnswerIxfr first us u.before.entries ended.words u.version query octets) (sym r.1) (answer_sent lines first keep window top world n is octets_sent u.before.entries ended.words u.version request sent.0 query octets reads_so ixfr sent.1 sent.2));
      }
