-- How a transfer begins that upgrades entries: with those behind the entry of the serial that is told, whose numbers are in turn.
use Rattle.std.proofs.Common.{◌≡◌, ◌≢◌, refl, sym, ap, ◌∙◌, subst, ℕ, zero, suc, ◌+◌, ◌-◌, ◌<◌, ◌≤◌, Bool, true, false, inl, inr, List, [], ◌∷◌, ◌++◌, length, arith, Option, Some, None}
use Rattle.std.specs.Prelude.{◌==◌, ◌&&◌, filter, is_some, not, nat_le, if◌then◌else◌}
use Rattle.std.specs.List.{slice_get}
use Rattle.std.specs.Option.{option_and_then}
use Rattle.std.proofs.lemmas.Bool.Decides.{eqb_tells, leb_tells}
use Rattle.std.proofs.lemmas.List.{append-nil, length-map, map-append}
use Rattle.std.proofs.lemmas.Option.{slice_get_within}
use Rattle.cell_core.proofs.OwnerLemmas.{Keeps as KeepsNumber}
use Rattle.cell_core.specs.Words.{State, found_by, grants, owned_of}
use Rattle.cell_core.specs.declared.words.Owner.{Owner}
use Rattle.cell_core.specs.declared.words.Owner.TheVariants.{Weakly}
use Rattle.dns_message.specs.Request.{reads}
use Rattle.dns_message.specs.declared.query.Parsed.TheVariants as parsed
use Rattle.dns_message.specs.declared.query.Query.{Query as QueryAsked}
use Rattle.dns_message.specs.declared.update.Update.{Update as DynamicUpdate}
use Rattle.dns_rdata.specs.declared.numbers.Serial.{Serial}
use Rattle.serve_core.specs.declared.transport.Transport.TheVariants.{Tcp}
use Rattle.serve_core.specs.Transfers.{peer_over, is_permitted}
use Rattle.transfer_core.specs.Lists.{AreVersions}
use Rattle.transfer_core.specs.Window.{fits, serials_of}
use Rattle.world_run.specs.Entries.{serials_in, owners_in, behind, later}
use Rattle.world_run.specs.World.{World, owner_of, version_of, is_barred, none_got, seek_start, transfer_asked, transfer_said, transfer_of, transfer_start, start}
use Rattle.world_run.specs.declared.entries.Entry.{Entry}
use Rattle.world_run.specs.declared.phase.Phase.{Phase}
use Rattle.world_run.specs.declared.phase.Phase.TheVariants as phase
use Rattle.world_run.specs.declared.sending.Sending.{Sending}
use Rattle.world_run.specs.declared.start.Start.{Start}
use Rattle.world_run.specs.declared.start.Start.TheVariants.{Refused, Answers, Takes}
use Rattle.world_run.specs.declared.step.Answer.{Answer}
use Rattle.world_run.specs.declared.step.Call.TheVariants.{Transfer}
use Rattle.world_run.specs.declared.step.WorldStep.{WorldStep as Line}
use Rattle.world_run.specs.Transfers.{sent_answer}
use Rattle.zone_tree.specs.Version.{Version as Numbered, zone_serial}
use Rattle.zone_tree.specs.Zone.{IsZone}
use Rattle.world_laws.specs.Held.{HoldVersions}
use Rattle.world_laws.specs.Leads.{AreOctets, IsUntold, zones_behind}
use Rattle.world_laws.specs.Replays.{IsSent, IsSentAt}
use Rattle.world_laws.proofs.CallReplays.{script, updates_in}
use Rattle.world_laws.proofs.ChainLists.{Zone, are_versions, fits_less, fits_front}
use Rattle.world_laws.proofs.UseLemmas.{AllFit}
use Rattle.world_laws.proofs.UseLists.{window_uses}
use Rattle.world_laws.proofs.LeadLemmas.{zone_at, chain_from}
use Rattle.world_laws.proofs.OtherCalls.{unbarred}
use Rattle.world_laws.proofs.SendSteps.{AreNumbered, SendsIn, behind_count}
use Rattle.world_laws.proofs.WindowPlay.{Now, known_held}
use Rattle.world_laws.proofs.WindowSerials.{AreSerials, window_fits, window_numbers}

-- a zone behind one, by its place
pub behind_at : (first : Zone) (ups : List DynamicUpdate) (k n j : ℕ) (zone : Zone) → slice_get (zones_behind first ups k n) j ≡ Some zone → zone ≡ zone_at first ups (k + 1 + j)
behind_at first ups k zero j zone e = absurd (let wrong = e in cc)
behind_at first ups k (suc n) zero zone e = (let same : zone_at first ups (k + 1) ≡ zone = (let f = e in cc) in let at : k + 1 ≡ k + 1 + 0 = omega arith in sym same ∙ ap (zone_at first ups) at)
behind_at first ups k (suc n) (suc j) zone e = (let at : k + 1 + 1 + j ≡ k + 1 + suc j = omega arith in behind_at first ups (k + 1) n j zone e ∙ ap (zone_at first ups) at)

-- the entries that are numbered up to a number
abbrev up_to : ℕ → List Entry → List Entry
up_to number entries = filter (λ (entry : Entry). nat_le entry.number number) entries

up_to_kept : (number : ℕ) (x : Entry) (entries : List Entry) → nat_le x.number number ≡ true → up_to number (x ∷ entries) ≡ x ∷ up_to number entries
up_to_kept number x entries e = rw e refl

up_to_gone : (number : ℕ) (x : Entry) (entries : List Entry) → nat_le x.number number ≡ false → up_to number (x ∷ entries) ≡ up_to number entries
up_to_gone number x entries e = rw e refl

none_up : (owners : List Owner) (total number : ℕ) (entries : List Entry) → AllFit owners (window_uses total entries) → number + length entries < total → up_to number entries ≡ []
none_up owners total number [] fit less = refl
none_up owners total number (x ∷ entries) fit less =
    let is = fit.0.0 in
    elim (leb_tells x.number number) [
      | inl within ↦ absurd (let l = within.1 in omega (arith, l, is, less))
      | inr over ↦ up_to_gone number x entries over.0 ∙ none_up owners total number entries fit.1 (omega (arith, less))
    ]

-- a weak owner of a number has no other
weakly_keeps : (owners : List Owner) (owner number place : ℕ) → slice_get owners owner ≡ Some (Weakly number place) → KeepsNumber owners owner number
weakly_keeps owners owner number place at = record {
  there = slice_get_within owners owner (Weakly number place) at;
  same = λ other p e. (
      let pair : (number, place) ≡ (other, p) = (let f : Some (number, place) ≡ Some (other, p) = sym (ap (option_and_then owned_of) at) ∙ e in cc) in
      sym (ap (λ (x : ℕ × ℕ). x.0) pair)
      );
}

-- the entries behind the one of a number, up to another number
record UpTo (owners : List Owner) (first : Zone) (ups : List DynamicUpdate) (asker number : ℕ) (entries : List Entry) : Type 0 where
  front : List Entry
  back : List Entry
  is : up_to number entries ≡ front
  split : entries ≡ front ++ back
  numbered : AreNumbered owners (asker + 1) (owners_in front)
  count : asker + length front ≡ number
  serials : serials_in front ≡ serials_of (zones_behind first ups asker (length front))

all_up : (owners : List Owner) (first : Zone) (ups : List DynamicUpdate) (total asker number : ℕ) (entries : List Entry) → AllFit owners (window_uses total entries) → AreSerials first ups entries → asker + 1 + length entries ≡ total → number + 1 ≤ total → asker ≤ number → UpTo owners first ups asker number entries
all_up owners first ups total asker number [] fit serials count within before = record { front = []; back = []; is = refl; split = refl; numbered = tt; count = omega (arith, count, within, before); serials = refl }
all_up owners first ups total asker number (x ∷ entries) fit serials count within before =
    let said = fit.0.0 in
    let at : x.number ≡ asker + 1 = omega (arith, said, count) in
    elim (leb_tells x.number number) [
      | inl under ↦ (
          let l = under.1 in
          let more = all_up owners first ups total (asker + 1) number entries fit.1 serials.1 (omega (arith, count)) within (omega (arith, l, at)) in
          let n = more.count in
          record {
            front = x ∷ more.front;
            back = more.back;
            is = up_to_kept number x entries under.0 ∙ ap (λ es. x ∷ es) more.is;
            split = ap (λ es. x ∷ es) more.split;
            numbered = (subst (KeepsNumber owners x.owner) at (weakly_keeps owners x.owner x.number fit.0.1 fit.0.2), more.numbered);
            count = omega (arith, n);
            serials = ap (λ s. s ∷ serials_in more.front) (serials.0.1 ∙ ap (λ k. zone_serial (zone_at first ups k)) at) ∙ ap (λ ss. zone_serial (zone_at first ups (asker + 1)) ∷ ss) more.serials;
          }
          )
      | inr over ↦ (
          let l = over.1 in
          record {
            front = [];
            back = x ∷ entries;
            is = none_up owners total number (x ∷ entries) fit (omega (arith, l, said));
            split = refl;
            numbered = tt;
            count = omega (arith, l, at, before);
            serials = refl;
          }
          )
    ]

-- what is behind the entry of a serial
record Found (owners : List Owner) (first : Zone) (ups : List DynamicUpdate) (size number serial : ℕ) (all : List Entry) (os : List ℕ) : Type 0 where
  asker : ℕ
  place : ℕ
  entry : Entry
  entry_at : slice_get all place ≡ Some entry
  entry_is : entry.number ≡ asker
  entry_serial : entry.serial.0 ≡ serial
  serial_is : zone_serial (zone_at first ups asker) ≡ serial
  numbered : AreNumbered owners (asker + 1) os
  count : asker + length os ≡ number
  fit : fits size (serials_of (zone_at first ups asker ∷ zones_behind first ups asker (length os))) ≡ true

found_met : (owners : List Owner) (first : Zone) (ups : List DynamicUpdate) (size total number serial : ℕ) (x : Entry) (entries : List Entry) (os : List ℕ) → AllFit owners (window_uses total (x ∷ entries)) → AreSerials first ups (x ∷ entries) → number + 1 ≤ total → x.number ≤ number → fits size (serials_in (x ∷ entries)) ≡ true → x.serial.0 ≡ serial
    → owners_in (up_to number entries) ≡ os → Found owners first ups size number serial (x ∷ entries) os
found_met owners first ups size total number serial x entries os fit serials within under short same is =
    let said = fit.0.0 in
    let u = all_up owners first ups total x.number number entries fit.1 serials.1 (omega (arith, said)) within under in
    let all : owners_in u.front ≡ os = ap owners_in (sym u.is) ∙ is in
    let n : length (owners_in u.front) ≡ length u.front = length-map u.front (λ (e : Entry). e.owner) in
    let m : length (owners_in u.front) ≡ length os = ap length all in
    let k : length u.front ≡ length os = omega (arith, n, m) in
    let count = u.count in
    let parts : serials_in (x ∷ entries) ≡ serials_in (x ∷ u.front) ++ serials_in u.back = ap (λ es. serials_in (x ∷ es)) u.split ∙ map-append (λ (e : Entry). e.serial.0) (x ∷ u.front) u.back in
    let front : fits size (serials_in (x ∷ u.front)) ≡ true = fits_front size (serials_in (x ∷ u.front)) (serials_in u.back) (ap (fits size) (sym parts) ∙ short) in
    let serials_are : serials_in (x ∷ u.front) ≡ serials_of (zone_at first ups x.number ∷ zones_behind first ups x.number (length u.front)) = ap (λ s. s ∷ serials_in u.front) serials.0.1 ∙ ap (λ ss. zone_serial (zone_at first ups x.number) ∷ ss) u.serials in
    record {
      asker = x.number;
      place = 0;
      entry = x;
      entry_at = refl;
      entry_is = refl;
      entry_serial = same;
      serial_is = sym serials.0.1 ∙ same;
      numbered = subst (AreNumbered owners (x.number + 1)) all u.numbered;
      count = omega (arith, count, k);
      fit = ap (λ j. fits size (serials_of (zone_at first ups x.number ∷ zones_behind first ups x.number j))) (sym k) ∙ (ap (fits size) (sym serials_are) ∙ front);
    }

met_here : (serial : ℕ) (x : Entry) (entries : List Entry) → (x.serial.0 == serial) ≡ true → behind serial (x ∷ entries) ≡ owners_in entries
met_here serial x entries e = rw e refl

missed_here : (serial : ℕ) (x : Entry) (entries : List Entry) → (x.serial.0 == serial) ≡ false → behind serial (x ∷ entries) ≡ behind serial entries
missed_here serial x entries e = rw e refl

found_further : (owners : List Owner) (first : Zone) (ups : List DynamicUpdate) (size number serial : ℕ) (x : Entry) (entries : List Entry) (os : List ℕ) → Found owners first ups size number serial entries os → Found owners first ups size number serial (x ∷ entries) os
found_further owners first ups size number serial x entries os f = record {
  asker = f.asker;
  place = suc f.place;
  entry = f.entry;
  entry_at = f.entry_at;
  entry_is = f.entry_is;
  entry_serial = f.entry_serial;
  serial_is = f.serial_is;
  numbered = f.numbered;
  count = f.count;
  fit = f.fit;
}

found_entries : (owners : List Owner) (first : Zone) (ups : List DynamicUpdate) (size total number serial : ℕ) (entries : List Entry) (owner : ℕ) (left : List ℕ) → AllFit owners (window_uses total entries) → AreSerials first ups entries → number + 1 ≤ total → fits size (serials_in entries) ≡ true
    → behind serial (up_to number entries) ≡ owner ∷ left → Found owners first ups size number serial entries (owner ∷ left)
found_entries owners first ups size total number serial [] owner left fit serials within short e = absurd (let wrong = e in cc)
found_entries owners first ups size total number serial (x ∷ entries) owner left fit serials within short e =
    let rest = λ (none : behind serial (up_to number entries) ≡ owner ∷ left). found_further owners first ups size number serial x entries (owner ∷ left) (found_entries owners first ups size total number serial entries owner left fit.1 serials.1 within (fits_less size x.serial.0 (serials_in entries) short) none) in
    elim (leb_tells x.number number) [
      | inl under ↦ (
          let here : behind serial (x ∷ up_to number entries) ≡ owner ∷ left = ap (behind serial) (sym (up_to_kept number x entries under.0)) ∙ e in
          elim (eqb_tells x.serial.0 serial) [
            | inl same ↦ found_met owners first ups size total number serial x entries (owner ∷ left) fit serials within under.1 short same.1 (sym (met_here serial x (up_to number entries) same.0) ∙ here)
            | inr other ↦ rest (sym (missed_here serial x (up_to number entries) other.0) ∙ here)
          ]
          )
      | inr over ↦ rest (ap (behind serial) (sym (up_to_gone number x entries over.0)) ∙ e)
    ]

-- where none is to be upgraded, no entry of a version in front of the number has the serial
none_there : (owners : List Owner) (first : Zone) (ups : List DynamicUpdate) (total number : ℕ) (x : Entry) (entries : List Entry) → AllFit owners (window_uses total (x ∷ entries)) → AreSerials first ups (x ∷ entries) → number + 1 ≤ total → x.number ≤ number → owners_in (up_to number entries) ≡ [] → x.number ≡ number
none_there owners first ups total number x entries fit serials within under none =
    let said = fit.0.0 in
    let u = all_up owners first ups total x.number number entries fit.1 serials.1 (omega (arith, said)) within under in
    let all : owners_in u.front ≡ [] = ap owners_in (sym u.is) ∙ none in
    let n : length (owners_in u.front) ≡ length u.front = length-map u.front (λ (e : Entry). e.owner) in
    let m : length (owners_in u.front) ≡ 0 = ap length all in
    let count = u.count in
    omega (arith, count, n, m)

none_before : (owners : List Owner) (first : Zone) (ups : List DynamicUpdate) (total number serial : ℕ) (entries : List Entry) (place : ℕ) (entry : Entry) → AllFit owners (window_uses total entries) → AreSerials first ups entries → number + 1 ≤ total → behind serial (up_to number entries) ≡ []
    → slice_get entries place ≡ Some entry → entry.number < number → entry.serial.0 ≢ serial
none_before owners first ups total number serial [] place entry fit serials within none at less same = let wrong = at in cc
none_before owners first ups total number serial (x ∷ entries) zero entry fit serials within none at less same =
    let is : x ≡ entry = (let f = at in cc) in
    let l : x.number < number = subst (λ (e : Entry). e.number < number) (sym is) less in
    elim (leb_tells x.number number) [
      | inl under ↦ (
          let here : behind serial (x ∷ up_to number entries) ≡ [] = ap (behind serial) (sym (up_to_kept number x entries under.0)) ∙ none in
          elim (eqb_tells x.serial.0 serial) [
            | inl met ↦ (let n = none_there owners first ups total number x entries fit serials within under.1 (sym (met_here serial x (up_to number entries) met.0) ∙ here) in omega (arith, n, l))
            | inr other ↦ other.1 (ap (λ (e : Entry). e.serial.0) is ∙ same)
          ]
          )
      | inr over ↦ (let o = over.1 in omega (arith, o, l))
    ]
none_before owners first ups total number serial (x ∷ entries) (suc place) entry fit serials within none at less same =
    elim (leb_tells x.number number) [
      | inl under ↦ (
          let here : behind serial (x ∷ up_to number entries) ≡ [] = ap (behind serial) (sym (up_to_kept number x entries under.0)) ∙ none in
          elim (eqb_tells x.serial.0 serial) [
            | inl met ↦ (
                let n = none_there owners first ups total number x entries fit serials within under.1 (sym (met_here serial x (up_to number entries) met.0) ∙ here) in
                let said = fit.0.0 in
                let later_one = window_numbers owners total entries place entry fit.1 at in
                omega (arith, n, said, later_one, less)
                )
            | inr other ↦ none_before owners first ups total number serial entries place entry fit.1 serials.1 within (sym (missed_here serial x (up_to number entries) other.0) ∙ here) at less same
          ]
          )
      | inr over ↦ none_before owners first ups total number serial entries place entry fit.1 serials.1 within (ap (behind serial) (sym (up_to_gone number x entries over.0)) ∙ none) at less same
    ]

-- what takes steps has entries to upgrade
record SeekIs (sending : Sending) (owners : List ℕ) (at : Phase) : Type 0 where
  owner : ℕ
  left : List ℕ
  owners_are : owners ≡ owner ∷ left
  is : phase.Seek owner (record { sending = sending; left = left; owners = [] }) ≡ at

seek_takes : (words : State Numbered) (sending : Sending) (owners : List ℕ) (at : Phase) → seek_start words sending owners ≡ Takes at → SeekIs sending owners at
seek_takes words sending [] at e = absurd (let wrong = e in cc)
seek_takes words sending (owner ∷ left) at e = by (nat_le (words.granted + length (owner ∷ left)) grants) e
  where
    by : (test : Bool) → (if test then Takes (phase.Seek owner (record { sending = sending; left = left; owners = [] })) else Refused) ≡ Takes at → SeekIs sending (owner ∷ left) at
    by true f = record { owner = owner; left = left; owners_are = refl; is = (let g = f in cc) }
    by false f = absurd (let wrong = f in cc)

asked_takes : (permitted barred : Bool) (how : Start) (at : Phase) → (if not permitted then Refused else if barred then Refused else how) ≡ Takes at → (barred ≡ false) × (how ≡ Takes at)
asked_takes true false how at e = (refl, e)
asked_takes true true how at e = absurd (let wrong = e in cc)
asked_takes false barred how at e = absurd (let wrong = e in cc)

-- it is answered at once where no entry is to be upgraded
seek_answers : (words : State Numbered) (sending : Sending) (owners : List ℕ) (given : Answer) → seek_start words sending owners ≡ Answers given → (owners ≡ []) × (sent_answer sending ≡ given)
seek_answers words sending [] given e = (refl, (let f = e in cc))
seek_answers words sending (owner ∷ left) given e = by (nat_le (words.granted + length (owner ∷ left)) grants) e
  where
    by : (test : Bool) → (if test then Takes (phase.Seek owner (record { sending = sending; left = left; owners = [] })) else Refused) ≡ Answers given → (owner ∷ left ≡ []) × (sent_answer sending ≡ given)
    by true f = absurd (let wrong = f in cc)
    by false f = absurd (let wrong = f in cc)

asked_answers : (permitted barred : Bool) (how : Start) (given : Answer) → (if not permitted then Refused else if barred then Refused else how) ≡ Answers given → (barred ≡ false) × (how ≡ Answers given)
asked_answers true false how given e = (refl, e)
asked_answers true true how given e = absurd (let wrong = e in cc)
asked_answers false barred how given e = absurd (let wrong = e in cc)

module _ (lines : List Line) (first : Zone) (keep window top : ℕ) (world : World) (n : Now lines first keep window top world) where
  abbrev Ups : List DynamicUpdate
  Ups = updates_in n.goes.us

  -- the version of a name is one that was published
  pub record Served (version : Numbered) : Type 0 where
    pub within : version.number ≤ length (updates_in n.goes.us)
    pub zone : version.zone ≡ zone_at first (updates_in n.goes.us) version.number

  served_by : (held : HoldVersions first lines world) (name : List ℕ) (version : Numbered) (o : Option ℕ) → held.replayed.updates ≡ updates_in n.goes.us → owner_of name world.names ≡ o → version_of name world ≡ Some version → Served version
  served_by held name version None us e has = absurd (let none : version_of name world ≡ None = ap (option_and_then (found_by world.words)) e in let wrong : None ≡ Some version = sym none ∙ has in cc)
  served_by held name version (Some owner) us e has =
      let it = held.names name owner e in
      let same : it.version ≡ version = (let f : Some it.version ≡ Some version = sym it.has ∙ has in cc) in
      let there : slice_get held.replayed.reached.cell.published it.number ≡ Some version = it.published_so ∙ ap Some same in
      let is = held.replayed.replays.versions it.number version there in
      let less = slice_get_within held.replayed.reached.cell.published it.number version there in
      let count = held.replayed.replays.counted in
      let m : length held.replayed.updates ≡ length (updates_in n.goes.us) = ap length us in
      let number = is.0 in
      record {
        within = omega (arith, less, count, m, number);
        zone = is.1 ∙ (ap (zone_at first held.replayed.updates) (sym is.0) ∙ ap (λ u. zone_at first u version.number) us);
      }

  pub served : (name : List ℕ) (version : Numbered) → version_of name world ≡ Some version → Served version
  served name version has = (let h = known_held lines first keep window top world n in served_by h.0 name version (owner_of name world.names) h.1 refl has)

  -- where it takes steps
  pub record Begins (name request : List ℕ) (at : Phase) : Type 0 where
    pub version : Numbered
    pub has : version_of name world ≡ Some version
    pub sends : SendsIn first (updates_in n.goes.us) world.words world.entries version request at

  asked_begins : (name request : List ℕ) (owner : ℕ) (version : Numbered) (query : QueryAsked) (o : Option Serial) (at : Phase) → IsZone first → AreOctets lines → version_of name world ≡ Some version → reads request ≡ parsed.Query query → query.serial ≡ o → (is_some o && is_barred world.calls) ≡ false
      → SeekIs (none_got owner version request) (later version.number o world.entries) at → SendsIn first (updates_in n.goes.us) world.words world.entries version request at
  asked_begins name request owner version query None at is sent has reads_so asks barred seek = absurd (let wrong = seek.owners_are in cc)
  asked_begins name request owner version query (Some serial) at is sent has reads_so asks barred seek =
      let ups = updates_in n.goes.us in
      let s = served name version has in
      let l = s.within in
      let fit = window_fits (script (IsSentAt lines) top) first world n.goes n.all_in_use (unbarred world.calls barred) in
      let f = found_entries world.words.owners first ups world.window (length ups + 1) version.number serial.0 world.entries seek.owner seek.left fit n.serials.each (omega (arith, l)) n.serials.fit seek.owners_are in
      let count = f.count in
      let all : version.number - f.asker ≡ length (seek.owner ∷ seek.left) = omega (arith, count) in
      let zones = zones_behind first ups f.asker (length (seek.owner ∷ seek.left)) in
      let number = behind_count first ups f.asker (length (seek.owner ∷ seek.left)) in
      let chain = chain_from (IsSent lines) first n.goes.tells.cell.published ups n.goes.tells.replays sent is (zone_at first ups f.asker) zones f.asker refl (λ j zone e. behind_at first ups f.asker (length (seek.owner ∷ seek.left)) j zone e) (omega (arith, l, count, number)) in
      let versions : AreVersions (zone_at first ups f.asker) zones = are_versions world.window (zone_at first ups f.asker) zones chain f.fit in
      subst (SendsIn first ups world.words world.entries version request) seek.is (record {
        seen = ups;
        more = [];
        grown = sym (append-nil ups);
        asker = f.asker;
        asked = record {
          served = s.zone;
          within = s.within;
          query = query;
          reads_so = reads_so;
          serial = serial;
          asks = asks;
          before = omega (arith, count);
          place = f.place;
          entry = f.entry;
          entry_at = f.entry_at;
          entry_is = f.entry_is;
          entry_serial = f.entry_serial;
          serial_is = f.serial_is;
          versions = subst (λ m. AreVersions (zone_at first ups f.asker) (zones_behind first ups f.asker m)) (sym all) versions;
        };
        got = record { version_is = refl; request_is = refl; behind = tt; zones = refl };
        unfinished = refl;
        numbered = (let at : f.asker + 1 ≡ f.asker + 0 + 1 = omega arith in subst (λ m. AreNumbered world.words.owners m (seek.owner ∷ seek.left)) at f.numbered);
        count = omega (arith, count);
      })

  of_begins : (name request : List ℕ) (owner : ℕ) (o : Option Numbered) (query : QueryAsked) (at : Phase) → IsZone first → AreOctets lines → version_of name world ≡ o → reads request ≡ parsed.Query query → transfer_of world owner request o ≡ Takes at → Begins name request at
  of_begins name request owner None query at is sent has reads_so e = absurd (let wrong = e in cc)
  of_begins name request owner (Some version) query at is sent has reads_so e =
      let asked : transfer_asked world (none_got owner version request) query ≡ Takes at = ap (transfer_said world (none_got owner version request)) (sym reads_so) ∙ e in
      let a = asked_takes (is_permitted version.zone (peer_over Tcp true) query) (is_some query.serial && is_barred world.calls) (seek_start world.words (none_got owner version request) (later version.number query.serial world.entries)) at asked in
      record {
        version = version;
        has = has;
        sends = asked_begins name request owner version query query.serial at is sent has reads_so refl a.0 (seek_takes world.words (none_got owner version request) (later version.number query.serial world.entries) at a.1);
      }

  start_begins : (name request : List ℕ) (o : Option ℕ) (query : QueryAsked) (at : Phase) → IsZone first → AreOctets lines → owner_of name world.names ≡ o → reads request ≡ parsed.Query query → transfer_start world request o ≡ Takes at → Begins name request at
  start_begins name request None query at is sent e reads_so takes = absurd (let wrong = takes in cc)
  start_begins name request (Some owner) query at is sent e reads_so takes = of_begins name request owner (found_by world.words owner) query at is sent (ap (option_and_then (found_by world.words)) e) reads_so takes

  pub transfer_begins : (name request : List ℕ) (query : QueryAsked) (at : Phase) → IsZone first → AreOctets lines → reads request ≡ parsed.Query query → start world (Transfer name request) ≡ Takes at → Begins name request at
  transfer_begins name request query at is sent reads_so e = start_begins name request (owner_of name world.names) query at is sent refl reads_so e

  -- where it is answered at once, nothing was got, and no entry tells of the serial
  pub record AtOnce (name request : List ℕ) (query : QueryAsked) (given : Answer) : Type 0 where
    pub owner : ℕ
    pub version : Numbered
    pub has : version_of name world ≡ Some version
    pub gives : sent_answer (none_got owner version request) ≡ given
    pub untold : (serial : Serial) → query.serial ≡ Some serial → IsUntold world.entries world.words version serial

  untold_by : (version : Numbered) (o : Option Serial) (serial : Serial) → Served version → o ≡ Some serial → (is_some o && is_barred world.calls) ≡ false → later version.number o world.entries ≡ [] → IsUntold world.entries world.words version serial
  untold_by version None serial s e barred none = absurd (let wrong = e in cc)
  untold_by version (Some other) serial s e barred none =
      let ups = updates_in n.goes.us in
      let same : other ≡ serial = (let f = e in cc) in
      let l = s.within in
      let fit = window_fits (script (IsSentAt lines) top) first world n.goes n.all_in_use (unbarred world.calls barred) in
      inl (λ place entry at less is. none_before world.words.owners first ups (length ups + 1) version.number other.0 world.entries place entry fit n.serials.each (omega (arith, l)) none at less (is ∙ ap (λ (x : Serial). x.0) (sym same)))

  of_answers : (name request : List ℕ) (owner : ℕ) (o : Option Numbered) (query : QueryAsked) (given : Answer) → version_of name world ≡ o → reads request ≡ parsed.Query query → transfer_of world owner request o ≡ Answers given → AtOnce name request query given
  of_answers name request owner None query given has reads_so e = absurd (let wrong = e in cc)
  of_answers name request owner (Some version) query given has reads_so e =
      let asked : transfer_asked world (none_got owner version request) query ≡ Answers given = ap (transfer_said world (none_got owner version request)) (sym reads_so) ∙ e in
      let a = asked_answers (is_permitted version.zone (peer_over Tcp true) query) (is_some query.serial && is_barred world.calls) (seek_start world.words (none_got owner version request) (later version.number query.serial world.entries)) given asked in
      let g = seek_answers world.words (none_got owner version request) (later version.number query.serial world.entries) given a.1 in
      record { owner = owner; version = version; has = has; gives = g.1; untold = λ serial asks. untold_by version query.serial serial (served name version has) asks a.0 g.0 }

  start_answers : (name request : List ℕ) (o : Option ℕ) (query : QueryAsked) (given : Answer) → owner_of name world.names ≡ o → reads request ≡ parsed.Query query → transfer_start world request o ≡ Answers given → AtOnce name request query given
  start_answers name request None query given e reads_so answers = absurd (let wrong = answers in cc)
  start_answers name request (Some owner) query given e reads_so answers = of_answers name request owner (found_by world.words owner) query given (ap (option_and_then (found_by world.words)) e) reads_so answers

  pub transfer_answers : (name request : List ℕ) (query : QueryAsked) (given : Answer) → reads request ≡ parsed.Query query → start world (Transfer name request) ≡ Answers given → AtOnce name request query given
  transfer_answers name request query given reads_so e = start_answers name request (owner_of name world.names) query given refl reads_so e
