-- The owners that a call has in hand, from step to step.
use Rattle.std.proofs.Common.{◌≡◌, refl, sym, ap, ◌∙◌, subst, ℕ, ◌+◌, Bool, true, false, inl, inr, List, [], ◌∷◌, ◌++◌, length, drop, arith, Option, Some, None}
use Rattle.std.specs.Prelude.{◌==◌, is_some, nat_lt, if◌then◌else◌}
use Rattle.std.specs.List.{slice_get}
use Rattle.std.proofs.lemmas.Bool.{cases_Bool}
use Rattle.cell_core.proofs.CountLemmas.{one_if}
use Rattle.cell_core.proofs.SeatLemmas.{get_push_new}
use Rattle.cell_core.specs.Words.{slots, free_word, dead_word, fetch_sub, found_by, slot_of, number_in}
use Rattle.cell_core.specs.WordSteps.{Makes}
use Rattle.cell_core.specs.declared.words.Owner.{Owner}
use Rattle.cell_core.specs.declared.words.Owner.TheVariants.{Holding, Weakly, Burying, Fading, Resetting, Freeing}
use Rattle.cell_core.specs.declared.words.WordEvent.{WordEvent}
use Rattle.cell_core.specs.declared.words.WordStep.TheVariants as word
use Rattle.serve_core.specs.declared.heading.Heading.{Heading}
use Rattle.world_run.specs.declared.phase.Keeping.{Keeping}
use Rattle.world_run.specs.declared.phase.Phase.{Phase}
use Rattle.world_run.specs.declared.phase.Phase.TheVariants as phase
use Rattle.world_run.specs.declared.phase.Purpose.{Purpose}
use Rattle.world_run.specs.declared.phase.Purpose.TheVariants as purpose
use Rattle.world_run.specs.declared.entries.Entry.{Entry}
use Rattle.world_run.specs.declared.sending.Seeking.{Seeking}
use Rattle.world_run.specs.declared.sending.Sending.{Sending}
use Rattle.dns_rdata.specs.declared.numbers.Serial.{Serial}
use Rattle.transfer_core.specs.Window.{fits}
use Rattle.world_run.specs.Entries.{serials_in, leaving, leaving_for}
use Rattle.world_run.specs.declared.phase.Progress.{Progress}
use Rattle.world_run.specs.declared.phase.Progress.TheVariants.{On}
use Rattle.world_run.specs.declared.step.Answer.{Answer}
use Rattle.world_run.specs.declared.step.Answer.TheVariants as answer
use Rattle.zone_tree.specs.Version.{Version as Numbered}
use Rattle.world_run.specs.Phases.{word_step, after, past, gone, leaving_after, oldest_after, sent_after, entry_of, completed, with_got, gained_after, got_after, is_for_update, updates}
use Rattle.world_laws.proofs.UseLemmas.{UseKind, Use, IsOfKind, AllFit, InUse, times, times_append, fit_append, fit_front, fit_back, lives, in_use_as, in_use_with, in_use_push, push_there, in_use_spent, in_use_next, in_use_swap, in_use_moved, in_use_put, in_use_where}
use Rattle.world_laws.proofs.UseLemmas.UseKind.{holds, has, weakly, notes, buries, fades, resets, frees}
use Rattle.world_laws.proofs.UseLists.{AsStays, Stays, StaysAt, StaysFor, StaysIn, Went, Zones, early_uses, entry_uses, for_uses, kind_uses, holding_uses, late_uses, phase_uses, publishes_at, publishes_in, reserved_at, use_of, serial_of_entry, staying, swapped_at, swapped_for, swapped_in, swaps_now, updates_at, weak_reserved_at, weak_uses, window_uses, EntersIf}

no_true : true ≡ false → ⊥
no_true e = let wrong = e in cc

no_false : false ≡ true → ⊥
no_false e = let wrong = e in cc

-- what follows where an owner is gone
record Passed (new : Zones) (for : Purpose) (progress : Progress) (last before : ℕ) (stays : Stays) (rest : List Use) : Type 0 where
  in_use : InUse new.owners (kind_uses last before stays progress ++ rest)
  still : StaysAt stays progress
  swapped : swapped_at progress ≡ swapped_for for
  publishes : publishes_at progress ≡ false
  names : (name : List ℕ) → reserved_at name progress ≡ 0
  weak_names : (name : List ℕ) → weak_reserved_at name progress ≡ 0
  update : updates_at progress ≡ is_for_update for

leaving_passed : (new : Zones) (head : Heading) (kept last before : ℕ) (entry : Option Entry) (leaving : List ℕ) (stays : Stays) (rest : List Use) → EntersIf stays (is_some entry) → InUse new.owners ((use_of kept (has last) ∷ late_uses last before stays entry leaving) ++ rest)
    → Passed new (purpose.Leaves head kept entry leaving) (leaving_after head kept entry leaving) last before stays rest
leaving_passed new head kept last before entry [] stays rest shut s = record { in_use = s; still = shut; swapped = refl; publishes = refl; names = λ name. refl; weak_names = λ name. refl; update = refl }
leaving_passed new head kept last before entry (owner ∷ leaving) stays rest shut s = record {
  in_use = in_use_moved new.owners (use_of kept (has last) ∷ entry_uses last entry) (use_of owner weakly) (weak_uses leaving ++ window_uses (before + stays.count) (staying stays (serial_of_entry entry))) rest s;
  still = shut;
  swapped = refl;
  publishes = refl;
  names = λ name. refl;
  weak_names = λ name. refl;
  update = refl;
}

-- what is in hand of the window behind a publication is what leaves it and what stays
abbrev parts_uses : ℕ → List ℕ → List Entry → List Use
parts_uses total leaving entries = weak_uses leaving ++ window_uses total (drop (length leaving) entries)

split_times : (i total window : ℕ) (entries : List Entry) (serial : ℕ) → times i (parts_uses total (leaving window entries serial) entries) ≡ times i (window_uses total entries)
split_times i total window [] serial = refl
split_times i total window (entry ∷ entries) serial =
    elim (cases_Bool (fits window (serials_in (entry ∷ entries) ++ serial ∷ []))) [
      | inl all ↦ rw all refl
      | inr some ↦ rw some (let more = split_times i total window entries serial in omega (arith, more))
    ]

split_fits : (owners : List Owner) (total window : ℕ) (entries : List Entry) (serial : ℕ) → AllFit owners (window_uses total entries) → AllFit owners (parts_uses total (leaving window entries serial) entries)
split_fits owners total window [] serial f = tt
split_fits owners total window (entry ∷ entries) serial f =
    elim (cases_Bool (fits window (serials_in (entry ∷ entries) ++ serial ∷ []))) [
      | inl all ↦ rw all f
      | inr some ↦ rw some ((entry.number, f.0.1, f.0.2), split_fits owners total window entries serial f.1)
    ]

abbrev apart_uses : ℕ → Stays → Option Serial → List Use
apart_uses total stays serial = weak_uses (leaving_for stays.window stays.entries serial) ++ window_uses total (staying stays serial)

apart_times : (i total : ℕ) (stays : Stays) (serial : Option Serial) → times i (apart_uses total stays serial) ≡ times i (window_uses total stays.entries)
apart_times i total stays None = refl
apart_times i total stays (Some serial) = split_times i total stays.window stays.entries serial.0

apart_fits : (owners : List Owner) (total : ℕ) (stays : Stays) (serial : Option Serial) → AllFit owners (window_uses total stays.entries) → AllFit owners (apart_uses total stays serial)
apart_fits owners total stays None f = f
apart_fits owners total stays (Some serial) f = split_fits owners total stays.window stays.entries serial.0 f

-- so that those in front of what leaves keep their places
window_apart : (owners : List Owner) (front : List Use) (total : ℕ) (stays : Stays) (serial : Option Serial) (leaving : List ℕ) (rest : List Use) → leaving ≡ leaving_for stays.window stays.entries serial
    → InUse owners ((front ++ window_uses total stays.entries) ++ rest) → InUse owners ((front ++ (weak_uses leaving ++ window_uses total (staying stays serial))) ++ rest)
window_apart owners front total stays serial leaving rest is s =
    let mine = window_uses total stays.entries in
    let apart = apart_uses total stays serial in
    let whole = fit_front owners (front ++ mine) rest s.fit in
    subst (λ ls. InUse owners ((front ++ (weak_uses ls ++ window_uses total (staying stays serial))) ++ rest)) (sym is)
    (in_use_as owners ((front ++ mine) ++ rest) ((front ++ apart) ++ rest)
    (fit_append owners (front ++ apart) rest (fit_append owners front apart (fit_front owners front mine whole) (apart_fits owners total stays serial (fit_back owners front mine whole))) (fit_back owners (front ++ mine) rest s.fit))
    (λ i. (
    let a = times_append i (front ++ apart) rest in
    let b = times_append i (front ++ mine) rest in
    let c = times_append i front apart in
    let d = times_append i front mine in
    let e = apart_times i total stays serial in
    omega (arith, a, b, c, d, e)
    )) s)

publish_passed : (new : Zones) (keeping : Keeping) (kept last before : ℕ) (entry : Option Entry) (own : Option ℕ) (stays : Stays) (rest : List Use) → keeping.leaving ≡ leaving_for stays.window stays.entries (serial_of_entry entry) → EntersIf stays (is_some entry)
    → InUse new.owners ((use_of kept (has last) ∷ (entry_uses last entry ++ early_uses before stays own)) ++ rest) → Passed new (purpose.Publish keeping kept entry) (oldest_after keeping.heading kept entry keeping.leaving own) last before stays rest
publish_passed new keeping kept last before entry None stays rest is shut s =
    let p = leaving_passed new keeping.heading kept last before entry keeping.leaving stays rest shut
    (window_apart new.owners (use_of kept (has last) ∷ entry_uses last entry) (before + stays.count) stays (serial_of_entry entry) keeping.leaving rest is s) in
    record { in_use = p.in_use; still = p.still; swapped = p.swapped; publishes = p.publishes; names = p.names; weak_names = p.weak_names; update = p.update }
publish_passed new keeping kept last before entry (Some owner) stays rest is shut s =
    let moved = in_use_moved new.owners (use_of kept (has last) ∷ entry_uses last entry) (use_of owner (has before)) (window_uses (before + stays.count) stays.entries) rest s in
    let t = window_apart new.owners (use_of owner (has before) ∷ (use_of kept (has last) ∷ entry_uses last entry)) (before + stays.count) stays (serial_of_entry entry) keeping.leaving rest is moved in
    record {
      in_use = record { fit = ((before, t.fit.0.0, t.fit.0.1), t.fit.1); exact = t.exact };
      still = shut;
      swapped = refl;
      publishes = refl;
      names = λ name. refl;
      weak_names = λ name. refl;
      update = refl;
    }

-- an entry is made where one is due
shut_as : (stays : Stays) (entry : Option Entry) (enters : Option Serial) → serial_of_entry entry ≡ enters → EntersIf stays (is_some enters) → EntersIf stays (is_some entry)
shut_as stays None enters is shut = ap (λ (o : Option Serial). is_some o) is ∙ shut
shut_as stays (Some entry) enters is shut = ap (λ (o : Option Serial). is_some o) is ∙ shut

sent_passed : (new : Zones) (sending : Sending) (owners : List ℕ) (last before : ℕ) (stays : Stays) (rest : List Use) → InUse new.owners (holding_uses owners ++ rest) → Passed new (purpose.Sent sending owners) (sent_after sending owners) last before stays rest
sent_passed new sending [] last before stays rest s = record { in_use = s; still = tt; swapped = refl; publishes = refl; names = λ name. refl; weak_names = λ name. refl; update = refl }
sent_passed new sending (owner ∷ owners) last before stays rest s = record { in_use = s; still = tt; swapped = refl; publishes = refl; names = λ name. refl; weak_names = λ name. refl; update = refl }

passed : (new : Zones) (for : Purpose) (given : Answer) (last before : ℕ) (stays : Stays) (rest : List Use) → StaysFor stays for → InUse new.owners (for_uses last before stays for ++ rest) → Passed new for (past for given) last before stays rest
passed new purpose.Drop given last before stays rest is s = record { in_use = s; still = tt; swapped = refl; publishes = refl; names = λ name. refl; weak_names = λ name. refl; update = refl }
passed new (purpose.Publish keeping kept entry) given last before stays rest is s = publish_passed new keeping kept last before entry keeping.oldest stays rest (is.0.1 ∙ ap (leaving_for stays.window stays.entries) (sym is.1)) (shut_as stays entry keeping.enters is.1 is.0.2) s
passed new (purpose.Oldest head kept entry leaving) given last before stays rest is s =
    let p = leaving_passed new head kept last before entry leaving stays rest is s in
    record { in_use = p.in_use; still = p.still; swapped = p.swapped; publishes = p.publishes; names = p.names; weak_names = p.weak_names; update = p.update }
passed new (purpose.Leaves head kept entry leaving) given last before stays rest is s = leaving_passed new head kept last before entry leaving stays rest is s
passed new (purpose.Sent sending owners) given last before stays rest is s = sent_passed new sending owners last before stays rest s

release_past : (old new : Zones) (owner : ℕ) (for : Purpose) (given : Answer) (last before : ℕ) (stays : Stays) (rest : List Use) → StaysFor stays for → new.publisher ≡ old.publisher → InUse new.owners (for_uses last before stays for ++ rest) → Went old new (phase.Release owner for) (past for given) last before stays rest
release_past old new owner for given last before stays rest is same s =
    let p = passed new for given last before stays rest is s in
    record { in_use = p.in_use; still = p.still; swapped = omega (arith, p.swapped); publisher = λ e. ((λ t. absurd (no_false t)), (λ t. same)); names = λ name. (let n = p.names name in omega (arith, n)); weak_names = λ name. (let n = p.weak_names name in omega (arith, n)); update = p.update }

bury_past : (old new : Zones) (owner : ℕ) (for : Purpose) (given : Answer) (last before : ℕ) (stays : Stays) (rest : List Use) → StaysFor stays for → new.publisher ≡ old.publisher → InUse new.owners (for_uses last before stays for ++ rest) → Went old new (phase.Bury owner for) (past for given) last before stays rest
bury_past old new owner for given last before stays rest is same s =
    let p = passed new for given last before stays rest is s in
    record { in_use = p.in_use; still = p.still; swapped = omega (arith, p.swapped); publisher = λ e. ((λ t. absurd (no_false t)), (λ t. same)); names = λ name. (let n = p.names name in omega (arith, n)); weak_names = λ name. (let n = p.weak_names name in omega (arith, n)); update = p.update }

release_went : (old new : Zones) (owner : ℕ) (for : Purpose) (event : WordEvent) (last before : ℕ) (stays : Stays) (rest : List Use) → StaysFor stays for → Makes {T = Numbered} old (word.Release owner) event new → InUse old.owners (use_of owner holds ∷ (for_uses last before stays for ++ rest))
    → Went old new (phase.Release owner for) (after new (phase.Release owner for) event) last before stays rest
release_went old new owner for event last before stays rest is (number, place, there, at, found, m) s =
    elim (cases_Bool (fetch_sub there.shares 1 == 0)) [
      | inl none ↦ (
          let h = rw none at m in
          let owners_are = ap (λ (w : Zones). w.owners) h.1 in
          subst (λ e. Went old new (phase.Release owner for) (after new (phase.Release owner for) e) last before stays rest) (sym h.0) (record {
            in_use = in_use_next old.owners new.owners owner holds buries (for_uses last before stays for ++ rest) (Holding number place) (Burying place) refl refl at owners_are (λ e. (place, e)) s;
            still = is;
            swapped = omega arith;
            publisher = λ e. ((λ t. absurd (no_false t)), (λ t. ap (λ (w : Zones). w.publisher) h.1));
            names = λ name. omega arith;
            weak_names = λ name. omega arith;
            update = refl;
          })
          )
      | inr some ↦ (
          let h = rw some at m in
          let owners_are = ap (λ (w : Zones). w.owners) h.1 in
          subst (λ e. Went old new (phase.Release owner for) (after new (phase.Release owner for) e) last before stays rest) (sym h.0)
          (release_past old new owner for answer.Left last before stays rest is (ap (λ (w : Zones). w.publisher) h.1)
          (in_use_spent old.owners new.owners owner holds (for_uses last before stays for ++ rest) (Holding number place) refl at owners_are s))
          )
    ]

bury_went : (old new : Zones) (owner : ℕ) (for : Purpose) (event : WordEvent) (last before : ℕ) (stays : Stays) (rest : List Use) → StaysFor stays for → Makes {T = Numbered} old (word.Bury owner) event new → InUse old.owners (use_of owner buries ∷ (for_uses last before stays for ++ rest))
    → Went old new (phase.Bury owner for) (after new (phase.Bury owner for) event) last before stays rest
bury_went old new owner for event last before stays rest is (place, there, at, found, m) s =
    elim (cases_Bool (there.shares == 0)) [
      | inl none ↦ (
          let h = rw none at m in
          let owners_are = ap (λ (w : Zones). w.owners) h.3 in
          subst (λ e. Went old new (phase.Bury owner for) (after new (phase.Bury owner for) e) last before stays rest) (sym h.2) (record {
            in_use = in_use_next old.owners new.owners owner buries fades (for_uses last before stays for ++ rest) (Burying place) (Fading place) refl refl at owners_are (λ e. (place, e)) s;
            still = is;
            swapped = omega arith;
            publisher = λ e. ((λ t. absurd (no_false t)), (λ t. ap (λ (w : Zones). w.publisher) h.3));
            names = λ name. omega arith;
            weak_names = λ name. omega arith;
            update = refl;
          })
          )
      | inr some ↦ (
          let h = rw some at m in
          let owners_are = ap (λ (w : Zones). w.owners) h.1 in
          subst (λ e. Went old new (phase.Bury owner for) (after new (phase.Bury owner for) e) last before stays rest) (sym h.0)
          (bury_past old new owner for answer.Left last before stays rest is (ap (λ (w : Zones). w.publisher) h.1)
          (in_use_spent old.owners new.owners owner buries (for_uses last before stays for ++ rest) (Burying place) refl at owners_are s))
          )
    ]

-- who fades last is to reset, and who fades before is past it
fade_from : (old new : Zones) (owner : ℕ) (number : Option ℕ) (for : Purpose) (event : WordEvent) (last before : ℕ) (stays : Stays) (rest : List Use) (use_kind : UseKind) (how : Owner) → lives (Some how) ≡ 1 → slice_get old.owners owner ≡ Some how
    → StaysFor stays for → Makes {T = Numbered} old (word.Fade owner) event new → InUse old.owners (use_of owner use_kind ∷ (for_uses last before stays for ++ rest))
    → Went old new (phase.Fade owner number for) (after new (phase.Fade owner number for) event) last before stays rest
fade_from old new owner number for event last before stays rest use_kind how one here is (place, there, fades_at, found, m) s =
    elim (cases_Bool (fetch_sub there.weak 1 == 0)) [
      | inl none ↦ (
          let h = rw none at m in
          let owners_are = ap (λ (w : Zones). w.owners) h.1 in
          subst (λ e. Went old new (phase.Fade owner number for) (after new (phase.Fade owner number for) e) last before stays rest) (sym h.0) (record {
            in_use = in_use_next old.owners new.owners owner use_kind resets (for_uses last before stays for ++ rest) how (Resetting place) one refl here owners_are (λ e. (place, e)) s;
            still = is;
            swapped = omega arith;
            publisher = λ e. ((λ t. absurd (no_false t)), (λ t. ap (λ (w : Zones). w.publisher) h.1));
            names = λ name. omega arith;
            weak_names = λ name. omega arith;
            update = refl;
          })
          )
      | inr some ↦ (
          let h = rw some at m in
          let owners_are = ap (λ (w : Zones). w.owners) h.1 in
          let p = passed new for (gone number) last before stays rest is (in_use_spent old.owners new.owners owner use_kind (for_uses last before stays for ++ rest) how one here owners_are s) in
          subst (λ e. Went old new (phase.Fade owner number for) (after new (phase.Fade owner number for) e) last before stays rest) (sym h.0)
          (record { in_use = p.in_use; still = p.still; swapped = omega (arith, p.swapped); publisher = λ e. ((λ t. absurd (no_false t)), (λ t. ap (λ (w : Zones). w.publisher) h.1)); names = λ name. (let n = p.names name in omega (arith, n)); weak_names = λ name. (let n = p.weak_names name in omega (arith, n)); update = p.update })
          )
    ]

fade_went : (old new : Zones) (owner : ℕ) (number : Option ℕ) (for : Purpose) (event : WordEvent) (last before : ℕ) (stays : Stays) (rest : List Use) → StaysFor stays for → Makes {T = Numbered} old (word.Fade owner) event new → InUse old.owners (phase_uses last before stays (phase.Fade owner number for) ++ rest)
    → Went old new (phase.Fade owner number for) (after new (phase.Fade owner number for) event) last before stays rest
fade_went old new owner None for event last before stays rest is m s = fade_from old new owner None for event last before stays rest weakly (Weakly s.fit.0.0 s.fit.0.1) refl s.fit.0.2 is m s
fade_went old new owner (Some number) for event last before stays rest is m s = fade_from old new owner (Some number) for event last before stays rest fades (Fading s.fit.0.0) refl s.fit.0.1 is m s

reset_went : (old new : Zones) (owner : ℕ) (number : Option ℕ) (for : Purpose) (event : WordEvent) (last before : ℕ) (stays : Stays) (rest : List Use) → StaysFor stays for → Makes {T = Numbered} old (word.Reset owner) event new → InUse old.owners (use_of owner resets ∷ (for_uses last before stays for ++ rest))
    → Went old new (phase.Reset owner number for) (after new (phase.Reset owner number for) event) last before stays rest
reset_went old new owner number for event last before stays rest is (place, there, at, found, told_is, new_is) s =
    let owners_are = ap (λ (w : Zones). w.owners) new_is in
    record {
      in_use = in_use_next old.owners new.owners owner resets frees (for_uses last before stays for ++ rest) (Resetting place) (Freeing place) refl refl at owners_are (λ e. (place, e)) s;
      still = is;
      swapped = omega arith;
      publisher = λ e. ((λ t. absurd (no_false t)), (λ t. ap (λ (w : Zones). w.publisher) new_is));
      names = λ name. omega arith;
      weak_names = λ name. omega arith;
      update = refl;
    }

free_went : (old new : Zones) (owner : ℕ) (number : Option ℕ) (for : Purpose) (event : WordEvent) (last before : ℕ) (stays : Stays) (rest : List Use) → StaysFor stays for → Makes {T = Numbered} old (word.Free owner) event new → InUse old.owners (use_of owner frees ∷ (for_uses last before stays for ++ rest))
    → Went old new (phase.Free owner number for) (after new (phase.Free owner number for) event) last before stays rest
free_went old new owner number for event last before stays rest is (place, there, at, found, told_is, new_is) s =
    let owners_are = ap (λ (w : Zones). w.owners) new_is in
    let p = passed new for (gone number) last before stays rest is (in_use_spent old.owners new.owners owner frees (for_uses last before stays for ++ rest) (Freeing place) refl at owners_are s) in
    record { in_use = p.in_use; still = p.still; swapped = omega (arith, p.swapped); publisher = λ e. ((λ t. absurd (no_false t)), (λ t. ap (λ (w : Zones). w.publisher) new_is)); names = λ name. (let n = p.names name in omega (arith, n)); weak_names = λ name. (let n = p.weak_names name in omega (arith, n)); update = p.update }

load_went : (old new : Zones) (name : List ℕ) (event : WordEvent) (last before : ℕ) (stays : Stays) (rest : List Use) → Makes {T = Numbered} old word.Load event new → InUse old.owners rest
    → Went old new (phase.Load name) (after new (phase.Load name) event) last before stays rest
load_went old new name event last before stays rest (number, found, few, told_is, new_is) s =
    let owners_are = ap (λ (w : Zones). w.owners) new_is in
    subst (λ e. Went old new (phase.Load name) (after new (phase.Load name) e) last before stays rest) (sym told_is) (record {
      in_use = in_use_push old.owners new.owners number (slot_of old.latest) rest holds owners_are (number, slot_of old.latest, push_there old.owners new.owners number (slot_of old.latest) owners_are) s;
      still = tt;
      swapped = refl;
      publisher = λ e. ((λ t. absurd (no_false t)), (λ t. ap (λ (w : Zones). w.publisher) new_is));
      names = λ name. omega arith;
      weak_names = λ name. omega arith;
      update = refl;
    })

-- nothing is in hand for what looks, and a raise gives a strong owner, or none
look_went : (old new : Zones) (name : List ℕ) (owner : ℕ) (event : WordEvent) (last before : ℕ) (stays : Stays) (rest : List Use) → Makes {T = Numbered} old (word.Look owner) event new → InUse old.owners rest
    → Went old new (phase.Look name owner) (after new (phase.Look name owner) event) last before stays rest
look_went old new name owner event last before stays rest (number, place, there, owned, found, m) s =
    elim (cases_Bool (nat_lt there.shares dead_word)) [
      | inl alive ↦ (
          let h = rw alive at m in
          subst (λ e. Went old new (phase.Look name owner) (after new (phase.Look name owner) e) last before stays rest) (sym h.0) (record {
            in_use = in_use_where old.owners new.owners rest (ap (λ (w : Zones). w.owners) h.1) s;
            still = tt;
            swapped = refl;
            publisher = λ e. ((λ t. absurd (no_false t)), (λ t. ap (λ (w : Zones). w.publisher) h.1));
            names = λ n. omega arith;
            weak_names = λ n. omega arith;
            update = refl;
          })
          )
      | inr dead ↦ (
          let h = rw dead at m in
          subst (λ e. Went old new (phase.Look name owner) (after new (phase.Look name owner) e) last before stays rest) (sym h.0) (record {
            in_use = in_use_where old.owners new.owners rest (ap (λ (w : Zones). w.owners) h.1) s;
            still = tt;
            swapped = refl;
            publisher = λ e. ((λ t. absurd (no_false t)), (λ t. ap (λ (w : Zones). w.publisher) h.1));
            names = λ n. omega arith;
            weak_names = λ n. omega arith;
            update = refl;
          })
          )
    ]

raise_went : (old new : Zones) (name : List ℕ) (owner : ℕ) (event : WordEvent) (last before : ℕ) (stays : Stays) (rest : List Use) → Makes {T = Numbered} old (word.Raise owner) event new → InUse old.owners rest
    → Went old new (phase.Raise name owner) (after new (phase.Raise name owner) event) last before stays rest
raise_went old new name owner event last before stays rest (number, place, there, owned, found, few, m) s =
    elim (cases_Bool (nat_lt there.shares dead_word)) [
      | inl alive ↦ (
          let h = rw alive at m in
          let owners_are = ap (λ (w : Zones). w.owners) h.1 in
          subst (λ e. Went old new (phase.Raise name owner) (after new (phase.Raise name owner) e) last before stays rest) (sym h.0) (record {
            in_use = in_use_push old.owners new.owners number place rest holds owners_are (number, place, push_there old.owners new.owners number place owners_are) s;
            still = tt;
            swapped = refl;
            publisher = λ e. ((λ t. absurd (no_false t)), (λ t. ap (λ (w : Zones). w.publisher) h.1));
            names = λ n. omega arith;
            weak_names = λ n. omega arith;
            update = refl;
          })
          )
      | inr dead ↦ (
          let h = rw dead at m in
          subst (λ e. Went old new (phase.Raise name owner) (after new (phase.Raise name owner) e) last before stays rest) (sym h.0) (record {
            in_use = in_use_where old.owners new.owners rest (ap (λ (w : Zones). w.owners) h.1) s;
            still = tt;
            swapped = refl;
            publisher = λ e. ((λ t. absurd (no_false t)), (λ t. ap (λ (w : Zones). w.publisher) h.1));
            names = λ n. omega arith;
            weak_names = λ n. omega arith;
            update = refl;
          })
          )
    ]

-- a note gives a weak owner
note_went : (old new : Zones) (name : List ℕ) (owner : ℕ) (event : WordEvent) (last before : ℕ) (stays : Stays) (rest : List Use) → Makes {T = Numbered} old (word.Note owner) event new → InUse old.owners rest
    → Went old new (phase.Note name owner) (after new (phase.Note name owner) event) last before stays rest
note_went old new name owner event last before stays rest (number, place, there, at, found, few, told_is, new_is) s =
    let owners_are = ap (λ (w : Zones). w.owners) new_is in
    let here = ap (λ (o : List Owner). slice_get o (length old.owners)) owners_are ∙ get_push_new old.owners (Weakly number place) (length old.owners) refl in
    subst (λ e. Went old new (phase.Note name owner) (after new (phase.Note name owner) e) last before stays rest) (sym told_is) (record {
      in_use = in_use_with old.owners new.owners (Weakly number place) rest weakly refl owners_are (number, place, here) s;
      still = tt;
      swapped = refl;
      publisher = λ e. ((λ t. absurd (no_false t)), (λ t. ap (λ (w : Zones). w.publisher) new_is));
      names = λ n. omega arith;
      weak_names = λ n. omega arith;
      update = refl;
    })

none_enters : (serial : Option Serial) → is_some serial ≡ false → None ≡ serial
none_enters None e = refl
none_enters (Some serial) e = absurd (no_true e)

keep_goes : (old new : Zones) (given owner : ℕ) (keeping : Keeping) (last before : ℕ) (stays : Stays) (rest : List Use) (some : Bool) → is_some keeping.enters ≡ some → AsStays stays keeping → new.publisher ≡ old.publisher
    → InUse new.owners ((use_of given holds ∷ (use_of owner (has last) ∷ early_uses before stays keeping.oldest)) ++ rest)
    → Went old new (phase.Keep given keeping) (if some then On (phase.Enter given owner keeping) else On (phase.Release given (purpose.Publish keeping owner None))) last before stays rest
keep_goes old new given owner keeping last before stays rest true e is same s = record {
  in_use = s;
  still = (is, e);
  swapped = refl;
  publisher = λ e. ((λ t. absurd (no_false t)), (λ t. same));
  names = λ name. omega arith;
  weak_names = λ name. omega arith;
  update = refl;
}
keep_goes old new given owner keeping last before stays rest false e is same s = record {
  in_use = s;
  still = (is, none_enters keeping.enters e);
  swapped = refl;
  publisher = λ e. ((λ t. absurd (no_false t)), (λ t. same));
  names = λ name. omega arith;
  weak_names = λ name. omega arith;
  update = refl;
}

keep_went : (old new : Zones) (given : ℕ) (keeping : Keeping) (event : WordEvent) (last before : ℕ) (stays : Stays) (rest : List Use) → AsStays stays keeping → ((number : ℕ) → number_in old (slot_of old.latest) ≡ Some number → number ≡ last) → Makes {T = Numbered} old word.Load event new
    → InUse old.owners ((use_of given holds ∷ early_uses before stays keeping.oldest) ++ rest) → Went old new (phase.Keep given keeping) (after new (phase.Keep given keeping) event) last before stays rest
keep_went old new given keeping event last before stays rest is is_last (number, found, few, told_is, new_is) s =
    let owners_are = ap (λ (w : Zones). w.owners) new_is in
    let there = push_there old.owners new.owners number (slot_of old.latest) owners_are in
    let here = subst (λ n. slice_get new.owners (length old.owners) ≡ Some (Holding n (slot_of old.latest))) (is_last number found) there in
    subst (λ e. Went old new (phase.Keep given keeping) (after new (phase.Keep given keeping) e) last before stays rest) (sym told_is)
    (keep_goes old new given (length old.owners) keeping last before stays rest (is_some keeping.enters) refl is (ap (λ (w : Zones). w.publisher) new_is)
    (in_use_swap new.owners (use_of (length old.owners) (has last)) (use_of given holds) (early_uses before stays keeping.oldest ++ rest)
    (in_use_push old.owners new.owners number (slot_of old.latest) ((use_of given holds ∷ early_uses before stays keeping.oldest) ++ rest) (has last) owners_are (slot_of old.latest, here) s)))

-- a note of the version gives it an entry
entry_is : (number owner : ℕ) (serial : Option Serial) → serial_of_entry (entry_of serial number owner) ≡ serial
entry_is number owner None = refl
entry_is number owner (Some serial) = refl

enter_goes : (new : Zones) (given kept owner number last before : ℕ) (keeping : Keeping) (stays : Stays) (rest : List Use) (enters : Option Serial) → keeping.enters ≡ enters → is_some keeping.enters ≡ true
    → InUse new.owners ((use_of given holds ∷ (use_of kept (has last) ∷ (use_of owner (notes number 1 (last + 1)) ∷ early_uses before stays keeping.oldest))) ++ rest)
    → InUse new.owners ((use_of given holds ∷ (use_of kept (has last) ∷ (entry_uses last (entry_of keeping.enters number owner) ++ early_uses before stays keeping.oldest))) ++ rest)
enter_goes new given kept owner number last before keeping stays rest None e some s = absurd (no_true (sym some ∙ ap is_some e))
enter_goes new given kept owner number last before keeping stays rest (Some serial) e some s = rw e s

enter_went : (old new : Zones) (given kept : ℕ) (keeping : Keeping) (event : WordEvent) (last before : ℕ) (stays : Stays) (rest : List Use) → AsStays stays keeping × (is_some keeping.enters ≡ true) → Makes {T = Numbered} old (word.Note kept) event new
    → InUse old.owners ((use_of given holds ∷ (use_of kept (has last) ∷ early_uses before stays keeping.oldest)) ++ rest) → Went old new (phase.Enter given kept keeping) (after new (phase.Enter given kept keeping) event) last before stays rest
enter_went old new given kept keeping event last before stays rest is (number, place, there, at, found, few, told_is, new_is) s =
    let same : Some (Holding number place) ≡ Some (Holding last s.fit.1.0.0) = sym at ∙ s.fit.1.0.1 in
    let numbered : number ≡ last = cc in
    let owners_are = ap (λ (w : Zones). w.owners) new_is in
    let here = ap (λ (o : List Owner). slice_get o (length old.owners)) owners_are ∙ get_push_new old.owners (Weakly number place) (length old.owners) refl in
    let pushed = in_use_with old.owners new.owners (Weakly number place) ((use_of given holds ∷ (use_of kept (has last) ∷ early_uses before stays keeping.oldest)) ++ rest) (notes number 1 (last + 1)) refl owners_are (omega (arith, numbered), place, here) s in
    let put = in_use_put new.owners (use_of given holds ∷ (use_of kept (has last) ∷ [])) (use_of (length old.owners) (notes number 1 (last + 1))) (early_uses before stays keeping.oldest) rest pushed in
    subst (λ e. Went old new (phase.Enter given kept keeping) (after new (phase.Enter given kept keeping) e) last before stays rest) (sym told_is) (record {
      in_use = enter_goes new given kept (length old.owners) number last before keeping stays rest keeping.enters refl is.1 put;
      still = (is.0, entry_is number (length old.owners) keeping.enters);
      swapped = refl;
      publisher = λ e. ((λ t. absurd (no_false t)), (λ t. ap (λ (w : Zones). w.publisher) new_is));
      names = λ name. omega arith;
      weak_names = λ name. omega arith;
      update = refl;
    })

-- a transfer has in hand what it has got
sent_went : (old new : Zones) (at : Phase) (sending : Sending) (owners : List ℕ) (last before : ℕ) (stays : Stays) (rest : List Use) → swapped_in at ≡ 0 → swaps_now at ≡ 0 → publishes_in at ≡ false → updates at ≡ false → new.publisher ≡ old.publisher → InUse new.owners (holding_uses owners ++ rest)
    → Went old new at (sent_after sending owners) last before stays rest
sent_went old new at sending owners last before stays rest none now quiet other same s =
    let p = sent_passed new sending owners last before stays rest s in
    record {
      in_use = p.in_use;
      still = p.still;
      swapped = omega (arith, p.swapped, none, now);
      publisher = λ e. ((λ t. absurd (no_false (sym quiet ∙ t))), (λ t. same));
      names = λ name. (let n = p.names name in omega (arith, n));
      weak_names = λ name. (let n = p.weak_names name in omega (arith, n));
      update = p.update ∙ sym other;
    }

seek_went : (old new : Zones) (owner : ℕ) (seeking : Seeking) (event : WordEvent) (last before : ℕ) (stays : Stays) (rest : List Use) → Makes {T = Numbered} old (word.Look owner) event new → InUse old.owners (holding_uses seeking.owners ++ rest)
    → Went old new (phase.Seek owner seeking) (after new (phase.Seek owner seeking) event) last before stays rest
seek_went old new owner seeking event last before stays rest (number, place, there, owned, found, m) s =
    elim (cases_Bool (nat_lt there.shares dead_word)) [
      | inl alive ↦ (
          let h = rw alive at m in
          subst (λ e. Went old new (phase.Seek owner seeking) (after new (phase.Seek owner seeking) e) last before stays rest) (sym h.0) (record {
            in_use = in_use_where old.owners new.owners (holding_uses seeking.owners ++ rest) (ap (λ (w : Zones). w.owners) h.1) s;
            still = tt;
            swapped = refl;
            publisher = λ e. ((λ t. absurd (no_false t)), (λ t. ap (λ (w : Zones). w.publisher) h.1));
            names = λ n. omega arith;
            weak_names = λ n. omega arith;
            update = refl;
          })
          )
      | inr dead ↦ (
          let h = rw dead at m in
          subst (λ e. Went old new (phase.Seek owner seeking) (after new (phase.Seek owner seeking) e) last before stays rest) (sym h.0)
          (sent_went old new (phase.Seek owner seeking) seeking.sending seeking.owners last before stays rest refl refl refl refl (ap (λ (w : Zones). w.publisher) h.1)
          (in_use_where old.owners new.owners (holding_uses seeking.owners ++ rest) (ap (λ (w : Zones). w.owners) h.1) s))
          )
    ]

-- one owner more that was got, behind the others
holding_times : (i : ℕ) (owners : List ℕ) (owner : ℕ) → times i (holding_uses (owners ++ owner ∷ [])) ≡ one_if (owner == i) + times i (holding_uses owners)
holding_times i [] owner = refl
holding_times i (o ∷ os) owner = let more = holding_times i os owner in omega (arith, more)

holding_fits : (all : List Owner) (owners : List ℕ) (owner : ℕ) → IsOfKind all owner holds → AllFit all (holding_uses owners) → AllFit all (holding_uses (owners ++ owner ∷ []))
holding_fits all [] owner here f = (here, tt)
holding_fits all (o ∷ os) owner here f = (f.0, holding_fits all os owner here f.1)

holding_more : (all : List Owner) (owners : List ℕ) (owner : ℕ) (rest : List Use) → InUse all (use_of owner holds ∷ (holding_uses owners ++ rest)) → InUse all (holding_uses (owners ++ owner ∷ []) ++ rest)
holding_more all owners owner rest s =
    in_use_as all (use_of owner holds ∷ (holding_uses owners ++ rest)) (holding_uses (owners ++ owner ∷ []) ++ rest)
    (fit_append all (holding_uses (owners ++ owner ∷ [])) rest (holding_fits all owners owner s.fit.0 (fit_front all (holding_uses owners) rest s.fit.1)) (fit_back all (holding_uses owners) rest s.fit.1))
    (λ i. (
    let one = times_append i (holding_uses (owners ++ owner ∷ [])) rest in
    let two = times_append i (holding_uses owners) rest in
    let more = holding_times i owners owner in
    omega (arith, one, two, more)
    )) s

gained_went : (old new : Zones) (owner : ℕ) (seeking further : Seeking) (left : List ℕ) (last before : ℕ) (stays : Stays) (rest : List Use) → new.publisher ≡ old.publisher → InUse new.owners (holding_uses further.owners ++ rest)
    → Went old new (phase.Gain owner seeking) (gained_after further left) last before stays rest
gained_went old new owner seeking further [] last before stays rest same s = sent_went old new (phase.Gain owner seeking) (completed further.sending) further.owners last before stays rest refl refl refl refl same s
gained_went old new owner seeking further (next ∷ left) last before stays rest same s = record {
  in_use = s;
  still = tt;
  swapped = refl;
  publisher = λ e. ((λ t. absurd (no_false t)), (λ t. same));
  names = λ n. omega arith;
  weak_names = λ n. omega arith;
  update = refl;
}

-- whoever owns a version finds it
abbrev pub Finds : Zones → Type 0
Finds words = (owner number place : ℕ) → slice_get words.owners owner ≡ Some (Holding number place) → (version : Numbered) × (found_by words owner ≡ Some version)

gain_went : (old new : Zones) (owner : ℕ) (seeking : Seeking) (event : WordEvent) (last before : ℕ) (stays : Stays) (rest : List Use) → Finds new → Makes {T = Numbered} old (word.Raise owner) event new → InUse old.owners (holding_uses seeking.owners ++ rest)
    → Went old new (phase.Gain owner seeking) (after new (phase.Gain owner seeking) event) last before stays rest
gain_went old new owner seeking event last before stays rest finds (number, place, there, owned, found, few, m) s =
    elim (cases_Bool (nat_lt there.shares dead_word)) [
      | inl alive ↦ (
          let h = rw alive at m in
          let owners_are = ap (λ (w : Zones). w.owners) h.1 in
          let here = push_there old.owners new.owners number place owners_are in
          let it = finds (length old.owners) number place here in
          let pushed = in_use_push old.owners new.owners number place (holding_uses seeking.owners ++ rest) holds owners_are (number, place, here) s in
          subst (λ e. Went old new (phase.Gain owner seeking) (after new (phase.Gain owner seeking) e) last before stays rest) (sym h.0)
          (subst (λ o. Went old new (phase.Gain owner seeking) (got_after owner seeking (length old.owners) o) last before stays rest) (sym it.1)
          (gained_went old new owner seeking (with_got (length old.owners) it.0 seeking) seeking.left last before stays rest (ap (λ (w : Zones). w.publisher) h.1)
          (holding_more new.owners seeking.owners (length old.owners) rest pushed)))
          )
      | inr dead ↦ (
          let h = rw dead at m in
          subst (λ e. Went old new (phase.Gain owner seeking) (after new (phase.Gain owner seeking) e) last before stays rest) (sym h.0)
          (sent_went old new (phase.Gain owner seeking) seeking.sending seeking.owners last before stays rest refl refl refl refl (ap (λ (w : Zones). w.publisher) h.1)
          (in_use_where old.owners new.owners (holding_uses seeking.owners ++ rest) (ap (λ (w : Zones). w.owners) h.1) s))
          )
    ]

settle_went : (old new : Zones) (keeping : Keeping) (event : WordEvent) (last before : ℕ) (stays : Stays) (rest : List Use) → AsStays stays keeping → Makes {T = Numbered} old word.Settle event new → InUse old.owners (early_uses before stays keeping.oldest ++ rest)
    → Went old new (phase.Settle keeping) (after new (phase.Settle keeping) event) last before stays rest
settle_went old new keeping event last before stays rest is (number, place, given, there, at, found, told_is, new_is) s =
    let owners_are = ap (λ (w : Zones). w.owners) new_is in
    subst (λ e. Went old new (phase.Settle keeping) (after new (phase.Settle keeping) e) last before stays rest) (sym told_is) (record {
      in_use = in_use_push old.owners new.owners number place (early_uses before stays keeping.oldest ++ rest) holds owners_are (number, place, push_there old.owners new.owners number place owners_are) s;
      still = is;
      swapped = refl;
      publisher = λ e. ((λ t. ap (λ (w : Zones). w.publisher) new_is), (λ t. absurd (no_true t)));
      names = λ name. omega arith;
      weak_names = λ name. omega arith;
      update = refl;
    })

probe_went : (old new : Zones) (version : Numbered) (keeping : Keeping) (event : WordEvent) (last before : ℕ) (stays : Stays) (rest : List Use) → AsStays stays keeping → Makes {T = Numbered} old word.Probe event new → InUse old.owners (early_uses before stays keeping.oldest ++ rest)
    → Went old new (phase.Probe version keeping) (after new (phase.Probe version keeping) event) last before stays rest
probe_went old new version keeping event last before stays rest is (place, there, at, found, m) s =
    elim (cases_Bool (there.shares == free_word)) [
      | inl free ↦ (
          let h = rw free at m in
          subst (λ e. Went old new (phase.Probe version keeping) (after new (phase.Probe version keeping) e) last before stays rest) (sym h.0) (record {
            in_use = in_use_where old.owners new.owners (early_uses before stays keeping.oldest ++ rest) (ap (λ (w : Zones). w.owners) h.1) s;
            still = is;
            swapped = refl;
            publisher = λ e. absurd (no_true e);
            names = λ name. omega arith;
            weak_names = λ name. omega arith;
            update = refl;
          })
          )
      | inr taken ↦ elim (cases_Bool (place + 1 == slots)) [
        | inl none ↦ (
            let h = rw (taken, none) at m in
            let t = in_use_where old.owners new.owners (early_uses before stays keeping.oldest ++ rest) (ap (λ (w : Zones). w.owners) h.1) s in
            subst (λ e. Went old new (phase.Probe version keeping) (after new (phase.Probe version keeping) e) last before stays rest) (sym h.0) (record {
              in_use = subst (λ o. InUse new.owners (early_uses before stays o ++ rest)) is.0 t;
              still = tt;
              swapped = refl;
              publisher = λ e. ((λ t. ap (λ (w : Zones). w.publisher) h.1), (λ t. absurd (no_true t)));
              names = λ name. omega arith;
              weak_names = λ name. omega arith;
              update = refl;
            })
            )
        | inr more ↦ (
            let h = rw (taken, more) at m in
            subst (λ e. Went old new (phase.Probe version keeping) (after new (phase.Probe version keeping) e) last before stays rest) (sym h.0) (record {
              in_use = in_use_where old.owners new.owners (early_uses before stays keeping.oldest ++ rest) (ap (λ (w : Zones). w.owners) h.1) s;
              still = is;
              swapped = refl;
              publisher = λ e. absurd (no_true e);
              names = λ name. omega arith;
              weak_names = λ name. omega arith;
              update = refl;
            })
            )
      ]
    ]

prepare_went : (old new : Zones) (version : Numbered) (keeping : Keeping) (event : WordEvent) (last before : ℕ) (stays : Stays) (rest : List Use) → AsStays stays keeping → Makes {T = Numbered} old (word.Prepare version) event new → InUse old.owners (early_uses before stays keeping.oldest ++ rest)
    → Went old new (phase.Prepare version keeping) (after new (phase.Prepare version keeping) event) last before stays rest
prepare_went old new version keeping event last before stays rest is (place, there, number, at, found, last_is, fits, told_is, new_is) s = record {
  in_use = in_use_where old.owners new.owners (early_uses before stays keeping.oldest ++ rest) (ap (λ (w : Zones). w.owners) new_is) s;
  still = is;
  swapped = refl;
  publisher = λ e. absurd (no_true e);
  names = λ name. omega arith;
  weak_names = λ name. omega arith;
  update = refl;
}

swap_went : (old new : Zones) (keeping : Keeping) (event : WordEvent) (last before : ℕ) (stays : Stays) (rest : List Use) → AsStays stays keeping → Makes {T = Numbered} old word.Swap event new → InUse old.owners (early_uses before stays keeping.oldest ++ rest)
    → Went old new (phase.Swap keeping) (after new (phase.Swap keeping) event) last before stays rest
swap_went old new keeping event last before stays rest is (place, number, at, within, last_is, told_is, new_is) s = record {
  in_use = in_use_where old.owners new.owners (early_uses before stays keeping.oldest ++ rest) (ap (λ (w : Zones). w.owners) new_is) s;
  still = is;
  swapped = refl;
  publisher = λ e. absurd (no_true e);
  names = λ name. omega arith;
  weak_names = λ name. omega arith;
  update = refl;
}

-- a step of a call keeps account of what it has in hand
pub went : (old new : Zones) (at : Phase) (event : WordEvent) (last before : ℕ) (stays : Stays) (rest : List Use) → StaysIn stays at → (swaps_now at ≡ 0 → (number : ℕ) → number_in old (slot_of old.latest) ≡ Some number → number ≡ last) → Finds new → Makes old (word_step at) event new
    → InUse old.owners (phase_uses last before stays at ++ rest) → Went old new at (after new at event) last before stays rest
went old new (phase.Load name) event last before stays rest is is_last finds m s = load_went old new name event last before stays rest m s
went old new (phase.Look name owner) event last before stays rest is is_last finds m s = look_went old new name owner event last before stays rest m s
went old new (phase.Seek owner seeking) event last before stays rest is is_last finds m s = seek_went old new owner seeking event last before stays rest m s
went old new (phase.Gain owner seeking) event last before stays rest is is_last finds m s = gain_went old new owner seeking event last before stays rest finds m s
went old new (phase.Raise name owner) event last before stays rest is is_last finds m s = raise_went old new name owner event last before stays rest m s
went old new (phase.Note name owner) event last before stays rest is is_last finds m s = note_went old new name owner event last before stays rest m s
went old new (phase.Probe version keeping) event last before stays rest is is_last finds m s = probe_went old new version keeping event last before stays rest is m s
went old new (phase.Prepare version keeping) event last before stays rest is is_last finds m s = prepare_went old new version keeping event last before stays rest is m s
went old new (phase.Swap keeping) event last before stays rest is is_last finds m s = swap_went old new keeping event last before stays rest is m s
went old new (phase.Settle keeping) event last before stays rest is is_last finds m s = settle_went old new keeping event last before stays rest is m s
went old new (phase.Keep given keeping) event last before stays rest is is_last finds m s = keep_went old new given keeping event last before stays rest is (is_last refl) m s
went old new (phase.Enter given kept keeping) event last before stays rest is is_last finds m s = enter_went old new given kept keeping event last before stays rest is m s
went old new (phase.Release owner for) event last before stays rest is is_last finds m s = release_went old new owner for event last before stays rest is m s
went old new (phase.Bury owner for) event last before stays rest is is_last finds m s = bury_went old new owner for event last before stays rest is m s
went old new (phase.Fade owner number for) event last before stays rest is is_last finds m s = fade_went old new owner number for event last before stays rest is m s
went old new (phase.Reset owner number for) event last before stays rest is is_last finds m s = reset_went old new owner number for event last before stays rest is m s
went old new (phase.Free owner number for) event last before stays rest is is_last finds m s = free_went old new owner number for event last before stays rest is m s
