-- The steps of a cell's end keep the rule.
use Rattle.std.proofs.Common.{◌≡◌, ◌≢◌, refl, sym, ap, ◌∙◌, subst, ℕ, suc, ◌+◌, ◌-◌, ◌<◌, inl, inr, ⊎_elim, Bool, true, List, [], ◌∷◌, length, get_or, set, arith, Some, None, append-nil}
use Rattle.std.specs.Prelude.{◌==◌}
use Rattle.std.specs.List.{slice_get}
use Rattle.std.proofs.lemmas.List.{set-get_or}
use Rattle.std.proofs.lemmas.Bool.Decides.{eqb_tells}
use mathlib.Core.Option as maybe
use mathlib.Core.Option.{none, some}
use lib.ListN.{get_elem?}
use prog.Atomic.{either}
use Rattle.atomic_table.specs.Table.{Allows, Act, keeps, takes, gives, Valid, stepped, carried_after}
use Rattle.atomic_table.proofs.Lists.{at_set, set_here, set_else, exchanged}
use Rattle.raw_slots.specs.Places.{Alone}
use Rattle.cell_core.proofs.ShowsLemmas.{last_lies, latest_slot}
use Rattle.cell_core.proofs.ProbeKeeps.{take_keeps, pass_keeps}
use Rattle.cell_core.proofs.FrameLemmas.{charged}
use Rattle.cell_core.proofs.WeakLemmas.{keeps_slot}
use Rattle.cell_core.specs.Words.{State, slots, bulk, free_word, dead_word, slot_of, given_of}
use Rattle.cell_core.specs.WordSteps.{with_publisher}
use Rattle.cell_core.specs.Shows.{Shows, SlotIs}
use Rattle.cell_core.specs.Shows.Phase.{live, dead}
use Rattle.cell_core.specs.declared.words.Publisher.TheVariants.{Probing, Preparing}
use Rattle.cell_core.specs.declared.words.Owner.{Owner}
use Rattle.cell_core.specs.declared.words.Owner.TheVariants.{Weakly, Burying, Fading, Resetting, Freeing}
use Rattle.counted_handles.specs.declared.view.Mark.{Mark}
use Rattle.counted_handles.specs.declared.view.Publishing.{Publishing}
use Rattle.counted_handles.specs.declared.view.View.{View}
use Rattle.counted_handles.specs.declared.view.View.TheVariants.{Begin, Began, Publishes, Reads, Hosts, Has, HasWeakly, Buries, Fades, Resets, Frees, Ends, Gone}
use Rattle.counted_handles.specs.Shown.{Room, Board, version_at, owner_of, read_of, reads, shown}
use Rattle.counted_handles.specs.Ruled.{RoomSpot, LiesAt, IsShared, MarkIs, IsFree, AreFree, Holds, IsQuiet, EndedHome, Ended, Ruled}
use Rattle.counted_handles.specs.Tells.{Tried, Swept, Skipped, EndsAt, Shut}
use Rattle.counted_handles.proofs.Lists.{got_map, got_within, one_there, sum_has, when_equal, when_apart}
use Rattle.counted_handles.proofs.Frames.{mark_in, unmoved, home_stays, publisher_step, knows_publisher}
use Rattle.counted_handles.proofs.FreeSlots.{not_free}
use Rattle.counted_handles.proofs.Live.{slotted, last_room, live_mark}
use Rattle.counted_handles.proofs.LastLemmas.{last_unheld, last_unshared}
use Rattle.counted_handles.proofs.WordSteps.{found_shares, home_version}
use Rattle.counted_handles.proofs.PublisherWords.{how_is, shown_publisher}
use Rattle.counted_handles.proofs.Owners.{charged_rest}
use Rattle.counted_handles.proofs.Ties.{last_untied}
use Rattle.counted_handles.proofs.BuryStep.{buries}
use Rattle.counted_handles.proofs.ProbeStep.{free_room}
use Rattle.counted_handles.proofs.Later.{later, opened}

-- a place at a cell's end, when a seat that isn't the first is spent
ended_home : {T : Type 0} (spots : List (RoomSpot T)) (views : List (View T)) (id slot name place : ℕ) (home : maybe.Option (Room T)) → get_elem? views id ≡ some (Buries slot name) → EndedHome spots views place home → EndedHome spots (set views id Gone) place home
ended_home spots views id slot name place none at is =
    let apart : 0 ≢ id = λ e. let wrong : Ends place is.0 ≡ Buries slot name = one_there views 0 (Ends place is.0) (Buries slot name) is.1 (ap (get_elem? views) e ∙ at) in cc in
    (is.0, set_else views id 0 Gone apart ∙ is.1)
ended_home spots views id slot name place (some room) at is = is

-- the other places at a cell's end, when the last one is given back
home_back : {T : Type 0} (spots : List (RoomSpot T)) (s : Board T) (slot : ℕ) (spot : RoomSpot T) (place : ℕ) (home : maybe.Option (Room T)) → get_elem? s.views 0 ≡ some (Ends slot spot) → place ≢ slot → EndedHome spots s.views place home → EndedHome spots (set s.views 0 Gone) place home
home_back spots s slot spot place none at apart is = absurd (apart (let same : Ends place is.0 ≡ Ends slot spot = one_there s.views 0 (Ends place is.0) (Ends slot spot) is.1 at in let places : place ≡ slot = cc in places))
home_back spots s slot spot place (some room) at apart is = is

module _ {T : Type 0} (begins : T → Type 0) (follows : T → T → Type 0) (spots : List (RoomSpot T)) where
  abbrev Buried : Board T → ℕ → ℕ → ℕ → ℕ → Type 0
  Buried s id slot name word =
      (w : View T) × (a : Act (Room T)) × Valid s.homes [] a
      × Ruled begins follows spots (stepped s (suc (slot + slot)) word id [] w a)
      × Tried begins follows slot name (get_or s.words (suc (slot + slot)) 0) (w, carried_after [] a)

  -- at a cell's end no bury wins
  buries_none : (s : Board T) (e : Ended spots s) (id slot name : ℕ) → get_elem? s.views id ≡ some (Buries slot name) → Buried s id slot name (get_or s.words (suc (slot + slot)) 0)
  buries_none s e id slot name at = (
    Gone,
    keeps,
    tt,
    inr (inr (inr (record {
      quiet = λ j view q. ⊎_elim
          (λ (t : (j ≡ id) × (Gone ≡ view)). subst (IsQuiet spots) t.1 tt)
          (λ (t : (j ≢ id) × (get_elem? s.views j ≡ some view)). e.quiet j view t.1)
          (at_set s.views id j Gone view q);
      only = λ j place spot q. ⊎_elim
          (λ (t : (j ≡ id) × (Gone ≡ Ends place spot)). absurd (let wrong = t.1 in cc))
          (λ (t : (j ≢ id) × (get_elem? s.views j ≡ some (Ends place spot))). e.only j place spot t.1)
          (at_set s.views id j Gone (Ends place spot) q);
      homes = λ place home q. ended_home spots s.views id slot name place home at (e.homes place home q);
      used = λ j l q. e.used j l (ap (λ w. get_or w (suc (j + j)) 0) (sym (set-get_or s.words (suc (slot + slot)) 0)) ∙ q);
    }))),
    when_apart (get_or s.words (suc (slot + slot)) 0) 0 _ _ (e.used slot (e.quiet id (Buries slot name) at)) refl,
  )

  pub buries_ruled : (id slot name : ℕ) → Allows (Ruled begins follows spots) slots id (Buries slot name, []) (suc (slot + slot)) (λ n. either (n == 0) dead_word n) (λ found me. Tried begins follows slot name found me)
  buries_ruled id slot name s r size at bound = ⊎_elim
      (λ (h : Holds begins follows spots s). let made = buries begins follows spots id slot name s h size at bound in (made.0, made.1, made.2, inr (inr (inl made.3)), made.4))
      (λ (e : Ended spots s).
      exchanged (get_or s.words (suc (slot + slot)) 0) 0 dead_word (Buried s id slot name)
      (λ q. absurd (e.used slot (e.quiet id (Buries slot name) at) q))
      (λ q. buries_none s e id slot name at))
      (opened begins follows spots s id (Buries slot name) (λ value e. cc) (λ spot e. cc) at r)

  -- one slot more is seen free
  more_free : (s : Board T) (h : Holds begins follows spots s) (p : Publishing T) (slot last : ℕ) → AreFree s.words s.homes last p.swept → (slot ≢ last → IsFree s.words s.homes slot) → (slot ≡ last → get_or s.words (suc (suc (last + last))) 0 ≡ 1) → p.swept ≡ slot → AreFree s.words s.homes last (p.swept + 1)
  more_free s h p slot last are is untied same = (
    λ j l apart. elim (eqb_tells j slot) [
      | inl here ↦ subst (IsFree s.words s.homes) (sym here.1) (is (λ e. apart (here.1 ∙ e)))
      | inr other ↦ are.0 j (omega (arith, l, same, other.1)) apart
    ],
    λ l. elim (eqb_tells last slot) [
      | inl here ↦ untied (sym here.1)
      | inr other ↦ are.1 (omega (arith, l, same, other.1))
    ],
  )

  -- a slot whose S is FREE is free while the publisher probes
  pub seen_free : (s : Board T) (h : Holds begins follows spots s) (p : Publishing T) (k slot : ℕ) → get_elem? s.views 0 ≡ some (Publishes p) → p.how ≡ Probing k → slot < slots → get_or s.words (suc (slot + slot)) 0 ≡ free_word → IsFree s.words s.homes slot
  seen_free s h p k slot at how l free =
      let st : State T = shown s in
      let probing : st.publisher ≡ Probing k = how_is s p at ∙ how in
      let there = slotted s h slot l in
      let shares = found_shares s slot there in
      let passed : Shows (with_publisher (Probing slot) st) h.cell = pass_keeps st h.cell k slot h.shows probing l in
      let taken = take_keeps (with_publisher (Probing slot) st) h.cell slot there.there passed refl there.at (shares ∙ free) in
      let was = subst (λ x. SlotIs (with_publisher (Preparing slot) st) h.cell taken.plan slot x there.there) taken.publisher_is.1 (taken.table.slot_is slot there.there there.at) in
      let empty : version_at there.home ≡ None = home_version s slot there ∙ was.2 in
      let unfreed : (i : ℕ) → slice_get st.owners i ≡ Some (Fading slot) → ⊥ = λ i q.
      let charge = h.shows.owner_is i (Fading slot) q in
      let dead_slot = subst (λ x. SlotIs st h.cell h.shows.plan slot x there.there) charge.3 (h.shows.table.slot_is slot there.there there.at) in
      omega (arith, dead_slot.shares, shares, free) in
      let room = free_room spots h.name st slot k there.home probing unfreed empty (h.homes slot there.home there.home_at) in
      record { shares = free; room = room.0; home = there.home_at ∙ ap some room.1; empty = room.3 }

  -- a look by which the publisher has seen so many slots free, and somebody who has a version or nobody
  looked_on : (s : Board T) (h : Holds begins follows spots s) (p : Publishing T) (i swept : ℕ) (busy : Bool) → get_elem? s.views 0 ≡ some (Publishes p) → ((w k : ℕ) → p.fixed ≡ Some w → p.how ≡ Probing k → AreFree s.words s.homes (slot_of w) swept)
      → Holds begins follows spots (record { words = set s.words i (get_or s.words i 0); homes = s.homes; views = set s.views 0 (Publishes (record p { swept = swept; busy = busy })) })
  looked_on s h p i swept busy at free =
      let st : State T = shown s in
      let new : Publishing T = record p { swept = swept; busy = busy } in
      let known = h.knows 0 (Publishes p) at in
      let counts = knows_publisher begins follows spots s h p at in
      let words : set s.words i (get_or s.words i 0) ≡ s.words = set-get_or s.words i 0 in
      let after : State T = shown (record { words = s.words; homes = s.homes; views = set s.views 0 (Publishes new) }) in
      let is : after ≡ st = shown_publisher s s.words s.homes p new st.latest st.table at refl refl refl refl refl ∙ ap (λ x. record st { publisher = x }) (sym (how_is s p at)) in
      subst (λ w. Holds begins follows spots (record { words = w; homes = s.homes; views = set s.views 0 (Publishes new) })) (sym words)
      (publisher_step begins follows spots s h s.words s.homes p new (record {
        at = at;
        cell = h.cell;
        begun = ([], append-nil h.cell.published);
        history = h.history;
        shows = subst (λ x. Shows x h.cell) (sym is) h.shows;
        left = omega arith;
        readers = refl;
        guests = counts.guests;
        sunk = counts.sunk;
        gone = λ j u. u;
        fixed = counts.fixed;
        free = free;
        spare = counts.spare;
        homes_are = λ place home e. home_stays spots h.name st after place home
            (λ q. ap (λ (x : State T). x.publisher) is ∙ q)
            (λ j q. ap (λ (x : State T). slice_get x.owners j) is ∙ q)
            (h.homes place home e);
        mine = (known.0, known.1, known.2, known.3);
        others = λ j view other e. unmoved s.homes h.name view;
      }))

  -- one that counts one slot more
  counted : (s : Board T) (h : Holds begins follows spots s) (p : Publishing T) (k slot i : ℕ) → get_elem? s.views 0 ≡ some (Publishes p) → p.how ≡ Probing k → p.swept ≡ slot → ((w : ℕ) → p.fixed ≡ Some w → slot ≢ slot_of w → IsFree s.words s.homes slot)
      → ((w : ℕ) → p.fixed ≡ Some w → slot ≡ slot_of w → get_or s.words (suc (suc (slot_of w + slot_of w))) 0 ≡ 1)
      → Holds begins follows spots (record { words = set s.words i (get_or s.words i 0); homes = s.homes; views = set s.views 0 (Publishes (record p { swept = p.swept + 1 })) })
  counted s h p k slot i at how same free untied =
      let counts = knows_publisher begins follows spots s h p at in
      looked_on s h p i (p.swept + 1) p.busy at (λ w j e q. more_free s h p slot (slot_of w) (counts.free w j e q) (free w e) (untied w e) same)

  -- one that sees somebody who has a version
  busied : (s : Board T) (h : Holds begins follows spots s) (p : Publishing T) (i : ℕ) → get_elem? s.views 0 ≡ some (Publishes p) → Holds begins follows spots (record { words = set s.words i (get_or s.words i 0); homes = s.homes; views = set s.views 0 (Publishes (record p { busy = true })) })
  busied s h p i at = looked_on s h p i p.swept true at (λ w j e q. (knows_publisher begins follows spots s h p at).free w j e q)

  pub sweeps : (p : Publishing T) (k slot word : ℕ) → p.how ≡ Probing k → p.swept ≡ slot → p.fixed ≡ Some word → slot_of word ≢ slot → slot < slots → Allows (Ruled begins follows spots) slots 0 (Publishes p, []) (suc (slot + slot)) (λ n. n) (λ found me. Swept p found me)
  sweeps p k slot word how same fixed elsewhere l s r size at bound =
      let h = later begins follows spots s 0 (Publishes p) tt at r in
      let words : (w : ℕ) → p.fixed ≡ Some w → word ≡ w = λ w e. let f : Some word ≡ Some w = sym fixed ∙ e in cc in
      let found : ℕ = get_or s.words (suc (slot + slot)) 0 in
      elim (eqb_tells found free_word) [
        | inl free ↦ (
          Publishes (record p { swept = p.swept + 1 }),
          keeps,
          tt,
          inr (inr (inl (counted s h p k slot (suc (slot + slot)) at how same (λ w e apart. seen_free s h p k slot at how l free.1) (λ w e here. absurd (elsewhere (ap slot_of (words w e) ∙ sym here)))))),
          when_equal found free_word _ _ free.1 refl,
        )
        | inr other ↦ (Publishes (record p { busy = true }), keeps, tt, inr (inr (inl (busied s h p (suc (slot + slot)) at))), when_apart found free_word _ _ other.1 refl)
      ]

  pub skips : (p : Publishing T) (k slot word : ℕ) → p.how ≡ Probing k → p.swept ≡ slot → p.fixed ≡ Some word → slot_of word ≡ slot → Allows (Ruled begins follows spots) slots 0 (Publishes p, []) (suc (suc (slot + slot))) (λ n. n) (λ found me. Skipped p found me)
  skips p k slot word how same fixed last s r size at bound =
      let h = later begins follows spots s 0 (Publishes p) tt at r in
      let found : ℕ = get_or s.words (suc (suc (slot + slot))) 0 in
      let words : (w : ℕ) → p.fixed ≡ Some w → word ≡ w = λ w e. let f : Some word ≡ Some w = sym fixed ∙ e in cc in
      elim (eqb_tells found 1) [
        | inl one ↦ (
          Publishes (record p { swept = p.swept + 1 }),
          keeps,
          tt,
          inr (inr (inl (counted s h p k slot (suc (suc (slot + slot))) at how same (λ w e apart. absurd (apart (sym last ∙ ap slot_of (words w e)))) (λ w e here. ap (λ n. get_or s.words (suc (suc (n + n))) 0) (sym here) ∙ one.1)))),
          when_equal found 1 _ _ one.1 refl,
        )
        | inr other ↦ (Publishes (record p { busy = true }), keeps, tt, inr (inr (inl (busied s h p (suc (suc (slot + slot))) at))), when_apart found 1 _ _ other.1 refl)
      ]

  -- the seats beside the first one, where nobody reads, has a share, weakly or not, or is to do something in a slot that is buried
  quiet_else : (s : Board T) (h : Holds begins follows spots s) → reads s.views ≡ 0 → ((j : ℕ) (view : View T) → get_elem? s.views j ≡ some view → (mark : Mark T) → mark_in view ≡ Some mark → MarkIs s.homes h.name mark → ⊥)
      → ((i place : ℕ) (how : Owner) → slice_get (shown s).owners i ≡ Some how → charged how ≡ Some place → ⊥) → ((i number place : ℕ) → slice_get (shown s).owners i ≡ Some (Weakly number place) → ⊥)
      → (j : ℕ) (view : View T) → j ≢ 0 → get_elem? s.views j ≡ some view → IsQuiet spots view
  quiet_else s h none_reads unshared unfreed untied j (Begin value) apart at = h.knows j (Begin value) at
  quiet_else s h none_reads unshared unfreed untied j (Began spot) apart at = h.knows j (Began spot) at
  quiet_else s h none_reads unshared unfreed untied j (Publishes p) apart at = absurd (apart (h.only j p at))
  quiet_else s h none_reads unshared unfreed untied j (Reads r) apart at = let some_reader = sum_has read_of s.views j (Reads r) at in absurd (omega (arith, some_reader.1, none_reads))
  quiet_else s h none_reads unshared unfreed untied j (Hosts r hold) apart at = let some_reader = sum_has read_of s.views j (Hosts r hold) at in absurd (omega (arith, some_reader.1, none_reads))
  quiet_else s h none_reads unshared unfreed untied j (Has mark) apart at = absurd (unshared j (Has mark) at mark refl (h.knows j (Has mark) at))
  quiet_else s h none_reads unshared unfreed untied j (Buries slot name) apart at = h.shows.owner_is j (Burying slot) (got_map owner_of s.views j (Buries slot name) at)
  quiet_else s h none_reads unshared unfreed untied j (HasWeakly tie) apart at = absurd (untied j tie.number tie.slot (got_map owner_of s.views j (HasWeakly tie) at))
  quiet_else s h none_reads unshared unfreed untied j (Fades slot spot) apart at = absurd (unfreed j slot (Fading slot) (got_map owner_of s.views j (Fades slot spot) at) refl)
  quiet_else s h none_reads unshared unfreed untied j (Resets slot) apart at = absurd (unfreed j slot (Resetting slot) (got_map owner_of s.views j (Resets slot) at) refl)
  quiet_else s h none_reads unshared unfreed untied j (Frees slot) apart at = absurd (unfreed j slot (Freeing slot) (got_map owner_of s.views j (Frees slot) at) refl)
  quiet_else s h none_reads unshared unfreed untied j (Ends slot spot) apart at = absurd (h.knows j (Ends slot spot) at)
  quiet_else s h none_reads unshared unfreed untied j Gone apart at = tt

  -- nobody has a version weakly where the other slots are free, and K of the one in W is 1
  no_weak : (s : Board T) (h : Holds begins follows spots s) (slot i number place : ℕ) → slot ≡ h.shows.plan.slot h.shows.plan.last → get_or s.words (suc (suc (slot + slot))) 0 ≡ 1 → ((place : ℕ) → place < slots → place ≢ slot → IsFree s.words s.homes place) → slice_get (shown s).owners i ≡ Some (Weakly number place) → ⊥
  no_weak s h slot i number place last one free seat =
      let st : State T = shown s in
      let of = h.shows.owner_is i (Weakly number place) seat in
      let there = slotted s h place of.0 in
      elim (eqb_tells place slot) [
        | inl same ↦ last_untied begins follows spots s h slot i number place (latest_slot st h.cell h.shows ∙ sym last) one seat same.1
        | inr other ↦ (keeps_slot st h.cell i number place there.there h.shows seat there.at).0 (found_shares s place there ∙ (free place of.0 other.1).shares)
      ]

  -- what is known when the cell can end
  record CanEnd (s : Board T) (h : Holds begins follows spots s) (p : Publishing T) (slot : ℕ) : Type 0 where
    at : get_elem? s.views 0 ≡ some (Publishes p)
    within : slot < slots
    size : (place : ℕ) (home : maybe.Option (Room T)) → get_elem? s.homes place ≡ some home → place < slots
    spot : RoomSpot T
    lies : slice_get spots slot ≡ Some spot
    room : Room T
    home : get_elem? s.homes slot ≡ some (some room)
    none_reads : reads s.views ≡ 0
    free : (place : ℕ) → place < slots → place ≢ slot → IsFree s.words s.homes place
    unshared : (j : ℕ) (view : View T) → get_elem? s.views j ≡ some view → (mark : Mark T) → mark_in view ≡ Some mark → MarkIs s.homes h.name mark → ⊥
    unfreed : (i place : ℕ) (how : Owner) → slice_get (shown s).owners i ≡ Some how → charged how ≡ Some place → ⊥
    untied : (i number place : ℕ) → slice_get (shown s).owners i ≡ Some (Weakly number place) → ⊥
    some_shares : get_or s.words (suc (slot + slot)) 0 ≢ 0

  -- the cell has ended, when the first seat has taken the last version's place
  ended : (s : Board T) (h : Holds begins follows spots s) (p : Publishing T) (slot : ℕ) → (c : CanEnd s h p slot) → Ended spots (record { words = set s.words (suc (slot + slot)) (get_or s.words (suc (slot + slot)) 0); homes = set s.homes slot none; views = set s.views 0 (Ends slot c.spot) })
  ended s h p slot c =
      let here : get_elem? (set s.views 0 (Ends slot c.spot)) 0 ≡ some (Ends slot c.spot) = set_here s.views 0 (Ends slot c.spot) (got_within s.views 0 (Publishes p) c.at) in
      record {
        quiet = λ j view e. ⊎_elim
            (λ (t : (j ≡ 0) × (Ends slot c.spot ≡ view)). subst (IsQuiet spots) t.1 c.lies)
            (λ (t : (j ≢ 0) × (get_elem? s.views j ≡ some view)). quiet_else s h c.none_reads c.unshared c.unfreed c.untied j view t.0 t.1)
            (at_set s.views 0 j (Ends slot c.spot) view e);
        only = λ j place spot e. ⊎_elim
            (λ (t : (j ≡ 0) × (Ends slot c.spot ≡ Ends place spot)). t.0)
            (λ (t : (j ≢ 0) × (get_elem? s.views j ≡ some (Ends place spot))). absurd (h.knows j (Ends place spot) t.1))
            (at_set s.views 0 j (Ends slot c.spot) (Ends place spot) e);
        homes = λ place home e. ⊎_elim
            (λ (t : (place ≡ slot) × (none ≡ home)). subst (λ x. EndedHome spots (set s.views 0 (Ends slot c.spot)) place x) t.1 (c.spot, here ∙ ap (λ k. some (Ends k c.spot)) (sym t.0)))
            (λ (t : (place ≢ slot) × (get_elem? s.homes place ≡ some home)).
            let is = c.free place (c.size place home t.1) t.0 in
            let same : some is.room ≡ home = one_there s.homes place (some is.room) home is.home t.1 in
            let known = h.homes place (some is.room) is.home in
            subst (λ x. EndedHome spots (set s.views 0 (Ends slot c.spot)) place x) same (known.0, subst (λ v. IsShared h.name place v is.room.stake) is.empty known.1))
            (at_set s.homes slot place none home e);
        used = λ j l q.
            let was : get_or s.words (suc (j + j)) 0 ≡ 0 = ap (λ w. get_or w (suc (j + j)) 0) (sym (set-get_or s.words (suc (slot + slot)) 0)) ∙ q in
            elim (eqb_tells j slot) [
              | inl same ↦ c.some_shares (ap (λ k. get_or s.words (suc (k + k)) 0) (sym same.1) ∙ was)
              | inr other ↦ let is = c.free j l other.1 in omega (arith, is.shares, was)
            ];
      }

  pub ends : (p : Publishing T) (k word : ℕ) → p.how ≡ Probing k → p.fixed ≡ Some word → p.swept ≡ slots → Allows (Ruled begins follows spots) slots 0 (Publishes p, []) (suc (slot_of word + slot_of word)) (λ n. n) (λ found me. EndsAt p word found me)
  ends p k word how fixed all s r size at bound =
      let h = later begins follows spots s 0 (Publishes p) tt at r in
      let slot : ℕ = slot_of word in
      let found : ℕ = get_or s.words (suc (slot + slot)) 0 in
      elim (eqb_tells found (bulk - given_of word)) [
        | inl same ↦ (
            let plan = h.shows.plan in
            let known = h.knows 0 (Publishes p) at in
            let counts = knows_publisher begins follows spots s h p at in
            let unheld = last_unheld begins follows spots s h p k word at how fixed same.1 in
            let lies = last_lies (shown s) h.cell h.shows in
            let room = last_room spots s h in
            let free : (place : ℕ) → place < slots → place ≢ slot → IsFree s.words s.homes place = λ place l apart. (counts.free word k fixed how).0 place (omega (arith, l, all)) apart in
            let within : slot < slots = subst (λ x. x < slots) (sym unheld.0) lies.0 in
            let can : CanEnd s h p slot = record {
              at = at;
              within = within;
              size = λ place home e. let w = got_within s.homes place home e in omega (arith, w, size);
              spot = room.lies.0;
              lies = ap (slice_get spots) unheld.0 ∙ room.lies.1;
              room = room.room;
              home = ap (get_elem? s.homes) unheld.0 ∙ room.home;
              none_reads = omega (arith, counts.readers, (counts.fixed word fixed).0);
              free = free;
              unshared = λ j view there mark e is.
                  let w = got_within s.homes mark.slot (some is.room) is.home in
                  not_free s.words s.homes h.name mark is (free mark.slot (omega (arith, w, size)) (last_unshared begins follows spots s h p k word at how fixed same.1 j view there mark e is));
              unfreed = λ i place who e of.
                  let rest = charged_rest h.cell plan i place who of (h.shows.owner_is i who e) in
                  let charge = rest.1 in
                  let apart : place ≢ slot = λ q. let wrong : dead charge.0 charge.1 rest.0 ≡ live plan.last = sym charge.3 ∙ ap plan.phase (q ∙ unheld.0) ∙ lies.1 in cc in
                  let there = slotted s h place charge.2 in
                  let dead_slot = subst (λ x. SlotIs (shown s) h.cell plan place x there.there) charge.3 (h.shows.table.slot_is place there.there there.at) in
                  let is = free place charge.2 apart in
                  omega (arith, dead_slot.shares, found_shares s place there, is.shares);
              untied = λ i number place e. no_weak s h slot i number place unheld.0 ((counts.free word k fixed how).1 (omega (arith, within, all))) free e;
              some_shares = λ e. omega (arith, e, same.1);
            } in (
              Ends slot can.spot,
              takes slot room.room,
              can.home,
              inr (inr (inr (ended s h p slot can))),
              when_equal found (bulk - given_of word) _ _ same.1 (record {
                spot = can.spot;
                room = room.room;
                mark = live_mark room;
                me_is = refl;
                lies = room.lies.2;
                version = room.version;
                stake = room.stake;
                name_is = sym known.0;
                slot_is = sym unheld.0;
                last = ap (λ l. length l) known.1 ∙ h.shows.numbers.last;
                value = ap (λ x. slice_get x plan.last) known.1 ∙ room.published_is;
              }),
            )
            )
        | inr other ↦ (Publishes (record p { busy = true }), keeps, tt, inr (inr (inl (busied s h p (suc (slot + slot)) at))), when_apart found (bulk - given_of word) _ _ other.1 refl)
      ]

  -- at a cell's end, by the view of its first seat
  ending : (s : Board T) (id slot : ℕ) (spot : RoomSpot T) → get_elem? s.views id ≡ some (Ends slot spot) → Ruled begins follows spots s → Ended spots s
  ending s id slot spot at r = ⊎_elim
      (λ (h : Holds begins follows spots s). absurd (h.knows id (Ends slot spot) at))
      (λ (e : Ended spots s). e)
      (opened begins follows spots s id (Ends slot spot) (λ value e. cc) (λ other e. cc) at r)

  pub shuts : (slot : ℕ) (spot : RoomSpot T) (room : Room T) → room.at ≡ spot.at → room.stake ≡ [] → Allows (Ruled begins follows spots) slots 0 (Ends slot spot, (slot, room) ∷ []) 0 (λ n. n) (λ found me. Shut me)
  shuts slot spot room lies whole s r size at bound =
      let e = ending s 0 slot spot at r in
      let homes : List (maybe.Option (Room T)) = set s.homes slot (some room) in (
        Gone,
        gives,
        tt,
        inr (inr (inr (record {
          quiet = λ j view q. ⊎_elim
              (λ (t : (j ≡ 0) × (Gone ≡ view)). subst (IsQuiet spots) t.1 tt)
              (λ (t : (j ≢ 0) × (get_elem? s.views j ≡ some view)). e.quiet j view t.1)
              (at_set s.views 0 j Gone view q);
          only = λ j place other q. ⊎_elim
              (λ (t : (j ≡ 0) × (Gone ≡ Ends place other)). t.0)
              (λ (t : (j ≢ 0) × (get_elem? s.views j ≡ some (Ends place other))). e.only j place other t.1)
              (at_set s.views 0 j Gone (Ends place other) q);
          homes = λ place home q. ⊎_elim
              (λ (t : (place ≡ slot) × (some room ≡ home)). subst (λ x. EndedHome spots (set s.views 0 Gone) place x) t.1 (subst (λ k. LiesAt spots k room × (room.stake ≡ [])) (sym t.0) ((spot, e.quiet 0 (Ends slot spot) at, lies), whole)))
              (λ (t : (place ≢ slot) × (get_elem? s.homes place ≡ some home)). home_back spots s slot spot place home at t.0 (e.homes place home t.1))
              (at_set s.homes slot place (some room) home q);
          used = λ j l q. e.used j l (ap (λ w. get_or w (suc (j + j)) 0) (sym (set-get_or s.words 0 0)) ∙ q);
        }))),
        refl,
      )

  pub alone_ending : (id slot : ℕ) (spot : RoomSpot T) (mark : Mark T) → Alone (Ruled begins follows spots) id (Ends slot spot) (Has mark)
  alone_ending id slot spot mark s r at i there = (ending s id slot spot at r).quiet i (Has mark) there
