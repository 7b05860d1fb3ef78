-- A bury keeps the rule, whether it wins or not.
use Rattle.std.proofs.Common.{◌≡◌, ◌≢◌, refl, sym, ap, ◌∙◌, subst, ℕ, suc, ◌+◌, ◌<◌, inl, inr, ⊎_elim, true, List, [], get_or, set, arith, Option, Some, None}
use Rattle.std.specs.Prelude.{◌==◌}
use Rattle.std.specs.List.{slice_get}
use Rattle.std.proofs.lemmas.Bool.Decides.{eqb_tells}
use Rattle.std.proofs.lemmas.Option.{slice_get_within}
use mathlib.Core.Option.{none, some, some-injective}
use lib.ListN.{get_elem?}
use prog.Atomic.{either}
use Rattle.atomic_table.specs.Table.{Allows, Act, keeps, takes, Valid, stepped, carried_after}
use Rattle.atomic_table.proofs.Lists.{at_set, exchanged}
use Rattle.cell_core.proofs.SeatLemmas.{held_some, get_set_same, one_at_itself}
use Rattle.cell_core.proofs.BuryKeeps.{CanBury, can_bury, bury_keeps, kept_keeps}
use Rattle.cell_core.proofs.FrameLemmas.{seat_stays}
use Rattle.cell_core.specs.Cell.{Cell, with_buried}
use Rattle.cell_core.specs.Words.{State, slots, dead_word}
use Rattle.cell_core.specs.WordSteps.{with_owner, with_slot, with_shares, with_version}
use Rattle.cell_core.specs.Shows.{Shows, PublisherIs, holds, held}
use Rattle.cell_core.specs.Shows.Phase.{live, taken}
use Rattle.cell_core.specs.declared.words.Slot.{Slot}
use Rattle.cell_core.specs.declared.words.Version.{Version}
use Rattle.cell_core.specs.declared.words.Publisher.TheVariants.{Swapping}
use Rattle.cell_core.specs.declared.words.Owner.{Owner}
use Rattle.cell_core.specs.declared.words.Owner.TheVariants.{Holding, Twice, Both, Burying, Fading, Spent}
use Rattle.counted_handles.specs.declared.view.Mark.{Mark}
use Rattle.counted_handles.specs.declared.view.Hold.{Hold}
use Rattle.counted_handles.specs.declared.view.Hold.TheVariants.{Once, Double, Loose, Mixed}
use Rattle.counted_handles.specs.declared.view.View.{View}
use Rattle.counted_handles.specs.declared.view.View.TheVariants.{Begin, Began, Publishes, Reads, Hosts, Has, HasWeakly, Buries, Fades, Resets, Frees, Ends, Gone}
use Rattle.counted_handles.specs.Shown.{Room, Board, holder, hold_owner, held_by, owner_of, shown}
use Rattle.counted_handles.specs.Ruled.{RoomSpot, HomeIs, MarkIs, Holds}
use Rattle.counted_handles.specs.Tells.{Tried}
use Rattle.counted_handles.proofs.Lists.{got_map, one_there, when_equal, when_apart}
use Rattle.counted_handles.proofs.Slots.{first_kept}
use Rattle.counted_handles.proofs.FreeSlots.{free_kept, free_again, frees_kept, frees_again}
use Rattle.counted_handles.proofs.Frames.{hold_mark, held_mark, mark_in, Undisturbed, undisturbed, unmoved, home_stays, not_first, publisher_is, seat_step}
use Rattle.counted_handles.proofs.Live.{slotted, live_room, live_mark}
use Rattle.counted_handles.proofs.WordSteps.{found_shares, shown_shares, shown_place, slots_kept}

-- a number that is buried stays so
buried_still : {T : Type 0} (cell : Cell T) (m j : ℕ) → cell.buried j ≡ true → (with_buried m cell).buried j ≡ true
buried_still cell m j gone = elim (eqb_tells j m) [ inl same ↦ rw same.0 refl | inr other ↦ rw other.0 gone ]

-- who has a share is counted
counted_once : (number slot : ℕ) (how : Owner) → how ≡ Holding number slot → 0 < holds number how
counted_once number slot how is = let one = one_at_itself number in let f = ap (holds number) is in omega (arith, one, f)

hold_counted : {T : Type 0} (hold : Hold T) (mark : Mark T) → hold_mark hold ≡ Some mark → 0 < holds mark.number (hold_owner hold)
hold_counted {T} (Once its) mark e = counted_once mark.number mark.slot (Holding its.number its.slot) (ap (λ (x : Option (Mark T)). holder x) e)
hold_counted {T} (Double its) mark e =
    let same : its.number ≡ mark.number = ap (λ (x : Mark T). x.number) (let f : its ≡ mark = cc in f) in
    subst (λ n. 0 < holds n (Twice its.number its.slot)) same (elim (eqb_tells its.number its.number) [ inl is ↦ rw is.0 (omega arith) | inr other ↦ absurd (other.1 refl) ])
hold_counted (Loose tie seen) mark e = absurd (let wrong = e in cc)
hold_counted {T} (Mixed its tie) mark e =
    let same : its.number ≡ mark.number = ap (λ (x : Mark T). x.number) (let f : its ≡ mark = cc in f) in
    subst (λ n. 0 < holds n (Both its.number its.slot)) same (let one = one_at_itself its.number in omega (arith, one))

held_counted : {T : Type 0} (held : Option (Hold T)) (mark : Mark T) → held_mark held ≡ Some mark → 0 < holds mark.number (held_by held)
held_counted None mark e = absurd (let wrong = e in cc)
held_counted (Some hold) mark e = hold_counted hold mark e

pub owner_by_mark : {T : Type 0} (view : View T) (mark : Mark T) → mark_in view ≡ Some mark → 0 < holds mark.number (owner_of view)
owner_by_mark (Publishes p) mark e = held_counted p.share mark e
owner_by_mark (Hosts r hold) mark e = hold_counted hold mark e
owner_by_mark {T} (Reads r) mark e = counted_once mark.number mark.slot (holder r.share) (ap (λ (x : Option (Mark T)). holder x) e)
owner_by_mark {T} (Has its) mark e = counted_once mark.number mark.slot (Holding its.number its.slot) (ap (λ (x : Option (Mark T)). holder x) e)
owner_by_mark (Begin value) mark e = absurd (let wrong = e in cc)
owner_by_mark (Began spot) mark e = absurd (let wrong = e in cc)
owner_by_mark (Buries slot name) mark e = absurd (let wrong = e in cc)
owner_by_mark (HasWeakly tie) mark e = absurd (let wrong = e in cc)
owner_by_mark (Fades slot spot) mark e = absurd (let wrong = e in cc)
owner_by_mark (Resets slot) mark e = absurd (let wrong = e in cc)
owner_by_mark (Frees slot) mark e = absurd (let wrong = e in cc)
owner_by_mark (Ends slot spot) mark e = absurd (let wrong = e in cc)
owner_by_mark Gone mark e = absurd (let wrong = e in cc)

-- the number of a version, if there is one
abbrev number_or : {T : Type 0} → Option (Version T) → ℕ
number_or None = 0
number_or (Some version) = version.number

-- a version that nobody owns has no share
pub unheld_mark : {T : Type 0} (begins : T → Type 0) (follows : T → T → Type 0) (spots : List (RoomSpot T)) (s : Board T) (h : Holds begins follows spots s) (place m : ℕ) (room : Room T) (value : T) → held (shown s).owners m ≡ 0 → get_elem? s.homes place ≡ some (some room) → room.value ≡ Some (record { number = m; value = value }) → (j : ℕ) (view : View T) → get_elem? s.views j ≡ some view → (mark : Mark T) → mark_in view ≡ Some mark → MarkIs s.homes h.name mark → mark.slot ≢ place
unheld_mark {T} begins follows spots s h place m room value unheld home full j view at mark e is same =
    let here : get_elem? s.homes place ≡ some (some is.room) = ap (get_elem? s.homes) (sym same) ∙ is.home in
    let one : some room ≡ some is.room = one_there s.homes place (some room) (some is.room) home here in
    let rooms : room ≡ is.room = some-injective room is.room one in
    let versions : Some (record { number = m; value = value }) ≡ Some (record { number = mark.number; value = mark.value }) = sym full ∙ ap (λ (x : Room T). x.value) rooms ∙ is.version in
    let numbers : m ≡ mark.number = ap number_or versions in
    let some_held = held_some (shown s).owners j mark.number (owner_of view) (got_map owner_of s.views j view at) in
    let none_held : held (shown s).owners mark.number ≡ 0 = ap (held (shown s).owners) (sym numbers) ∙ unheld in
    absurd (omega (arith, some_held, owner_by_mark view mark e, none_held))

-- the version in a slot whose S is 0 has no share, and isn't to be published
pub unowned_room : {T : Type 0} (begins : T → Type 0) (follows : T → T → Type 0) (spots : List (RoomSpot T)) (s : Board T) (h : Holds begins follows spots s) (place m : ℕ) (there : Slot T) (room : Room T) (value : T) → CanBury (shown s) h.cell h.shows.plan place m there → get_elem? s.homes place ≡ some (some room) → room.value ≡ Some (record { number = m; value = value }) → (j : ℕ) (view : View T) → get_elem? s.views j ≡ some view → Undisturbed s.homes (set s.homes place none) h.name view
unowned_room {T} begins follows spots s h place m there room value can home full j view at =
    undisturbed s.homes h.name place none view
    (λ mark e is. unheld_mark begins follows spots s h place m room value can.unheld home full j view at mark e is)
    (λ p slot e how is same.
    let first : j ≡ 0 = h.only j p (at ∙ ap some e) in
    let here : get_elem? s.views 0 ≡ some (Publishes p) = ap (get_elem? s.views) (sym first) ∙ at ∙ ap some e in
    let swapping : (shown s).publisher ≡ Swapping slot = publisher_is s.views (Publishes p) here ∙ how in
    let mine = subst (λ x. PublisherIs h.cell h.shows.plan (shown s).granted x) swapping h.shows.publisher_is in
    let wrong : taken true ≡ live m = sym mine.1 ∙ ap h.shows.plan.phase same ∙ can.phase in
    cc)

module _ {T : Type 0} (begins : T → Type 0) (follows : T → T → Type 0) (spots : List (RoomSpot T)) where
  -- what a bury gives, by the word that it leaves
  abbrev Outcome : Board T → ℕ → ℕ → ℕ → ℕ → Type 0
  Outcome s id slot name word =
      (w : View T) × (a : Act (Room T)) × Valid s.homes [] a
      × Holds begins follows spots (stepped s (suc (slot + slot)) word id [] w a)
      × Tried begins follows slot name (get_or s.words (suc (slot + slot)) 0) (w, carried_after [] a)

  wins : (s : Board T) (h : Holds begins follows spots s) (id slot name : ℕ) → get_elem? s.views id ≡ some (Buries slot name) → slot < slots → get_or s.words (suc (slot + slot)) 0 ≡ 0 → Outcome s id slot name dead_word
  wins s h id slot name at l none_left =
      let st : State T = shown s in
      let words : List ℕ = set s.words (suc (slot + slot)) dead_word in
      let there = slotted s h slot l in
      let shares : there.there.shares ≡ 0 = found_shares s slot there ∙ none_left in
      let can = can_bury st h.cell h.shows slot there.there there.at shares in
      let m : ℕ = can.0 in
      let room = live_room spots s h m slot l can.1.phase in
      let spot : RoomSpot T = room.lies.0 in
      let new : View T = Fades slot spot in
      let known = h.knows id (Buries slot name) at in
      let first = not_first s h id (Buries slot name) at (λ p e. cc) in
      let seat : slice_get st.owners id ≡ Some (Burying slot) = got_map owner_of s.views id (Buries slot name) at in
      let shows = bury_keeps st h.cell id slot m there.there h.shows seat there.at can.1 in
      let after : State T = shown (record { words = words; homes = set s.homes slot none; views = set s.views id new }) in
      let same : after ≡ with_owner id (Fading slot) (with_slot slot (with_shares dead_word (with_version None there.there)) st) = shown_place s slot dead_word none there id (Buries slot name) new at first refl in (
        new,
        takes slot room.room,
        room.home,
        seat_step begins follows spots s h words (set s.homes slot none) id (Buries slot name) new (record {
          at = at;
          was_none = λ p e. cc;
          is_none = λ p e. cc;
          cell = with_buried m h.cell;
          published = refl;
          gone = λ j u. buried_still h.cell m j u;
          shows = subst (λ x. Shows x (with_buried m h.cell)) (sym same) shows;
          left = omega arith;
          read = refl;
          fixed = λ p here counts w e. first_kept s.words (slot + slot) dead_word ∙ (counts.fixed w e).1;
          free = λ last swept is are. frees_kept s.words s.homes slot dead_word none last swept (λ free. omega (arith, free.shares, none_left)) are;
          spare = λ place is. free_kept s.words s.homes slot dead_word none place (λ free. omega (arith, free.shares, none_left)) is;
          homes_are = λ place home e. ⊎_elim
              (λ (t : (place ≡ slot) × (none ≡ home)).
              let fading : slice_get after.owners id ≡ Some (Fading slot) = ap (λ (x : State T). slice_get x.owners id) same ∙ get_set_same st.owners id (Fading slot) (slice_get_within st.owners id (Burying slot) seat) in
              subst (λ x. HomeIs spots h.name after place x) t.1 (inr (id, fading ∙ ap (λ k. Some (Fading k)) (sym t.0))))
              (λ (t : (place ≢ slot) × (get_elem? s.homes place ≡ some home)). home_stays spots h.name st after place home
              (λ p. ap (λ (x : State T). x.publisher) same ∙ p)
              (λ i q. ap (λ (x : State T). slice_get x.owners i) same ∙ seat_stays st.owners id (Burying slot) (Fading slot) (Fading place) seat (λ e. cc) i q)
              (h.homes place home t.1))
              (at_set s.homes slot place none home e);
          mine = room.lies.1;
          others = λ j view other e. unowned_room begins follows spots s h slot m there.there room.room room.value can.1 room.home room.version j view e;
        }),
        when_equal (get_or s.words (suc (slot + slot)) 0) 0 _ _ none_left (record {
          spot = spot;
          room = room.room;
          mark = live_mark room;
          me_is = refl;
          lies = room.lies.2;
          version = room.version;
          stake = room.stake;
          name_is = sym known;
          slot_is = refl;
          older = record { published = h.cell.published; history = h.history; value_is = room.published_is; older = omega (arith, can.1.before, h.shows.numbers.last) };
        }),
      )

  loses : (s : Board T) (h : Holds begins follows spots s) (id slot name : ℕ) → get_elem? s.views id ≡ some (Buries slot name) → slot < slots → get_or s.words (suc (slot + slot)) 0 ≢ 0 → Outcome s id slot name (get_or s.words (suc (slot + slot)) 0)
  loses s h id slot name at l apart =
      let st : State T = shown s in
      let found : ℕ = get_or s.words (suc (slot + slot)) 0 in
      let there = slotted s h slot l in
      let shares = found_shares s slot there in
      let first = not_first s h id (Buries slot name) at (λ p e. cc) in
      let seat : slice_get st.owners id ≡ Some (Burying slot) = got_map owner_of s.views id (Buries slot name) at in
      let shows = kept_keeps st h.cell id slot there.there h.shows seat there.at (λ e. apart (sym shares ∙ e)) in
      let after : State T = shown (record { words = set s.words (suc (slot + slot)) found; homes = s.homes; views = set s.views id Gone }) in
      let same : after ≡ with_owner id Spent st = shown_shares s slot found there id (Buries slot name) Gone at first refl ∙ ap (λ t. with_owner id Spent (record st { table = t })) (slots_kept s slot found there (sym shares)) in (
        Gone,
        keeps,
        tt,
        seat_step begins follows spots s h (set s.words (suc (slot + slot)) found) s.homes id (Buries slot name) Gone (record {
          at = at;
          was_none = λ p e. cc;
          is_none = λ p e. cc;
          cell = h.cell;
          published = refl;
          gone = λ j u. u;
          shows = subst (λ x. Shows x h.cell) (sym same) shows;
          left = omega arith;
          read = refl;
          fixed = λ p here counts w e. first_kept s.words (slot + slot) found ∙ (counts.fixed w e).1;
          free = λ last swept is are. frees_again s.words s.homes (suc (slot + slot)) last swept are;
          spare = λ place is. free_again s.words s.homes (suc (slot + slot)) place is;
          homes_are = λ place home e. home_stays spots h.name st after place home
              (λ p. ap (λ (x : State T). x.publisher) same ∙ p)
              (λ i q. ap (λ (x : State T). slice_get x.owners i) same ∙ seat_stays st.owners id (Burying slot) Spent (Fading place) seat (λ e. cc) i q)
              (h.homes place home e);
          mine = tt;
          others = λ j view other e. unmoved s.homes h.name view;
        }),
        when_apart found 0 _ _ apart refl,
      )

  pub buries : (id slot name : ℕ) → Allows (Holds begins follows spots) slots id (Buries slot name, []) (suc (slot + slot)) (λ n. either (n == 0) dead_word n) (λ found me. Tried begins follows slot name found me)
  buries id slot name s h size at bound =
      let l : slot < slots = h.shows.owner_is id (Burying slot) (got_map owner_of s.views id (Buries slot name) at) in
      exchanged (get_or s.words (suc (slot + slot)) 0) 0 dead_word (Outcome s id slot name) (wins s h id slot name at l) (loses s h id slot name at l)
