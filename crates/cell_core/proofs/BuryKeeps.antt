-- A bury keeps what the words show; a late one, too.
use Rattle.std.proofs.Common.{◌≡◌, ◌≢◌, refl, sym, ap, ◌∙◌, subst, ℕ, ◌+◌, ◌-◌, ◌<◌, ◌≤◌, true, false, inl, inr, arith}
use Rattle.std.specs.Prelude.{None, Some}
use Rattle.std.specs.List.{slice_get}
use Rattle.std.proofs.lemmas.Bool.Decides.{eqb_tells}
use Rattle.std.proofs.lemmas.Option.{slice_get_within}
use Rattle.cell_core.proofs.SeatLemmas.{get_set_same, held_some}
use Rattle.cell_core.proofs.FrameLemmas.{with_phase, table_with, table_as, held_stays, weaks_stay, beside_itself, owner_stays, publisher_stays, phase_here, phase_there, phase_stays, number_stays, rest_stays, owners_after, seat_elsewhere}
use Rattle.cell_core.specs.Cell.{Cell, with_buried}
use Rattle.cell_core.specs.Words.{State, grants, dead_word, bulk}
use Rattle.cell_core.specs.WordSteps.{with_slot, with_owner, with_shares, with_version}
use Rattle.cell_core.specs.Shows.{Phase, Plan, IsLive, SlotIs, WeakWord, number_of, PublisherIs, Shows, held, weaks, kept_by, kept_by_cell, owned_by}
use Rattle.cell_core.specs.Shows.Rest.{fading}
use Rattle.cell_core.specs.Shows.Phase.{free, taken, live, dead}
use Rattle.cell_core.specs.declared.words.Slot.{Slot}
use Rattle.cell_core.specs.declared.words.Owner.TheVariants.{Burying, Fading, Spent}
use Rattle.cell_core.specs.declared.words.Publisher.{Publisher}
use Rattle.cell_core.specs.declared.words.Publisher.TheVariants.{Probing, Preparing, Swapping, Settling}

-- a slot whose S is 0 has a version in it that isn't buried
zero_is_live : {T : Type 0} (state : State T) (cell : Cell T) (plan : Plan) (place : ℕ) (there : Slot T) (phase : Phase) → SlotIs state cell plan place phase there → there.shares ≡ 0 → (m : ℕ) × (phase ≡ live m)
zero_is_live state cell plan place there free s zero = absurd (omega (arith, s.0, zero))
zero_is_live state cell plan place there (taken false) s zero = absurd (omega (arith, s.1, zero))
zero_is_live state cell plan place there (taken true) s zero = absurd (omega (arith, s.1, zero))
zero_is_live state cell plan place there (live m) s zero = (m, refl)
zero_is_live state cell plan place there (dead m late rest) s zero = absurd (omega (arith, s.shares, zero))

-- the last number has shares
last_has_shares : (last given : ℕ) → given ≤ grants → kept_by_cell last given last ≡ 0 → ⊥
last_has_shares last given l e = elim (eqb_tells last last) [ inl same ↦ (let f : bulk - given ≡ 0 = rw same.0 at e in omega (arith, f, l)) | inr other ↦ other.1 refl ]

-- a number of which the publisher has no share isn't the one that it is to settle
no_share_none_owned : {T : Type 0} (cell : Cell T) (plan : Plan) (granted : ℕ) (publisher : Publisher) (m : ℕ) → PublisherIs cell plan granted publisher → granted ≤ grants → kept_by publisher m ≡ 0 → owned_by publisher m ≡ 0
no_share_none_owned cell plan granted (Probing place) m s l e = refl
no_share_none_owned cell plan granted (Preparing place) m s l e = refl
no_share_none_owned cell plan granted (Swapping place) m s l e = refl
no_share_none_owned cell plan granted (Settling number place given) m s l e =
    elim (eqb_tells m number) [ inl same ↦ (let f : bulk - given ≡ 0 = rw same.0 at e in absurd (omega (arith, f, s.2, l))) | inr other ↦ rw other.0 refl ]

owned_not_none : (m place given : ℕ) → owned_by (Settling m place given) m ≡ 0 → ⊥
owned_not_none m place given e = elim (eqb_tells m m) [ inl same ↦ (let f : 1 ≡ 0 = rw same.0 at e in omega (arith, f)) | inr other ↦ other.1 refl ]

-- what is said of the version whose slot's S is 0
pub record CanBury {T : Type 0} (state : State T) (cell : Cell T) (plan : Plan) (place number : ℕ) (there : Slot T) : Type 0 where
  pub phase : plan.phase place ≡ live number
  pub is : IsLive state cell plan place number there
  pub unheld : held state.owners number ≡ 0
  pub unowned : owned_by state.publisher number ≡ 0
  pub before : number < plan.last

pub can_bury : {T : Type 0} (state : State T) (cell : Cell T) (s : Shows state cell) (place : ℕ) (there : Slot T) → slice_get state.table place ≡ Some there → there.shares ≡ 0 → (m : ℕ) × CanBury state cell s.plan place m there
can_bury {T} state cell s place there at zero =
    let old = s.table.slot_is place there at in
    let found = zero_is_live state cell s.plan place there (s.plan.phase place) old zero in
    let m = found.0 in
    let is : IsLive state cell s.plan place m there = subst (λ p. SlotIs state cell s.plan place p there) found.1 old in
    let shares = is.shares in
    let kept : kept_by state.publisher m ≡ 0 = omega (arith, shares, zero) in
    let by_cell : kept_by_cell s.plan.last s.plan.given m ≡ 0 = omega (arith, shares, zero) in
    let not_last : m ≢ s.plan.last = λ e. last_has_shares s.plan.last s.plan.given (omega (arith, s.given.given, s.given.granted)) (subst (λ j. kept_by_cell s.plan.last s.plan.given j ≡ 0) e by_cell) in
    let within = slice_get_within cell.published m is.value is.published in (
      m,
      record {
        phase = found.1;
        is = is;
        unheld = omega (arith, shares, zero);
        unowned = no_share_none_owned cell s.plan state.granted state.publisher m s.publisher_is s.given.granted kept;
        before = omega (arith, not_last, within, s.numbers.last);
      },
    )

-- a number that is buried, and the others
buried_other : {T : Type 0} (cell : Cell T) (m j : ℕ) → j ≢ m → cell.buried j ≡ false → (with_buried m cell).buried j ≡ false
buried_other cell m j other e = elim (eqb_tells j m) [ inl same ↦ absurd (other same.1) | inr apart ↦ rw apart.0 e ]

now_buried : {T : Type 0} (cell : Cell T) (m : ℕ) → (with_buried m cell).buried m ≡ true
now_buried cell m = elim (eqb_tells m m) [ inl same ↦ rw same.0 refl | inr other ↦ absurd (other.1 refl) ]

still_buried : {T : Type 0} (cell : Cell T) (m j : ℕ) → cell.buried j ≡ true → (with_buried m cell).buried j ≡ true
still_buried cell m j gone = elim (eqb_tells j m) [ inl same ↦ rw same.0 refl | inr other ↦ rw other.0 gone ]

-- bury, where it wins: the version in the slot is buried, whichever it is
pub bury_keeps : {T : Type 0} (state : State T) (cell : Cell T) (i place m : ℕ) (there : Slot T) (s : Shows state cell) → slice_get state.owners i ≡ Some (Burying place) → slice_get state.table place ≡ Some there → CanBury state cell s.plan place m there → Shows (with_owner i (Fading place) (with_slot place (with_shares dead_word (with_version None there)) state)) (with_buried m cell)
bury_keeps {T} state cell i place m there s seat at can =
    let after : Slot T = with_shares dead_word (with_version None there) in
    let new : State T = with_owner i (Fading place) (with_slot place after state) in
    let next : Cell T = with_buried m cell in
    let phase : Phase = dead m 0 (fading i) in
    let later : Plan = with_phase place phase s.plan in
    let still : (j : ℕ) → held new.owners j ≡ held state.owners j = λ j. held_stays state.owners i (Burying place) (Fading place) j seat refl refl in
    let still_weak : (j : ℕ) → weaks new.owners j ≡ weaks state.owners j = λ j. weaks_stay state.owners i (Burying place) (Fading place) j seat refl refl in
    let weak_there : there.weak ≡ weaks state.owners m + 1 = subst (λ p. WeakWord state.owners place p there.weak) can.phase (s.table.weak_word place there at) in
    let not_this : (j : ℕ) → next.buried j ≡ false → j ≢ m = λ j u e. elim (eqb_tells j m) [ inl same ↦ (let f : true ≡ false = rw same.0 at u in cc) | inr other ↦ other.1 e ] in
    let was : (j : ℕ) → next.buried j ≡ false → cell.buried j ≡ false = λ j u. elim (eqb_tells j m) [ inl same ↦ absurd (not_this j u same.1) | inr other ↦ rw other.0 at u ] in
    let within = slice_get_within state.table place there at in
    record {
      plan = later;
      numbers = record {
        last = s.numbers.last;
        buried = λ j u. elim (eqb_tells j m) [ inl same ↦ omega (arith, same.1, can.before) | inr other ↦ s.numbers.buried j (rw other.0 at u) ];
        lies = λ j l u.
            let old = s.numbers.lies j l (was j u) in
            (old.0, phase_stays place phase s.plan (live j) (λ e. not_this j u (let apart : live m ≡ live j = sym can.phase ∙ e in let f : j ≡ m = cc in f)) (s.plan.slot j) old.1);
      };
      given = record { latest = s.given.latest; given = s.given.given; granted = s.given.granted; noted = s.given.noted };
      counts = record { strong = λ j. s.counts.strong j ∙ ap (λ n. n + owned_by state.publisher j) (sym (still j)); few = s.counts.few; few_of_last = s.counts.few_of_last; weak = λ j. s.counts.weak j ∙ sym (still_weak j); few_weak = s.counts.few_weak };
      table = table_with state new cell next s.plan later place there after s.numbers s.table at refl
          (λ p other. phase_there place p phase s.plan other)
          (subst (λ p. SlotIs new next later place p after) (sym (phase_here place phase s.plan)) (record { here = can.is.here; buried = now_buried cell m; shares = refl; few = omega arith; version = refl }))
          (subst (λ p. WeakWord new.owners place p after.weak) (sym (phase_here place phase s.plan)) (weak_there ∙ ap (λ n. n + 1) (sym (still_weak m)), get_set_same state.owners i (Fading place) (slice_get_within state.owners i (Burying place) seat)))
          (λ p slot here other. seat_elsewhere state new cell next s.plan later i (Burying place) (Fading place) p slot seat refl refl refl
          (λ zero e. other (let f : p ≡ place = cc in f))
          (λ e. cc)
          refl (λ j. refl) refl
          (λ j e u. buried_other cell m j (λ same. other (sym e ∙ ap s.plan.slot same ∙ can.is.here)) u)
          (λ j u. still_buried cell m j u)
          (λ j e. ap (λ n. n + kept_by_cell s.plan.last s.plan.given j + kept_by state.publisher j) (still j))
          (λ j e. still_weak j));
      owner_is = owners_after next later state.owners i (Burying place) (Fading place) seat
          (m, 0, omega (arith, within, s.table.size), phase_here place phase s.plan)
          (λ k how other h. owner_stays cell next s.plan later k how (beside_itself cell next s.plan place phase refl) (record {
            held = λ number some u. buried_other cell m number (λ same. let counted = held_some state.owners k number how h in let none = ap (held state.owners) same ∙ can.unheld in absurd (omega (arith, some, counted, none))) u;
            weak = λ number p some e. number_stays place phase s.plan number (λ f. sym (ap number_of can.phase) ∙ f) p e;
            rest = λ p rest e c. rest_stays place phase s.plan rest (λ number late f. absurd (let apart : live m ≡ dead number late rest = sym can.phase ∙ f in cc)) p c;
          })
          (s.owner_is k how h));
      publisher_is = publisher_stays cell next s.plan later state.granted state.granted state.publisher (beside_itself cell next s.plan place phase refl) (omega arith) refl
          (λ number where_to given e u. buried_other cell m number (λ same. owned_not_none m where_to given (let f : owned_by (Settling number where_to given) m ≡ 0 = ap (λ p. owned_by p m) (sym e) ∙ can.unowned in subst (λ x. owned_by (Settling x where_to given) m ≡ 0) same f)) u)
          (λ p prepared e. phase_stays place phase s.plan (taken prepared) (λ f. let apart : live m ≡ taken prepared = sym can.phase ∙ f in cc) p e)
          s.publisher_is;
    }

-- bury, where it doesn't win: nothing is shown
pub kept_keeps : {T : Type 0} (state : State T) (cell : Cell T) (i place : ℕ) (there : Slot T) (s : Shows state cell) → slice_get state.owners i ≡ Some (Burying place) → slice_get state.table place ≡ Some there → there.shares ≢ 0 → Shows (with_owner i Spent state) cell
kept_keeps {T} state cell i place there s seat at some =
    let new : State T = with_owner i Spent state in
    let still : (j : ℕ) → held new.owners j ≡ held state.owners j = λ j. held_stays state.owners i (Burying place) Spent j seat refl refl in
    let still_weak : (j : ℕ) → weaks new.owners j ≡ weaks state.owners j = λ j. weaks_stay state.owners i (Burying place) Spent j seat refl refl in
    record {
      plan = s.plan;
      numbers = s.numbers;
      given = record { latest = s.given.latest; given = s.given.given; granted = s.given.granted; noted = s.given.noted };
      counts = record { strong = λ j. s.counts.strong j ∙ ap (λ n. n + owned_by state.publisher j) (sym (still j)); few = s.counts.few; few_of_last = s.counts.few_of_last; weak = λ j. s.counts.weak j ∙ sym (still_weak j); few_weak = s.counts.few_weak };
      table = table_as state new cell cell s.plan s.plan s.numbers s.table refl (λ p. refl)
          (λ p slot here. seat_elsewhere state new cell cell s.plan s.plan i (Burying place) Spent p slot seat refl refl refl
          (λ zero e. some (let f : place ≡ p = cc in let g : slice_get state.table place ≡ Some slot = ap (slice_get state.table) f ∙ here in let same : there ≡ slot = cc in ap (λ x. x.shares) same ∙ zero))
          (λ e. cc)
          refl (λ j. refl) refl (λ j e u. u) (λ j u. u)
          (λ j e. ap (λ n. n + kept_by_cell s.plan.last s.plan.given j + kept_by state.publisher j) (still j))
          (λ j e. still_weak j));
      owner_is = owners_after cell s.plan state.owners i (Burying place) Spent seat tt (λ k how other h. s.owner_is k how h);
      publisher_is = s.publisher_is;
    }
