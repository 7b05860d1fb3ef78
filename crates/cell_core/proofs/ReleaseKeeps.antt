-- A release keeps what the words show: an owner less.
use Rattle.std.proofs.Common.{◌≡◌, ◌≢◌, refl, sym, ap, ◌∙◌, subst, ℕ, ◌+◌, ◌<◌, ◌≤◌, inl, inr, arith}
use Rattle.std.specs.Prelude.{Some, ◌==◌, ◌^◌, if◌then◌else◌}
use Rattle.std.specs.List.{slice_get}
use Rattle.std.proofs.lemmas.Bool.Decides.{eqb_tells}
use Rattle.std.proofs.lemmas.Option.{slice_get_within}
use Rattle.cell_core.proofs.SeatLemmas.{get_set_same, held_set, held_some, one_at_itself}
use Rattle.cell_core.proofs.FrameLemmas.{table_with, weaks_stay, owner_stays, knows_still, publisher_stays, owners_after, seat_elsewhere}
use Rattle.cell_core.specs.Cell.{Cell, without_strong}
use Rattle.cell_core.specs.Words.{State, bulk, fetch_sub}
use Rattle.cell_core.specs.WordSteps.{with_slot, with_owner, with_shares}
use Rattle.cell_core.specs.Shows.{IsLive, SlotIs, WeakWord, OwnerIs, Shows, held, holds, has_weakly, weaks, kept_by, kept_by_cell}
use Rattle.cell_core.specs.Shows.Phase.{live}
use Rattle.cell_core.specs.declared.words.Slot.{Slot}
use Rattle.cell_core.specs.declared.words.Owner.{Owner}
use Rattle.cell_core.specs.declared.words.Owner.TheVariants.{Holding, Burying}
use Rattle.cell_core.specs.declared.words.Publisher.{Publisher}
use Rattle.cell_core.specs.declared.words.Publisher.TheVariants.{Probing, Preparing, Swapping, Settling}

-- a share less
pub one_share_less : (shares : ℕ) → 0 < shares → shares < 2 ^ 64 → fetch_sub shares 1 + 1 ≡ shares
one_share_less shares some fits = omega arith

-- release: an owner less. It has a bury to make where no share is left
pub release_keeps : {T : Type 0} (state : State T) (cell : Cell T) (i number place left : ℕ) (there : Slot T) (after : Owner) (s : Shows state cell) → slice_get state.owners i ≡ Some (Holding number place) → slice_get state.table place ≡ Some there → left + 1 ≡ there.shares → ((j : ℕ) → (holds j after ≡ 0) × (has_weakly j after ≡ 0)) → (left ≡ 0 → after ≡ Burying place) → OwnerIs (without_strong number cell) s.plan i after → Shows (with_owner i after (with_slot place (with_shares left there) state)) (without_strong number cell)
release_keeps {T} state cell i number place left there after s seat at less gives_up due mine =
    let slot : Slot T = with_shares left there in
    let new : State T = with_owner i after (with_slot place slot state) in
    let next : Cell T = without_strong number cell in
    let lies = s.owner_is i (Holding number place) seat in
    let before : number ≤ s.plan.last = omega (arith, lies.published, s.numbers.last) in
    let phase : s.plan.phase place ≡ live number = ap s.plan.phase (sym lies.here) ∙ (s.numbers.lies number before lies.unburied).1 in
    let is : IsLive state cell s.plan place number there = subst (λ p. SlotIs state cell s.plan place p there) phase (s.table.slot_is place there at) in
    let weak_there : there.weak ≡ weaks state.owners number + 1 = subst (λ p. WeakWord state.owners place p there.weak) phase (s.table.weak_word place there at) in
    let still_weak : (j : ℕ) → weaks new.owners j ≡ weaks state.owners j = λ j. weaks_stay state.owners i (Holding number place) after j seat refl (gives_up j).1 in
    let fewer : (j : ℕ) → held new.owners j + (if j == number then 1 else 0) ≡ held state.owners j = λ j.
    let sums = held_set state.owners i (Holding number place) after j seat in
    omega (arith, sums, (gives_up j).0) in
    let other_held : (j : ℕ) → j ≢ number → held new.owners j ≡ held state.owners j = λ j apart. let f = fewer j in elim (eqb_tells j number) [ inl same ↦ absurd (apart same.1) | inr other ↦ (let g : held new.owners j + 0 ≡ held state.owners j = rw other.0 at f in omega (arith, g)) ] in
    let this_held : held new.owners number + 1 ≡ held state.owners number = let f = fewer number in elim (eqb_tells number number) [ inl same ↦ rw same.0 at f | inr other ↦ absurd (other.1 refl) ] in
    let fewer_strong : (j : ℕ) → next.strong j ≤ cell.strong j = λ j. elim (eqb_tells j number) [ inl same ↦ rw same.0 (omega arith) | inr other ↦ rw other.0 (omega arith) ] in
    let within = slice_get_within state.owners i (Holding number place) seat in
    record {
      plan = s.plan;
      numbers = record { last = s.numbers.last; buried = s.numbers.buried; lies = s.numbers.lies };
      given = record { latest = s.given.latest; given = s.given.given; granted = s.given.granted; noted = s.given.noted };
      counts = record {
        strong = λ j. elim (eqb_tells j number) [
          | inl same ↦ rw same.0 (let a = s.counts.strong j in let b : held new.owners j + 1 ≡ held state.owners j = subst (λ x. held new.owners x + 1 ≡ held state.owners x) (sym same.1) this_held in omega (arith, a, b))
          | inr other ↦ rw other.0 (let a = s.counts.strong j in let b = other_held j other.1 in omega (arith, a, b))
        ];
        few = λ j. let a = s.counts.few j in let b = fewer_strong j in omega (arith, a, b);
        few_of_last = let b = fewer_strong s.plan.last in omega (arith, s.counts.few_of_last, b);
        weak = λ j. s.counts.weak j ∙ sym (still_weak j);
        few_weak = s.counts.few_weak;
      };
      table = table_with state new cell next s.plan s.plan place there slot s.numbers s.table at refl (λ p other. refl)
          (subst (λ p. SlotIs new next s.plan place p slot) (sym phase) (record {
            here = is.here;
            unburied = is.unburied;
            value = is.value;
            version = is.version;
            published = is.published;
            shares = omega (arith, is.shares, less, this_held);
            due = λ empty. (i, get_set_same state.owners i after within ∙ ap Some (due empty));
          }))
          (subst (λ p. WeakWord new.owners place p slot.weak) (sym phase) (weak_there ∙ ap (λ n. n + 1) (sym (still_weak number))))
          (λ p there_too here other. seat_elsewhere state new cell next s.plan s.plan i (Holding number place) after p there_too seat refl refl refl
          (λ zero e. cc)
          (λ e. cc)
          refl (λ j. refl) refl (λ j e u. u) (λ j u. u)
          (λ j e. ap (λ n. n + kept_by_cell s.plan.last s.plan.given j + kept_by state.publisher j) (other_held j (λ same. other (sym e ∙ ap s.plan.slot same ∙ lies.here))))
          (λ j e. still_weak j));
      owner_is = owners_after next s.plan state.owners i (Holding number place) after seat mine
          (λ k how other h. owner_stays cell next s.plan s.plan k how (record { longer = omega arith; slot = λ j l. refl }) (knows_still cell next s.plan s.plan k how (λ j u. u) (λ p. refl)) (s.owner_is k how h));
      publisher_is = publisher_stays cell next s.plan s.plan state.granted state.granted state.publisher (record { longer = omega arith; slot = λ j l. refl }) (omega arith) refl (λ n w given e u. u) (λ p prepared e. e) s.publisher_is;
    }

-- what is known of a release before it is made
pub record CanRelease {T : Type 0} (state : State T) (cell : Cell T) (number : ℕ) (there : Slot T) : Type 0 where
  pub less : fetch_sub there.shares 1 + 1 ≡ there.shares
  pub owned : 0 < cell.strong number

-- the shares of a number fit a word
kept_little : (last given number : ℕ) → kept_by_cell last given number ≤ bulk
kept_little last given number = elim (eqb_tells number last) [ inl same ↦ rw same.0 (omega arith) | inr other ↦ rw other.0 (omega arith) ]

kept_little_by : (publisher : Publisher) (number : ℕ) → kept_by publisher number ≤ bulk
kept_little_by (Probing place) j = omega arith
kept_little_by (Preparing place) j = omega arith
kept_little_by (Swapping place) j = omega arith
kept_little_by (Settling number place given) j = elim (eqb_tells j number) [ inl same ↦ rw same.0 (omega arith) | inr other ↦ rw other.0 (omega arith) ]

pub can_release : {T : Type 0} (state : State T) (cell : Cell T) (s : Shows state cell) (i number place : ℕ) (there : Slot T) → slice_get state.owners i ≡ Some (Holding number place) → slice_get state.table place ≡ Some there → CanRelease state cell number there
can_release {T} state cell s i number place there seat at =
    let lies = s.owner_is i (Holding number place) seat in
    let before : number ≤ s.plan.last = omega (arith, lies.published, s.numbers.last) in
    let phase : s.plan.phase place ≡ live number = ap s.plan.phase (sym lies.here) ∙ (s.numbers.lies number before lies.unburied).1 in
    let is : IsLive state cell s.plan place number there = subst (λ p. SlotIs state cell s.plan place p there) phase (s.table.slot_is place there at) in
    let counted = held_some state.owners i number (Holding number place) seat in
    let one = one_at_itself number in
    let some : 0 < held state.owners number = omega (arith, counted, one) in
    let few = s.counts.few number in
    let strong = s.counts.strong number in
    let one = kept_little s.plan.last s.plan.given number in
    let two = kept_little_by state.publisher number in
    record {
      less = one_share_less there.shares (omega (arith, is.shares, some)) (omega (arith, is.shares, few, strong, one, two, s.given.granted));
      owned = omega (arith, strong, some);
    }
