-- A swap keeps what the words show: one number more.
use Rattle.std.proofs.Common.{◌≡◌, ◌≢◌, refl, sym, ap, ◌∙◌, subst, ℕ, ◌+◌, ◌<◌, ◌≤◌, true, false, inl, inr, [], ◌∷◌, ◌++◌, length, length-append, arith}
use Rattle.std.specs.Prelude.{None, Some, ◌==◌, if◌then◌else◌}
use Rattle.std.specs.List.{slice_get}
use Rattle.std.proofs.lemmas.Bool.{cases_Bool}
use Rattle.std.proofs.lemmas.Bool.Decides.{eqb_tells}
use Rattle.cell_core.proofs.SeatLemmas.{get_push_old, set_there, get_push_new}
use Rattle.cell_core.proofs.FrameLemmas.{table_with, owner_stays}
use Rattle.cell_core.specs.Cell.{Cell, one_more, with_strong, with_value}
use Rattle.cell_core.specs.Words.{State, slots, bulk, word_of}
use Rattle.cell_core.specs.WordSteps.{with_publisher}
use Rattle.cell_core.specs.Shows.{Phase, Plan, SlotIs, WeakWord, number_of, PublisherIs, Shows, held, weaks, kept_by, kept_by_cell, owned_by}
use Rattle.cell_core.specs.Shows.Phase.{taken, live, dead}
use Rattle.cell_core.specs.declared.words.Slot.{Slot}
use Rattle.cell_core.specs.declared.words.Publisher.TheVariants.{Preparing, Swapping, Settling}
use Rattle.cell_core.proofs.ShowsLemmas.{last_lies, unpublished, unpublished_weak, unsettled}

-- how slots and numbers lie when one more is published, from a slot that was taken
abbrev after_swap : ℕ → Plan → Plan
after_swap place plan =
    record {
      last = plan.last + 1;
      given = 0;
      slot = λ j. if j == plan.last + 1 then place else plan.slot j;
      phase = λ p. if p == place then live (plan.last + 1) else plan.phase p;
    }

swap_slot : (place : ℕ) (plan : Plan) (j : ℕ) → j ≤ plan.last → (after_swap place plan).slot j ≡ plan.slot j
swap_slot place plan j l = elim (eqb_tells j (plan.last + 1)) [ inl same ↦ absurd (omega (arith, same.1)) | inr other ↦ rw other.0 refl ]

swap_slot_new : (place : ℕ) (plan : Plan) → (after_swap place plan).slot (plan.last + 1) ≡ place
swap_slot_new place plan = elim (eqb_tells (plan.last + 1) (plan.last + 1)) [ inl same ↦ rw same.0 refl | inr other ↦ absurd (other.1 refl) ]

swap_phase : (place : ℕ) (plan : Plan) (what : Phase) → (plan.phase place ≡ what → ⊥) → (p : ℕ) → plan.phase p ≡ what → (after_swap place plan).phase p ≡ what
swap_phase place plan what apart p h =
    elim (eqb_tells p place) [ inl same ↦ absurd (apart (ap plan.phase (sym same.1) ∙ h)) | inr other ↦ rw other.0 h ]

swap_phase_new : (place : ℕ) (plan : Plan) → (after_swap place plan).phase place ≡ live (plan.last + 1)
swap_phase_new place plan = elim (eqb_tells place place) [ inl same ↦ rw same.0 refl | inr other ↦ absurd (other.1 refl) ]

swap_phase_there : (place : ℕ) (plan : Plan) (p : ℕ) → p ≢ place → (after_swap place plan).phase p ≡ plan.phase p
swap_phase_there place plan p h = elim (eqb_tells p place) [ inl same ↦ absurd (h same.1) | inr other ↦ rw other.0 refl ]

-- the number that another slot has stays there
swap_number : (place : ℕ) (plan : Plan) (j : ℕ) → (number_of (plan.phase place) ≡ Some j → ⊥) → (p : ℕ) → number_of (plan.phase p) ≡ Some j → number_of ((after_swap place plan).phase p) ≡ Some j
swap_number place plan j apart p h =
    elim (eqb_tells p place) [ inl same ↦ absurd (apart (ap (λ x. number_of (plan.phase x)) (sym same.1) ∙ h)) | inr other ↦ rw other.0 h ]

-- the shares of the number that was last are the publisher's
swap_shares : (held_of last given j : ℕ) → j ≤ last → held_of + kept_by_cell (last + 1) 0 j + kept_by (Settling last 0 given) j ≡ held_of + kept_by_cell last given j + 0
swap_shares held_of last given j l =
    elim (eqb_tells j (last + 1)) [
      | inl new ↦ absurd (omega (arith, new.1))
      | inr old ↦ elim (eqb_tells j last) [
        | inl same ↦ rw (old.0, same.0) (omega arith)
        | inr other ↦ rw (old.0, other.0) (omega arith)
      ]
    ]

-- the number that was last has one owner more
swap_strong : (strong : ℕ → ℕ) (last place given held_of j : ℕ) → strong j ≡ held_of → one_more last strong j ≡ held_of + owned_by (Settling last place given) j
swap_strong strong last place given held_of j e =
    elim (eqb_tells j last) [ inl same ↦ rw same.0 (omega (arith, e)) | inr other ↦ rw other.0 (omega (arith, e)) ]

-- the new number has the bulk
swap_new_shares : (held_of last given : ℕ) → held_of ≡ 0 → bulk ≡ held_of + kept_by_cell (last + 1) 0 (last + 1) + kept_by (Settling last 0 given) (last + 1)
swap_new_shares held_of last given e =
    elim (eqb_tells (last + 1) (last + 1)) [
      | inl same ↦ elim (eqb_tells (last + 1) last) [ inl wrong ↦ absurd (omega (arith, wrong.1)) | inr other ↦ rw (same.0, other.0) (omega (arith, e)) ]
      | inr other ↦ absurd (other.1 refl)
    ]

-- swap: the publisher's slot is the last number's
pub swap_keeps : {T : Type 0} (state : State T) (cell : Cell T) (place : ℕ) (there : Slot T) (value : T) (s : Shows state cell) → state.publisher ≡ Swapping place → slice_get state.table place ≡ Some there → there.shares ≡ bulk → there.version ≡ Some (record { number = s.plan.last + 1; value = value }) → Shows (with_publisher (Settling s.plan.last (s.plan.slot s.plan.last) s.plan.given) (record state { latest = word_of place 0 })) (with_value value (with_strong s.plan.last cell))
swap_keeps {T} state cell place there value s is at shares version =
    let plan : Plan = s.plan in
    let later : Plan = after_swap place plan in
    let new : State T = with_publisher (Settling plan.last (plan.slot plan.last) plan.given) (record state { latest = word_of place 0 }) in
    let next : Cell T = with_value value (with_strong plan.last cell) in
    let mine = subst (λ p. PublisherIs cell plan state.granted p) is s.publisher_is in
    let lies = last_lies state cell s in
    let longer : length (cell.published ++ value ∷ []) ≡ length cell.published + 1 = length-append cell.published (value ∷ []) in
    let nothing : (j : ℕ) → (owned_by state.publisher j ≡ 0) × (kept_by state.publisher j ≡ 0) = λ j. unsettled state.publisher (Swapping place) j is refl refl in
    let plain : (j : ℕ) → cell.strong j ≡ held state.owners j = λ j. omega (arith, s.counts.strong j, (nothing j).0) in
    let not_live : (j : ℕ) → plan.phase place ≡ live j → ⊥ = λ j e. let apart : taken true ≡ live j = sym mine.1 ∙ e in cc in
    let fresh : held state.owners (plan.last + 1) ≡ 0 = unpublished state cell s (plan.last + 1) (omega arith) in
    let fresh_weak : weaks state.owners (plan.last + 1) ≡ 0 = unpublished_weak state cell s (plan.last + 1) (omega arith) in
    let weak_there : there.weak ≡ 1 = subst (λ p. WeakWord state.owners place p there.weak) mine.1 (s.table.weak_word place there at) in
    let unburied : cell.buried (plan.last + 1) ≡ false = elim (cases_Bool (cell.buried (plan.last + 1))) [ inl gone ↦ (let l = s.numbers.buried (plan.last + 1) gone in absurd (omega arith)) | inr open_still ↦ open_still ] in
    record {
      plan = later;
      numbers = record {
        last = omega (arith, longer, s.numbers.last);
        buried = λ j u. let l = s.numbers.buried j u in omega arith;
        lies = λ j l u. elim (eqb_tells j (plan.last + 1)) [
          | inl same ↦ subst (λ k. (later.slot k < slots) × (later.phase (later.slot k) ≡ live k)) (sym same.1) (subst (λ x. x < slots) (sym (swap_slot_new place plan)) mine.0, ap later.phase (swap_slot_new place plan) ∙ swap_phase_new place plan)
          | inr other ↦ (
              let before : j ≤ plan.last = omega (arith, other.1, l) in
              let old = s.numbers.lies j before u in
              let e = swap_slot place plan j before in
              (subst (λ x. x < slots) (sym e) old.0, ap later.phase e ∙ swap_phase place plan (live j) (not_live j) (plan.slot j) old.1)
              )
        ];
      };
      given = record { latest = ap (λ x. word_of x 0) (sym (swap_slot_new place plan)); given = omega arith; granted = s.given.granted; noted = s.given.noted };
      counts = record {
        strong = λ j. swap_strong cell.strong plan.last (plan.slot plan.last) plan.given (held state.owners j) j (plain j);
        few = λ j. elim (eqb_tells j plan.last) [
          | inl same ↦ rw same.0 (omega (arith, ap cell.strong same.1, s.counts.few_of_last))
          | inr other ↦ rw other.0 (s.counts.few j)
        ];
        few_of_last = elim (eqb_tells (plan.last + 1) plan.last) [
          | inl same ↦ absurd (omega (arith, same.1))
          | inr other ↦ rw other.0 (omega (arith, plain (plan.last + 1), fresh))
        ];
        weak = s.counts.weak;
        few_weak = s.counts.few_weak;
      };
      table = table_with state new cell next plan later place there there s.numbers s.table at (set_there state.table place there at)
          (λ p other. swap_phase_there place plan p other)
          (subst (λ p. SlotIs new next later place p there) (sym (swap_phase_new place plan)) (record {
            here = swap_slot_new place plan;
            unburied = unburied;
            value = value;
            version = version;
            published = get_push_new cell.published value (plan.last + 1) (sym s.numbers.last);
            shares = shares ∙ swap_new_shares (held state.owners (plan.last + 1)) plan.last plan.given fresh;
            due = λ empty. absurd (omega (arith, empty, shares));
          }))
          (subst (λ p. WeakWord state.owners place p there.weak) (sym (swap_phase_new place plan)) (omega (arith, weak_there, fresh_weak)))
          (λ p slot h other. record {
            preparing = λ e. let apart : Swapping place ≡ Preparing p = sym is ∙ e in absurd (cc);
            swapping = λ e. let apart : Swapping p ≡ Swapping place = sym e ∙ is in absurd (other (let f : p ≡ place = cc in f));
            burying = λ zero k q. q;
            charge = λ rest c. c;
            granted = omega arith;
            gone = λ j u. u;
            weak = λ j e l. refl;
            slot = λ j e l. swap_slot place plan j l ∙ e;
            buried = λ j e l u. u;
            published = λ j v q. get_push_old cell.published value v j q;
            shares = λ j e l. swap_shares (held state.owners j) plan.last plan.given j l ∙ ap (λ n. held state.owners j + kept_by_cell plan.last plan.given j + n) (sym (nothing j).1);
          });
      owner_is = λ k how h. owner_stays cell next plan later k how
          (record { longer = omega (arith, longer); slot = λ j l. swap_slot place plan j (omega (arith, l, s.numbers.last)) })
          (record {
            held = λ j some u. u;
            weak = λ j p some e. swap_number place plan j (λ f. let apart : None ≡ Some j = sym (ap number_of mine.1) ∙ f in cc) p e;
            rest = λ p rest e c. (c.0, c.1, c.2, swap_phase place plan (dead c.0 c.1 rest) (λ f. let apart : taken true ≡ dead c.0 c.1 rest = sym mine.1 ∙ f in cc) p c.3);
          })
          (s.owner_is k how h);
      publisher_is = (
        record { published = omega (arith, longer, s.numbers.last); unburied = lies.2; here = swap_slot place plan plan.last (omega arith) },
        omega arith,
        s.given.given,
      );
    }
