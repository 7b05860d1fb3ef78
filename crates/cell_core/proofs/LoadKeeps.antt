-- A load and a settle keep what the words show.
use Rattle.std.proofs.Common.{◌≡◌, ◌≢◌, refl, sym, ap, ◌∙◌, subst, ℕ, ◌+◌, ◌-◌, ◌<◌, ◌≤◌, inl, inr, List, [], ◌∷◌, ◌++◌, arith}
use Rattle.std.specs.Prelude.{Some}
use Rattle.std.specs.List.{slice_get}
use Rattle.std.proofs.lemmas.Bool.Decides.{eqb_tells}
use Rattle.cell_core.proofs.SeatLemmas.{get_push_old, push_cases, held_push, weaks_push}
use Rattle.cell_core.proofs.FrameLemmas.{table_with, table_as, charge_pushed, owner_stays, knows_still, publisher_stays}
use Rattle.cell_core.specs.Cell.{Cell, one_more, with_strong}
use Rattle.cell_core.specs.Words.{State, slots, grants, bulk, word_of, fetch_sub, fetch_add}
use Rattle.cell_core.specs.WordSteps.{with_slot, with_new_owner, with_publisher, with_shares}
use Rattle.cell_core.specs.Shows.{Plan, IsLive, SlotIs, WeakWord, OwnerIs, PublisherIs, Shows, held, weaks, kept_by, kept_by_cell, owned_by}
use Rattle.cell_core.specs.Shows.Phase.{live}
use Rattle.cell_core.specs.declared.words.Slot.{Slot}
use Rattle.cell_core.specs.declared.words.Owner.{Owner}
use Rattle.cell_core.specs.declared.words.Owner.TheVariants.{Holding, Burying}
use Rattle.cell_core.specs.declared.words.Publisher.{Publisher}
use Rattle.cell_core.specs.declared.words.Publisher.TheVariants.{Probing, Preparing, Swapping, Settling}
use Rattle.cell_core.proofs.ShowsLemmas.{last_lies}

-- one owner more of a number, and no other
pub held_more : (owners : List Owner) (number place j : ℕ) → held (owners ++ Holding number place ∷ []) j ≡ one_more number (held owners) j
held_more owners number place j =
    let more = held_push owners (Holding number place) j in
    elim (eqb_tells j number) [
      | inl same ↦ rw same.0 (rw same.0 at more)
      | inr other ↦ rw other.0 (let none : held (owners ++ Holding number place ∷ []) j ≡ held owners j + 0 = rw other.0 at more in omega (arith, none))
    ]

-- no weak one
pub weaks_more : (owners : List Owner) (number place j : ℕ) → weaks (owners ++ Holding number place ∷ []) j ≡ weaks owners j
weaks_more owners number place j = let more = weaks_push owners (Holding number place) j in omega (arith, more)

pub more_of_this : (counts : ℕ → ℕ) (number j : ℕ) → j ≡ number → one_more number counts j ≡ counts j + 1
more_of_this counts number j e = elim (eqb_tells j number) [ inl same ↦ rw same.0 refl | inr other ↦ absurd (other.1 e) ]

pub none_of_others : (counts : ℕ → ℕ) (number j : ℕ) → j ≢ number → one_more number counts j ≡ counts j
none_of_others counts number j h = elim (eqb_tells j number) [ inl same ↦ absurd (h same.1) | inr other ↦ rw other.0 refl ]

-- the owner that the publisher is, is one of those who hold
settled_strong : (strong : ℕ → ℕ) (owners : List Owner) (publisher : Publisher) (number place given j : ℕ) → publisher ≡ Settling number place given → strong j ≡ held owners j + owned_by publisher j → strong j ≡ held (owners ++ Holding number place ∷ []) j + 0
settled_strong strong owners publisher number place given j is e =
    let owned : owned_by publisher j ≡ owned_by (Settling number place given) j = ap (λ p. owned_by p j) is in
    let more = held_more owners number place j in
    elim (eqb_tells j number) [
      | inl same ↦ (let f : owned_by publisher j ≡ 1 = owned ∙ rw same.0 refl in let g = more_of_this (held owners) number j same.1 in omega (arith, e, f, g, more))
      | inr other ↦ (let f : owned_by publisher j ≡ 0 = owned ∙ rw other.0 refl in let g = none_of_others (held owners) number j other.1 in omega (arith, e, f, g, more))
    ]

-- the shares that come back
settled_shares : (shares held_of given : ℕ) → shares ≡ held_of + 0 + (bulk - given) → given ≤ grants → held_of ≤ grants + 1 → fetch_sub shares (bulk - given - 1) ≡ held_of + 1
settled_shares shares held_of given e l few = omega arith

-- settle: the publisher's shares go back, but the one that is an owner's
pub settle_keeps : {T : Type 0} (state : State T) (cell : Cell T) (number place given : ℕ) (there : Slot T) (s : Shows state cell) → state.publisher ≡ Settling number place given → slice_get state.table place ≡ Some there → Shows (with_publisher (Probing 0) (with_new_owner (Holding number place) (with_slot place (with_shares (fetch_sub there.shares (bulk - given - 1)) there) state))) cell
settle_keeps {T} state cell number place given there s is at =
    let slot : Slot T = with_shares (fetch_sub there.shares (bulk - given - 1)) there in
    let new : State T = with_publisher (Probing 0) (with_new_owner (Holding number place) (with_slot place slot state)) in
    let mine = subst (λ p. PublisherIs cell s.plan state.granted p) is s.publisher_is in
    let before : number ≤ s.plan.last = omega (arith, mine.1) in
    let phase : s.plan.phase place ≡ live number = ap s.plan.phase (sym mine.0.here) ∙ (s.numbers.lies number before mine.0.unburied).1 in
    let live_there : IsLive state cell s.plan place number there = subst (λ p. SlotIs state cell s.plan place p there) phase (s.table.slot_is place there at) in
    let weak_there : there.weak ≡ weaks state.owners number + 1 = subst (λ p. WeakWord state.owners place p there.weak) phase (s.table.weak_word place there at) in
    let by_cell : kept_by_cell s.plan.last s.plan.given number ≡ 0 = elim (eqb_tells number s.plan.last) [ inl same ↦ absurd (omega (arith, same.1, mine.1)) | inr other ↦ rw other.0 refl ] in
    let by_it : kept_by state.publisher number ≡ bulk - given = ap (λ p. kept_by p number) is ∙ elim (eqb_tells number number) [ inl same ↦ rw same.0 refl | inr other ↦ absurd (other.1 refl) ] in
    let few = s.counts.few number in
    let strong = s.counts.strong number in
    let shares : fetch_sub there.shares (bulk - given - 1) ≡ held state.owners number + 1 =
    settled_shares there.shares (held state.owners number) given (omega (arith, live_there.shares, by_cell, by_it)) (omega (arith, mine.2, s.given.granted)) (omega (arith, few, strong, s.given.granted)) in
    let more_here : held new.owners number ≡ held state.owners number + 1 = held_more state.owners number place number ∙ more_of_this (held state.owners) number number refl in
    record {
      plan = s.plan;
      numbers = s.numbers;
      given = record { latest = s.given.latest; given = s.given.given; granted = s.given.granted; noted = s.given.noted };
      counts = record {
        strong = λ j. settled_strong cell.strong state.owners state.publisher number place given j is (s.counts.strong j);
        few = s.counts.few;
        few_of_last = s.counts.few_of_last;
        weak = λ j. s.counts.weak j ∙ sym (weaks_more state.owners number place j);
        few_weak = s.counts.few_weak;
      };
      table = table_with state new cell cell s.plan s.plan place there slot s.numbers s.table at refl (λ p other. refl)
          (subst (λ p. SlotIs new cell s.plan place p slot) (sym phase) (record {
            here = live_there.here;
            unburied = live_there.unburied;
            value = live_there.value;
            version = live_there.version;
            published = live_there.published;
            shares = omega (arith, shares, more_here, by_cell);
            due = λ empty. absurd (omega (arith, empty, shares));
          }))
          (subst (λ p. WeakWord new.owners place p slot.weak) (sym phase) (weak_there ∙ ap (λ n. n + 1) (sym (weaks_more state.owners number place number))))
          (λ p there_too here other. record {
            preparing = λ e. let apart : Settling number place given ≡ Preparing p = sym is ∙ e in absurd (cc);
            swapping = λ e. let apart : Settling number place given ≡ Swapping p = sym is ∙ e in absurd (cc);
            burying = λ zero k q. get_push_old state.owners (Holding number place) (Burying p) k q;
            charge = λ rest c. charge_pushed state.owners (Holding number place) p rest c;
            granted = omega arith;
            gone = λ j u. u;
            weak = λ j e l. weaks_more state.owners number place j;
            slot = λ j e l. e;
            buried = λ j e l u. u;
            published = λ j v q. q;
            shares = λ j e l.
                let apart : j ≢ number = λ same. other (sym e ∙ ap s.plan.slot same ∙ mine.0.here) in
                let a : held new.owners j ≡ held state.owners j = held_more state.owners number place j ∙ none_of_others (held state.owners) number j apart in
                let b : kept_by state.publisher j ≡ 0 = ap (λ x. kept_by x j) is ∙ elim (eqb_tells j number) [ inl same ↦ absurd (apart same.1) | inr differs ↦ rw differs.0 refl ] in
                omega (arith, a, b);
          });
      owner_is = λ k how h. elim (push_cases state.owners (Holding number place) how k h) [
        | inl old ↦ s.owner_is k how old
        | inr last_one ↦ subst (λ x. OwnerIs cell s.plan k x) last_one mine.0
      ];
      publisher_is = omega arith;
    }

-- one share more is given out
loaded_word : (slot given : ℕ) → slot < slots → given ≤ grants → fetch_add (word_of slot given) 1 ≡ word_of slot (given + 1)
loaded_word slot given l few = omega arith

-- the last number has one owner more, and the cell one share less
loaded_shares : (owners : List Owner) (last place given j : ℕ) → given < grants → held (owners ++ Holding last place ∷ []) j + kept_by_cell last (given + 1) j ≡ held owners j + kept_by_cell last given j
loaded_shares owners last place given j few =
    let more = held_more owners last place j in
    elim (eqb_tells j last) [
      | inl same ↦ rw same.0 (let g = more_of_this (held owners) last j same.1 in omega (arith, more, g))
      | inr other ↦ rw other.0 (let g = none_of_others (held owners) last j other.1 in omega (arith, more, g))
    ]

-- load: the last number has one owner more
pub load_keeps : {T : Type 0} (state : State T) (cell : Cell T) (s : Shows state cell) → state.granted < grants → Shows (with_new_owner (Holding s.plan.last (s.plan.slot s.plan.last)) (record state { latest = fetch_add state.latest 1; granted = state.granted + 1 })) (with_strong s.plan.last cell)
load_keeps {T} state cell s room =
    let last : ℕ = s.plan.last in
    let slot : ℕ = s.plan.slot s.plan.last in
    let new : State T = with_new_owner (Holding last slot) (record state { latest = fetch_add state.latest 1; granted = state.granted + 1 }) in
    let next : Cell T = with_strong last cell in
    let later : Plan = record (s.plan) { given = s.plan.given + 1 } in
    let lies = last_lies state cell s in
    record {
      plan = later;
      numbers = record { last = s.numbers.last; buried = s.numbers.buried; lies = s.numbers.lies };
      given = record {
        latest = ap (λ w. fetch_add w 1) s.given.latest ∙ loaded_word slot s.plan.given lies.0 (omega (arith, s.given.given, s.given.granted));
        given = omega (arith, s.given.given);
        granted = omega (arith, room);
        noted = s.given.noted;
      };
      counts = record {
        strong = λ j.
            let old = s.counts.strong j in
            let more = held_more state.owners last slot j in
            elim (eqb_tells j last) [
              | inl same ↦ rw same.0 (let g = more_of_this (held state.owners) last j same.1 in omega (arith, old, more, g))
              | inr other ↦ rw other.0 (let g = none_of_others (held state.owners) last j other.1 in omega (arith, old, more, g))
            ];
        few = λ j. let few = s.counts.few j in elim (eqb_tells j last) [ inl same ↦ rw same.0 (omega (arith, few)) | inr other ↦ rw other.0 (omega (arith, few)) ];
        few_of_last = elim (eqb_tells last last) [ inl same ↦ rw same.0 (omega (arith, s.counts.few_of_last)) | inr other ↦ absurd (other.1 refl) ];
        weak = λ j. s.counts.weak j ∙ sym (weaks_more state.owners last slot j);
        few_weak = s.counts.few_weak;
      };
      table = table_as state new cell next s.plan later s.numbers s.table refl (λ p. refl)
          (λ p there here. record {
            preparing = λ e. e;
            swapping = λ e. (e, refl);
            burying = λ zero k q. get_push_old state.owners (Holding last slot) (Burying p) k q;
            charge = λ rest c. charge_pushed state.owners (Holding last slot) p rest c;
            granted = omega arith;
            gone = λ j u. u;
            weak = λ j e l. weaks_more state.owners last slot j;
            slot = λ j e l. e;
            buried = λ j e l u. u;
            published = λ j v q. q;
            shares = λ j e l. ap (λ n. n + kept_by state.publisher j) (loaded_shares state.owners last slot s.plan.given j (omega (arith, s.given.given, room)));
          });
      owner_is = λ k how h. elim (push_cases state.owners (Holding last slot) how k h) [
        | inl old ↦ owner_stays cell next s.plan later k how (record { longer = omega arith; slot = λ j l. refl }) (knows_still cell next s.plan later k how (λ j u. u) (λ p. refl)) (s.owner_is k how old)
        | inr last_one ↦ subst (λ x. OwnerIs next later k x) last_one (record { published = omega (arith, s.numbers.last); unburied = lies.2; here = refl })
      ];
      publisher_is = publisher_stays cell next s.plan later state.granted (state.granted + 1) state.publisher (record { longer = omega arith; slot = λ j l. refl }) (omega arith) refl (λ number where_to given e u. u) (λ p prepared e. e) s.publisher_is;
    }
