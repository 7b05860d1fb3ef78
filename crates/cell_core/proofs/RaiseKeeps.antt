-- A raise keeps what the words show; one that comes too late, too. So does a note.
use Rattle.std.proofs.Common.{◌≡◌, refl, sym, ap, ◌∙◌, subst, ℕ, ◌+◌, ◌<◌, inl, inr, List, [], ◌∷◌, ◌++◌, arith}
use Rattle.std.specs.Prelude.{Some}
use Rattle.std.specs.List.{slice_get}
use Rattle.std.proofs.lemmas.Bool.Decides.{eqb_tells}
use Rattle.std.proofs.lemmas.Option.{slice_get_within}
use Rattle.cell_core.proofs.SeatLemmas.{get_push_old, push_cases, held_push, weaks_push}
use Rattle.cell_core.proofs.FrameLemmas.{with_phase, beside_itself, owner_stays, knows_still, number_stays, rest_stays}
use Rattle.cell_core.proofs.SlotFrame.{step_keeps, around_pushed, phase_same}
use Rattle.cell_core.proofs.LittleLemmas.{live_little, few_weak}
use Rattle.cell_core.proofs.LoadKeeps.{held_more, weaks_more, more_of_this, none_of_others}
use Rattle.cell_core.specs.Cell.{Cell, one_more, with_strong, with_weak}
use Rattle.cell_core.specs.Words.{State, grants, notes, fetch_add}
use Rattle.cell_core.specs.WordSteps.{with_slot, with_new_owner, with_shares, with_weak_word, with_grant, with_note}
use Rattle.cell_core.specs.Shows.{Rest, Phase, Plan, IsLive, IsDead, SlotIs, RestWord, WeakWord, InCharge, number_of, LiesIn, OwnerIs, Shows, held, weaks, kept_by, kept_by_cell, owned_by}
use Rattle.cell_core.specs.Shows.Phase.{taken, live, dead}
use Rattle.cell_core.specs.declared.words.Slot.{Slot}
use Rattle.cell_core.specs.declared.words.Owner.{Owner}
use Rattle.cell_core.specs.declared.words.Owner.TheVariants.{Holding, Weakly, Burying}

-- a slot in which a version lies that isn't buried, with its K
pub record Lives {T : Type 0} (state : State T) (cell : Cell T) (plan : Plan) (place number : ℕ) (there : Slot T) : Type 0 where
  pub is : IsLive state cell plan place number there
  pub weak : there.weak ≡ weaks state.owners number + 1
  pub lies : LiesIn cell plan number place

pub lives : {T : Type 0} (state : State T) (cell : Cell T) (s : Shows state cell) (place number : ℕ) (there : Slot T) → slice_get state.table place ≡ Some there → s.plan.phase place ≡ live number → Lives state cell s.plan place number there
lives {T} state cell s place number there at phase =
    let is : IsLive state cell s.plan place number there = subst (λ p. SlotIs state cell s.plan place p there) phase (s.table.slot_is place there at) in
    record {
      is = is;
      weak = subst (λ p. WeakWord state.owners place p there.weak) phase (s.table.weak_word place there at);
      lies = record { published = slice_get_within cell.published number is.value is.published; unburied = is.unburied; here = is.here };
    }

-- raise, where S is below DEAD: the number has one owner more
pub raise_keeps : {T : Type 0} (state : State T) (cell : Cell T) (number place : ℕ) (there : Slot T) (s : Shows state cell) → slice_get state.table place ≡ Some there → s.plan.phase place ≡ live number → state.granted < grants → Shows (with_new_owner (Holding number place) (with_grant (with_slot place (with_shares (fetch_add there.shares 1) there) state))) (with_strong number cell)
raise_keeps {T} state cell number place there s at phase room =
    let after : Slot T = with_shares (fetch_add there.shares 1) there in
    let owners : List Owner = state.owners ++ Holding number place ∷ [] in
    let next : Cell T = with_strong number cell in
    let later : Plan = with_phase place (live number) s.plan in
    let here = lives state cell s place number there at phase in
    let little = live_little state cell s place number there here.is in
    let more_here : held owners number ≡ held state.owners number + 1 = held_more state.owners number place number ∙ more_of_this (held state.owners) number number refl in
    let few = λ (j : ℕ). s.counts.few j in
    step_keeps state cell s place there after owners (state.granted + 1) state.noted (one_more number cell.strong) cell.weak (live number) at (omega arith) (omega (arith, room)) s.given.noted
    (λ prepared e. let apart : live number ≡ taken prepared = sym phase ∙ e in cc)
    (λ j e. sym phase ∙ e)
    (record {
      strong = λ j.
          let old = s.counts.strong j in
          let more = held_more state.owners number place j in
          elim (eqb_tells j number) [
            | inl same ↦ rw same.0 (let g = more_of_this (held state.owners) number j same.1 in omega (arith, old, more, g))
            | inr other ↦ rw other.0 (let g = none_of_others (held state.owners) number j other.1 in omega (arith, old, more, g))
          ];
      few = λ j. let old = few j in elim (eqb_tells j number) [ inl same ↦ rw same.0 (omega (arith, old)) | inr other ↦ rw other.0 (omega (arith, old)) ];
      few_of_last = elim (eqb_tells s.plan.last number) [ inl same ↦ rw same.0 (omega (arith, s.counts.few_of_last)) | inr other ↦ rw other.0 (omega (arith, s.counts.few_of_last)) ];
      weak = λ j. s.counts.weak j ∙ sym (weaks_more state.owners number place j);
      few_weak = s.counts.few_weak;
    })
    (record {
      here = here.is.here;
      unburied = here.is.unburied;
      value = here.is.value;
      version = here.is.version;
      published = here.is.published;
      shares = omega (arith, here.is.shares, more_here, little);
      due = λ empty. absurd (omega (arith, empty, little));
    })
    (here.weak ∙ ap (λ n. n + 1) (sym (weaks_more state.owners number place number)))
    (λ p slot found other. around_pushed state (Holding number place) s.plan p slot
    (λ j e. held_more state.owners number place j ∙ none_of_others (held state.owners) number j (λ same. other (sym e ∙ ap s.plan.slot same ∙ here.is.here)))
    (λ j e. weaks_more state.owners number place j))
    (λ k how h. elim (push_cases state.owners (Holding number place) how k h) [
      | inl old ↦ owner_stays cell next s.plan later k how (beside_itself cell next s.plan place (live number) refl) (knows_still cell next s.plan later k how (λ j u. u) (phase_same place (live number) s.plan phase)) (s.owner_is k how old)
      | inr last_one ↦ subst (λ x. OwnerIs next later k x) last_one (record { published = here.lies.published; unburied = here.lies.unburied; here = here.lies.here })
    ])

-- a slot whose version is buried, with its K
pub record Buried {T : Type 0} (state : State T) (cell : Cell T) (plan : Plan) (place number late : ℕ) (rest : Rest) (there : Slot T) : Type 0 where
  pub is : IsDead state cell plan place number late there
  pub weak : RestWord (weaks state.owners number) rest there.weak
  pub charge : InCharge state.owners place rest

pub buried_there : {T : Type 0} (state : State T) (cell : Cell T) (s : Shows state cell) (place number late : ℕ) (rest : Rest) (there : Slot T) → slice_get state.table place ≡ Some there → s.plan.phase place ≡ dead number late rest → Buried state cell s.plan place number late rest there
buried_there state cell s place number late rest there at phase =
    let weak = subst (λ p. WeakWord state.owners place p there.weak) phase (s.table.weak_word place there at) in
    record {
      is = subst (λ p. SlotIs state cell s.plan place p there) phase (s.table.slot_is place there at);
      weak = weak.0;
      charge = weak.1;
    }

-- raise, where S is DEAD or more: it counts for nobody
pub late_keeps : {T : Type 0} (state : State T) (cell : Cell T) (number place late : ℕ) (rest : Rest) (there : Slot T) (s : Shows state cell) → slice_get state.table place ≡ Some there → s.plan.phase place ≡ dead number late rest → state.granted < grants → Shows (with_grant (with_slot place (with_shares (fetch_add there.shares 1) there) state)) cell
late_keeps {T} state cell number place late rest there s at phase room =
    let after : Slot T = with_shares (fetch_add there.shares 1) there in
    let change : Phase = dead number (late + 1) rest in
    let later : Plan = with_phase place change s.plan in
    let here = buried_there state cell s place number late rest there at phase in
    step_keeps state cell s place there after state.owners (state.granted + 1) state.noted cell.strong cell.weak change at (omega arith) (omega (arith, room)) s.given.noted
    (λ prepared e. let apart : dead number late rest ≡ taken prepared = sym phase ∙ e in cc)
    (λ j e. absurd (let apart : dead number late rest ≡ live j = sym phase ∙ e in cc))
    (record {
      strong = s.counts.strong;
      few = λ j. let few = s.counts.few j in omega (arith, few);
      few_of_last = omega (arith, s.counts.few_of_last);
      weak = s.counts.weak;
      few_weak = s.counts.few_weak;
    })
    (record {
      here = here.is.here;
      buried = here.is.buried;
      shares = omega (arith, here.is.shares, here.is.few, room);
      few = omega (arith, here.is.few);
      version = here.is.version;
    })
    (here.weak, here.charge)
    (λ p slot found other. record { held_as = λ j e. refl; weak_as = λ j e. refl; burying = λ none i q. q; charge = λ rest c. c })
    (λ k how h. owner_stays cell cell s.plan later k how (beside_itself cell cell s.plan place change refl) (record {
      held = λ j some u. u;
      weak = λ j p some e. number_stays place change s.plan j (λ f. sym (ap number_of phase) ∙ f) p e;
      rest = λ p its e c. rest_stays place change s.plan its (λ n l f. (
          let same : dead number late rest ≡ dead n l its = sym phase ∙ f in
          let numbers : number ≡ n = cc in
          let rests : rest ≡ its = cc in
          (late + 1, ap (λ x. dead x (late + 1) rest) numbers ∙ ap (λ x. dead n (late + 1) x) rests)
          )) p c;
    })
    (s.owner_is k how h))

-- one weak owner more of a number, and no other
pub noted_more : (owners : List Owner) (number place j : ℕ) → weaks (owners ++ Weakly number place ∷ []) j ≡ one_more number (weaks owners) j
noted_more owners number place j =
    let more = weaks_push owners (Weakly number place) j in
    elim (eqb_tells j number) [
      | inl same ↦ rw same.0 (rw same.0 at more)
      | inr other ↦ rw other.0 (let none : weaks (owners ++ Weakly number place ∷ []) j ≡ weaks owners j + 0 = rw other.0 at more in omega (arith, none))
    ]

noted_held : (owners : List Owner) (number place j : ℕ) → held (owners ++ Weakly number place ∷ []) j ≡ held owners j
noted_held owners number place j = let more = held_push owners (Weakly number place) j in omega (arith, more)

-- note: the number has one weak owner more
pub note_keeps : {T : Type 0} (state : State T) (cell : Cell T) (number place : ℕ) (there : Slot T) (s : Shows state cell) → slice_get state.table place ≡ Some there → s.plan.phase place ≡ live number → state.noted < notes → Shows (with_new_owner (Weakly number place) (with_note (with_slot place (with_weak_word (fetch_add there.weak 1) there) state))) (with_weak number cell)
note_keeps {T} state cell number place there s at phase room =
    let within = slice_get_within state.table place there at in
    let after : Slot T = with_weak_word (fetch_add there.weak 1) there in
    let owners : List Owner = state.owners ++ Weakly number place ∷ [] in
    let next : Cell T = with_weak number cell in
    let later : Plan = with_phase place (live number) s.plan in
    let here = lives state cell s place number there at phase in
    let few = few_weak state cell s number in
    let more_here : weaks owners number ≡ weaks state.owners number + 1 = noted_more state.owners number place number ∙ more_of_this (weaks state.owners) number number refl in
    step_keeps state cell s place there after owners state.granted (state.noted + 1) cell.strong (one_more number cell.weak) (live number) at (omega arith) s.given.granted (omega (arith, room))
    (λ prepared e. let apart : live number ≡ taken prepared = sym phase ∙ e in cc)
    (λ j e. sym phase ∙ e)
    (record {
      strong = λ j. s.counts.strong j ∙ ap (λ n. n + owned_by state.publisher j) (sym (noted_held state.owners number place j));
      few = s.counts.few;
      few_of_last = s.counts.few_of_last;
      weak = λ j.
          let old = s.counts.weak j in
          let more = noted_more state.owners number place j in
          elim (eqb_tells j number) [
            | inl same ↦ rw same.0 (let g = more_of_this (weaks state.owners) number j same.1 in omega (arith, old, more, g))
            | inr other ↦ rw other.0 (let g = none_of_others (weaks state.owners) number j other.1 in omega (arith, old, more, g))
          ];
      few_weak = λ j. let old = s.counts.few_weak j in elim (eqb_tells j number) [ inl same ↦ rw same.0 (omega (arith, old)) | inr other ↦ rw other.0 (omega (arith, old)) ];
    })
    (record {
      here = here.is.here;
      unburied = here.is.unburied;
      value = here.is.value;
      version = here.is.version;
      published = here.is.published;
      shares = here.is.shares ∙ ap (λ n. n + kept_by_cell s.plan.last s.plan.given number + kept_by state.publisher number) (sym (noted_held state.owners number place number));
      due = λ empty. let d = here.is.due empty in (d.0, get_push_old state.owners (Weakly number place) (Burying place) d.0 d.1);
    })
    (omega (arith, here.weak, more_here, few))
    (λ p slot found other. around_pushed state (Weakly number place) s.plan p slot
    (λ j e. noted_held state.owners number place j)
    (λ j e. noted_more state.owners number place j ∙ none_of_others (weaks state.owners) number j (λ same. other (sym e ∙ ap s.plan.slot same ∙ here.is.here))))
    (λ k how h. elim (push_cases state.owners (Weakly number place) how k h) [
      | inl old ↦ owner_stays cell next s.plan later k how (beside_itself cell next s.plan place (live number) refl) (knows_still cell next s.plan later k how (λ j u. u) (phase_same place (live number) s.plan phase)) (s.owner_is k how old)
      | inr last_one ↦ subst (λ x. OwnerIs next later k x) last_one (omega (arith, within, s.table.size), ap number_of (phase_same place (live number) s.plan phase place ∙ phase))
    ])
