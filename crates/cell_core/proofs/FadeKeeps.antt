-- A fade and a reset keep what the words show.
use Rattle.std.proofs.Common.{◌≡◌, ◌≢◌, refl, sym, ap, ◌∙◌, subst, ℕ, ◌+◌, ◌-◌, ◌<◌, ◌≤◌, ◌⊎◌, inl, inr, List, arith}
use Rattle.std.specs.Prelude.{Some}
use Rattle.std.specs.List.{slice_get, slice_set}
use Rattle.std.proofs.lemmas.Bool.Decides.{eqb_tells}
use Rattle.std.proofs.lemmas.Option.{slice_get_within}
use Rattle.cell_core.proofs.SeatLemmas.{get_set_same, weaks_set, weaks_some, one_at_itself}
use Rattle.cell_core.proofs.FrameLemmas.{with_phase, charged, charge_of, held_stays, weaks_stay, charge_stays, seat_stays, beside_itself, owner_stays, knows_still, number_stays, rest_stays, phase_here, owners_after}
use Rattle.cell_core.proofs.SlotFrame.{step_keeps, around_seat, phase_same}
use Rattle.cell_core.proofs.RaiseKeeps.{lives, buried_there}
use Rattle.cell_core.specs.Cell.{Cell, one_less, without_weak}
use Rattle.cell_core.specs.Words.{State}
use Rattle.cell_core.specs.WordSteps.{with_slot, with_owner, with_weak_word}
use Rattle.cell_core.specs.Shows.{Rest, Phase, Plan, RestWord, InCharge, number_of, OwnerIs, Shows, held, holds, weaks, has_weakly, kept_by, kept_by_cell, owned_by}
use Rattle.cell_core.specs.Shows.Rest.{fading, outlived, closing, closed}
use Rattle.cell_core.specs.Shows.Phase.{free, taken, live, dead}
use Rattle.cell_core.specs.declared.words.Slot.{Slot}
use Rattle.cell_core.specs.declared.words.Owner.{Owner}
use Rattle.cell_core.specs.declared.words.Owner.TheVariants.{Weakly, Burying, Fading, Resetting, Freeing, Spent}

-- an owner that fades or resets has no share, and gets none
pub record Idle (before after : Owner) : Type 0 where
  pub had_none : (j : ℕ) → holds j before ≡ 0
  pub has_none : (j : ℕ) → holds j after ≡ 0
  pub burying : (p : ℕ) → before ≡ Burying p → ⊥

-- an owner of a slot whose version is buried comes further, and K changes
pub record Fades {T : Type 0} (state : State T) (cell : Cell T) (s : Shows state cell) (i place number late : ℕ) (before after : Owner) (rest next_rest : Rest) (weak : ℕ → ℕ) (k : ℕ) : Type 0 where
  pub idle : Idle before after
  pub elsewhere : (p : ℕ) → charged before ≡ Some p → p ≡ place
  pub others : (j : ℕ) → j ≢ number → weaks (slice_set state.owners i after) j ≡ weaks state.owners j
  pub counted : (j : ℕ) → weak j ≡ weaks (slice_set state.owners i after) j
  pub few : (j : ℕ) → weak j ≤ state.noted
  pub word : RestWord (weaks (slice_set state.owners i after) number) next_rest k
  pub charge : InCharge (slice_set state.owners i after) place next_rest
  pub nobody : (o : ℕ) → o ≢ i → charge_of rest ≡ Some o → rest ≡ next_rest
  pub mine : OwnerIs (record cell { weak = weak }) (with_phase place (dead number late next_rest) s.plan) i after

pub dead_keeps : {T : Type 0} (state : State T) (cell : Cell T) (s : Shows state cell) (i place number late : ℕ) (there : Slot T) (before after : Owner) (rest next_rest : Rest) (weak : ℕ → ℕ) (k : ℕ) → slice_get state.owners i ≡ Some before → slice_get state.table place ≡ Some there → s.plan.phase place ≡ dead number late rest → Fades state cell s i place number late before after rest next_rest weak k → Shows (with_owner i after (with_slot place (with_weak_word k there) state)) (record cell { weak = weak })
dead_keeps {T} state cell s i place number late there before after rest next_rest weak k seat at phase f =
    let slot : Slot T = with_weak_word k there in
    let owners : List Owner = slice_set state.owners i after in
    let next : Cell T = record cell { weak = weak } in
    let change : Phase = dead number late next_rest in
    let later : Plan = with_phase place change s.plan in
    let here = buried_there state cell s place number late rest there at phase in
    let still : (j : ℕ) → held owners j ≡ held state.owners j = λ j. held_stays state.owners i before after j seat (f.idle.had_none j) (f.idle.has_none j) in
    step_keeps state cell s place there slot owners state.granted state.noted cell.strong weak change at (omega arith) s.given.granted s.given.noted
    (λ prepared e. let apart : dead number late rest ≡ taken prepared = sym phase ∙ e in cc)
    (λ j e. absurd (let apart : dead number late rest ≡ live j = sym phase ∙ e in cc))
    (record {
      strong = λ j. s.counts.strong j ∙ ap (λ n. n + owned_by state.publisher j) (sym (still j));
      few = s.counts.few;
      few_of_last = s.counts.few_of_last;
      weak = f.counted;
      few_weak = f.few;
    })
    (record { here = here.is.here; buried = here.is.buried; shares = here.is.shares; few = here.is.few; version = here.is.version })
    (f.word, f.charge)
    (λ p there_too found other. around_seat state i before after s.plan p there_too seat (f.idle.burying p) (λ e. other (f.elsewhere p e))
    (λ j e. still j)
    (λ j e. f.others j (λ same. other (sym e ∙ ap s.plan.slot same ∙ here.is.here))))
    (owners_after next later state.owners i before after seat f.mine
    (λ o how other h. owner_stays cell next s.plan later o how (beside_itself cell next s.plan place change refl) (record {
      held = λ j some u. u;
      weak = λ j p some e. number_stays place change s.plan j (λ g. sym (ap number_of phase) ∙ g) p e;
      rest = λ p its e c. rest_stays place change s.plan its (λ n l g. (
          let same : dead number late rest ≡ dead n l its = sym phase ∙ g in
          let numbers : number ≡ n = cc in
          let rests : rest ≡ its = cc in
          let kept = f.nobody o other (ap charge_of rests ∙ e) in
          (late, ap (λ x. dead x late next_rest) numbers ∙ ap (λ x. dead n late x) (sym kept ∙ rests))
          )) p c;
    })
    (s.owner_is o how h)))

-- a weak owner less
pub weaks_less : (owners : List Owner) (i number place : ℕ) (after : Owner) (j : ℕ) → slice_get owners i ≡ Some (Weakly number place) → has_weakly j after ≡ 0 → weaks (slice_set owners i after) j ≡ one_less number (weaks owners) j
weaks_less owners i number place after j seat none =
    let sums = weaks_set owners i (Weakly number place) after j seat in
    elim (eqb_tells j number) [
      | inl same ↦ rw same.0 (let less : weaks (slice_set owners i after) j + 1 ≡ weaks owners j + has_weakly j after = rw same.0 at sums in omega (arith, less, none))
      | inr other ↦ rw other.0 (let less : weaks (slice_set owners i after) j + 0 ≡ weaks owners j + has_weakly j after = rw other.0 at sums in omega (arith, less, none))
    ]

pub less_of_this : (counts : ℕ → ℕ) (number : ℕ) → one_less number counts number ≡ counts number - 1
less_of_this counts number = elim (eqb_tells number number) [ inl same ↦ rw same.0 refl | inr other ↦ absurd (other.1 refl) ]

pub less_of_others : (counts : ℕ → ℕ) (number j : ℕ) → j ≢ number → one_less number counts j ≡ counts j
less_of_others counts number j h = elim (eqb_tells j number) [ inl same ↦ absurd (h same.1) | inr other ↦ rw other.0 refl ]

-- the counts of a number with a weak owner less
counted_less : (weak owners_of : ℕ → ℕ) (number j : ℕ) → weak j ≡ owners_of j → one_less number weak j ≡ one_less number owners_of j
counted_less weak owners_of number j e = elim (eqb_tells j number) [ inl same ↦ rw same.0 (omega (arith, e)) | inr other ↦ rw other.0 e ]

fewer : (weak : ℕ → ℕ) (number j most : ℕ) → weak j ≤ most → one_less number weak j ≤ most
fewer weak number j most l = elim (eqb_tells j number) [ inl same ↦ rw same.0 (omega (arith, l)) | inr other ↦ rw other.0 l ]

-- what a fade comes to, by the word that it leaves
abbrev pub Outcome : ℕ → ℕ → Owner → Type 0
Outcome place k after = ((k ≡ 0) × (after ≡ Resetting place)) ⊎ ((0 < k) × (after ≡ Spent))

-- a weak owner's fade, while the version isn't buried
pub fades_live : {T : Type 0} (state : State T) (cell : Cell T) (i number place k : ℕ) (there : Slot T) (s : Shows state cell) → slice_get state.owners i ≡ Some (Weakly number place) → slice_get state.table place ≡ Some there → s.plan.phase place ≡ live number → k + 1 ≡ there.weak → Shows (with_owner i Spent (with_slot place (with_weak_word k there) state)) (without_weak number cell)
fades_live {T} state cell i number place k there s seat at phase less =
    let owners : List Owner = slice_set state.owners i Spent in
    let next : Cell T = without_weak number cell in
    let later : Plan = with_phase place (live number) s.plan in
    let here = lives state cell s place number there at phase in
    let some = weaks_some state.owners i number (Weakly number place) seat in
    let one = one_at_itself number in
    let still : (j : ℕ) → held owners j ≡ held state.owners j = λ j. held_stays state.owners i (Weakly number place) Spent j seat refl refl in
    let fewer_weak : (j : ℕ) → weaks owners j ≡ one_less number (weaks state.owners) j = λ j. weaks_less state.owners i number place Spent j seat refl in
    step_keeps state cell s place there (with_weak_word k there) owners state.granted state.noted cell.strong (one_less number cell.weak) (live number) at (omega arith) s.given.granted s.given.noted
    (λ prepared e. let apart : live number ≡ taken prepared = sym phase ∙ e in cc)
    (λ j e. sym phase ∙ e)
    (record {
      strong = λ j. s.counts.strong j ∙ ap (λ n. n + owned_by state.publisher j) (sym (still j));
      few = s.counts.few;
      few_of_last = s.counts.few_of_last;
      weak = λ j. counted_less cell.weak (weaks state.owners) number j (s.counts.weak j) ∙ sym (fewer_weak j);
      few_weak = λ j. fewer cell.weak number j state.noted (s.counts.few_weak j);
    })
    (record {
      here = here.is.here;
      unburied = here.is.unburied;
      value = here.is.value;
      version = here.is.version;
      published = here.is.published;
      shares = here.is.shares ∙ ap (λ n. n + kept_by_cell s.plan.last s.plan.given number + kept_by state.publisher number) (sym (still number));
      due = λ empty. let d = here.is.due empty in (d.0, seat_stays state.owners i (Weakly number place) Spent (Burying place) seat (λ e. cc) d.0 d.1);
    })
    (let this = fewer_weak number ∙ less_of_this (weaks state.owners) number in omega (arith, this, here.weak, less, some, one))
    (λ p slot found other. around_seat state i (Weakly number place) Spent s.plan p slot seat (λ e. cc) (λ e. cc)
    (λ j e. still j)
    (λ j e. fewer_weak j ∙ less_of_others (weaks state.owners) number j (λ same. other (sym e ∙ ap s.plan.slot same ∙ here.is.here))))
    (owners_after next later state.owners i (Weakly number place) Spent seat tt
    (λ o how other h. owner_stays cell next s.plan later o how (beside_itself cell next s.plan place (live number) refl) (knows_still cell next s.plan later o how (λ j u. u) (phase_same place (live number) s.plan phase)) (s.owner_is o how h)))

-- what holds of any fade of a weak owner
weak_fades_by : {T : Type 0} (state : State T) (cell : Cell T) (i number place late k : ℕ) (after : Owner) (s : Shows state cell) (rest next_rest : Rest) → slice_get state.owners i ≡ Some (Weakly number place) → ((j : ℕ) → (holds j after ≡ 0) × (has_weakly j after ≡ 0)) → RestWord (weaks state.owners number - 1) next_rest k → InCharge (slice_set state.owners i after) place next_rest → ((o : ℕ) → charge_of rest ≡ Some o → rest ≡ next_rest) → OwnerIs (without_weak number cell) (with_phase place (dead number late next_rest) s.plan) i after → Fades state cell s i place number late (Weakly number place) after rest next_rest (one_less number cell.weak) k
weak_fades_by state cell i number place late k after s rest next_rest seat spent word charge nobody mine =
    let fewer_weak : (j : ℕ) → weaks (slice_set state.owners i after) j ≡ one_less number (weaks state.owners) j = λ j. weaks_less state.owners i number place after j seat (spent j).1 in
    record {
      idle = record { had_none = λ j. refl; has_none = λ j. (spent j).0; burying = λ p e. cc };
      elsewhere = λ p e. absurd (let apart = e in cc);
      others = λ j other. fewer_weak j ∙ less_of_others (weaks state.owners) number j other;
      counted = λ j. counted_less cell.weak (weaks state.owners) number j (s.counts.weak j) ∙ sym (fewer_weak j);
      few = λ j. fewer cell.weak number j state.noted (s.counts.few_weak j);
      word = subst (λ n. RestWord n next_rest k) (sym (fewer_weak number ∙ less_of_this (weaks state.owners) number)) word;
      charge = charge;
      nobody = λ o other e. nobody o e;
      mine = mine;
    }

-- a weak owner's fade, when the version is buried
fades_dead : {T : Type 0} (state : State T) (cell : Cell T) (i number place late k : ℕ) (after : Owner) (there : Slot T) (rest : Rest) (s : Shows state cell) → slice_get state.owners i ≡ Some (Weakly number place) → slice_get state.table place ≡ Some there → s.plan.phase place ≡ dead number late rest → RestWord (weaks state.owners number) rest there.weak → InCharge state.owners place rest → 0 < weaks state.owners number → k + 1 ≡ there.weak → Outcome place k after → Shows (with_owner i after (with_slot place (with_weak_word k there) state)) (without_weak number cell)
fades_dead {T} state cell i number place late k after there (fading o) s seat at phase word charge some less (inl none) = absurd (omega (arith, word, less, none.0, some))
fades_dead {T} state cell i number place late k after there (fading o) s seat at phase word charge some less (inr left) =
    let spent : Spent ≡ after = sym left.1 in
    subst (λ x. Shows (with_owner i x (with_slot place (with_weak_word k there) state)) (without_weak number cell)) spent
    (dead_keeps state cell s i place number late there (Weakly number place) Spent (fading o) (fading o) (one_less number cell.weak) k seat at phase
    (weak_fades_by state cell i number place late k Spent s (fading o) (fading o) seat (λ j. (refl, refl)) (omega (arith, word, less, some)) (charge_stays state.owners i (Weakly number place) Spent place seat (λ e. cc) (fading o) charge) (λ n e. refl) tt))
fades_dead {T} state cell i number place late k after there outlived s seat at phase word charge some less (inl none) =
    let within = slice_get_within state.owners i (Weakly number place) seat in
    let found = slice_get_within state.table place there at in
    subst (λ x. Shows (with_owner i x (with_slot place (with_weak_word k there) state)) (without_weak number cell)) (sym none.1)
    (dead_keeps state cell s i place number late there (Weakly number place) (Resetting place) outlived (closing i) (one_less number cell.weak) k seat at phase
    (weak_fades_by state cell i number place late k (Resetting place) s outlived (closing i) seat (λ j. (refl, refl)) (none.0, omega (arith, word.0, less, none.0)) (get_set_same state.owners i (Resetting place) within) (λ n e. absurd (let apart = e in cc))
    (number, late, omega (arith, found, s.table.size), phase_here place (dead number late (closing i)) s.plan)))
fades_dead {T} state cell i number place late k after there outlived s seat at phase word charge some less (inr left) =
    subst (λ x. Shows (with_owner i x (with_slot place (with_weak_word k there) state)) (without_weak number cell)) (sym left.1)
    (dead_keeps state cell s i place number late there (Weakly number place) Spent outlived outlived (one_less number cell.weak) k seat at phase
    (weak_fades_by state cell i number place late k Spent s outlived outlived seat (λ j. (refl, refl)) (omega (arith, word.0, less), omega (arith, word.0, less, left.0)) tt (λ n e. refl) tt))
fades_dead state cell i number place late k after there (closing o) s seat at phase word charge some less out = absurd (omega (arith, word.1, some))
fades_dead state cell i number place late k after there (closed o) s seat at phase word charge some less out = absurd (omega (arith, word.1, some))

-- so, whatever its slot's phase is
fades_at : {T : Type 0} (state : State T) (cell : Cell T) (i number place k : ℕ) (after : Owner) (there : Slot T) (s : Shows state cell) (phase : Phase) → slice_get state.owners i ≡ Some (Weakly number place) → slice_get state.table place ≡ Some there → s.plan.phase place ≡ phase → number_of phase ≡ Some number → k + 1 ≡ there.weak → Outcome place k after → Shows (with_owner i after (with_slot place (with_weak_word k there) state)) (without_weak number cell)
fades_at state cell i number place k after there s free seat at is of less out = absurd (let wrong = of in cc)
fades_at state cell i number place k after there s (taken prepared) seat at is of less out = absurd (let wrong = of in cc)
fades_at {T} state cell i number place k after there s (live j) seat at is of less out =
    let same : j ≡ number = cc in
    let phase : s.plan.phase place ≡ live number = is ∙ ap live same in
    let here = lives state cell s place number there at phase in
    let some = weaks_some state.owners i number (Weakly number place) seat in
    let one = one_at_itself number in
    elim out [
      | inl none ↦ absurd (omega (arith, none.0, less, here.weak, some, one))
      | inr left ↦ subst (λ x. Shows (with_owner i x (with_slot place (with_weak_word k there) state)) (without_weak number cell)) (sym left.1) (fades_live state cell i number place k there s seat at phase less)
    ]
fades_at {T} state cell i number place k after there s (dead j late rest) seat at is of less out =
    let same : j ≡ number = cc in
    let phase : s.plan.phase place ≡ dead number late rest = is ∙ ap (λ x. dead x late rest) same in
    let here = buried_there state cell s place number late rest there at phase in
    let some = weaks_some state.owners i number (Weakly number place) seat in
    let one = one_at_itself number in
    fades_dead state cell i number place late k after there rest s seat at phase here.weak here.charge (omega (arith, some, one)) less out

-- fade, of a weak owner: the number has one less
pub weak_fade_keeps : {T : Type 0} (state : State T) (cell : Cell T) (i number place k : ℕ) (after : Owner) (there : Slot T) (s : Shows state cell) → slice_get state.owners i ≡ Some (Weakly number place) → slice_get state.table place ≡ Some there → k + 1 ≡ there.weak → Outcome place k after → Shows (with_owner i after (with_slot place (with_weak_word k there) state)) (without_weak number cell)
weak_fade_keeps state cell i number place k after there s seat at less out =
    fades_at state cell i number place k after there s (s.plan.phase place) seat at refl (s.owner_is i (Weakly number place) seat).1 less out

-- what holds of the steps of who is in charge of a slot: its weak owners stay as they are
charge_fades : {T : Type 0} (state : State T) (cell : Cell T) (i place number late k : ℕ) (before after : Owner) (s : Shows state cell) (rest next_rest : Rest) → slice_get state.owners i ≡ Some before → Idle before after → ((j : ℕ) → (has_weakly j before ≡ 0) × (has_weakly j after ≡ 0)) → ((p : ℕ) → charged before ≡ Some p → p ≡ place) → charge_of rest ≡ Some i → RestWord (weaks state.owners number) next_rest k → InCharge (slice_set state.owners i after) place next_rest → OwnerIs cell (with_phase place (dead number late next_rest) s.plan) i after → Fades state cell s i place number late before after rest next_rest cell.weak k
charge_fades state cell i place number late k before after s rest next_rest seat idle not_weak elsewhere its word charge mine =
    let still : (j : ℕ) → weaks (slice_set state.owners i after) j ≡ weaks state.owners j = λ j. weaks_stay state.owners i before after j seat (not_weak j).0 (not_weak j).1 in
    record {
      idle = idle;
      elsewhere = elsewhere;
      others = λ j other. still j;
      counted = λ j. s.counts.weak j ∙ sym (still j);
      few = s.counts.few_weak;
      word = subst (λ n. RestWord n next_rest k) (sym (still number)) word;
      charge = charge;
      nobody = λ o other e. absurd (other (let same : Some i ≡ Some o = sym its ∙ e in let f : i ≡ o = cc in sym f));
      mine = mine;
    }

-- fade, of who buried the version: weak owners alone are left, or nobody is
pub burier_fade_keeps : {T : Type 0} (state : State T) (cell : Cell T) (i place k : ℕ) (after : Owner) (there : Slot T) (s : Shows state cell) → slice_get state.owners i ≡ Some (Fading place) → slice_get state.table place ≡ Some there → k + 1 ≡ there.weak → Outcome place k after → Shows (with_owner i after (with_slot place (with_weak_word k there) state)) cell
burier_fade_keeps {T} state cell i place k after there s seat at less out =
    let c = s.owner_is i (Fading place) seat in
    let number : ℕ = c.0 in
    let late : ℕ = c.1 in
    let here = buried_there state cell s place number late (fading i) there at c.3 in
    let within = slice_get_within state.owners i (Fading place) seat in
    elim out [
      | inl none ↦ subst (λ x. Shows (with_owner i x (with_slot place (with_weak_word k there) state)) cell) (sym none.1)
          (dead_keeps state cell s i place number late there (Fading place) (Resetting place) (fading i) (closing i) cell.weak k seat at c.3
          (charge_fades state cell i place number late k (Fading place) (Resetting place) s (fading i) (closing i) seat
          (record { had_none = λ j. refl; has_none = λ j. refl; burying = λ p e. cc }) (λ j. (refl, refl)) (λ p e. (let f : place ≡ p = cc in sym f)) refl
          (none.0, omega (arith, here.weak, less, none.0)) (get_set_same state.owners i (Resetting place) within)
          (number, late, c.2, phase_here place (dead number late (closing i)) s.plan)))
      | inr left ↦ subst (λ x. Shows (with_owner i x (with_slot place (with_weak_word k there) state)) cell) (sym left.1)
          (dead_keeps state cell s i place number late there (Fading place) Spent (fading i) outlived cell.weak k seat at c.3
          (charge_fades state cell i place number late k (Fading place) Spent s (fading i) outlived seat
          (record { had_none = λ j. refl; has_none = λ j. refl; burying = λ p e. cc }) (λ j. (refl, refl)) (λ p e. (let f : place ≡ p = cc in sym f)) refl
          (omega (arith, here.weak, less), omega (arith, here.weak, less, left.0)) tt tt))
    ]

-- reset: K of a slot that nobody else has is 1 again
pub reset_keeps : {T : Type 0} (state : State T) (cell : Cell T) (i place : ℕ) (there : Slot T) (s : Shows state cell) → slice_get state.owners i ≡ Some (Resetting place) → slice_get state.table place ≡ Some there → Shows (with_owner i (Freeing place) (with_slot place (with_weak_word 1 there) state)) cell
reset_keeps {T} state cell i place there s seat at =
    let c = s.owner_is i (Resetting place) seat in
    let number : ℕ = c.0 in
    let late : ℕ = c.1 in
    let here = buried_there state cell s place number late (closing i) there at c.3 in
    let within = slice_get_within state.owners i (Resetting place) seat in
    dead_keeps state cell s i place number late there (Resetting place) (Freeing place) (closing i) (closed i) cell.weak 1 seat at c.3
    (charge_fades state cell i place number late 1 (Resetting place) (Freeing place) s (closing i) (closed i) seat
    (record { had_none = λ j. refl; has_none = λ j. refl; burying = λ p e. cc }) (λ j. (refl, refl)) (λ p e. (let f : place ≡ p = cc in sym f)) refl
    (refl, here.weak.1) (get_set_same state.owners i (Freeing place) within)
    (number, late, c.2, phase_here place (dead number late (closed i)) s.plan))
