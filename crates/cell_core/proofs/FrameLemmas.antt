-- What a step on one word leaves as it was: every slot but one, every owner but one, and the numbers that lie elsewhere.
use Rattle.std.proofs.Common.{◌≡◌, ◌≢◌, refl, sym, ap, ◌∙◌, subst, ℕ, ◌+◌, ◌<◌, ◌≤◌, ◌⊎◌, Bool, true, false, inl, inr, List, [], ◌∷◌, ◌++◌, length, arith}
use Rattle.std.specs.Prelude.{Option, None, Some, ◌==◌, if◌then◌else◌}
use Rattle.std.specs.List.{slice_get, slice_set}
use Rattle.std.proofs.lemmas.Bool.Decides.{eqb_tells}
use Rattle.std.proofs.lemmas.Option.{slice_get_within}
use Rattle.std.proofs.lemmas.List.{length-set}
use Rattle.cell_core.proofs.SeatLemmas.{get_set_other, get_push_old, set_cases, held_set, weaks_set, one_at_itself}
use Rattle.cell_core.specs.Cell.{Cell}
use Rattle.cell_core.specs.Words.{State}
use Rattle.cell_core.specs.Shows.{Rest, Phase, Plan, SlotIs, InCharge, RestWord, WeakWord, LiesIn, number_of, HasRest, OwnerIs, PublisherIs, Numbers, Table, held, holds, has_weakly, weaks, kept_by, kept_by_cell}
use Rattle.cell_core.specs.Shows.Rest.{fading, outlived, closing, closed}
use Rattle.cell_core.specs.Shows.Phase.{free, taken, live, dead}
use Rattle.cell_core.specs.declared.words.Slot.{Slot}
use Rattle.cell_core.specs.declared.words.Owner.{Owner}
use Rattle.cell_core.specs.declared.words.Owner.TheVariants.{Holding, Twice, Weakly, Both, Burying, Fading, Resetting, Freeing, Spent}
use Rattle.cell_core.specs.declared.words.Publisher.{Publisher}
use Rattle.cell_core.specs.declared.words.Publisher.TheVariants.{Probing, Preparing, Swapping, Settling}

-- the shares of a number that are out
abbrev pub shares_out : {T : Type 0} → State T → Plan → ℕ → ℕ
shares_out state plan j = held state.owners j + kept_by_cell plan.last plan.given j + kept_by state.publisher j

-- a slot in another phase
abbrev pub with_phase : ℕ → Phase → Plan → Plan
with_phase place phase plan = record plan { phase = λ p. if p == place then phase else plan.phase p }

-- the slot that an owner is in charge of
abbrev pub charged : Owner → Option ℕ
charged (Fading place) = Some place
charged (Resetting place) = Some place
charged (Freeing place) = Some place
charged (Holding number place) = None
charged (Twice number place) = None
charged (Weakly number place) = None
charged (Both number place) = None
charged (Burying place) = None
charged Spent = None

-- the owner that is to do what is left in a slot
abbrev pub charge_of : Rest → Option ℕ
charge_of (fading owner) = Some owner
charge_of outlived = None
charge_of (closing owner) = Some owner
charge_of (closed owner) = Some owner

-- what a slot's facts tell of the rest is so after a step, too
pub record Elsewhere {T : Type 0} (state new : State T) (cell next : Cell T) (plan later : Plan) (place : ℕ) (there : Slot T) : Type 0 where
  pub preparing : state.publisher ≡ Preparing place → new.publisher ≡ Preparing place
  pub swapping : state.publisher ≡ Swapping place → (new.publisher ≡ Swapping place) × (later.last ≡ plan.last)
  pub burying : there.shares ≡ 0 → (i : ℕ) → slice_get state.owners i ≡ Some (Burying place) → slice_get new.owners i ≡ Some (Burying place)
  pub charge : (rest : Rest) → InCharge state.owners place rest → InCharge new.owners place rest
  pub granted : state.granted ≤ new.granted
  pub slot : (j : ℕ) → plan.slot j ≡ place → j ≤ plan.last → later.slot j ≡ place
  pub buried : (j : ℕ) → plan.slot j ≡ place → j ≤ plan.last → cell.buried j ≡ false → next.buried j ≡ false
  pub gone : (j : ℕ) → cell.buried j ≡ true → next.buried j ≡ true
  pub published : (j : ℕ) (v : T) → slice_get cell.published j ≡ Some v → slice_get next.published j ≡ Some v
  pub shares : (j : ℕ) → plan.slot j ≡ place → j ≤ plan.last → shares_out new later j ≡ shares_out state plan j
  pub weak : (j : ℕ) → plan.slot j ≡ place → j ≤ plan.last → weaks new.owners j ≡ weaks state.owners j

-- so the slot is what it was
pub slot_stays : {T : Type 0} (state new : State T) (cell next : Cell T) (plan later : Plan) (place : ℕ) (there : Slot T) (phase : Phase) → Numbers cell plan → Elsewhere state new cell next plan later place there → SlotIs state cell plan place phase there → SlotIs new next later place phase there
slot_stays state new cell next plan later place there free numbers e s = s
slot_stays state new cell next plan later place there (taken false) numbers e s = (e.preparing s.0, s.1, s.2)
slot_stays state new cell next plan later place there (taken true) numbers e s =
    let same = (e.swapping s.0).1 in
    ((e.swapping s.0).0, s.1, s.2, rw same s.3)
slot_stays state new cell next plan later place there (live j) numbers e s =
    let within = slice_get_within cell.published j s.value s.published in
    let old : j ≤ plan.last = omega (arith, numbers.last) in
    record {
      here = e.slot j s.here old;
      unburied = e.buried j s.here old s.unburied;
      value = s.value;
      version = s.version;
      published = e.published j s.value s.published;
      shares = s.shares ∙ sym (e.shares j s.here old);
      due = λ empty. let d = s.due empty in (d.0, e.burying empty d.0 d.1);
    }
slot_stays state new cell next plan later place there (dead j late rest) numbers e s =
    let old = numbers.buried j s.buried in
    record {
      here = e.slot j s.here (omega (arith, old));
      buried = e.gone j s.buried;
      shares = s.shares;
      few = omega (arith, s.few, e.granted);
      version = s.version;
    }

-- and its K
weak_stays : {T : Type 0} (state new : State T) (cell next : Cell T) (plan later : Plan) (place : ℕ) (there : Slot T) (phase : Phase) (k : ℕ) → Numbers cell plan → Elsewhere state new cell next plan later place there → SlotIs state cell plan place phase there → WeakWord state.owners place phase k → WeakWord new.owners place phase k
weak_stays state new cell next plan later place there free k numbers e s w = w
weak_stays state new cell next plan later place there (taken prepared) k numbers e s w = w
weak_stays state new cell next plan later place there (live j) k numbers e s w =
    let within = slice_get_within cell.published j s.value s.published in
    w ∙ ap (λ n. n + 1) (sym (e.weak j s.here (omega (arith, numbers.last))))
weak_stays state new cell next plan later place there (dead j late rest) k numbers e s w =
    let old = numbers.buried j s.buried in
    (subst (λ n. RestWord n rest k) (sym (e.weak j s.here (omega (arith, old)))) w.0, e.charge rest w.1)

-- a table in which one slot has changed
pub table_with : {T : Type 0} (state new : State T) (cell next : Cell T) (plan later : Plan) (place : ℕ) (there after : Slot T) → Numbers cell plan → Table state cell plan → slice_get state.table place ≡ Some there → new.table ≡ slice_set state.table place after → ((p : ℕ) → p ≢ place → later.phase p ≡ plan.phase p) → SlotIs new next later place (later.phase place) after → WeakWord new.owners place (later.phase place) after.weak → ((p : ℕ) (slot : Slot T) → slice_get state.table p ≡ Some slot → p ≢ place → Elsewhere state new cell next plan later p slot) → Table new next later
table_with {T} state new cell next plan later place there after numbers table at is phases here weak others =
    let within = slice_get_within state.table place there at in
    let cases : (p : ℕ) (slot : Slot T) → slice_get new.table p ≡ Some slot → ((p ≡ place) × (after ≡ slot)) ⊎ ((p ≢ place) × (slice_get state.table p ≡ Some slot)) =
    λ p slot h. set_cases state.table place p after slot within (ap (λ t. slice_get t p) (sym is) ∙ h) in
    record {
      size = ap length is ∙ length-set state.table place after ∙ table.size;
      slot_is = λ p slot h. elim (cases p slot h) [
        | inl same ↦ subst (λ x. SlotIs new next later p (later.phase p) x) same.1 (subst (λ k. SlotIs new next later k (later.phase k) after) (sym same.0) here)
        | inr other ↦ subst (λ x. SlotIs new next later p x slot) (sym (phases p other.0)) (slot_stays state new cell next plan later p slot (plan.phase p) numbers (others p slot other.1 other.0) (table.slot_is p slot other.1))
      ];
      weak_word = λ p slot h. elim (cases p slot h) [
        | inl same ↦ subst (λ x. WeakWord new.owners p (later.phase p) x.weak) same.1 (subst (λ k. WeakWord new.owners k (later.phase k) after.weak) (sym same.0) weak)
        | inr other ↦ subst (λ x. WeakWord new.owners p x slot.weak) (sym (phases p other.0)) (weak_stays state new cell next plan later p slot (plan.phase p) slot.weak numbers (others p slot other.1 other.0) (table.slot_is p slot other.1) (table.weak_word p slot other.1))
      ];
    }

-- a table in which no slot has changed
pub table_as : {T : Type 0} (state new : State T) (cell next : Cell T) (plan later : Plan) → Numbers cell plan → Table state cell plan → new.table ≡ state.table → ((p : ℕ) → later.phase p ≡ plan.phase p) → ((p : ℕ) (slot : Slot T) → slice_get state.table p ≡ Some slot → Elsewhere state new cell next plan later p slot) → Table new next later
table_as {T} state new cell next plan later numbers table is phases others =
    let same : (p : ℕ) (slot : Slot T) → slice_get new.table p ≡ Some slot → slice_get state.table p ≡ Some slot = λ p slot h. ap (λ t. slice_get t p) (sym is) ∙ h in
    record {
      size = ap length is ∙ table.size;
      slot_is = λ p slot h.
          let there = same p slot h in
          subst (λ x. SlotIs new next later p x slot) (sym (phases p)) (slot_stays state new cell next plan later p slot (plan.phase p) numbers (others p slot there) (table.slot_is p slot there));
      weak_word = λ p slot h.
          let there = same p slot h in
          subst (λ x. WeakWord new.owners p x slot.weak) (sym (phases p)) (weak_stays state new cell next plan later p slot (plan.phase p) slot.weak numbers (others p slot there) (table.slot_is p slot there) (table.weak_word p slot there));
    }

-- an owner that has another way to go isn't the one that has come further
pub seat_stays : (owners : List Owner) (i : ℕ) (before after how : Owner) → slice_get owners i ≡ Some before → (before ≡ how → ⊥) → (k : ℕ) → slice_get owners k ≡ Some how → slice_get (slice_set owners i after) k ≡ Some how
seat_stays owners i before after how at apart k h =
    let other : k ≢ i = λ e. apart (let f : slice_get owners i ≡ Some how = ap (slice_get owners) (sym e) ∙ h in cc) in
    get_set_other owners i k after other ∙ h

-- who is in charge of a slot stays so, when another owner comes further, or one more does
pub charge_stays : (owners : List Owner) (i : ℕ) (before after : Owner) (place : ℕ) → slice_get owners i ≡ Some before → (charged before ≡ Some place → ⊥) → (rest : Rest) → InCharge owners place rest → InCharge (slice_set owners i after) place rest
charge_stays owners i before after place at apart (fading k) c = seat_stays owners i before after (Fading place) at (λ e. apart (ap charged e)) k c
charge_stays owners i before after place at apart outlived c = c
charge_stays owners i before after place at apart (closing k) c = seat_stays owners i before after (Resetting place) at (λ e. apart (ap charged e)) k c
charge_stays owners i before after place at apart (closed k) c = seat_stays owners i before after (Freeing place) at (λ e. apart (ap charged e)) k c

pub charge_pushed : (owners : List Owner) (more : Owner) (place : ℕ) (rest : Rest) → InCharge owners place rest → InCharge (owners ++ more ∷ []) place rest
charge_pushed owners more place (fading k) c = get_push_old owners more (Fading place) k c
charge_pushed owners more place outlived c = c
charge_pushed owners more place (closing k) c = get_push_old owners more (Resetting place) k c
charge_pushed owners more place (closed k) c = get_push_old owners more (Freeing place) k c

-- an owner that comes further without giving up a number or getting one changes no count
pub held_stays : (owners : List Owner) (i : ℕ) (before after : Owner) (j : ℕ) → slice_get owners i ≡ Some before → holds j before ≡ 0 → holds j after ≡ 0 → held (slice_set owners i after) j ≡ held owners j
held_stays owners i before after j at neither nor =
    let sums = held_set owners i before after j at in
    omega (arith, sums, neither, nor)

pub weaks_stay : (owners : List Owner) (i : ℕ) (before after : Owner) (j : ℕ) → slice_get owners i ≡ Some before → has_weakly j before ≡ 0 → has_weakly j after ≡ 0 → weaks (slice_set owners i after) j ≡ weaks owners j
weaks_stay owners i before after j at neither nor =
    let sums = weaks_set owners i before after j at in
    omega (arith, sums, neither, nor)

-- numbers stay where they lie, and none is taken back
pub record Beside {T : Type 0} (cell next : Cell T) (plan later : Plan) : Type 0 where
  pub longer : length cell.published ≤ length next.published
  pub slot : (j : ℕ) → j < length cell.published → later.slot j ≡ plan.slot j

-- nothing is published or moved
pub beside_itself : {T : Type 0} (cell next : Cell T) (plan : Plan) (place : ℕ) (phase : Phase) → next.published ≡ cell.published → Beside cell next plan (with_phase place phase plan)
beside_itself cell next plan place phase e = let l = ap length e in record { longer = omega (arith, l); slot = λ j h. refl }

-- a number that lies somewhere does so after a step, too
pub lies_still : {T : Type 0} (cell next : Cell T) (plan later : Plan) (j place : ℕ) → Beside cell next plan later → next.buried j ≡ false → LiesIn cell plan j place → LiesIn next later j place
lies_still cell next plan later j place b open_still s =
    record {
      published = omega (arith, s.published, b.longer);
      unburied = open_still;
      here = b.slot j s.published ∙ s.here;
    }

-- what an owner knows of numbers and slots is so after a step, too
pub record Knows {T : Type 0} (cell next : Cell T) (plan later : Plan) (owner : ℕ) (how : Owner) : Type 0 where
  pub held : (j : ℕ) → 0 < holds j how → cell.buried j ≡ false → next.buried j ≡ false
  pub weak : (j p : ℕ) → 0 < has_weakly j how → number_of (plan.phase p) ≡ Some j → number_of (later.phase p) ≡ Some j
  pub rest : (p : ℕ) (rest : Rest) → charge_of rest ≡ Some owner → HasRest plan p rest → HasRest later p rest

-- so an owner is what it was
pub owner_stays : {T : Type 0} (cell next : Cell T) (plan later : Plan) (owner : ℕ) (how : Owner) → Beside cell next plan later → Knows cell next plan later owner how → OwnerIs cell plan owner how → OwnerIs next later owner how
owner_stays cell next plan later owner (Holding number place) b k s = let one = one_at_itself number in lies_still cell next plan later number place b (k.held number (omega (arith, one)) s.unburied) s
owner_stays cell next plan later owner (Twice number place) b k s = lies_still cell next plan later number place b (k.held number (elim (eqb_tells number number) [ inl same ↦ rw same.0 (omega arith) | inr other ↦ absurd (other.1 refl) ]) s.unburied) s
owner_stays cell next plan later owner (Weakly number place) b k s = let one = one_at_itself number in (s.0, k.weak number place (omega (arith, one)) s.1)
owner_stays cell next plan later owner (Both number place) b k s =
    let one = one_at_itself number in
    (lies_still cell next plan later number place b (k.held number (omega (arith, one)) s.0.unburied) s.0, (s.1.0, k.weak number place (omega (arith, one)) s.1.1))
owner_stays cell next plan later owner (Burying place) b k s = s
owner_stays cell next plan later owner (Fading place) b k s = k.rest place (fading owner) refl s
owner_stays cell next plan later owner (Resetting place) b k s = k.rest place (closing owner) refl s
owner_stays cell next plan later owner (Freeing place) b k s = k.rest place (closed owner) refl s
owner_stays cell next plan later owner Spent b k s = s

-- where no phase has changed and nothing is buried, every owner knows what it knew
pub knows_still : {T : Type 0} (cell next : Cell T) (plan later : Plan) (owner : ℕ) (how : Owner) → ((j : ℕ) → cell.buried j ≡ false → next.buried j ≡ false) → ((p : ℕ) → later.phase p ≡ plan.phase p) → Knows cell next plan later owner how
knows_still cell next plan later owner how buried phases =
    record {
      held = λ j some u. buried j u;
      weak = λ j p some e. ap number_of (phases p) ∙ e;
      rest = λ p rest e c. (c.0, c.1, c.2, phases p ∙ c.3);
    }

-- and the publisher
pub publisher_stays : {T : Type 0} (cell next : Cell T) (plan later : Plan) (granted more : ℕ) (publisher : Publisher) → Beside cell next plan later → granted ≤ more → later.last ≡ plan.last → ((number place given : ℕ) → publisher ≡ Settling number place given → cell.buried number ≡ false → next.buried number ≡ false) → ((place : ℕ) (prepared : Bool) → plan.phase place ≡ taken prepared → later.phase place ≡ taken prepared) → PublisherIs cell plan granted publisher → PublisherIs next later more publisher
publisher_stays cell next plan later granted more (Probing place) b l e h f s = s
publisher_stays cell next plan later granted more (Preparing place) b l e h f s = (s.0, f place false s.1)
publisher_stays cell next plan later granted more (Swapping place) b l e h f s = (s.0, f place true s.1)
publisher_stays cell next plan later granted more (Settling number place given) b l e h f s =
    (lies_still cell next plan later number place b (h number place given refl s.0.unburied) s.0, omega (arith, e, s.1), omega (arith, l, s.2))

-- the phase of a slot that has another, and of the others
pub phase_here : (place : ℕ) (phase : Phase) (plan : Plan) → (with_phase place phase plan).phase place ≡ phase
phase_here place phase plan = elim (eqb_tells place place) [ inl same ↦ rw same.0 refl | inr other ↦ absurd (other.1 refl) ]

pub phase_there : (place p : ℕ) (phase : Phase) (plan : Plan) → p ≢ place → (with_phase place phase plan).phase p ≡ plan.phase p
phase_there place p phase plan h = elim (eqb_tells p place) [ inl same ↦ absurd (h same.1) | inr other ↦ rw other.0 refl ]

-- a phase that the slot hadn't stays where it is
pub phase_stays : (place : ℕ) (phase : Phase) (plan : Plan) (what : Phase) → (plan.phase place ≡ what → ⊥) → (p : ℕ) → plan.phase p ≡ what → (with_phase place phase plan).phase p ≡ what
phase_stays place phase plan what apart p h =
    elim (eqb_tells p place) [ inl same ↦ absurd (apart (ap plan.phase (sym same.1) ∙ h)) | inr other ↦ phase_there place p phase plan other.1 ∙ h ]

-- one that it had and gets again, too
pub phase_again : (place : ℕ) (phase : Phase) (plan : Plan) (what : Phase) → (plan.phase place ≡ what → phase ≡ what) → (p : ℕ) → plan.phase p ≡ what → (with_phase place phase plan).phase p ≡ what
phase_again place phase plan what again p h =
    elim (eqb_tells p place) [
      | inl same ↦ ap (with_phase place phase plan).phase same.1 ∙ phase_here place phase plan ∙ again (ap plan.phase (sym same.1) ∙ h)
      | inr other ↦ phase_there place p phase plan other.1 ∙ h
    ]

-- the number of a slot stays where its new phase has it, and what is left to do where it hadn't that
pub number_stays : (place : ℕ) (phase : Phase) (plan : Plan) (j : ℕ) → (number_of (plan.phase place) ≡ Some j → number_of phase ≡ Some j) → (p : ℕ) → number_of (plan.phase p) ≡ Some j → number_of ((with_phase place phase plan).phase p) ≡ Some j
number_stays place phase plan j again p h =
    elim (eqb_tells p place) [
      | inl same ↦ ap number_of (ap (with_phase place phase plan).phase same.1 ∙ phase_here place phase plan) ∙ again (ap (λ x. number_of (plan.phase x)) (sym same.1) ∙ h)
      | inr other ↦ ap number_of (phase_there place p phase plan other.1) ∙ h
    ]

pub rest_stays : (place : ℕ) (phase : Phase) (plan : Plan) (rest : Rest) → ((number late : ℕ) → plan.phase place ≡ dead number late rest → (later : ℕ) × (phase ≡ dead number later rest)) → (p : ℕ) → HasRest plan p rest → HasRest (with_phase place phase plan) p rest
rest_stays place phase plan rest again p c =
    elim (eqb_tells p place) [
      | inl same ↦ (
          let there = again c.0 c.1 (ap plan.phase (sym same.1) ∙ c.3) in
          (c.0, there.0, c.2, ap (with_phase place phase plan).phase same.1 ∙ phase_here place phase plan ∙ there.1)
          )
      | inr other ↦ (c.0, c.1, c.2, phase_there place p phase plan other.1 ∙ c.3)
    ]

-- a slot that had no number, and nothing left to do, gets another phase: every owner knows what it knew
pub knows_beside : {T : Type 0} (cell : Cell T) (plan : Plan) (place : ℕ) (phase : Phase) (owner : ℕ) (how : Owner) → number_of (plan.phase place) ≡ None → Knows cell cell plan (with_phase place phase plan) owner how
knows_beside cell plan place phase owner how none =
    record {
      held = λ j some u. u;
      weak = λ j p some e. number_stays place phase plan j (λ f. absurd (let apart = sym none ∙ f in cc)) p e;
      rest = λ p rest e c. rest_stays place phase plan rest (λ number late f. absurd (let apart : None ≡ Some number = sym none ∙ ap number_of f in cc)) p c;
    }

-- the numbers of a cell, where a slot that has no number in it gets another phase
pub numbers_with : {T : Type 0} (cell : Cell T) (plan : Plan) (place : ℕ) (phase : Phase) → ((j : ℕ) → plan.phase place ≡ live j → ⊥) → Numbers cell plan → Numbers cell (with_phase place phase plan)
numbers_with cell plan place phase apart n =
    record {
      last = n.last;
      buried = n.buried;
      lies = λ j l u. let old = n.lies j l u in (old.0, phase_stays place phase plan (live j) (apart j) (plan.slot j) old.1);
    }

-- the owners, when one has come further
pub owners_after : {T : Type 0} (next : Cell T) (later : Plan) (owners : List Owner) (i : ℕ) (before after : Owner) → slice_get owners i ≡ Some before → OwnerIs next later i after → ((k : ℕ) (how : Owner) → k ≢ i → slice_get owners k ≡ Some how → OwnerIs next later k how) → (k : ℕ) (how : Owner) → slice_get (slice_set owners i after) k ≡ Some how → OwnerIs next later k how
owners_after next later owners i before after seat mine others k how h =
    elim (set_cases owners i k after how (slice_get_within owners i before seat) h) [
      | inl same ↦ subst (λ x. OwnerIs next later k x) same.1 (subst (λ x. OwnerIs next later x after) (sym same.0) mine)
      | inr other ↦ others k how other.0 other.1
    ]

-- a slot elsewhere, when an owner has come further
pub seat_elsewhere : {T : Type 0} (state new : State T) (cell next : Cell T) (plan later : Plan) (i : ℕ) (before after : Owner) (p : ℕ) (there : Slot T) → slice_get state.owners i ≡ Some before → new.publisher ≡ state.publisher → new.owners ≡ slice_set state.owners i after → new.granted ≡ state.granted → (there.shares ≡ 0 → before ≡ Burying p → ⊥) → (charged before ≡ Some p → ⊥) → later.last ≡ plan.last → ((j : ℕ) → later.slot j ≡ plan.slot j) → next.published ≡ cell.published → ((j : ℕ) → plan.slot j ≡ p → cell.buried j ≡ false → next.buried j ≡ false) → ((j : ℕ) → cell.buried j ≡ true → next.buried j ≡ true) → ((j : ℕ) → plan.slot j ≡ p → shares_out new later j ≡ shares_out state plan j) → ((j : ℕ) → plan.slot j ≡ p → weaks new.owners j ≡ weaks state.owners j) → Elsewhere state new cell next plan later p there
seat_elsewhere {T} state new cell next plan later i before after p there seat publisher owners granted burying charge last slot published buried gone shares weak =
    record {
      preparing = λ e. publisher ∙ e;
      swapping = λ e. (publisher ∙ e, last);
      burying = λ zero k h. ap (λ l. slice_get l k) owners ∙ seat_stays state.owners i before after (Burying p) seat (burying zero) k h;
      charge = λ rest c. subst (λ l. InCharge l p rest) (sym owners) (charge_stays state.owners i before after p seat charge rest c);
      granted = omega (arith, granted);
      slot = λ j e l. slot j ∙ e;
      buried = λ j e l u. buried j e u;
      gone = gone;
      published = λ j v h. ap (λ l. slice_get l j) published ∙ h;
      shares = λ j e l. shares j e;
      weak = λ j e l. weak j e;
    }
