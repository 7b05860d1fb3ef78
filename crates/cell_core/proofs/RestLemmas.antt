-- What words at rest show: which numbers are buried, and how many slots are free.
use Rattle.std.proofs.Common.{◌≡◌, ◌≢◌, ◌↔◌, refl, sym, ap, ◌∙◌, subst, ℕ, zero, suc, ◌+◌, ◌-◌, ◌<◌, ◌≤◌, ◌⊎◌, Bool, true, false, inl, inr, List, [], ◌∷◌, length, arith, true≢false}
use Rattle.std.specs.Prelude.{Some, ◌==◌, count_by}
use Rattle.std.specs.List.{slice_get, slice_set}
use Rattle.std.proofs.lemmas.Bool.{cases_Bool, cases_lt}
use Rattle.std.proofs.lemmas.Bool.Decides.{eqb_tells}
use Rattle.std.proofs.lemmas.List.{length-set}
use Rattle.std.proofs.lemmas.List.Sums.{sum_by-cons, sum_by-set}
use Rattle.std.proofs.lemmas.Option.{slice_get_within, get_or_from_slice_get}
use Rattle.cell_core.proofs.CountLemmas.{one_if}
use Rattle.cell_core.proofs.ProbeKeeps.{few_shares}
use Rattle.cell_core.proofs.SeatLemmas.{get_set_same, get_set_other, held_none, weaks_none, none_at_others, get_within}
use Rattle.cell_core.specs.Cell.{Cell, IsLast}
use Rattle.cell_core.specs.Words.{State, free_word, free_slot}
use Rattle.cell_core.specs.Shows.{Rest, Phase, Plan, IsLive, SlotIs, WeakWord, Shows, AtRest, held, holds, has_weakly, weaks, kept_by, kept_by_cell}
use Rattle.cell_core.specs.Shows.Rest.{fading, outlived, closing, closed}
use Rattle.cell_core.specs.Shows.Phase.{free, taken, live, dead}
use Rattle.cell_core.specs.declared.words.Slot.{Slot}
use Rattle.cell_core.specs.declared.words.Owner.TheVariants.{Holding, Burying, Fading, Resetting, Freeing}
use Rattle.cell_core.specs.declared.words.Publisher.TheVariants.{Probing, Preparing, Swapping}

-- a number is no greater one
isnt_greater : (j k : ℕ) → j < k → (j == k) ≡ false
isnt_greater j k l = elim (eqb_tells j k) [ inl same ↦ absurd (omega (arith, same.1, l)) | inr other ↦ other.0 ]

-- nobody has a number weakly at rest
pub rest_unnoted : {T : Type 0} (state : State T) (from last : ℕ) → AtRest state from last → (j : ℕ) → weaks state.owners j ≡ 0
rest_unnoted state from last rest j =
    weaks_none state.owners j (λ i how h. elim (rest.owners i how h) [
      | inl spent ↦ ap (has_weakly j) spent
      | inr holding ↦ ap (has_weakly j) holding.3
    ])

-- and nobody has anything left to do
none_charged : {T : Type 0} (state : State T) (from last j place k : ℕ) (its : Rest) → AtRest state from last → WeakWord state.owners place (dead j 0 its) k → ⊥
none_charged state from last j place k (fading i) rest w = elim (rest.owners i (Fading place) w.1) [ inl spent ↦ (cc) | inr holding ↦ (let apart = holding.3 in cc) ]
none_charged state from last j place k outlived rest w = let none = rest_unnoted state from last rest j in omega (arith, w.0.1, none)
none_charged state from last j place k (closing i) rest w = elim (rest.owners i (Resetting place) w.1) [ inl spent ↦ (cc) | inr holding ↦ (let apart = holding.3 in cc) ]
none_charged state from last j place k (closed i) rest w = elim (rest.owners i (Freeing place) w.1) [ inl spent ↦ (cc) | inr holding ↦ (let apart = holding.3 in cc) ]

-- a slot at rest is free, or has a number from that one on
rests : {T : Type 0} (state : State T) (cell : Cell T) (plan : Plan) (from place : ℕ) (there : Slot T) (phase : Phase) → AtRest state from plan.last → SlotIs state cell plan place phase there → WeakWord state.owners place phase there.weak → ((number : ℕ) × (from ≤ number) × (phase ≡ live number)) ⊎ (phase ≡ free)
rests state cell plan from place there free rest s w = inr refl
rests state cell plan from place there (taken false) rest s w = absurd (let apart : Probing 0 ≡ Preparing place = sym rest.publisher ∙ s.0 in cc)
rests state cell plan from place there (taken true) rest s w = absurd (let apart : Probing 0 ≡ Swapping place = sym rest.publisher ∙ s.0 in cc)
rests {T} state cell plan from place there (live j) rest s w =
    elim (cases_lt j from) [
      | inl before ↦ (
          let unheld : held state.owners j ≡ 0 = held_none state.owners j (λ i how h. elim (rest.owners i how h) [
            | inl spent ↦ ap (holds j) spent
            | inr holding ↦ ap (holds j) holding.3 ∙ none_at_others j holding.0 (omega (arith, before, holding.2))
          ]) in
          let by_cell : kept_by_cell plan.last plan.given j ≡ 0 = rw (isnt_greater j plan.last (omega (arith, before, rest.within))) refl in
          let by_it : kept_by state.publisher j ≡ 0 = ap (λ x. kept_by x j) rest.publisher in
          let due = s.due (omega (arith, s.shares, unheld, by_cell, by_it)) in
          absurd (elim (rest.owners due.0 (Burying place) due.1) [ inl spent ↦ (cc) | inr holding ↦ (let apart = holding.3 in cc) ])
          )
      | inr within ↦ inl (j, within, refl)
    ]
rests state cell plan from place there (dead j late its) rest s w = absurd (none_charged state from plan.last j place there.weak its rest w)

-- the number that is last is the plan's
same_last : {T : Type 0} (state : State T) (cell : Cell T) (from last : ℕ) (s : Shows state cell) → IsLast cell last → AtRest state from last → (last ≡ s.plan.last) × AtRest state from s.plan.last
same_last state cell from last s is rest = let e : last ≡ s.plan.last = omega (arith, is, s.numbers.last) in (e, subst (λ n. AtRest state from n) e rest)

-- the numbers before it are buried
before_buried : {T : Type 0} (state : State T) (cell : Cell T) (from : ℕ) (s : Shows state cell) → AtRest state from s.plan.last → (j : ℕ) → j < from → cell.buried j ≡ true
before_buried state cell from s rest j l =
    elim (cases_Bool (cell.buried j)) [
      | inl gone ↦ gone
      | inr open_still ↦ (
          let lies = s.numbers.lies j (omega (arith, rest.within, l)) open_still in
          let found = get_within state.table (s.plan.slot j) (omega (arith, lies.0, s.table.size)) in
          absurd (elim (rests state cell s.plan from (s.plan.slot j) found.0 (s.plan.phase (s.plan.slot j)) rest (s.table.slot_is (s.plan.slot j) found.0 found.1) (s.table.weak_word (s.plan.slot j) found.0 found.1)) [
            | inl has ↦ (let apart : live j ≡ live has.0 = sym lies.1 ∙ has.2 in let e : j ≡ has.0 = cc in omega (arith, e, l, has.1))
            | inr is_free ↦ (let apart : live j ≡ free = sym lies.1 ∙ is_free in cc)
          ])
          )
    ]

-- and no others
others_unburied : {T : Type 0} (state : State T) (cell : Cell T) (from : ℕ) (s : Shows state cell) → AtRest state from s.plan.last → (j : ℕ) → cell.buried j ≡ true → j < from
others_unburied state cell from s rest j gone =
    elim (cases_lt j from) [
      | inl before ↦ before
      | inr within ↦ (
          let seat = rest.owned j within (s.numbers.buried j gone) in
          let lies = s.owner_is seat.0 (Holding j seat.1) seat.2 in
          absurd (true≢false (sym gone ∙ lies.unburied))
          )
    ]

pub rest_buried : {T : Type 0} (state : State T) (cell : Cell T) (from last : ℕ) → Shows state cell → IsLast cell last → AtRest state from last → (j : ℕ) → (cell.buried j ≡ true) ↔ (j < from)
rest_buried state cell from last s is at_last j =
    let rest = same_last state cell from last s is at_last in
    (others_unburied state cell from s rest.1 j, before_buried state cell from s rest.1 j)

-- a test that all pass
count_all : {X : Type 0} (p : X → Bool) (xs : List X) → ((j : ℕ) (x : X) → slice_get xs j ≡ Some x → p x ≡ true) → count_by p xs ≡ length xs
count_all p [] h = refl
count_all p (x ∷ xs) h =
    let more = sum_by-cons (λ y. one_if (p y)) x xs in
    let one : one_if (p x) ≡ 1 = rw (h 0 x refl) refl in
    let rest = count_all p xs (λ j. h (suc j)) in
    omega (arith, more, one, rest)

-- one that all pass but those at some places, each of which is another
pub record AllBut {X : Type 0} (p : X → Bool) (xs : List X) (places : ℕ → ℕ) (count : ℕ) : Type 0 where
  pub apart : (i j : ℕ) → i < count → j < count → places i ≡ places j → i ≡ j
  pub fail : (i : ℕ) → i < count → (x : X) × (slice_get xs (places i) ≡ Some x) × (p x ≡ false)
  pub others : (k : ℕ) (x : X) → slice_get xs k ≡ Some x → p x ≡ false → (i : ℕ) × (i < count) × (k ≡ places i)

-- where the last of them is given what passes, all pass but the others
all_but_fewer : {X : Type 0} (p : X → Bool) (ok : X) (xs : List X) (places : ℕ → ℕ) (count : ℕ) → p ok ≡ true → places count < length xs → AllBut p xs places (suc count) → AllBut p (slice_set xs (places count) ok) places count
all_but_fewer p ok xs places count passes within a = record {
  apart = λ i j l m e. a.apart i j (omega (arith, l)) (omega (arith, m)) e;
  fail = λ i l. (
      let it = a.fail i (omega (arith, l)) in
      let elsewhere : places i ≢ places count = λ e. (let same = a.apart i count (omega (arith, l)) (omega arith) e in absurd (omega (arith, same, l))) in
      (it.0, get_set_other xs (places count) (places i) ok elsewhere ∙ it.1, it.2)
      );
  others = λ k x e fails. elim (eqb_tells k (places count)) [
    | inl here ↦ (
        let there : slice_get (slice_set xs (places count) ok) (places count) ≡ Some x = ap (slice_get (slice_set xs (places count) ok)) (sym here.1) ∙ e in
        let put = get_set_same xs (places count) ok within in
        let is : ok ≡ x = (let f : Some ok ≡ Some x = sym put ∙ there in cc) in
        absurd (true≢false (sym passes ∙ (ap p is ∙ fails)))
        )
    | inr elsewhere ↦ (
        let it = a.others k x (sym (get_set_other xs (places count) k ok elsewhere.1) ∙ e) fails in
        let apart : it.0 ≢ count = λ f. elsewhere.1 (it.2 ∙ ap places f) in
        (it.0, omega (arith, it.1, apart), it.2)
        )
  ];
}

pub count_but : {X : Type 0} (p : X → Bool) (ok : X) (xs : List X) (places : ℕ → ℕ) (count : ℕ) → p ok ≡ true → AllBut p xs places count → count_by p xs + count ≡ length xs
count_but p ok xs places zero passes a =
    let all = count_all p xs (λ j x e. elim (cases_Bool (p x)) [ inl passed ↦ passed | inr fails ↦ (let it = a.others j x e fails in absurd (omega (arith, it.1))) ]) in
    omega (arith, all)
count_but p ok xs places (suc count) passes a =
    let it = a.fail count (omega arith) in
    let within = slice_get_within xs (places count) it.0 it.1 in
    let fewer = count_but p ok (slice_set xs (places count) ok) places count passes (all_but_fewer p ok xs places count passes within a) in
    let sums = sum_by-set (λ y. one_if (p y)) xs (places count) ok it.0 within in
    let there = ap (λ y. one_if (p y)) (get_or_from_slice_get xs (places count) it.0 it.0 it.1) in
    let none : one_if (p it.0) ≡ 0 = rw it.2 refl in
    let one : one_if (p ok) ≡ 1 = rw passes refl in
    omega (arith, fewer, sums, there, none, one, length-set xs (places count) ok)

-- S is FREE
pub is_free_word : (shares : ℕ) → shares ≡ free_word → (shares == free_word) ≡ true
is_free_word shares e = elim (eqb_tells shares free_word) [ inl same ↦ same.0 | inr other ↦ absurd (other.1 e) ]

pub isnt_free_word : (shares : ℕ) → (shares ≡ free_word → ⊥) → (shares == free_word) ≡ false
isnt_free_word shares h = elim (eqb_tells shares free_word) [ inl same ↦ absurd (h same.1) | inr other ↦ other.0 ]

abbrev is_free : {T : Type 0} → Slot T → Bool
is_free there = there.shares == free_word

-- the slot of a number that isn't buried
record Lies {T : Type 0} (state : State T) (cell : Cell T) (plan : Plan) (number : ℕ) : Type 0 where
  there : Slot T
  at : slice_get state.table (plan.slot number) ≡ Some there
  phase : plan.phase (plan.slot number) ≡ live number
  taken : is_free there ≡ false

lies_at : {T : Type 0} (state : State T) (cell : Cell T) (from : ℕ) (s : Shows state cell) → AtRest state from s.plan.last → (number : ℕ) → from ≤ number → number ≤ s.plan.last → Lies state cell s.plan number
lies_at state cell from s rest number within before =
    let unburied : cell.buried number ≡ false = elim (cases_Bool (cell.buried number)) [
      | inl gone ↦ (let l = others_unburied state cell from s rest number gone in absurd (omega (arith, l, within)))
      | inr there ↦ there
    ] in
    let lies = s.numbers.lies number before unburied in
    let found = get_within state.table (s.plan.slot number) (omega (arith, lies.0, s.table.size)) in
    let few = s.counts.few number in
    let strong = s.counts.strong number in
    let by_it : kept_by state.publisher number ≡ 0 = ap (λ x. kept_by x number) rest.publisher in
    record {
      there = found.0;
      at = found.1;
      phase = lies.1;
      taken = isnt_free_word found.0.shares (λ e.
          let is_live : IsLive state cell s.plan (s.plan.slot number) number found.0 = subst (λ p. SlotIs state cell s.plan (s.plan.slot number) p found.0) lies.1 (s.table.slot_is (s.plan.slot number) found.0 found.1) in
          few_shares state.publisher (held state.owners number) s.plan.last s.plan.given number (omega (arith, few, strong, s.given.granted)) by_it (sym is_live.shares ∙ e));
    }

-- the slots that aren't free are those of the numbers from that one on
taken_slots : {T : Type 0} (state : State T) (cell : Cell T) (from : ℕ) (s : Shows state cell) → AtRest state from s.plan.last → AllBut (is_free {T = T}) state.table (λ i. s.plan.slot (from + i)) (s.plan.last + 1 - from)
taken_slots {T} state cell from s rest = record {
  apart = λ i j l m e. (
      let one = lies_at state cell from s rest (from + i) (omega arith) (omega (arith, l, rest.within)) in
      let two = lies_at state cell from s rest (from + j) (omega arith) (omega (arith, m, rest.within)) in
      let same : live (from + i) ≡ live (from + j) = sym one.phase ∙ (ap s.plan.phase e ∙ two.phase) in
      let is : from + i ≡ from + j = cc in
      omega (arith, is)
      );
  fail = λ i l. (let one = lies_at state cell from s rest (from + i) (omega arith) (omega (arith, l, rest.within)) in (one.there, one.at, one.taken));
  others = λ place there at fails.
      elim (rests state cell s.plan from place there (s.plan.phase place) rest (s.table.slot_is place there at) (s.table.weak_word place there at)) [
        | inl has ↦ (
            let is_live : IsLive state cell s.plan place has.0 there = subst (λ p. SlotIs state cell s.plan place p there) has.2 (s.table.slot_is place there at) in
            let before = slice_get_within cell.published has.0 is_live.value is_live.published in
            let which : from + (has.0 - from) ≡ has.0 = omega (arith, has.1) in
            (has.0 - from, omega (arith, has.1, before, s.numbers.last), sym (ap s.plan.slot which ∙ is_live.here))
            )
        | inr is_none ↦ absurd (true≢false (sym (is_free_word there.shares (subst (λ p. SlotIs state cell s.plan place p there) is_none (s.table.slot_is place there at)).0) ∙ fails))
      ];
}

pub rest_free : {T : Type 0} (state : State T) (cell : Cell T) (from last : ℕ) → Shows state cell → IsLast cell last → AtRest state from last → count_by (λ (there : Slot T). there.shares == free_word) state.table + (last - from) ≡ 63
rest_free {T} state cell from last s is at_last =
    let rest = same_last state cell from last s is at_last in
    let counted = count_but (is_free {T = T}) (free_slot {T = T}) state.table (λ i. s.plan.slot (from + i)) (s.plan.last + 1 - from) refl (taken_slots state cell from s rest.1) in
    omega (arith, counted, s.table.size, rest.0, rest.1.within)

-- K of each slot is 1 then
pub rest_weak : {T : Type 0} (state : State T) (cell : Cell T) (from last : ℕ) → Shows state cell → IsLast cell last → AtRest state from last → (place : ℕ) (there : Slot T) → slice_get state.table place ≡ Some there → there.weak ≡ 1
rest_weak state cell from last s is at_last place there at =
    let rest = same_last state cell from last s is at_last in
    let word = s.table.weak_word place there at in
    elim (rests state cell s.plan from place there (s.plan.phase place) rest.1 (s.table.slot_is place there at) word) [
      | inl has ↦ (
          let k = subst (λ p. WeakWord state.owners place p there.weak) has.2 word in
          let none = rest_unnoted state from s.plan.last rest.1 has.0 in
          omega (arith, k, none)
          )
      | inr is_none ↦ subst (λ p. WeakWord state.owners place p there.weak) is_none word
    ]

-- and no number has a weak owner
pub rest_no_weak : {T : Type 0} (state : State T) (cell : Cell T) (from last : ℕ) → Shows state cell → AtRest state from last → (j : ℕ) → cell.weak j ≡ 0
rest_no_weak state cell from last s rest j = s.counts.weak j ∙ rest_unnoted state from last rest j
