-- What words at rest show where a window holds weak owners: which numbers are buried, and how many slots are free.
use Rattle.std.proofs.Common.{◌≡◌, ◌↔◌, refl, sym, ap, ◌∙◌, subst, ℕ, ◌+◌, ◌-◌, ◌<◌, ◌≤◌, ◌⊎◌, Bool, true, false, inl, inr, arith, true≢false}
use Rattle.std.specs.Prelude.{Some, ◌==◌, count_by}
use Rattle.std.specs.List.{slice_get}
use Rattle.std.proofs.lemmas.Bool.{cases_Bool, cases_lt}
use Rattle.std.proofs.lemmas.Bool.Decides.{eqb_tells}
use Rattle.std.proofs.lemmas.Option.{slice_get_within}
use Rattle.cell_core.proofs.ProbeKeeps.{few_shares}
use Rattle.cell_core.proofs.RestLemmas.{AllBut, count_but, is_free_word, isnt_free_word}
use Rattle.cell_core.proofs.SeatLemmas.{held_none, weaks_none, none_at_others, get_within}
use Rattle.cell_core.specs.Cell.{Cell, IsLast}
use Rattle.cell_core.specs.Words.{State, free_slot, free_word}
use Rattle.cell_core.specs.Shows.{Rest, Phase, Plan, IsLive, IsDead, SlotIs, WeakWord, Shows, held, holds, has_weakly, weaks, kept_by, kept_by_cell, number_of}
use Rattle.cell_core.specs.Shows.Rest.{fading, outlived, closing, closed}
use Rattle.cell_core.specs.Shows.Phase.{free, taken, live, dead}
use Rattle.cell_core.specs.declared.words.Slot.{Slot}
use Rattle.cell_core.specs.declared.words.Owner.{Owner}
use Rattle.cell_core.specs.declared.words.Owner.TheVariants.{Holding, Weakly, Burying, Fading, Resetting, Freeing, Spent}
use Rattle.cell_core.specs.declared.words.Publisher.TheVariants.{Probing, Preparing, Swapping}

-- no call is under way, and of the numbers up to the last those from one on are owned, and none before another one weakly
pub record Rests {T : Type 0} (state : State T) (from back last : ℕ) : Type 0 where
  pub publisher : state.publisher ≡ Probing 0
  pub within : from ≤ last
  pub owners : (owner : ℕ) (how : Owner) → slice_get state.owners owner ≡ Some how → (how ≡ Spent) ⊎ (((number : ℕ) × (place : ℕ) × (from ≤ number) × (how ≡ Holding number place)) ⊎ ((number : ℕ) × (place : ℕ) × (back ≤ number) × (how ≡ Weakly number place)))
  pub owned : (number : ℕ) → from ≤ number → number < last → (owner : ℕ) × (place : ℕ) × (slice_get state.owners owner ≡ Some (Holding number place))

-- those from that other one on are owned weakly
abbrev pub Noted : {T : Type 0} → State T → ℕ → ℕ → Type 0
Noted state back last = (number : ℕ) → back ≤ number → number ≤ last → (owner : ℕ) × (place : ℕ) × (slice_get state.owners owner ≡ Some (Weakly number place))

-- an owner at rest is none that is to do something
none_due : {T : Type 0} (state : State T) (from back last owner : ℕ) (how : Owner) → Rests state from back last → slice_get state.owners owner ≡ Some how → (how ≡ Spent → ⊥) → ((number place : ℕ) → how ≡ Holding number place → ⊥) → ((number place : ℕ) → how ≡ Weakly number place → ⊥) → ⊥
none_due state from back last owner how r at no_spent no_holding no_weak =
    elim (r.owners owner how at) [
      | inl spent ↦ no_spent spent
      | inr more ↦ elim more [ inl holding ↦ no_holding holding.0 holding.1 holding.3 | inr weak ↦ no_weak weak.0 weak.1 weak.3 ]
    ]

-- nobody has a number weakly before those
unnoted : {T : Type 0} (state : State T) (from back last j : ℕ) → Rests state from back last → j < back → weaks state.owners j ≡ 0
unnoted state from back last j r before =
    weaks_none state.owners j (λ i how h. elim (r.owners i how h) [
      | inl spent ↦ ap (has_weakly j) spent
      | inr more ↦ elim more [
        | inl holding ↦ ap (has_weakly j) holding.3
        | inr weak ↦ ap (has_weakly j) weak.3 ∙ none_at_others j weak.0 (λ e. absurd (omega (arith, e, weak.2, before)))
      ]
    ])

-- what a slot at rest is
data RestsAs (from back : ℕ) (phase : Phase) : Type 0 where
  lives : (number : ℕ) → from ≤ number → phase ≡ live number → RestsAs from back phase
  lies_dead : (number late : ℕ) (its : Rest) → back ≤ number → phase ≡ dead number late its → RestsAs from back phase
  lies_free : phase ≡ free → RestsAs from back phase

dead_rests : {T : Type 0} (state : State T) (from back last place j late k : ℕ) (its : Rest) → Rests state from back last → WeakWord state.owners place (dead j late its) k → RestsAs from back (dead j late its)
dead_rests state from back last place j late k (fading i) r w = absurd (none_due state from back last i (Fading place) r w.1 (λ e. (let wrong = e in cc)) (λ n p e. (let wrong = e in cc)) (λ n p e. (let wrong = e in cc)))
dead_rests state from back last place j late k outlived r w =
    elim (cases_lt j back) [
      | inl before ↦ (let none = unnoted state from back last j r before in absurd (omega (arith, w.0.1, none)))
      | inr within ↦ lies_dead j late outlived within refl
    ]
dead_rests state from back last place j late k (closing i) r w = absurd (none_due state from back last i (Resetting place) r w.1 (λ e. (let wrong = e in cc)) (λ n p e. (let wrong = e in cc)) (λ n p e. (let wrong = e in cc)))
dead_rests state from back last place j late k (closed i) r w = absurd (none_due state from back last i (Freeing place) r w.1 (λ e. (let wrong = e in cc)) (λ n p e. (let wrong = e in cc)) (λ n p e. (let wrong = e in cc)))

isnt_greater : (j k : ℕ) → j < k → (j == k) ≡ false
isnt_greater j k l = elim (eqb_tells j k) [ inl same ↦ absurd (omega (arith, same.1, l)) | inr other ↦ other.0 ]

rests_as : {T : Type 0} (state : State T) (cell : Cell T) (plan : Plan) (from back place : ℕ) (there : Slot T) (phase : Phase) → Rests state from back plan.last → SlotIs state cell plan place phase there → WeakWord state.owners place phase there.weak → RestsAs from back phase
rests_as state cell plan from back place there free r s w = lies_free refl
rests_as state cell plan from back place there (taken false) r s w = absurd (let apart : Probing 0 ≡ Preparing place = sym r.publisher ∙ s.0 in cc)
rests_as state cell plan from back place there (taken true) r s w = absurd (let apart : Probing 0 ≡ Swapping place = sym r.publisher ∙ s.0 in cc)
rests_as {T} state cell plan from back place there (live j) r s w =
    elim (cases_lt j from) [
      | inl before ↦ (
          let unheld : held state.owners j ≡ 0 = held_none state.owners j (λ i how h. elim (r.owners i how h) [
            | inl spent ↦ ap (holds j) spent
            | inr more ↦ elim more [
              | inl holding ↦ ap (holds j) holding.3 ∙ none_at_others j holding.0 (λ e. absurd (omega (arith, e, before, holding.2)))
              | inr weak ↦ ap (holds j) weak.3
            ]
          ]) in
          let by_cell : kept_by_cell plan.last plan.given j ≡ 0 = rw (isnt_greater j plan.last (omega (arith, before, r.within))) refl in
          let by_it : kept_by state.publisher j ≡ 0 = ap (λ x. kept_by x j) r.publisher in
          let due = s.due (omega (arith, s.shares, unheld, by_cell, by_it)) in
          absurd (none_due state from back plan.last due.0 (Burying place) r due.1 (λ e. (let wrong = e in cc)) (λ n p e. (let wrong = e in cc)) (λ n p e. (let wrong = e in cc)))
          )
      | inr within ↦ lives j within refl
    ]
rests_as state cell plan from back place there (dead j late its) r s w = dead_rests state from back plan.last place j late there.weak its r w

as_live : (from back j : ℕ) (phase : Phase) → phase ≡ live j → RestsAs from back phase → from ≤ j
as_live from back j phase is (lives number within e) = (let same : live j ≡ live number = sym is ∙ e in let n : j ≡ number = cc in omega (arith, n, within))
as_live from back j phase is (lies_dead number late its within e) = absurd (let wrong : live j ≡ dead number late its = sym is ∙ e in cc)
as_live from back j phase is (lies_free e) = absurd (let wrong : live j ≡ free = sym is ∙ e in cc)

-- the numbers before those that are owned are buried, and no others
before_buried : {T : Type 0} (state : State T) (cell : Cell T) (from back : ℕ) (s : Shows state cell) → Rests state from back s.plan.last → (j : ℕ) → j < from → cell.buried j ≡ true
before_buried state cell from back s r j l =
    elim (cases_Bool (cell.buried j)) [
      | inl gone ↦ gone
      | inr open_still ↦ (
          let lies = s.numbers.lies j (omega (arith, r.within, l)) open_still in
          let found = get_within state.table (s.plan.slot j) (omega (arith, lies.0, s.table.size)) in
          let kind = rests_as state cell s.plan from back (s.plan.slot j) found.0 (s.plan.phase (s.plan.slot j)) r (s.table.slot_is (s.plan.slot j) found.0 found.1) (s.table.weak_word (s.plan.slot j) found.0 found.1) in
          let within = as_live from back j (s.plan.phase (s.plan.slot j)) lies.1 kind in
          absurd (omega (arith, within, l))
          )
    ]

others_unburied : {T : Type 0} (state : State T) (cell : Cell T) (from back : ℕ) (s : Shows state cell) → Rests state from back s.plan.last → (j : ℕ) → cell.buried j ≡ true → j < from
others_unburied state cell from back s r j gone =
    elim (cases_lt j from) [
      | inl before ↦ before
      | inr within ↦ (
          let use_of = r.owned j within (s.numbers.buried j gone) in
          let lies = s.owner_is use_of.0 (Holding j use_of.1) use_of.2 in
          absurd (true≢false (sym gone ∙ lies.unburied))
          )
    ]

same_last : {T : Type 0} (state : State T) (cell : Cell T) (from back last : ℕ) (s : Shows state cell) → IsLast cell last → Rests state from back last → (last ≡ s.plan.last) × Rests state from back s.plan.last
same_last state cell from back last s is r = let e : last ≡ s.plan.last = omega (arith, is, s.numbers.last) in (e, subst (λ n. Rests state from back n) e r)

pub window_buried : {T : Type 0} (state : State T) (cell : Cell T) (from back last : ℕ) → Shows state cell → IsLast cell last → Rests state from back last → (j : ℕ) → (cell.buried j ≡ true) ↔ (j < from)
window_buried state cell from back last s is r j =
    let rest = same_last state cell from back last s is r in
    (others_unburied state cell from back s rest.1 j, before_buried state cell from back s rest.1 j)

abbrev is_free : {T : Type 0} → Slot T → Bool
is_free there = there.shares == free_word

-- the slot that a number has, or had last, isn't free
record Lies {T : Type 0} (state : State T) (plan : Plan) (number : ℕ) : Type 0 where
  there : Slot T
  at : slice_get state.table (plan.slot number) ≡ Some there
  has : number_of (plan.phase (plan.slot number)) ≡ Some number
  taken_so : is_free there ≡ false

live_lies : {T : Type 0} (state : State T) (cell : Cell T) (from back : ℕ) (s : Shows state cell) → Rests state from back s.plan.last → (number : ℕ) → number ≤ s.plan.last → cell.buried number ≡ false → Lies state s.plan number
live_lies state cell from back s r number before unburied =
    let lies = s.numbers.lies number before unburied in
    let found = get_within state.table (s.plan.slot number) (omega (arith, lies.0, s.table.size)) in
    let few = s.counts.few number in
    let strong = s.counts.strong number in
    let by_it : kept_by state.publisher number ≡ 0 = ap (λ x. kept_by x number) r.publisher in
    record {
      there = found.0;
      at = found.1;
      has = ap number_of lies.1;
      taken_so = isnt_free_word found.0.shares (λ e.
          let is_live : IsLive state cell s.plan (s.plan.slot number) number found.0 = subst (λ p. SlotIs state cell s.plan (s.plan.slot number) p found.0) lies.1 (s.table.slot_is (s.plan.slot number) found.0 found.1) in
          few_shares state.publisher (held state.owners number) s.plan.last s.plan.given number (omega (arith, few, strong, s.given.granted)) by_it (sym is_live.shares ∙ e));
    }

-- of a number that is buried, and has a weak owner
dead_at : {T : Type 0} (state : State T) (cell : Cell T) (plan : Plan) (number place : ℕ) (there : Slot T) (phase : Phase) → plan.phase place ≡ phase → number_of phase ≡ Some number → cell.buried number ≡ true → slice_get state.table place ≡ Some there → SlotIs state cell plan place phase there → Lies state plan number
dead_at state cell plan number place there free e has gone at s = absurd (let wrong = has in cc)
dead_at state cell plan number place there (taken prepared) e has gone at s = absurd (let wrong = has in cc)
dead_at state cell plan number place there (live j) e has gone at s =
    let same : j ≡ number = (let h = has in cc) in
    absurd (true≢false (sym gone ∙ (ap cell.buried (sym same) ∙ s.unburied)))
dead_at state cell plan number place there (dead j late its) e has gone at s =
    let same : j ≡ number = (let h = has in cc) in
    let here : plan.slot number ≡ place = ap plan.slot (sym same) ∙ s.here in
    record {
      there = there;
      at = ap (slice_get state.table) here ∙ at;
      has = ap (λ p. number_of (plan.phase p)) here ∙ (ap number_of e ∙ has);
      taken_so = isnt_free_word there.shares (λ f. (let shares = s.shares in absurd (omega (arith, f, shares))));
    }

dead_lies : {T : Type 0} (state : State T) (cell : Cell T) (from back : ℕ) (s : Shows state cell) → Rests state from back s.plan.last → Noted state back s.plan.last → (number : ℕ) → back ≤ number → number ≤ s.plan.last → cell.buried number ≡ true → Lies state s.plan number
dead_lies state cell from back s r n number within before gone =
    let use_of = n number within before in
    let of = s.owner_is use_of.0 (Weakly number use_of.1) use_of.2 in
    let found = get_within state.table use_of.1 (omega (arith, of.0, s.table.size)) in
    dead_at state cell s.plan number use_of.1 found.0 (s.plan.phase use_of.1) refl of.1 gone found.1 (s.table.slot_is use_of.1 found.0 found.1)

lies_at : {T : Type 0} (state : State T) (cell : Cell T) (from back low : ℕ) (s : Shows state cell) → Rests state from back s.plan.last → Noted state back s.plan.last → ((low ≡ from) × (low ≤ back)) ⊎ ((low ≡ back) × (low ≤ from)) → (number : ℕ) → low ≤ number → number ≤ s.plan.last → Lies state s.plan number
lies_at state cell from back low s r n lowest number within before =
    elim (cases_Bool (cell.buried number)) [
      | inr unburied ↦ live_lies state cell from back s r number before unburied
      | inl gone ↦ (
          let l = others_unburied state cell from back s r number gone in
          let noted : back ≤ number = elim lowest [ inl one ↦ absurd (let e = one.0 in omega (arith, e, within, l)) | inr two ↦ (let e = two.0 in omega (arith, e, within)) ] in
          dead_lies state cell from back s r n number noted before gone
          )
    ]

-- the slots that aren't free are those of the numbers from the least on that is owned, weakly or not
others_by : {T : Type 0} (state : State T) (cell : Cell T) (from back low place : ℕ) (there : Slot T) (phase : Phase) (s : Shows state cell) → low ≤ from → low ≤ back → s.plan.phase place ≡ phase → slice_get state.table place ≡ Some there → is_free there ≡ false → SlotIs state cell s.plan place phase there → RestsAs from back phase
    → (i : ℕ) × (i < s.plan.last + 1 - low) × (place ≡ s.plan.slot (low + i))
others_by state cell from back low place there phase s one two e at fails slot (lives j within is) =
    let is_live : IsLive state cell s.plan place j there = subst (λ p. SlotIs state cell s.plan place p there) is slot in
    let before = slice_get_within cell.published j is_live.value is_live.published in
    let which : low + (j - low) ≡ j = omega (arith, within, one) in
    (j - low, omega (arith, within, one, before, s.numbers.last), sym (ap s.plan.slot which ∙ is_live.here))
others_by state cell from back low place there phase s one two e at fails slot (lies_dead j late its within is) =
    let is_dead : IsDead state cell s.plan place j late there = subst (λ p. SlotIs state cell s.plan place p there) is slot in
    let before = s.numbers.buried j is_dead.buried in
    let which : low + (j - low) ≡ j = omega (arith, within, two) in
    (j - low, omega (arith, within, two, before), sym (ap s.plan.slot which ∙ is_dead.here))
others_by state cell from back low place there phase s one two e at fails slot (lies_free is) =
    absurd (true≢false (sym (is_free_word there.shares (subst (λ p. SlotIs state cell s.plan place p there) is slot).0) ∙ fails))

taken_slots : {T : Type 0} (state : State T) (cell : Cell T) (from back low : ℕ) (s : Shows state cell) → Rests state from back s.plan.last → Noted state back s.plan.last → ((low ≡ from) × (low ≤ back)) ⊎ ((low ≡ back) × (low ≤ from)) → low ≤ s.plan.last → AllBut (is_free {T = T}) state.table (λ i. s.plan.slot (low + i)) (s.plan.last + 1 - low)
taken_slots {T} state cell from back low s r n lowest small =
    let under : (low ≤ from) × (low ≤ back) = elim lowest [ inl one ↦ (let e = one.0 in (omega (arith, e), one.1)) | inr two ↦ (let e = two.0 in (two.1, omega (arith, e))) ] in
    record {
      apart = λ i j l m e. (
          let one = lies_at state cell from back low s r n lowest (low + i) (omega arith) (omega (arith, l, small)) in
          let two = lies_at state cell from back low s r n lowest (low + j) (omega arith) (omega (arith, m, small)) in
          let same : Some (low + i) ≡ Some (low + j) = sym one.has ∙ (ap (λ p. number_of (s.plan.phase p)) e ∙ two.has) in
          let is : low + i ≡ low + j = cc in
          omega (arith, is)
          );
      fail = λ i l. (let one = lies_at state cell from back low s r n lowest (low + i) (omega arith) (omega (arith, l, small)) in (one.there, one.at, one.taken_so));
      others = λ place there at fails.
          others_by state cell from back low place there (s.plan.phase place) s under.0 under.1 refl at fails (s.table.slot_is place there at)
          (rests_as state cell s.plan from back place there (s.plan.phase place) r (s.table.slot_is place there at) (s.table.weak_word place there at));
    }

free_by : {T : Type 0} (state : State T) (cell : Cell T) (from back low last : ℕ) → Shows state cell → IsLast cell last → Rests state from back last → Noted state back last → ((low ≡ from) × (low ≤ back)) ⊎ ((low ≡ back) × (low ≤ from)) → low ≤ last → count_by (λ (there : Slot T). there.shares == free_word) state.table + (last + 1 - low) ≡ 64
free_by {T} state cell from back low last s is r n lowest small =
    let rest = same_last state cell from back last s is r in
    let same = rest.0 in
    let counted = count_but (is_free {T = T}) (free_slot {T = T}) state.table (λ i. s.plan.slot (low + i)) (s.plan.last + 1 - low) refl (taken_slots state cell from back low s rest.1 (subst (λ m. Noted state back m) same n) lowest (omega (arith, small, same))) in
    omega (arith, counted, s.table.size, same, small)

-- so many slots are free: all but those of the numbers that are owned, and of those that are owned weakly, of which there are so many each
pub window_free : {T : Type 0} (state : State T) (cell : Cell T) (from back last kept noted most : ℕ) → Shows state cell → IsLast cell last → Rests state from back last → Noted state back last → from + kept ≡ last + 1 → back + noted ≡ last + 1 → ((most ≡ kept) × (noted ≤ most)) ⊎ ((most ≡ noted) × (kept ≤ most)) → count_by (λ (there : Slot T). there.shares == free_word) state.table + most ≡ 64
window_free state cell from back last kept noted most s is r n one two which =
    elim which [
      | inl strong ↦ (
          let e = strong.0 in
          let l = strong.1 in
          let counted = free_by state cell from back from last s is r n (inl (refl, omega (arith, one, two, e, l))) r.within in
          omega (arith, counted, one, e)
          )
      | inr weak ↦ (
          let e = weak.0 in
          let l = weak.1 in
          let small = r.within in
          let counted = free_by state cell from back back last s is r n (inr (refl, omega (arith, one, two, e, l))) (omega (arith, one, two, e, l, small)) in
          omega (arith, counted, two, e)
          )
    ]
