-- What the rule allows the calls, for seats whose view is known by an equation.
use Rattle.std.proofs.Common.{◌≡◌, refl, ◌++◌, get_or, inl, inr, arith, sym, ap, ◌∙◌, subst, ℕ, zero, suc, ◌+◌, ◌-◌, ◌%◌, ◌^◌, ◌<◌, List, [], ◌∷◌, length, Option, Some, None}
use Rattle.atomic_table.specs.Table.{Allows, Splits, carried_after}
use prog.Atomic.{either}
use Rattle.std.specs.Prelude.{◌==◌, if◌then◌else◌}
use Rattle.cell_core.specs.Words.{slots, dead_word, free_word, bulk, word_of, slot_of, given_of}
use Rattle.std.specs.List.{slice_get}
use Rattle.std.proofs.lemmas.Bool.Decides.{eqb_tells}
use Rattle.cell_core.specs.declared.words.Publisher.TheVariants.{Probing, Settling}
use Rattle.cell_core.specs.declared.words.Version.{Version}
use Rattle.counted_handles.specs.declared.view.Mark.{Mark}
use Rattle.counted_handles.specs.declared.view.Reading.{Reading}
use Rattle.counted_handles.specs.declared.view.Publishing.{Publishing}
use Rattle.counted_handles.specs.declared.view.Hold.TheVariants.{Once}
use Rattle.counted_handles.specs.declared.view.View.{View}
use Rattle.counted_handles.specs.declared.view.View.TheVariants.{Publishes, Reads, Has, Buries, Fades, Resets, Frees}
use Rattle.counted_handles.specs.Found.{IsAbsent}
use Rattle.counted_handles.specs.Shown.{Room}
use Rattle.counted_handles.specs.Ruled.{RoomSpot, Holds, Ruled}
use Rattle.counted_handles.specs.Cuts.{owner_view, once_view, kept_share, given_share}
use Rattle.counted_handles.specs.Tells.{Sat, IsTaken, Swapped, IsSettled, Loaded, Released}
use Rattle.counted_handles.specs.Plays.{LoadTells, ReleaseTells, BuryTells, FadeTells, ResetTells, FreeTells, PrepareTells, SwapTells, SettleTells, SettleAt, ProbeTells, ProbeAt}
use Rattle.counted_handles.specs.Calls.{Drawn, IsReady, IsSwapping, IsSettling, IsProbing, IsSwappedIn}
use Rattle.counted_handles.proofs.LoadStep.{loads}
use Rattle.counted_handles.proofs.ReleaseStep.{releases}
use Rattle.counted_handles.proofs.EndStep.{buries_ruled}
use Rattle.counted_handles.proofs.FadeStep.{fades, resets}
use Rattle.counted_handles.proofs.FreeStep.{frees}
use Rattle.counted_handles.proofs.PrepareStep.{prepares}
use Rattle.counted_handles.proofs.SwapStep.{swaps}
use Rattle.counted_handles.proofs.SettleStep.{settles}
use Rattle.counted_handles.proofs.ProbeStep.{probes}
use Rattle.counted_handles.proofs.SplitStep.{splits_reader, splits_publisher}
use Rattle.counted_handles.proofs.Later.{IsLater, allowed_later, splits_later}

-- one thing alone in a list
abbrev first_or : {A : Type 0} → A → List A → A
first_or a [] = a
first_or a (x ∷ xs) = x

pub only_one : {A : Type 0} (a b : A) → a ∷ [] ≡ b ∷ [] → a ≡ b
only_one a b e = ap (first_or a) e

-- the values of two versions that are one
abbrev value_or : {T : Type 0} → T → Option (Version T) → T
value_or other None = other
value_or other (Some version) = version.value

abbrev numbered : {T : Type 0} → ℕ → T → Version T
numbered number value = record { number = number; value = value }

pub prepared_value : {T : Type 0} {number : ℕ} (a b : T) → Some (numbered number a) ≡ Some (numbered number b) → a ≡ b
prepared_value a b e = ap (value_or a) e

module _ {T : Type 0} (begins : T → Type 0) (follows : T → T → Type 0) (spots : List (RoomSpot T)) where
  pub load_allowed : (n id : ℕ) (me : Sat T) (r : Reading T) → n ≡ slots → me ≡ (Reads r, []) → r.share ≡ None → 0 < r.left → Allows (Ruled begins follows spots) n id me 0 (λ k. (k + 1) % 2 ^ 64) (λ found new. LoadTells begins follows me.0 found new)
  load_allowed n id me r count is whole some_left =
      subst (λ k. Allows (Ruled begins follows spots) k id me 0 (λ k. (k + 1) % 2 ^ 64) (λ found new. LoadTells begins follows me.0 found new)) (sym count)
      (subst (λ (m : Sat T). Allows (Ruled begins follows spots) slots id m 0 (λ k. (k + 1) % 2 ^ 64) (λ found new. LoadTells begins follows m.0 found new)) (sym is)
      (allowed_later begins follows spots slots id (Reads r, []) 0 (λ k. (k + 1) % 2 ^ 64) (λ found new. Loaded begins follows r found new) tt (loads begins follows spots id r whole some_left)))

  pub share_splits : (id : ℕ) (view : View T) (r : Reading T) (mark : Mark T) → view ≡ Reads r → r.share ≡ Some mark → Splits (Ruled begins follows spots) id view (kept_share view) (given_share view)
  share_splits id view r mark is share =
      subst (λ v. Splits (Ruled begins follows spots) id v (kept_share v) (given_share v)) (sym is)
      (subst (λ x. Splits (Ruled begins follows spots) id (Reads r) (Reads (record r { share = None })) (owner_view x)) (sym share)
      (splits_later begins follows spots id (Reads r) (Reads (record r { share = None })) (Has mark) tt (splits_reader begins follows spots id r mark share)))

  -- what a load and the cut behind it leave
  pub drawn_of : (r : Reading T) (found : ℕ) (loaded kept share : Sat T) (views : List (View T)) → r.share ≡ None → Loaded begins follows r found loaded → kept ≡ (kept_share loaded.0, loaded.1) → share ≡ (given_share loaded.0, []) → views ≡ kept.0 ∷ [] → Drawn begins follows r found views share
  drawn_of r found loaded kept share views whole reported is_kept is_share is_views =
      let view : loaded.0 ≡ Reads (record r { seen = reported.0; share = Some reported.1; left = r.left - 1 }) = λ i. (reported.2 i).0 in
      record {
        published = reported.0;
        mark = reported.1;
        begun = reported.3;
        last = reported.4;
        views_are = is_views ∙ ap (λ (m : Sat T). m.0 ∷ []) is_kept ∙ ap (λ v. kept_share v ∷ []) view ∙ ap (λ s. Reads (record r { seen = reported.0; share = s; left = r.left - 1 }) ∷ []) (sym whole);
        share_is = is_share ∙ ap (λ v. (given_share v, [])) view;
      }

  pub release_allowed : (n id i : ℕ) (me : Sat T) (mark : Mark T) → n ≡ slots → i ≡ suc (mark.slot + mark.slot) → me ≡ (Has mark, []) → Allows (Ruled begins follows spots) n id me i (λ k. (k + (2 ^ 64 - 1)) % 2 ^ 64) (λ found new. ReleaseTells me.0 found new)
  release_allowed n id i me mark count index is =
      subst (λ k. Allows (Ruled begins follows spots) k id me i (λ k. (k + (2 ^ 64 - 1)) % 2 ^ 64) (λ found new. ReleaseTells me.0 found new)) (sym count)
      (subst (λ j. Allows (Ruled begins follows spots) slots id me j (λ k. (k + (2 ^ 64 - 1)) % 2 ^ 64) (λ found new. ReleaseTells me.0 found new)) (sym index)
      (subst (λ (m : Sat T). Allows (Ruled begins follows spots) slots id m (suc (mark.slot + mark.slot)) (λ k. (k + (2 ^ 64 - 1)) % 2 ^ 64) (λ found new. ReleaseTells m.0 found new)) (sym is)
      (allowed_later begins follows spots slots id (Has mark, []) (suc (mark.slot + mark.slot)) (λ k. (k + (2 ^ 64 - 1)) % 2 ^ 64) (λ found new. Released mark found new) tt (releases begins follows spots id mark))))

  pub bury_allowed : (n id i slot name : ℕ) (me : Sat T) → n ≡ slots → i ≡ suc (slot + slot) → me ≡ (Buries slot name, []) → Allows (Ruled begins follows spots) n id me i (λ k. either (k == 0) dead_word k) (λ found new. BuryTells begins follows me.0 found new)
  bury_allowed n id i slot name me count index is =
      subst (λ k. Allows (Ruled begins follows spots) k id me i (λ k. either (k == 0) dead_word k) (λ found new. BuryTells begins follows me.0 found new)) (sym count)
      (subst (λ j. Allows (Ruled begins follows spots) slots id me j (λ k. either (k == 0) dead_word k) (λ found new. BuryTells begins follows me.0 found new)) (sym index)
      (subst (λ (m : Sat T). Allows (Ruled begins follows spots) slots id m (suc (slot + slot)) (λ k. either (k == 0) dead_word k) (λ found new. BuryTells begins follows m.0 found new)) (sym is)
      (buries_ruled begins follows spots id slot name)))

  -- an act of the seat on a word that is known by an equation
  pub at_seat : (n id j i : ℕ) (me mine : Sat T) (f : ℕ → ℕ) (tells : Sat T → ℕ → Sat T → Type 0) → n ≡ slots → id ≡ j → me ≡ mine → IsLater mine.0 → Allows (Holds begins follows spots) slots j mine i f (tells mine) → Allows (Ruled begins follows spots) n id me i f (tells me)
  at_seat n id j i me mine f tells count seat is later_view allowed =
      subst (λ k. Allows (Ruled begins follows spots) k id me i f (tells me)) (sym count)
      (subst (λ k. Allows (Ruled begins follows spots) slots k me i f (tells me)) (sym seat)
      (subst (λ (m : Sat T). Allows (Ruled begins follows spots) slots j m i f (tells m)) (sym is)
      (allowed_later begins follows spots slots j mine i f (tells mine) later_view allowed)))

  pub fade_allowed : (n id i slot : ℕ) (spot : RoomSpot T) (room : Room T) (me : Sat T) → n ≡ slots → i ≡ suc (suc (slot + slot)) → me ≡ (Fades slot spot, (slot, room) ∷ []) → room.at ≡ spot.at → room.value ≡ None → room.stake ≡ []
      → Allows (Ruled begins follows spots) n id me i (λ k. (k + (2 ^ 64 - 1)) % 2 ^ 64) (λ found new. FadeTells me.0 found new)
  fade_allowed n id i slot spot room me count index is lies empty whole =
      subst (λ j. Allows (Ruled begins follows spots) n id me j (λ k. (k + (2 ^ 64 - 1)) % 2 ^ 64) (λ found new. FadeTells me.0 found new)) (sym index)
      (at_seat n id id (suc (suc (slot + slot))) me (Fades slot spot, (slot, room) ∷ []) (λ k. (k + (2 ^ 64 - 1)) % 2 ^ 64) (λ m found new. FadeTells m.0 found new) count refl is tt (fades begins follows spots id slot spot room lies empty whole))

  pub reset_allowed : (n id i slot : ℕ) (me : Sat T) → n ≡ slots → i ≡ suc (suc (slot + slot)) → me ≡ (Resets slot, []) → Allows (Ruled begins follows spots) n id me i (λ _. 1) (λ _ new. ResetTells me.0 new)
  reset_allowed n id i slot me count index is =
      subst (λ j. Allows (Ruled begins follows spots) n id me j (λ _. 1) (λ _ new. ResetTells me.0 new)) (sym index)
      (at_seat n id id (suc (suc (slot + slot))) me (Resets slot, []) (λ _. 1) (λ m _ new. ResetTells m.0 new) count refl is tt (resets begins follows spots id slot))

  pub free_allowed : (n id i slot : ℕ) (me : Sat T) → n ≡ slots → i ≡ suc (slot + slot) → me ≡ (Frees slot, []) → Allows (Ruled begins follows spots) n id me i (λ _. free_word) (λ _ new. FreeTells me.0 new)
  free_allowed n id i slot me count index is =
      subst (λ j. Allows (Ruled begins follows spots) n id me j (λ _. free_word) (λ _ new. FreeTells me.0 new)) (sym index)
      (at_seat n id id (suc (slot + slot)) me (Frees slot, []) (λ _. free_word) (λ m _ new. FreeTells m.0 new) count refl is tt (frees begins follows spots id slot))

  pub prepare_allowed : (n id i slot : ℕ) (p : Publishing T) (value : T) (room : Room T) (me : Sat T) → n ≡ slots → id ≡ 0 → i ≡ suc (slot + slot) → IsReady slot p value room me → Allows (Ruled begins follows spots) n id me i (λ _. bulk) (λ _ new. PrepareTells me new)
  prepare_allowed n id i slot p value room me count seat index ready =
      subst (λ k. Allows (Ruled begins follows spots) n id me k (λ _. bulk) (λ _ new. PrepareTells me new)) (sym index)
      (at_seat n id 0 (suc (slot + slot)) me (Publishes p, (slot, room) ∷ []) (λ _. bulk) (λ m _ new. PrepareTells m new) count seat ready.me_is tt
      (λ s h size at bound. let made = prepares begins follows spots p slot (length p.published) value room ready.life ready.tally ready.how refl ready.lies ready.version ready.stake s h size at bound in (made.0, made.1, made.2, made.3, (value, ready.version, made.4))))

  pub swap_allowed : (n id word slot : ℕ) (p : Publishing T) (value : T) (me : Sat T) → n ≡ slots → id ≡ 0 → word ≡ word_of slot 0 → IsSwapping begins follows slot p value me → Allows (Ruled begins follows spots) n id me 0 (λ _. word) (λ found new. SwapTells me.0 found new)
  swap_allowed n id word slot p value me count seat is_word due =
      subst (λ k. Allows (Ruled begins follows spots) n id me 0 (λ _. k) (λ found new. SwapTells me.0 found new)) (sym is_word)
      (at_seat n id 0 0 me (Publishes p, []) (λ _. word_of slot 0) (λ m found new. SwapTells m.0 found new) count seat due.me_is tt
      (λ s h size at bound. let made = swaps begins follows spots p slot value due.how due.next due.history s h size at bound in (made.0, made.1, made.2, made.3, (value, due.next, made.4))))

  pub settle_allowed : (n id i k slot given : ℕ) (p : Publishing T) (number : ℕ) (me : Sat T) → n ≡ slots → id ≡ 0 → i ≡ suc (slot + slot) → k ≡ bulk - given - 1 → IsSettling slot given p number me → Allows (Ruled begins follows spots) n id me i (λ w. (w + (2 ^ 64 - k)) % 2 ^ 64) (λ _ new. SettleTells me.0 new)
  settle_allowed n id i k slot given p number me count seat index less due =
      subst (λ j. Allows (Ruled begins follows spots) n id me j (λ w. (w + (2 ^ 64 - k)) % 2 ^ 64) (λ _ new. SettleTells me.0 new)) (sym index)
      (subst (λ j. Allows (Ruled begins follows spots) n id me (suc (slot + slot)) (λ w. (w + (2 ^ 64 - j)) % 2 ^ 64) (λ _ new. SettleTells me.0 new)) (sym less)
      (at_seat n id 0 (suc (slot + slot)) me (Publishes p, []) (λ w. (w + (2 ^ 64 - (bulk - given - 1))) % 2 ^ 64) (λ m _ new. SettleTells m.0 new) count seat due.me_is tt
      (λ s h size at bound.
      let made = settles begins follows spots p number slot given due.how due.share due.unfixed s h size at bound in
      (made.0, made.1, made.2, made.3, subst (λ q. SettleAt p q (made.0, carried_after [] made.1)) (sym due.how) made.4))))

  pub probe_allowed : (n id i slot : ℕ) (p : Publishing T) (me : Sat T) → n ≡ slots → id ≡ 0 → i ≡ suc (slot + slot) → IsProbing p slot me → Allows (Ruled begins follows spots) n id me i (λ w. w) (λ found new. ProbeTells me.0 found new)
  probe_allowed n id i slot p me count seat index due =
      subst (λ j. Allows (Ruled begins follows spots) n id me j (λ w. w) (λ found new. ProbeTells me.0 found new)) (sym index)
      (at_seat n id 0 (suc (slot + slot)) me (Publishes p, []) (λ w. w) (λ m found new. ProbeTells m.0 found new) count seat due.0 tt
      (λ s h size at bound.
      let made = probes begins follows spots p slot due.1 s h size at bound in
      (made.0, made.1, made.2, made.3, subst (λ q. ProbeAt p q (get_or s.words (suc (slot + slot)) 0) (made.0, carried_after [] made.1)) (sym due.1) made.4)))

-- the slot that is due behind so many probes
abbrev pub wrapped : ℕ → ℕ
wrapped slot = if slot == slots then 0 else slot

pub wrapped_is : (slot : ℕ) → slot < slots → wrapped slot ≡ slot
wrapped_is slot l = elim (eqb_tells slot slots) [ inl same ↦ absurd (omega (arith, same.1, l)) | inr other ↦ rw other.0 refl ]

pub wrapped_all : (slot : ℕ) → slot ≡ slots → wrapped slot ≡ 0
wrapped_all slot e = elim (eqb_tells slot slots) [ inl same ↦ rw same.0 refl | inr other ↦ absurd (other.1 e) ]

-- a publisher that probes from the first slot, and behind so many probes
pub begun_probing : {T : Type 0} (p : Publishing T) (slot : ℕ) → p.how ≡ Probing 0 → slot ≡ 0 → Publishes p ≡ Publishes (record p { how = Probing slot })
begun_probing p slot how e = λ i. Publishes (record p { how = (how ∙ ap Probing (sym e)) i })

-- the place that a publisher takes behind some probes
pub taken_from : {T : Type 0} (p : Publishing T) (due seen : ℕ) (me : Sat T) (slot : ℕ) → seen ≡ slot → IsTaken (record p { how = Probing due }) seen me → IsTaken p slot me
taken_from p due seen me slot same t = subst (λ k. IsTaken p k me) same (record { spot = t.spot; room = t.room; me_is = t.me_is; lies = t.lies; empty = t.empty; whole = t.whole })

-- one slot more is none of those
pub absent_next : (found : List ℕ) (slot seen : ℕ) → seen ≡ slot → ((k : ℕ) → k < slot → IsAbsent k found) → IsAbsent seen found → (k : ℕ) → k < slot + 1 → IsAbsent k found
absent_next found slot seen same before here k l = elim (eqb_tells k slot) [
  | inl is ↦ subst (λ j. IsAbsent j found) (same ∙ sym is.1) here
  | inr other ↦ before k (omega (arith, l, other.1))
]

-- what is behind the last place isn't at an earlier one
get_before : {A : Type 0} (xs : List A) (x : A) (k : ℕ) → k < length xs → slice_get (xs ++ x ∷ []) k ≡ slice_get xs k
get_before [] x k l = absurd (omega arith)
get_before (y ∷ xs) x zero l = refl
get_before (y ∷ xs) x (suc k) l = get_before xs x k (omega arith)

module _ {T : Type 0} (begins : T → Type 0) (follows : T → T → Type 0) (spots : List (RoomSpot T)) where
  pub share_splits_publisher : (id : ℕ) (view : View T) (p : Publishing T) (mark : Mark T) → view ≡ Publishes p → p.share ≡ Some (Once mark) → Splits (Ruled begins follows spots) id view (kept_share view) (given_share view)
  share_splits_publisher id view p mark is share =
      subst (λ v. Splits (Ruled begins follows spots) id v (kept_share v) (given_share v)) (sym is)
      (subst (λ x. Splits (Ruled begins follows spots) id (Publishes p) (Publishes (record p { share = None })) (once_view x)) (sym share)
      (splits_later begins follows spots id (Publishes p) (Publishes (record p { share = None })) (Has mark) tt (splits_publisher begins follows spots id p mark share)))

  -- the publisher behind its swap
  abbrev pub swapped_to : Publishing T → T → ℕ → ℕ → Publishing T
  swapped_to p value number found = record p { published = p.published ++ value ∷ []; how = Settling number (slot_of found) (given_of found); next = None; fixed = None }

  pub settling_next : (p : Publishing T) (value : T) (found : ℕ) (me : Sat T) → p.share ≡ None → (reported : Swapped p value found me) → IsSettling (slot_of found) (given_of found) (swapped_to p value reported.0 found) reported.0 me
  settling_next p value found me whole reported = record { me_is = reported.3; within = reported.2; few = omega arith; how = refl; share = whole; unfixed = refl }

  pub swapped_in : (p : Publishing T) (value : T) (found : ℕ) (before settled kept share : Sat T) → p.share ≡ None → (reported : Swapped p value found before) → IsSettled (swapped_to p value reported.0 found) reported.0 (slot_of found) settled → kept ≡ (kept_share settled.0, settled.1) → share ≡ (given_share settled.0, []) → IsSwappedIn p value (slot_of found) kept share
  swapped_in p value found before settled kept share whole reported is is_kept is_share =
      record {
        mark = is.mark;
        slot_is = is.slot_is;
        last = reported.1 ∙ ap (λ n. n + 1) (sym is.number_is);
        value_is = ap (slice_get p.published) is.number_is ∙ sym (get_before p.published value reported.0 (omega (arith, reported.1))) ∙ is.value;
        name_is = is.name_is;
        within = subst (λ k. k < slots) (sym is.slot_is) is.within;
        me_is = is_kept ∙ ap (λ (m : Sat T). (kept_share m.0, m.1)) is.me_is ∙ ap (λ s. (Publishes (record p { published = p.published ++ value ∷ []; how = Probing 0; share = s; next = None; fixed = None }), [])) (sym whole);
        share_is = is_share ∙ ap (λ (m : Sat T). (given_share m.0, [])) is.me_is;
      }
