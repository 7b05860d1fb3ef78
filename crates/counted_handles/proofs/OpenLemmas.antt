-- What the rule allows the first seat, and the publisher that looks at W.
use Rattle.std.proofs.Common.{◌≡◌, sym, ap, ◌∙◌, subst, ℕ, List, [], ◌∷◌, Option, Some, None}
use Rattle.atomic_table.specs.Table.{Allows}
use Rattle.cell_core.specs.Words.{slots}
use Rattle.cell_core.specs.declared.words.Version.{Version}
use Rattle.counted_handles.specs.declared.view.Publishing.{Publishing}
use Rattle.counted_handles.specs.declared.view.View.TheVariants.{Begin, Began, Publishes}
use Rattle.raw_slots.specs.Places.{Stake}
use Rattle.counted_handles.specs.Ruled.{RoomSpot, Ruled}
use Rattle.counted_handles.specs.Tells.{Sat, Offered}
use Rattle.counted_handles.specs.Plays.{LookTells, OpenTells, OfferTells}
use Rattle.counted_handles.specs.Calls.{IsOffering}
use Rattle.counted_handles.proofs.NewestStep.{looks}
use Rattle.counted_handles.proofs.OpenStep.{opens, offers}
use Rattle.counted_handles.proofs.CallLemmas.{at_seat}

module _ {T : Type 0} (begins : T → Type 0) (follows : T → T → Type 0) (spots : List (RoomSpot T)) where
  pub look_allowed : (n id : ℕ) (me : Sat T) (p : Publishing T) → n ≡ slots → id ≡ 0 → me ≡ (Publishes p, []) → p.readers ≡ 0 → Allows (Ruled begins follows spots) n id me 0 (λ k. k) (λ found new. LookTells me.0 found new)
  look_allowed n id me p count seat is alone = at_seat begins follows spots n id 0 0 me (Publishes p, []) (λ k. k) (λ m found new. LookTells m.0 found new) count seat is tt (looks begins follows spots p alone)

  -- an act of the first seat
  first_seat : (n id : ℕ) (me mine : Sat T) (tells : Sat T → ℕ → Sat T → Type 0) → n ≡ slots → id ≡ 0 → me ≡ mine → Allows (Ruled begins follows spots) slots 0 mine 0 (λ k. k) (tells mine) → Allows (Ruled begins follows spots) n id me 0 (λ k. k) (tells me)
  first_seat n id me mine tells count seat is allowed =
      subst (λ k. Allows (Ruled begins follows spots) k id me 0 (λ k. k) (tells me)) (sym count)
      (subst (λ k. Allows (Ruled begins follows spots) slots k me 0 (λ k. k) (tells me)) (sym seat)
      (subst (λ (m : Sat T). Allows (Ruled begins follows spots) slots 0 m 0 (λ k. k) (tells m)) (sym is) allowed))

  pub open_allowed : (n id : ℕ) (me : Sat T) (value : T) → n ≡ slots → id ≡ 0 → me ≡ (Begin value, []) → Allows (Ruled begins follows spots) n id me 0 (λ k. k) (λ _ new. OpenTells me.0 new)
  open_allowed n id me value count seat is = first_seat n id me (Begin value, []) (λ m _ new. OpenTells m.0 new) count seat is (opens begins follows spots value)

  pub offer_allowed : (n id : ℕ) (me : Sat T) (value : T) (name : ℕ) (spot : RoomSpot T) → n ≡ slots → id ≡ 0 → IsOffering begins value name spot me → Allows (Ruled begins follows spots) n id me 0 (λ k. k) (λ _ new. OfferTells me new)
  offer_allowed n id me value name spot count seat o =
      first_seat n id me (Began spot, (0, o.room) ∷ []) (λ m _ new. OfferTells m new) count seat o.me_is
      (λ s r size at bound. let made = offers begins follows spots value name o.life o.tally spot o.room o.begun o.lies o.version o.stake s r size at bound in (made.0, made.1, made.2, made.3, (value, name, o.life, o.tally, o.version, o.stake, made.4)))

-- the value of a version, if there is one
abbrev value_or : {T : Type 0} → T → Option (Version T) → T
value_or other None = other
value_or other (Some version) = version.value

-- the name of the views that a place is shared for
abbrev name_or : {V : Type 0} → List (Stake V) → ℕ
name_or [] = 0
name_or (stake ∷ stakes) = stake.views

-- what was offered is what was told
pub offered_as : {T : Type 0} (begins : T → Type 0) (value : T) (name : ℕ) (spot : RoomSpot T) (me new : Sat T) → (o : IsOffering begins value name spot me) → OfferTells me new → Offered value name spot new
offered_as {T} begins value name spot me new o reported =
    let t = subst (λ (m : Sat T). OfferTells m new) o.me_is reported in
    let values : t.0 ≡ value = ap (value_or value) (sym t.4 ∙ o.version) in
    let names : t.1 ≡ name = ap name_or (sym t.5 ∙ o.stake) in
    subst (λ v. Offered v name spot new) values (subst (λ n. Offered t.0 n spot new) names t.6)
