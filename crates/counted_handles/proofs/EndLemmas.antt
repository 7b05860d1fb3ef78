-- What the rule allows a publisher that ends the cell, takes readers in and gives them back.
use Rattle.std.proofs.Common.{◌≡◌, refl, sym, ap, ◌∙◌, subst, false, ℕ, suc, ◌+◌, ◌<◌, List, [], ◌∷◌, Option, Some, None, get_or}
use Rattle.atomic_table.specs.Table.{Allows, Splits, Joins, carried_after}
use Rattle.raw_slots.specs.Places.{Alone, first_with}
use Rattle.cell_core.specs.Words.{slots, slot_of}
use Rattle.counted_handles.specs.declared.view.Mark.{Mark}
use Rattle.counted_handles.specs.declared.view.Reading.{Reading}
use Rattle.counted_handles.specs.declared.view.Publishing.{Publishing}
use Rattle.counted_handles.specs.declared.view.View.{View}
use Rattle.counted_handles.specs.declared.view.View.TheVariants.{Publishes, Reads, Has, Ends, Gone}
use Rattle.counted_handles.specs.Shown.{Room}
use Rattle.counted_handles.specs.Ruled.{RoomSpot, Ruled, version_of}
use Rattle.counted_handles.specs.Cuts.{lodged, lodging, kept_home, sent_home, kept_by_host, last_guest, without_guest}
use Rattle.counted_handles.specs.Tells.{Sat, Looked, IsEnding}
use Rattle.counted_handles.specs.Plays.{SweepTells, SkipTells, EndTells, EndOf, ShutTells}
use Rattle.counted_handles.specs.Calls.{IsSweeping, IsHost, IsAlone, IsParted, CanEnd}
use Rattle.counted_handles.proofs.CallLemmas.{only_one}
use Rattle.counted_handles.proofs.EndStep.{sweeps, skips, ends, shuts, alone_ending}
use Rattle.counted_handles.proofs.JoinStep.{lodges}
use Rattle.counted_handles.proofs.SplitStep.{splits_guest}
use Rattle.counted_handles.proofs.Later.{splits_later, joins_later}

module _ {T : Type 0} (begins : T → Type 0) (follows : T → T → Type 0) (spots : List (RoomSpot T)) where
  -- an act of the first seat on a word that is known by an equation
  at_first : (n id i j : ℕ) (me mine : Sat T) (tells : Sat T → ℕ → Sat T → Type 0) → n ≡ slots → id ≡ 0 → i ≡ j → me ≡ mine → Allows (Ruled begins follows spots) slots 0 mine j (λ k. k) (tells mine) → Allows (Ruled begins follows spots) n id me i (λ k. k) (tells me)
  at_first n id i j me mine tells count seat index is allowed =
      subst (λ k. Allows (Ruled begins follows spots) k id me i (λ k. k) (tells me)) (sym count)
      (subst (λ k. Allows (Ruled begins follows spots) slots k me i (λ k. k) (tells me)) (sym seat)
      (subst (λ k. Allows (Ruled begins follows spots) slots 0 me k (λ k. k) (tells me)) (sym index)
      (subst (λ (m : Sat T). Allows (Ruled begins follows spots) slots 0 m j (λ k. k) (tells m)) (sym is) allowed)))

  pub sweep_allowed : (n id i slot word last : ℕ) (p : Publishing T) (me : Sat T) → n ≡ slots → id ≡ 0 → i ≡ suc (slot + slot) → slot < slots → (slot ≡ last → ⊥) → IsSweeping p word last slot me → Allows (Ruled begins follows spots) n id me i (λ k. k) (λ found new. SweepTells me.0 found new)
  sweep_allowed n id i slot word last p me count seat index l elsewhere due = at_first n id i (suc (slot + slot)) me (Publishes p, []) (λ m found new. SweepTells m.0 found new) count seat index due.me_is (sweeps begins follows spots p 0 slot word due.how due.swept due.fixed (λ e. elsewhere (sym e ∙ due.last_is)) l)

  pub skip_allowed : (n id i slot word last : ℕ) (p : Publishing T) (me : Sat T) → n ≡ slots → id ≡ 0 → i ≡ suc (suc (slot + slot)) → slot ≡ last → IsSweeping p word last slot me → Allows (Ruled begins follows spots) n id me i (λ k. k) (λ found new. SkipTells me.0 found new)
  skip_allowed n id i slot word last p me count seat index is due = at_first n id i (suc (suc (slot + slot))) me (Publishes p, []) (λ m found new. SkipTells m.0 found new) count seat index due.me_is (skips begins follows spots p 0 slot word due.how due.swept due.fixed (due.last_is ∙ sym is))

  pub end_allowed : (n id i word last : ℕ) (p : Publishing T) (me : Sat T) → n ≡ slots → id ≡ 0 → i ≡ suc (last + last) → IsSweeping p word last slots me → Allows (Ruled begins follows spots) n id me i (λ k. k) (λ found new. EndTells me.0 found new)
  end_allowed n id i word last p me count seat index due =
      at_first n id i (suc (slot_of word + slot_of word)) me (Publishes p, []) (λ m found new. EndTells m.0 found new) count seat (index ∙ ap (λ k. suc (k + k)) (sym due.last_is)) due.me_is
      (λ s r size at bound.
      let made = ends begins follows spots p 0 word due.how due.fixed due.swept s r size at bound in
      (made.0, made.1, made.2, made.3, subst (λ f. EndOf p f (get_or s.words (suc (slot_of word + slot_of word)) 0) (made.0, carried_after [] made.1)) (sym due.fixed) made.4))

  pub shut_allowed : (n id slot : ℕ) (spot : RoomSpot T) (room : Room T) (me : Sat T) → n ≡ slots → id ≡ 0 → me ≡ (Ends slot spot, (slot, room) ∷ []) → room.at ≡ spot.at → room.stake ≡ [] → Allows (Ruled begins follows spots) n id me 0 (λ k. k) (λ _ new. ShutTells me.0 new)
  shut_allowed n id slot spot room me count seat is lies whole = at_first n id 0 0 me (Ends slot spot, (slot, room) ∷ []) (λ m _ new. ShutTells m.0 new) count seat refl is (shuts begins follows spots slot spot room lies whole)

  pub alone_last : (id slot : ℕ) (spot : RoomSpot T) (mark : Mark T) (view : View T) → view ≡ Ends slot spot → Alone (Ruled begins follows spots) id view (Has mark)
  alone_last id slot spot mark view is = subst (λ v. Alone (Ruled begins follows spots) id v (Has mark)) (sym is) (alone_ending begins follows spots id slot spot mark)

  pub lodge_allowed : (id other : ℕ) (view guest : View T) (p : Publishing T) (r : Reading T) → view ≡ Publishes p → guest ≡ Reads r → r.share ≡ None → Joins (Ruled begins follows spots) id view other guest (lodging view guest) Gone
  lodge_allowed id other view guest p r is is_guest whole =
      subst (λ v. Joins (Ruled begins follows spots) id v other guest (lodging v guest) Gone) (sym is)
      (subst (λ w. Joins (Ruled begins follows spots) id (Publishes p) other w (lodging (Publishes p) w) Gone) (sym is_guest)
      (joins_later begins follows spots id other (Publishes p) (Reads r) (Publishes (lodged p r)) Gone tt (lodges begins follows spots id other p r whole)))

  pub return_allowed : (id : ℕ) (view : View T) (p : Publishing T) (r : Reading T) (more : List (Reading T)) → view ≡ Publishes p → IsHost p r more (Publishes p ∷ []) → Splits (Ruled begins follows spots) id view (kept_home view) (sent_home view)
  return_allowed id view p r more is host =
      subst (λ v. Splits (Ruled begins follows spots) id v (kept_home v) (sent_home v)) (sym is)
      (subst (λ (g : List (Reading T)). Splits (Ruled begins follows spots) id (Publishes p) (kept_by_host p g) (last_guest g)) (sym host.guests)
      (splits_later begins follows spots id (Publishes p) (Publishes (without_guest p r more)) (Reads r) tt (splits_guest begins follows spots id p r more host.whole host.guests host.guest_whole host.enough)))

-- what is left of the publisher, and the reader, when the last guest is given back
pub back_home : {T : Type 0} (p : Publishing T) (r : Reading T) (more : List (Reading T)) (view : View T) → view ≡ Publishes p → p.guests ≡ r ∷ more → (kept_home view ≡ Publishes (without_guest p r more)) × (sent_home view ≡ Reads r)
back_home {T} p r more view is guests =
    (ap kept_home is ∙ ap (λ (g : List (Reading T)). kept_by_host p g) guests, ap sent_home is ∙ ap (λ (g : List (Reading T)). last_guest g) guests)

-- a publisher that has looked at so many slots
pub swept_to : {T : Type 0} (p : Publishing T) (word last slot : ℕ) (old now : Sat T) → IsSweeping p word last 0 old → now ≡ (Publishes (record p { swept = slot }), []) → IsSweeping (record p { swept = slot }) word last slot now
swept_to p word last slot old now is now_is = record { me_is = now_is; how = is.how; fixed = is.fixed; last_is = is.last_is; swept = refl }

-- a publisher that has looked at W
pub looked_at : {T : Type 0} (p : Publishing T) (found : ℕ) (old now : Sat T) → IsAlone p old → Looked p found now → IsSweeping (record p { fixed = Some found; swept = 0; busy = false }) found (slot_of found) 0 now
looked_at p found old now is reported = record { me_is = reported.1; how = is.how; fixed = refl; last_is = refl; swept = refl }

-- the last version's place, when nobody has a claim of it
pub parted_as : {T : Type 0} (p : Publishing T) (fixed : Option ℕ) (swept slot : ℕ) (me whole : Sat T) → (e : IsEnding (record p { fixed = fixed; swept = swept; busy = false }) slot me) → whole ≡ (me.0, first_with (λ (y : Room T). record y { stake = [] }) me.1) → IsParted p slot whole
parted_as p fixed swept slot me whole e is =
    record {
      spot = e.spot;
      room = record (e.room) { stake = [] };
      version = version_of e.mark;
      me_is = is ∙ ap (λ m. (m.0, first_with (λ y. record y { stake = [] }) m.1)) e.me_is;
      lies = e.lies;
      holds_it = e.version;
      whole = refl;
      last = (e.mark.number, e.last, e.value);
    }

-- the publisher's seat that its token is made into
pub alone_seat : {T : Type 0} (p : Publishing T) (views : List (View T)) (me : Sat T) → views ≡ me.0 ∷ [] → me.1 ≡ [] → CanEnd p views → IsAlone p me
alone_seat {T} p views me is none due = record { me_is = (let view = only_one me.0 (Publishes p) (sym is ∙ due.0) in λ i. (view i, none i)); how = due.1; readers = due.2 }
