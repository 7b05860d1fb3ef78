-- A version that is put into a place and shared is ready to be given to its slot.
use Rattle.std.proofs.Common.{◌≡◌, refl, get_or, sym, ap, ◌∙◌, ℕ, ◌<◌, List, [], ◌∷◌, ◌++◌, length, Some}
use Rattle.atomic_table.specs.Table.{rest}
use Rattle.raw_slots.specs.Places.{Stake}
use Rattle.cell_core.specs.Words.{slots}
use Rattle.cell_core.specs.declared.words.Version.{Version}
use Rattle.cell_core.specs.declared.words.Publisher.TheVariants.{Preparing, Swapping}
use Rattle.counted_handles.specs.declared.view.Publishing.{Publishing}
use Rattle.counted_handles.specs.declared.view.View.{View}
use Rattle.counted_handles.specs.declared.view.View.TheVariants.{Publishes, Has}
use Rattle.counted_handles.specs.Found.{without}
use Rattle.counted_handles.specs.Shown.{Room}
use Rattle.counted_handles.specs.Ruled.{RoomSpot, stake_of, mark_of}
use Rattle.counted_handles.specs.Tells.{Sat, IsTaken}
use Rattle.counted_handles.specs.History.{IsHistory}
use Rattle.counted_handles.specs.Calls.{IsReady, IsSwapping}
use Rattle.counted_handles.proofs.CallLemmas.{only_one}

-- the publisher that has taken a slot
abbrev pub taken_as : {T : Type 0} → Publishing T → ℕ → RoomSpot T → Publishing T
taken_as p slot spot = record p { how = Preparing slot; spot = spot; found = without slot p.found }

-- a stake that is told by its key
pub keyed_as : {T : Type 0} (s : Stake (View T)) (name slot : ℕ) (version same : Version T) → s.views ≡ name → s.key ≡ Has (mark_of s.views slot version s.life s.tally) → version ≡ same → s ≡ stake_of (mark_of name slot same s.life s.tally)
keyed_as s name slot version same views key one =
    let keys : s.key ≡ Has (mark_of name slot same s.life s.tally) = key ∙ (λ i. Has (mark_of (views i) slot (one i) s.life s.tally)) in
    λ i. record { key = keys i; views = views i; life = s.life; tally = s.tally }

module _ {T : Type 0} where
  pub ready_of : (slot name : ℕ) (p : Publishing T) (version : Version T) (me : Sat T) (lent put shared : Room T) → slot < slots → (t : IsTaken p slot me) → p.name ≡ name → length p.published ≡ version.number → me.1 ≡ (slot, lent) ∷ rest me.1
      → put.value ≡ Some version → put.at ≡ lent.at → shared.at ≡ put.at → shared.value ≡ put.value
      → (s : Stake (View T)) → shared.stake ≡ s ∷ [] → s.views ≡ name → s.key ≡ Has (mark_of s.views slot version s.life s.tally)
      → IsReady slot (taken_as p slot t.spot) version.value shared (me.0, (slot, shared) ∷ rest me.1)
  ready_of slot name p version me lent put shared l t named numbered here value at at_too value_too s stake views key =
      let same : lent ≡ t.room = ap (λ (l : List (ℕ × Room T)). (get_or l 0 (0, t.room)).1) (sym here ∙ (λ i. (t.me_is i).1)) in
      let counted : version ≡ record { number = length p.published; value = version.value } = λ i. record { number = sym numbered i; value = version.value } in
      record {
        me_is = λ i. ((t.me_is i).0, (slot, shared) ∷ rest (t.me_is i).1);
        within = l;
        how = refl;
        lies = at_too ∙ at ∙ ap (λ (y : Room T). y.at) same ∙ t.lies;
        version = value_too ∙ value ∙ ap Some counted;
        life = s.life;
        tally = s.tally;
        stake = stake ∙ ap (λ x. x ∷ []) (keyed_as s p.name slot version (record { number = length p.published; value = version.value }) (views ∙ sym named) key counted);
      }

-- the publisher whose version lies in its slot
abbrev pub put_as : {T : Type 0} → Publishing T → ℕ → T → RoomSpot T → Publishing T
put_as p slot value spot = record p { how = Swapping slot; next = Some value; spot = spot; found = without slot p.found }

pub swapping_of : {T : Type 0} (begins : T → Type 0) (follows : T → T → Type 0) (slot : ℕ) (p : Publishing T) (value : T) (spot : RoomSpot T) (me : Sat T) → slot < slots → me ≡ (Publishes (put_as p slot value spot), []) → IsHistory begins follows (p.published ++ value ∷ []) → IsSwapping begins follows slot (put_as p slot value spot) value me
swapping_of begins follows slot p value spot me l is history = record { me_is = is; within = l; how = refl; next = refl; history = history }

-- one publisher by its view
abbrev publishing_or : {T : Type 0} → Publishing T → View T → Publishing T
publishing_or p (Publishes q) = q
publishing_or p view = p

pub same_publisher : {T : Type 0} (p q : Publishing T) (views : List (View T)) → views ≡ Publishes p ∷ [] → views ≡ Publishes q ∷ [] → p ≡ q
same_publisher p q views is too = ap (publishing_or p) (only_one (Publishes p) (Publishes q) (sym is ∙ too))
