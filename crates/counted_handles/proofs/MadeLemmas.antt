-- The places and words of a new cell.
use Rattle.std.proofs.Common.{◌≡◌, refl, get_or, sym, ap, ◌∙◌, subst, arith, ℕ, zero, suc, ◌<◌, List, [], ◌∷◌, ◌++◌, length, Option, Some, None, replicate}
use Rattle.std.specs.List.{slice_get}
use Rattle.std.proofs.lemmas.List.{length-replicate, get_or-replicate}
use Rattle.std.proofs.lemmas.Option.{slice_get_within, get_or_from_slice_get}
use Rattle.atomic_table.specs.Table.{rest}
use Rattle.raw_slots.specs.Places.{Stake}
use Rattle.raw_slots.specs.Chains.{AreAt, HaveValues}
use Rattle.cell_core.specs.Words.{slots, free_word}
use Rattle.cell_core.specs.declared.words.Version.{Version}
use Rattle.counted_handles.specs.declared.view.View.{View}
use Rattle.counted_handles.specs.declared.view.View.TheVariants.{Has}
use Rattle.counted_handles.specs.Shown.{Room}
use Rattle.counted_handles.specs.Ruled.{RoomSpot, free_words, first_version, mark_of}
use Rattle.counted_handles.specs.Tells.{Sat, IsOpened}
use Rattle.counted_handles.specs.Opens.{IsLaid}
use Rattle.counted_handles.specs.Calls.{IsOffering}
use Rattle.counted_handles.proofs.PutLemmas.{keyed_as}

pub free_words_more : (count : ℕ) → free_words (suc count) ≡ free_words count ++ free_word ∷ 1 ∷ []
free_words_more zero = refl
free_words_more (suc count) = ap (λ (words : List ℕ). free_word ∷ 1 ∷ words) (free_words_more count)

pub took_first : {T : Type 0} (value : T) (me : Sat T) → IsOpened value me → (room : Room T) × (me.1 ≡ (0, room) ∷ rest me.1)
took_first {T} value me o =
    let took : me.1 ≡ (0, o.room) ∷ [] = λ i. (o.me_is i).1 in
    (o.room, took ∙ ap (λ (l : List (ℕ × Room T)). (0, o.room) ∷ rest l) (sym took))

-- the place that was lent is the one that the seat took
pub lent_first : {T : Type 0} (value : T) (me : Sat T) (lent : Room T) → (o : IsOpened value me) → me.1 ≡ (0, lent) ∷ rest me.1 → lent ≡ o.room
lent_first {T} value me lent o here = ap (λ (l : List (ℕ × Room T)). (get_or l 0 (0, o.room)).1) (sym here ∙ (λ i. (o.me_is i).1))

pub offering_of : {T : Type 0} (begins : T → Type 0) (value : T) (name : ℕ) (version : Version T) (me : Sat T) (lent shared : Room T) → (o : IsOpened value me) → begins value → version ≡ first_version value → me.1 ≡ (0, lent) ∷ rest me.1
    → shared.at ≡ lent.at → shared.value ≡ lent.value → (s : Stake (View T)) → shared.stake ≡ s ∷ [] → s.views ≡ name → s.key ≡ Has (mark_of s.views 0 version s.life s.tally)
    → IsOffering begins value name o.spot (me.0, (0, shared) ∷ rest me.1)
offering_of {T} begins value name version me lent shared o begun first here at full s stake views key =
    let same : lent ≡ o.room = lent_first value me lent o here in
    record {
      room = shared;
      me_is = λ i. ((o.me_is i).0, (0, shared) ∷ rest (o.me_is i).1);
      begun = begun;
      lies = at ∙ ap (λ (y : Room T). y.at) same ∙ o.lies;
      version = full ∙ ap (λ (y : Room T). y.value) same ∙ o.version;
      life = s.life;
      tally = s.tally;
      stake = stake ∙ ap (λ x. x ∷ []) (keyed_as s name 0 version (first_version value) views key first);
    }

get_at : {X : Type 0} (xs : List X) (k : ℕ) → k < length xs → (x : X) × (slice_get xs k ≡ Some x)
get_at [] k l = absurd (omega arith)
get_at (y ∷ ys) zero l = (y, refl)
get_at (y ∷ ys) (suc k) l = get_at ys k (omega arith)

one_of : {X : Type 0} (count k : ℕ) (y x : X) → slice_get (replicate count y) k ≡ Some x → x ≡ y
one_of count k y x e =
    let l : k < count = subst (λ n. k < n) (length-replicate count y) (slice_get_within (replicate count y) k x e) in
    sym (get_or_from_slice_get (replicate count y) k x y e) ∙ get_or-replicate count k y y l

rest_empty : {X : Type 0} (values : List (Option X)) (first : X) → values ≡ Some first ∷ replicate 63 None → (slot : ℕ) (x : Option X) → 0 < slot → slice_get values slot ≡ Some x → x ≡ None
rest_empty values first are zero x l e = absurd (omega (arith, l))
rest_empty values first are (suc k) x l e = one_of 63 k None x (ap (λ xs. slice_get xs (suc k)) (sym are) ∙ e)

abbrev got_or : {X : Type 0} → X → Option X → X
got_or x None = x
got_or x (Some y) = y

first_got : {X : Type 0} (xs : List X) (first : X) (more : List X) (x : X) → xs ≡ first ∷ more → slice_get xs 0 ≡ Some x → x ≡ first
first_got xs first more x are got = ap (got_or x) (sym got) ∙ ap (λ l. got_or x (slice_get l 0)) are

-- the places of a new cell, by the values that were laid out
pub laid_of : {T : Type 0} (value : T) (version : Version T) (values : List (Option (Version T))) (places : List (RoomSpot T)) (rooms : List (Room T)) → values ≡ Some version ∷ replicate 63 None → version ≡ first_version value
    → AreAt places rooms → HaveValues values rooms → length rooms ≡ length values → IsLaid places value rooms
laid_of {T} value version values places rooms are first at have size =
    let count : length rooms ≡ slots = size ∙ ap (λ (l : List (Option (Version T))). length l) are ∙ ap suc (length-replicate {A = Option (Version T)} 63 None) in
    let room = get_at rooms 0 (subst (λ n. 0 < n) (sym count) (omega arith)) in
    record {
      size = count;
      first = room.0;
      first_at = room.1;
      version = first_got values (Some version) (replicate 63 None) room.0.value are (have 0 room.0 room.1) ∙ ap Some first;
      lies = λ slot r e. let is = at.each slot r e in (is.1.0, is.1.1, is.1.2);
      whole = λ slot r e. (at.each slot r e).0;
      empty = λ slot r l e. rest_empty values version are slot r.value l (have slot r e);
    }
