-- A table whose places are whole and lie where they are told is one that begins.
use Rattle.std.proofs.Common.{◌≡◌, refl, sym, ap, ◌∙◌, ℕ, zero, suc, inl, List, [], ◌∷◌, map, Some}
use Rattle.std.specs.List.{slice_get}
use mathlib.Core.Option as maybe
use mathlib.Core.Option.{none, some, some-injective, some-ne-none}
use lib.ListN.{get_elem?, length-map}
use Rattle.atomic_table.specs.Table.{opening}
use Rattle.counted_handles.specs.declared.view.View.TheVariants.{Begin}
use Rattle.counted_handles.specs.Shown.{Room}
use Rattle.counted_handles.specs.Ruled.{RoomSpot, Ruled, first_words}
use Rattle.counted_handles.specs.Opens.{IsLaid}

-- what stands in the row of places at home
home_of : {T : Type 0} (rooms : List (Room T)) (slot : ℕ) (home : maybe.Option (Room T)) → get_elem? (map some rooms) slot ≡ some home → (room : Room T) × (slice_get rooms slot ≡ Some room) × (home ≡ some room)
home_of [] slot home e = absurd (some-ne-none home (sym e))
home_of (room ∷ rooms) zero home e = (room, refl, sym (some-injective (some room) home e))
home_of (room ∷ rooms) (suc slot) home e = home_of rooms slot home e

home_at : {T : Type 0} (rooms : List (Room T)) (slot : ℕ) (room : Room T) → slice_get rooms slot ≡ Some room → get_elem? (map some rooms) slot ≡ some (some room)
home_at [] slot room e = absurd (let wrong = e in cc)
home_at {T} (r ∷ rooms) zero room e = let same : r ≡ room = (let q = e in cc) in ap (λ (x : Room T). some (some x)) same
home_at (r ∷ rooms) (suc slot) room e = home_at rooms slot room e

pub opening_ruled : {T : Type 0} (begins : T → Type 0) (follows : T → T → Type 0) (spots : List (RoomSpot T)) (value : T) (rooms : List (Room T)) → IsLaid spots value rooms → Ruled begins follows spots (opening first_words rooms (Begin value))
opening_ruled {T} begins follows spots value rooms laid =
    inl (record {
      words = refl;
      size = length-map rooms some ∙ laid.size;
      value = value;
      views = refl;
      room = laid.first;
      home = home_at rooms 0 laid.first laid.first_at;
      lies = laid.lies 0 laid.first laid.first_at;
      version = laid.version;
      whole = laid.whole 0 laid.first laid.first_at;
      others = λ slot home l e.
          let found = home_of rooms slot home e in
          (found.0, found.2, laid.lies slot found.0 found.1, laid.empty slot found.0 l found.1, laid.whole slot found.0 found.1);
    })
