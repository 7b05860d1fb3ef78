-- What a table shows when the publisher makes a step.
use Rattle.std.proofs.Common.{◌≡◌, sym, ap, ◌∙◌, ℕ, ◌-◌, List, get_or, set, arith, Option, Some}
use Rattle.std.specs.List.{slice_get, slice_set}
use mathlib.Core.Option as maybe
use mathlib.Core.Option.{none, some}
use lib.ListN.{get_elem?}
use Rattle.cell_core.proofs.SeatLemmas.{set_there}
use Rattle.cell_core.specs.Words.{grants}
use Rattle.cell_core.specs.declared.words.Slot.{Slot}
use Rattle.counted_handles.specs.declared.view.Hold.{Hold}
use Rattle.counted_handles.specs.declared.view.Publishing.{Publishing}
use Rattle.counted_handles.specs.declared.view.View.TheVariants.{Publishes}
use Rattle.counted_handles.specs.Shown.{Room, Board, held_by, owner_of, left_of, lefts, slots_in, behind, shown}
use Rattle.counted_handles.proofs.Lists.{got_map, map_set, sum_set}
use Rattle.counted_handles.proofs.Frames.{publisher_here, publisher_is, noted_here, noted_is, state_is}

-- what the publisher is, and the owner that it is
pub how_is : {T : Type 0} (s : Board T) (p : Publishing T) → get_elem? s.views 0 ≡ some (Publishes p) → (shown s).publisher ≡ p.how
how_is s p at = publisher_is s.views (Publishes p) at

pub first_owner : {T : Type 0} (s : Board T) (p : Publishing T) → get_elem? s.views 0 ≡ some (Publishes p) → slice_get (shown s).owners 0 ≡ Some (held_by p.share)
first_owner s p at = got_map owner_of s.views 0 (Publishes p) at

-- a step that leaves the publisher's share and grants: the words and the places, and how far it has come
pub shown_publisher : {T : Type 0} (s : Board T) (words : List ℕ) (homes : List (maybe.Option (Room T))) (old new : Publishing T) (latest : ℕ) (table : List (Slot T)) → get_elem? s.views 0 ≡ some (Publishes old) → new.share ≡ old.share → new.left ≡ old.left → new.noted ≡ old.noted → get_or words 0 0 ≡ latest → slots_in (behind words) homes ≡ table → shown (record { words = words; homes = homes; views = set s.views 0 (Publishes new) }) ≡ record (shown s) { latest = latest; table = table; publisher = new.how }
shown_publisher {T} s words homes old new latest table at share left noted latest_is table_is =
    let sums = sum_set left_of s.views 0 (Publishes old) (Publishes new) at in
    state_is _ _ latest_is table_is (publisher_here s.views (Publishes old) (Publishes new) at)
    (map_set owner_of s.views 0 (Publishes new) ∙ ap (λ (x : Option (Hold T)). slice_set (shown s).owners 0 (held_by x)) share ∙ sym (set_there (shown s).owners 0 (held_by old.share) (first_owner s old at)))
    (ap (λ k. grants - k) (let e : lefts (set s.views 0 (Publishes new)) ≡ lefts s.views = omega (arith, sums, left) in e))
    (noted_here s.views (Publishes old) (Publishes new) at ∙ noted ∙ sym (noted_is s.views (Publishes old) at))
