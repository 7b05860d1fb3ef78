-- What the rule is behind the opening, and what each right is over the whole rule.
use Rattle.std.proofs.Common.{◌≡◌, ◌⊎◌, sym, ap, ◌∙◌, subst, ℕ, zero, suc, inl, inr, List, [], ◌∷◌}
use mathlib.Core.Option.{some, some-injective, some-ne-none}
use lib.ListN.{get_elem?}
use Rattle.atomic_table.specs.Table.{Me, Allows, Splits, Joins}
use Rattle.counted_handles.specs.declared.view.View.{View}
use Rattle.counted_handles.specs.declared.view.View.TheVariants.{Begin, Began, Publishes, Reads, Hosts, Has, HasWeakly, Buries, Fades, Resets, Frees, Ends, Gone}
use Rattle.counted_handles.specs.Shown.{Room, Board}
use Rattle.counted_handles.specs.Ruled.{RoomSpot, Holds, Ended, Ruled, IsQuiet}

-- a view of a seat that has something between the opening and the end
abbrev pub IsLater : {T : Type 0} → View T → Type 0
IsLater (Begin value) = ⊥
IsLater (Began spot) = ⊥
IsLater (Publishes p) = Unit {0}
IsLater (Reads r) = Unit {0}
IsLater (Hosts r hold) = Unit {0}
IsLater (Has mark) = Unit {0}
IsLater (Buries slot name) = ⊥
IsLater (HasWeakly tie) = Unit {0}
IsLater (Fades slot spot) = Unit {0}
IsLater (Resets slot) = Unit {0}
IsLater (Frees slot) = Unit {0}
IsLater (Ends slot spot) = ⊥
IsLater Gone = ⊥

-- such a view isn't one of a cell's end
not_quiet : {T : Type 0} (spots : List (RoomSpot T)) (view : View T) → IsLater view → IsQuiet spots view → ⊥
not_quiet spots (Begin value) is quiet = is
not_quiet spots (Began spot) is quiet = is
not_quiet spots (Publishes p) is quiet = quiet
not_quiet spots (Reads r) is quiet = quiet
not_quiet spots (Hosts r hold) is quiet = quiet
not_quiet spots (Has mark) is quiet = quiet
not_quiet spots (Buries slot name) is quiet = is
not_quiet spots (HasWeakly tie) is quiet = quiet
not_quiet spots (Fades slot spot) is quiet = quiet
not_quiet spots (Resets slot) is quiet = quiet
not_quiet spots (Frees slot) is quiet = quiet
not_quiet spots (Ends slot spot) is quiet = is
not_quiet spots Gone is quiet = is

-- the one view of a list is at its beginning
only_view : {T : Type 0} (views : List (View T)) (view here : View T) (id : ℕ) → views ≡ view ∷ [] → get_elem? views id ≡ some here → view ≡ here
only_view {T} views view here zero is at = some-injective view here (sym (ap (λ (l : List (View T)). get_elem? l 0) is) ∙ at)
only_view {T} views view here (suc id) is at = absurd (some-ne-none here (sym at ∙ ap (λ (l : List (View T)). get_elem? l (suc id)) is))

module _ {T : Type 0} (begins : T → Type 0) (follows : T → T → Type 0) (spots : List (RoomSpot T)) where
  pub later : (s : Board T) (id : ℕ) (view : View T) → IsLater view → get_elem? s.views id ≡ some view → Ruled begins follows spots s → Holds begins follows spots s
  later s id view is at (inl o) = absurd (subst IsLater (sym (only_view s.views (Begin o.value) view id o.views at)) is)
  later s id view is at (inr (inl o)) = absurd (subst IsLater (sym (only_view s.views (Began o.spot) view id o.views at)) is)
  later s id view is at (inr (inr (inl h))) = h
  later s id view is at (inr (inr (inr ended))) = absurd (not_quiet spots view is (ended.quiet id view at))

  -- behind the opening, with a view that isn't of it
  pub opened : (s : Board T) (id : ℕ) (view : View T) → ((value : T) → Begin value ≡ view → ⊥) → ((spot : RoomSpot T) → Began spot ≡ view → ⊥) → get_elem? s.views id ≡ some view → Ruled begins follows spots s → Holds begins follows spots s ⊎ Ended spots s
  opened s id view not_begin not_began at (inl o) = absurd (not_begin o.value (only_view s.views (Begin o.value) view id o.views at))
  opened s id view not_begin not_began at (inr (inl o)) = absurd (not_began o.spot (only_view s.views (Began o.spot) view id o.views at))
  opened s id view not_begin not_began at (inr (inr r)) = r

  pub allowed_later : (n id : ℕ) (me : Me (Room T) (View T)) (i : ℕ) (f : ℕ → ℕ) (tells : ℕ → Me (Room T) (View T) → Type 0) → IsLater me.0 → Allows (Holds begins follows spots) n id me i f tells → Allows (Ruled begins follows spots) n id me i f tells
  allowed_later n id me i f tells is allowed s h size at bound =
      let step = allowed s (later s id me.0 is at h) size at bound in
      (step.0, step.1, step.2, inr (inr (inl step.3)), step.4)

  pub splits_later : (id : ℕ) (view left right : View T) → IsLater view → Splits (Holds begins follows spots) id view left right → Splits (Ruled begins follows spots) id view left right
  splits_later id view left right is splits s h at = inr (inr (inl (splits s (later s id view is at h) at)))

  pub joins_later : (id other : ℕ) (view guest both spent : View T) → IsLater view → Joins (Holds begins follows spots) id view other guest both spent → Joins (Ruled begins follows spots) id view other guest both spent
  joins_later id other view guest both spent is joins s h at apart there = inr (inr (inl (joins s (later s id view is at h) at apart there)))
