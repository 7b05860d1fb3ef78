-- What the rule allows a reader that takes an owner in, and a publisher that notes one, for seats whose view is known by an equation.
use Rattle.std.proofs.Common.{◌≡◌, refl, sym, ap, ◌∙◌, subst, ℕ, suc, ◌+◌, ◌-◌, ◌%◌, ◌^◌, ◌<◌, true, false, List, [], Option, Some, None}
use Rattle.atomic_table.specs.Table.{Allows, Splits, Joins, carried_after}
use Rattle.cell_core.specs.Words.{slots, notes}
use Rattle.counted_handles.specs.declared.view.Mark.{Mark}
use Rattle.counted_handles.specs.declared.view.Tie.{Tie}
use Rattle.counted_handles.specs.declared.view.Hold.{Hold}
use Rattle.counted_handles.specs.declared.view.Hold.TheVariants.{Once, Double, Loose, Mixed}
use Rattle.counted_handles.specs.declared.view.Reading.{Reading}
use Rattle.counted_handles.specs.declared.view.Publishing.{Publishing}
use Rattle.counted_handles.specs.declared.view.View.{View}
use Rattle.counted_handles.specs.declared.view.View.TheVariants.{Publishes, Reads, Hosts, Has, HasWeakly, Gone}
use Rattle.counted_handles.specs.Ruled.{RoomSpot, Ruled}
use Rattle.counted_handles.specs.Cuts.{kept_share, given_share, hosting, kept_gain, given_gain, kept_reader, given_owner, sharing, untied, tie_view, kept_untied, given_tie}
use Rattle.counted_handles.specs.Tells.{Sat, tie_of, Noted, Cloned, IsOfTie, SeenAlive}
use Rattle.counted_handles.specs.Calls.{with_grant_less, IsCloned, IsFound, IsLifted, IsNoted}
use Rattle.counted_handles.specs.Plays.{NoteTells, NoteOf, RaiseTells, SeeTells, FadeTells}
use Rattle.counted_handles.proofs.CallLemmas.{at_seat}
use Rattle.counted_handles.proofs.HostStep.{clones, lifts, sees, finds}
use Rattle.counted_handles.proofs.NoteStep.{notes_one, lapses}
use Rattle.counted_handles.proofs.MergeStep.{receives_once, receives_loose, shares}
use Rattle.counted_handles.proofs.SplitStep.{splits_untied, splits_double, splits_mixed, splits_once, splits_loose}
use Rattle.counted_handles.proofs.Later.{splits_later, joins_later}

module _ {T : Type 0} (begins : T → Type 0) (follows : T → T → Type 0) (spots : List (RoomSpot T)) where
  pub receive_allowed : (id other : ℕ) (view guest : View T) (r : Reading T) (mark : Mark T) → view ≡ Reads r → guest ≡ Has mark → r.share ≡ None → Joins (Ruled begins follows spots) id view other guest (hosting view guest) Gone
  receive_allowed id other view guest r mark is is_guest whole =
      subst (λ v. Joins (Ruled begins follows spots) id v other guest (hosting v guest) Gone) (sym is)
      (subst (λ w. Joins (Ruled begins follows spots) id (Reads r) other w (hosting (Reads r) w) Gone) (sym is_guest)
      (joins_later begins follows spots id other (Reads r) (Has mark) (Hosts r (Once mark)) Gone tt (receives_once begins follows spots id other r mark whole)))

  pub receive_weak_allowed : (id other : ℕ) (view guest : View T) (r : Reading T) (tie : Tie T) → view ≡ Reads r → guest ≡ HasWeakly tie → r.share ≡ None → Joins (Ruled begins follows spots) id view other guest (hosting view guest) Gone
  receive_weak_allowed id other view guest r tie is is_guest whole =
      subst (λ v. Joins (Ruled begins follows spots) id v other guest (hosting v guest) Gone) (sym is)
      (subst (λ w. Joins (Ruled begins follows spots) id (Reads r) other w (hosting (Reads r) w) Gone) (sym is_guest)
      (joins_later begins follows spots id other (Reads r) (HasWeakly tie) (Hosts r (Loose tie false)) Gone tt (receives_loose begins follows spots id other r tie whole)))

  pub borrow_allowed : (id other : ℕ) (view guest : View T) (p : Publishing T) (mark : Mark T) → view ≡ Publishes p → guest ≡ Has mark → p.share ≡ None → Joins (Ruled begins follows spots) id view other guest (sharing view guest) Gone
  borrow_allowed id other view guest p mark is is_guest whole =
      subst (λ v. Joins (Ruled begins follows spots) id v other guest (sharing v guest) Gone) (sym is)
      (subst (λ w. Joins (Ruled begins follows spots) id (Publishes p) other w (sharing (Publishes p) w) Gone) (sym is_guest)
      (joins_later begins follows spots id other (Publishes p) (Has mark) (Publishes (record p { share = Some (Once mark) })) Gone tt (shares begins follows spots id other p mark whole)))

  pub clone_allowed : (n id i : ℕ) (me : Sat T) (r : Reading T) (mark : Mark T) → n ≡ slots → i ≡ suc (mark.slot + mark.slot) → me ≡ (Hosts r (Once mark), []) → 0 < r.left → Allows (Ruled begins follows spots) n id me i (λ k. (k + 1) % 2 ^ 64) (λ found new. RaiseTells me.0 found new)
  clone_allowed n id i me r mark count index is some_left =
      subst (λ j. Allows (Ruled begins follows spots) n id me j (λ k. (k + 1) % 2 ^ 64) (λ found new. RaiseTells me.0 found new)) (sym index)
      (at_seat begins follows spots n id id (suc (mark.slot + mark.slot)) me (Hosts r (Once mark), []) (λ k. (k + 1) % 2 ^ 64) (λ m found new. RaiseTells m.0 found new) count refl is tt (clones begins follows spots id r mark some_left))

  pub lift_allowed : (n id i : ℕ) (me : Sat T) (r : Reading T) (tie : Tie T) → n ≡ slots → i ≡ suc (tie.slot + tie.slot) → me ≡ (Hosts r (Loose tie true), []) → 0 < r.left → Allows (Ruled begins follows spots) n id me i (λ k. (k + 1) % 2 ^ 64) (λ found new. RaiseTells me.0 found new)
  lift_allowed n id i me r tie count index is some_left =
      subst (λ j. Allows (Ruled begins follows spots) n id me j (λ k. (k + 1) % 2 ^ 64) (λ found new. RaiseTells me.0 found new)) (sym index)
      (at_seat begins follows spots n id id (suc (tie.slot + tie.slot)) me (Hosts r (Loose tie true), []) (λ k. (k + 1) % 2 ^ 64) (λ m found new. RaiseTells m.0 found new) count refl is tt (lifts begins follows spots id r tie some_left))

  pub find_allowed : (n id i : ℕ) (me : Sat T) (r : Reading T) (mark : Mark T) → n ≡ slots → i ≡ suc (mark.slot + mark.slot) → me ≡ (Hosts r (Once mark), []) → Allows (Ruled begins follows spots) n id me i (λ k. k) (λ found new. SeeTells me.0 found new)
  find_allowed n id i me r mark count index is =
      subst (λ j. Allows (Ruled begins follows spots) n id me j (λ k. k) (λ found new. SeeTells me.0 found new)) (sym index)
      (at_seat begins follows spots n id id (suc (mark.slot + mark.slot)) me (Hosts r (Once mark), []) (λ k. k) (λ m found new. SeeTells m.0 found new) count refl is tt (finds begins follows spots id r mark))

  pub see_allowed : (n id i : ℕ) (me : Sat T) (r : Reading T) (tie : Tie T) → n ≡ slots → i ≡ suc (tie.slot + tie.slot) → me ≡ (Hosts r (Loose tie false), []) → Allows (Ruled begins follows spots) n id me i (λ k. k) (λ found new. SeeTells me.0 found new)
  see_allowed n id i me r tie count index is =
      subst (λ j. Allows (Ruled begins follows spots) n id me j (λ k. k) (λ found new. SeeTells me.0 found new)) (sym index)
      (at_seat begins follows spots n id id (suc (tie.slot + tie.slot)) me (Hosts r (Loose tie false), []) (λ k. k) (λ m found new. SeeTells m.0 found new) count refl is tt (sees begins follows spots id r tie false))

  pub note_allowed : (n id i : ℕ) (me : Sat T) (p : Publishing T) (mark : Mark T) → n ≡ slots → id ≡ 0 → i ≡ suc (suc (mark.slot + mark.slot)) → me ≡ (Publishes p, []) → p.share ≡ Some (Once mark) → p.noted < notes → Allows (Ruled begins follows spots) n id me i (λ k. (k + 1) % 2 ^ 64) (λ _ new. NoteTells me.0 new)
  note_allowed n id i me p mark count seat index is share few =
      subst (λ j. Allows (Ruled begins follows spots) n id me j (λ k. (k + 1) % 2 ^ 64) (λ _ new. NoteTells me.0 new)) (sym index)
      (at_seat begins follows spots n id 0 (suc (suc (mark.slot + mark.slot))) me (Publishes p, []) (λ k. (k + 1) % 2 ^ 64) (λ m _ new. NoteTells m.0 new) count seat is tt
      (λ s h size at bound.
      let made = notes_one begins follows spots p mark share few s h size at bound in
      (made.0, made.1, made.2, made.3, subst (λ x. NoteOf p x (made.0, carried_after [] made.1)) (sym share) made.4)))

  pub lapse_allowed : (n id i : ℕ) (me : Sat T) (tie : Tie T) → n ≡ slots → i ≡ suc (suc (tie.slot + tie.slot)) → me ≡ (HasWeakly tie, []) → Allows (Ruled begins follows spots) n id me i (λ k. (k + (2 ^ 64 - 1)) % 2 ^ 64) (λ found new. FadeTells me.0 found new)
  lapse_allowed n id i me tie count index is =
      subst (λ j. Allows (Ruled begins follows spots) n id me j (λ k. (k + (2 ^ 64 - 1)) % 2 ^ 64) (λ found new. FadeTells me.0 found new)) (sym index)
      (at_seat begins follows spots n id id (suc (suc (tie.slot + tie.slot))) me (HasWeakly tie, []) (λ k. (k + (2 ^ 64 - 1)) % 2 ^ 64) (λ m found new. FadeTells m.0 found new) count refl is tt (lapses begins follows spots id tie))

  -- what a reader has gained goes off, and the owner that it took in
  pub gain_splits : (id : ℕ) (view : View T) (r : Reading T) (mark : Mark T) → view ≡ Hosts r (Double mark) → Splits (Ruled begins follows spots) id view (kept_gain view) (given_gain view)
  gain_splits id view r mark is =
      subst (λ v. Splits (Ruled begins follows spots) id v (kept_gain v) (given_gain v)) (sym is)
      (splits_later begins follows spots id (Hosts r (Double mark)) (Hosts r (Once mark)) (Has mark) tt (splits_double begins follows spots id r mark))

  pub gain_weak_splits : (id : ℕ) (view : View T) (r : Reading T) (mark : Mark T) (tie : Tie T) → view ≡ Hosts r (Mixed mark tie) → Splits (Ruled begins follows spots) id view (kept_gain view) (given_gain view)
  gain_weak_splits id view r mark tie is =
      subst (λ v. Splits (Ruled begins follows spots) id v (kept_gain v) (given_gain v)) (sym is)
      (splits_later begins follows spots id (Hosts r (Mixed mark tie)) (Hosts r (Loose tie false)) (Has mark) tt (splits_mixed begins follows spots id r mark tie))

  pub depart_splits : (id : ℕ) (view : View T) (r : Reading T) (mark : Mark T) → view ≡ Hosts r (Once mark) → Splits (Ruled begins follows spots) id view (kept_reader view) (given_owner view)
  depart_splits id view r mark is =
      subst (λ v. Splits (Ruled begins follows spots) id v (kept_reader v) (given_owner v)) (sym is)
      (splits_later begins follows spots id (Hosts r (Once mark)) (Reads r) (Has mark) tt (splits_once begins follows spots id r mark))

  pub depart_weak_splits : (id : ℕ) (view : View T) (r : Reading T) (tie : Tie T) → view ≡ Hosts r (Loose tie false) → Splits (Ruled begins follows spots) id view (kept_reader view) (given_owner view)
  depart_weak_splits id view r tie is =
      subst (λ v. Splits (Ruled begins follows spots) id v (kept_reader v) (given_owner v)) (sym is)
      (splits_later begins follows spots id (Hosts r (Loose tie false)) (Reads r) (HasWeakly tie) tt (splits_loose begins follows spots id r tie false))

  pub untie_splits : (id : ℕ) (view : View T) (p : Publishing T) (mark : Mark T) (tie : Tie T) → view ≡ Publishes p → p.share ≡ Some (Mixed mark tie) → Splits (Ruled begins follows spots) id view (kept_untied view) (given_tie view)
  untie_splits id view p mark tie is share =
      subst (λ v. Splits (Ruled begins follows spots) id v (kept_untied v) (given_tie v)) (sym is)
      (subst (λ (x : Option (Hold T)). Splits (Ruled begins follows spots) id (Publishes p) (Publishes (record p { share = untied x })) (tie_view x)) (sym share)
      (splits_later begins follows spots id (Publishes p) (Publishes (record p { share = Some (Once mark) })) (HasWeakly tie) tt (splits_untied begins follows spots id p mark tie share)))

-- the publisher that has taken an owner in, has noted it, and has given the weak owner off
abbrev pub lending : {T : Type 0} → Publishing T → Mark T → Publishing T
lending p mark = record p { share = Some (Once mark) }

abbrev pub noted_as : {T : Type 0} → Publishing T → Mark T → Publishing T
noted_as p mark = record p { share = Some (Mixed mark (tie_of mark)); noted = p.noted + 1; fixed = None }

abbrev pub noted_once : {T : Type 0} → Publishing T → Mark T → Publishing T
noted_once p mark = record p { share = Some (Once mark); noted = p.noted + 1; fixed = None }

module _ {T : Type 0} where
  -- what the acts of a clone leave
  pub cloned_of : (r : Reading T) (mark : Mark T) (raised kept share last owner : Sat T) → Cloned r mark raised → kept ≡ (kept_gain raised.0, raised.1) → share ≡ (given_gain raised.0, []) → last ≡ (kept_reader kept.0, kept.1) → owner ≡ (given_owner kept.0, []) → IsCloned r mark last share owner
  cloned_of r mark raised kept share last owner reported is_kept is_share is_last is_owner =
      let kept_is : kept ≡ (Hosts (with_grant_less r) (Once mark), []) = is_kept ∙ ap (λ (m : Sat T). (kept_gain m.0, m.1)) reported in (
        is_last ∙ ap (λ (m : Sat T). (kept_reader m.0, m.1)) kept_is,
        is_share ∙ ap (λ (m : Sat T). (given_gain m.0, [])) reported,
        is_owner ∙ ap (λ (m : Sat T). (given_owner m.0, [])) kept_is,
      )

  -- a look's
  pub found_of : (r : Reading T) (mark : Mark T) (seen last owner : Sat T) → SeenAlive r mark seen → last ≡ (kept_reader seen.0, seen.1) → owner ≡ (given_owner seen.0, []) → IsFound r mark last owner
  found_of r mark seen last owner reported is_last is_owner = (
    is_last ∙ ap (λ (m : Sat T). (kept_reader m.0, m.1)) reported.0,
    is_owner ∙ ap (λ (m : Sat T). (given_owner m.0, [])) reported.0,
    reported.1,
  )

  -- an upgrade's that gives a share
  pub lifted_of : (r : Reading T) (tie : Tie T) (raised kept share last : Sat T) → (reported : (mark : Mark T) × IsOfTie tie mark × (raised ≡ (Hosts (with_grant_less r) (Mixed mark tie), []))) → kept ≡ (kept_gain raised.0, raised.1) → share ≡ (given_gain raised.0, []) → last ≡ (kept_reader kept.0, kept.1) → IsLifted r tie last share
  lifted_of r tie raised kept share last reported is_kept is_share is_last =
      record {
        mark = reported.0;
        of = reported.1;
        share_is = is_share ∙ ap (λ (m : Sat T). (given_gain m.0, [])) reported.2;
        me_is = is_last ∙ ap (λ (m : Sat T). (kept_reader m.0, m.1)) (is_kept ∙ ap (λ (m : Sat T). (kept_gain m.0, m.1)) reported.2);
      }

  -- a note's
  pub noted_of : (p : Publishing T) (mark : Mark T) (noted kept weak last owner : Sat T) → p.share ≡ None → Noted p mark noted → kept ≡ (kept_untied noted.0, noted.1) → weak ≡ (given_tie noted.0, []) → last ≡ (kept_share kept.0, kept.1) → owner ≡ (given_share kept.0, []) → IsNoted p mark last owner weak
  noted_of p mark noted kept weak last owner whole reported is_kept is_weak is_last is_owner =
      let kept_is : kept ≡ (Publishes (noted_once p mark), []) = is_kept ∙ ap (λ (m : Sat T). (kept_untied m.0, m.1)) reported in (
        is_last ∙ ap (λ (m : Sat T). (kept_share m.0, m.1)) kept_is ∙ (λ i. (Publishes (record p { share = sym whole i; noted = p.noted + 1; fixed = None }), [])),
        is_owner ∙ ap (λ (m : Sat T). (given_share m.0, [])) kept_is,
        is_weak ∙ ap (λ (m : Sat T). (given_tie m.0, [])) reported,
      )
