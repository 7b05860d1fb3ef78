-- The seats of a weak owner and of a reader, and the version of what an upgrade gives.
use Rattle.std.proofs.Common.{◌≡◌, sym, ◌∙◌, subst, List, [], ◌∷◌, Result, Ok, IfOk}
use Rattle.counted_handles.specs.declared.view.Mark.{Mark}
use Rattle.counted_handles.specs.declared.view.Tie.{Tie}
use Rattle.counted_handles.specs.declared.view.Publishing.{Publishing}
use Rattle.counted_handles.specs.declared.view.Reading.{Reading}
use Rattle.counted_handles.specs.declared.view.View.{View}
use Rattle.counted_handles.specs.declared.view.View.TheVariants.{Publishes, Reads, HasWeakly}
use Rattle.counted_handles.specs.Ruled.{version_of}
use Rattle.counted_handles.specs.Tells.{Sat, IsOfTie}
use Rattle.counted_handles.specs.Calls.{CanRead, CanMeet, CanNote, IsGuest, IsWhole}
use Rattle.counted_handles.specs.Owned.{tied_version}
use Rattle.counted_handles.proofs.CallLemmas.{only_one}

pub guest_seat : {T : Type 0} (r : Reading T) (views : List (View T)) (me : Sat T) → views ≡ me.0 ∷ [] → me.1 ≡ [] → CanRead r views → IsGuest r me
guest_seat {T} r views me is none can = let view = only_one me.0 (Reads r) (sym is ∙ can.0) in ((λ i. (view i, none i)), can.1, can.2)

pub whole_seat : {T : Type 0} (r : Reading T) (views : List (View T)) (me : Sat T) → views ≡ me.0 ∷ [] → me.1 ≡ [] → CanMeet r views → IsWhole r me
whole_seat {T} r views me is none can = let view = only_one me.0 (Reads r) (sym is ∙ can.0) in ((λ i. (view i, none i)), can.1)

pub publisher_seat : {T : Type 0} (p : Publishing T) (views : List (View T)) (me : Sat T) → views ≡ me.0 ∷ [] → me.1 ≡ [] → CanNote p views → me ≡ (Publishes p, [])
publisher_seat {T} p views me is none can = let view = only_one me.0 (Publishes p) (sym is ∙ can.0) in λ i. (view i, none i)

pub weak_seat : {T : Type 0} (tie : Tie T) (views : List (View T)) (me : Sat T) → views ≡ me.0 ∷ [] → me.1 ≡ [] → views ≡ HasWeakly tie ∷ [] → me ≡ (HasWeakly tie, [])
weak_seat {T} tie views me is none of = let view = only_one me.0 (HasWeakly tie) (sym is ∙ of) in λ i. (view i, none i)

pub lifted_version : {T : Type 0} (tie : Tie T) (mark : Mark T) → IsOfTie tie mark → version_of mark ≡ tied_version tie
lifted_version tie mark of = λ i. record { number = of.number_is i; value = of.value_is i }

-- what holds of each Ok holds of this one
pub if_ok_at : {A E : Type 0} (P : A → Type 0) (x : Result A E) (a : A) → x ≡ Ok a → IfOk x P → P a
if_ok_at P x a is holds = subst (λ y. IfOk y P) is holds
