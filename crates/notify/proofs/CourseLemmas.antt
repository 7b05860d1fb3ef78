-- What a secondary is sent is in order.
use Rattle.std.proofs.Common.{◌≡◌, Bool, ℕ, ◌+◌, ◌-◌, ◌<◌, ◌≤◌, true, false, List, [], ◌∷◌, Option, None, Some, refl, sym, ap, subst, ◌∙◌, arith, le_refl, leb, ltb, eqb}
use Rattle.std.specs.Prelude.{nat_lt, ◌==◌, if◌then◌else◌}
use Rattle.std.proofs.lemmas.Bool.{false≢true}
use Rattle.std.proofs.lemmas.Bool.Decides.{nat_tests}
use Rattle.notify.specs.Course.{Sending, sending_of, Course, FollowsOn, InOrder, begins, passes, reported, silent, answered}
use Rattle.notify.specs.Notified.{untold}
use Rattle.notify.specs.Copies.{told_first, told_again, next_notify, is_now, is_done_with, due_after, is_due, as_silent, as_notified, answered_telling, as_answered}
use Rattle.notify.specs.declared.secondary.Secondary.{Secondary}
use Rattle.notify.specs.declared.secondary.Telling.{Telling}

-- what is known of what was told last: it was sent last, before now, and the wait behind it is a second or more
abbrev IsKnown : List Sending → ℕ → Option Telling → Type 0
IsKnown [] time None = Unit {0}
IsKnown [] time (Some t) = ⊥
IsKnown (last ∷ sent) time None = ⊥
IsKnown (last ∷ sent) time (Some t) = (last.number ≡ t.number) × (last.id ≡ t.id) × (last.time ≡ t.at) × (t.at ≤ time) × (1000 ≤ t.wait)

-- where something is due, the version isn't older, and the least wait is over
pub record IsRipe (time number : ℕ) (t : Telling) : Type 0 where
  pub newer : t.number ≤ number
  pub over : t.at + 1000 ≤ time

over_at : (wait time at : ℕ) → 1000 ≤ wait → (wait - (time - at) == 0) ≡ true → at + 1000 ≤ time
over_at wait time at long zero = grind (arith, nat_tests)

ripe : (s : Secondary) (time number : ℕ) (t : Telling) (older newer done : Bool) → nat_lt number t.number ≡ older → 1000 ≤ t.wait
    → is_now (if older then None else if newer then Some (1000 - (time - t.at)) else if done then None else Some (t.wait - (time - t.at))) ≡ true → IsRipe time number t
ripe s time number t true newer done is long due = absurd (false≢true due)
ripe s time number t false true done is long due = record { newer = grind (arith, nat_tests); over = over_at 1000 time t.at (le_refl 1000) due }
ripe s time number t false false true is long due = absurd (false≢true due)
ripe s time number t false false false is long due = record { newer = grind (arith, nat_tests); over = over_at t.wait time t.at long due }

-- the next one follows on what was sent last
next_known : (sent : List Sending) (time number id : ℕ) (s : Secondary) (tell : Option Telling) → InOrder sent × IsKnown sent time tell → is_now (due_after s time number tell) ≡ true
    → InOrder (sending_of (next_notify number id time tell) time ∷ sent) × IsKnown (sending_of (next_notify number id time tell) time ∷ sent) time (Some (next_notify number id time tell))
next_known [] time number id s None known due = (tt, (refl, refl, refl, le_refl time, le_refl 1000))
next_known [] time number id s (Some t) known due = absurd known.1
next_known (last ∷ sent) time number id s None known due = absurd known.1
next_known (last ∷ sent) time number id s (Some t) known due =
    let k = known.1 in
    let r : IsRipe time number t = ripe s time number t (nat_lt number t.number) (nat_lt t.number number) (is_done_with s t) refl k.4 due in
    goes (t.number == number) refl r
  where
    goes : (b : Bool) → (t.number == number) ≡ b → IsRipe time number t
        → InOrder (sending_of (if b then told_again time t else told_first number id time) time ∷ last ∷ sent) × IsKnown (sending_of (if b then told_again time t else told_first number id time) time ∷ last ∷ sent) time (Some (if b then told_again time t else told_first number id time))
    goes true is r =
        let k = known.1 in
        ((record { newer = omega (arith, k.0); later = omega (arith, k.2, r.over); same = λ _. k.1 }, known.0), (refl, refl, refl, le_refl time, omega (arith, k.4)))
    goes false is r =
        let k = known.1 in
        let other : t.number ≡ number → ⊥ = λ e. grind (arith, nat_tests) in
        ((record { newer = omega (arith, k.0, r.newer); later = omega (arith, k.2, r.over); same = λ e. absurd (other (sym k.0 ∙ e)) }, known.0), (refl, refl, refl, le_refl time, le_refl 1000))

later_known : (sent : List Sending) (time later : ℕ) (tell : Option Telling) → time ≤ later → IsKnown sent time tell → IsKnown sent later tell
later_known [] time later None passed known = tt
later_known [] time later (Some t) passed known = known
later_known (last ∷ sent) time later None passed known = known
later_known (last ∷ sent) time later (Some t) passed known = (known.0, known.1, known.2, omega (arith, passed, known.3), known.4)

answered_known : (sent : List Sending) (time : ℕ) (tell : Option Telling) → IsKnown sent time tell → IsKnown sent time (answered_telling tell)
answered_known [] time None known = tt
answered_known [] time (Some t) known = known
answered_known (last ∷ sent) time None known = known
answered_known (last ∷ sent) time (Some t) known = known

-- what is known by way of equal things
abbrev Knows : List Sending → ℕ → Secondary → Type 0
Knows sent time s = InOrder sent × IsKnown sent time s.telling

known_as : (sent : List Sending) (time : ℕ) (s later : Secondary) → later ≡ s → Knows sent time s → Knows sent time later
known_as sent time s later is known = subst (λ (x : Secondary). Knows sent time x) (sym is) known

known_of : (sent : List Sending) (time : ℕ) (s : Secondary) → Course sent time s → Knows sent time s
known_of sent time s (begins address none is) =
    subst (λ (ss : List Sending). Knows ss time s) (sym none) (known_as [] time (untold address) s is (tt, tt))
known_of sent time s (passes {before = before} course passed) =
    let k = known_of sent before s course in
    (k.0, later_known sent before time s.telling passed k.1)
known_of sent time s (reported {sent = before} {s = was} number id course due speaks more is) =
    let next : Telling = next_notify number id time was.telling in
    subst (λ (ss : List Sending). Knows ss time s) (sym more)
    (known_as (sending_of next time ∷ before) time (as_notified next was) s is (next_known before time number id was was.telling (known_of before time was course) due))
known_of sent time s (silent {s = was} number course due falls is) = known_as sent time (as_silent was) s is (known_of sent time was course)
known_of sent time s (answered {s = was} apex octets course heard is) =
    let k = known_of sent time was course in
    known_as sent time (as_answered was) s is (k.0, answered_known sent time was.telling k.1)

pub in_order : (sent : List Sending) (time : ℕ) (s : Secondary) → Course sent time s → InOrder sent
in_order sent time s course = (known_of sent time s course).0

-- to one that has answered nothing is due but a newer version
only_newer : (s : Secondary) (time number : ℕ) (t : Telling) (newer : Bool) → nat_lt t.number number ≡ newer → t.answered ≡ true → is_now (due_after s time number (Some t)) ≡ true → t.number < number
only_newer s time number t newer is done due = grind (arith, nat_tests)

pub newer_alone : (time number : ℕ) (s : Secondary) (t : Telling) → s.telling ≡ Some t → t.answered ≡ true → is_due time number s ≡ true → t.number < number
newer_alone time number s t is done due = only_newer s time number t (nat_lt t.number number) refl done (subst (λ (tell : Option Telling). is_now (due_after s time number tell) ≡ true) is due)
