-- What a secondary was told, when it is told again, and what becomes of that (RFC 1996, 3.6; own). Times are in milliseconds.
use Rattle.std.specs.Prelude.{ℕ, Bool, true, false, ◌+◌, ◌-◌, ◌*◌, ◌&&◌, ◌||◌, not, ◌==◌, min, nat_lt, nat_le, List, [], ◌∷◌, Option, Some, None, if◌then◌else◌}
use Rattle.dns_name.specs.Name.{Name}
use Rattle.notify.specs.Notify.{is_answer}
use Rattle.notify.specs.declared.secondary.Secondary.{Secondary}
use Rattle.notify.specs.declared.secondary.Telling.{Telling}

-- how long the first wait is, which is also the least time between two NOTIFYs to one secondary: a second
abbrev pub first_wait : ℕ
first_wait = 1000

-- how long a wait is at most: a minute
abbrev pub longest_wait : ℕ
longest_wait = 60000

-- how many copies of a NOTIFY are sent at most: the first, and ten more
abbrev pub most_copies : ℕ
most_copies = 11

-- the wait after the one that has ended: twice as long, up to the longest
abbrev pub next_wait : ℕ → ℕ
next_wait wait = min (2 * wait) longest_wait

-- the first copy of a version's NOTIFY is sent
abbrev pub told_first : ℕ → ℕ → ℕ → Telling
told_first number id time = record { number = number; id = id; copies = 1; wait = first_wait; at = time; answered = false }

-- another copy is sent
abbrev pub told_again : ℕ → Telling → Telling
told_again time t = record t { copies = min (t.copies + 1) most_copies; wait = next_wait t.wait; at = time }

-- what is told where a version of this number is served: the next copy where it was told already, else the first
abbrev pub next_notify : ℕ → ℕ → ℕ → Option Telling → Telling
next_notify number id time None = told_first number id time
next_notify number id time (Some t) = if t.number == number then told_again time t else told_first number id time

-- whether what is due is to tell of it as one that doesn't answer: it hasn't answered so many NOTIFYs in a row, and wasn't told of
-- yet
abbrev pub falls_silent : Secondary → Bool
falls_silent s = nat_le most_copies s.unanswered && not s.silent

-- a secondary to which nothing more is due of the version that it was told last: it has answered, or it has had all copies, and needn't
-- be told of as one that doesn't answer
abbrev pub is_done_with : Secondary → Telling → Bool
is_done_with s t = t.answered || (nat_le most_copies t.copies && not (falls_silent s))

-- in how many milliseconds something is due to a secondary that was told so, where a version of this number is served; none where
-- nothing is: that version is older than the one that it was told, or it is done with
abbrev pub due_after : Secondary → ℕ → ℕ → Option Telling → Option ℕ
due_after s time number None = Some 0
due_after s time number (Some t) =
    if nat_lt number t.number then None
    else if nat_lt t.number number then Some (first_wait - (time - t.at))
    else if is_done_with s t then None
    else Some (t.wait - (time - t.at))

-- and to a secondary
abbrev pub due_in : ℕ → ℕ → Secondary → Option ℕ
due_in time number s = due_after s time number s.telling

-- whether something is due to it
abbrev pub is_now : Option ℕ → Bool
is_now None = false
is_now (Some wait) = wait == 0

abbrev pub is_due : ℕ → ℕ → Secondary → Bool
is_due time number s = is_now (due_in time number s)

-- the lesser of two waits; none of none
abbrev pub sooner : Option ℕ → Option ℕ → Option ℕ
sooner None b = b
sooner (Some a) None = Some a
sooner (Some a) (Some b) = Some (min a b)

-- the least of waits; none where there is none
abbrev pub soonest : List (Option ℕ) → Option ℕ
soonest [] = None
soonest (wait ∷ waits) = sooner wait (soonest waits)

-- it is told of
abbrev pub as_silent : Secondary → Secondary
as_silent s = record s { silent = true }

-- it is sent a NOTIFY, and told so
abbrev pub as_notified : Telling → Secondary → Secondary
as_notified telling s = record s { telling = Some telling; unanswered = min (s.unanswered + 1) most_copies }

-- whether octets from it answer what it was told last, and it hasn't answered that yet
abbrev pub answers_told : Name → List ℕ → Option Telling → Bool
answers_told apex octets None = false
answers_told apex octets (Some t) = not t.answered && is_answer apex t.id octets

abbrev pub is_answered_by : Name → List ℕ → Secondary → Bool
is_answered_by apex octets s = answers_told apex octets s.telling

-- the telling is answered
abbrev pub answered_telling : Option Telling → Option Telling
answered_telling None = None
answered_telling (Some t) = Some (record t { answered = true })

-- it has answered
abbrev pub as_answered : Secondary → Secondary
as_answered s = record s { telling = answered_telling s.telling; unanswered = 0; silent = false }
