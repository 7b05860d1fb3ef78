-- Whether a server is healthy (own).
use Rattle.std.specs.Prelude.{ℕ, ◌+◌, ◌-◌, Bool, List, [], ◌∷◌, ◌++◌, codes, decimal, nat_lt, Option, Some, None, if◌then◌else◌}
use Rattle.http_page.specs.declared.health.Health.{Health}
use Rattle.http_page.specs.declared.health.Health.TheVariants.{Healthy, Ending, StoreFailing, Stuck}
use Rattle.http_page.specs.declared.reply.Status.{Status}
use Rattle.http_page.specs.declared.reply.Status.TheVariants.{Ok, Unavailable}

-- whether a thread that has been busy since a time has been for more than ten seconds
abbrev pub is_stuck : ℕ → ℕ → Bool
is_stuck now since = nat_lt 10000 (now - since)

-- the place of the first such thread
abbrev pub first_stuck : ℕ → ℕ → List ℕ → Option ℕ
first_stuck place now [] = None
first_stuck place now (since ∷ others) = if is_stuck now since then Some place else first_stuck (place + 1) now others

-- the health of a server whose threads alone matter, by the first that is stuck
abbrev pub health_of_threads : Option ℕ → Health
health_of_threads None = Healthy
health_of_threads (Some place) = Stuck place

-- a server that is ending, whose store did not take the last write, or of which a thread does not go round isn't healthy; the first of
-- these that holds is reported
abbrev pub health_of : Bool → Bool → List ℕ → ℕ → Health
health_of is_ending is_store_failing busy_since now =
    if is_ending then Ending
    else if is_store_failing then StoreFailing
    else health_of_threads (first_stuck 0 now busy_since)

-- the status: 200 of a healthy server, 503 of any other (RFC 9110, 15.6.4)
abbrev pub health_status : Health → Status
health_status Healthy = Ok
health_status Ending = Unavailable
health_status StoreFailing = Unavailable
health_status (Stuck place) = Unavailable

-- the line of the reply
abbrev pub health_text : Health → List ℕ
health_text Healthy = codes "ok\n"
health_text Ending = codes "ending\n"
health_text StoreFailing = codes "store failing\n"
health_text (Stuck place) = codes "thread " ++ (decimal place ++ codes " is stuck\n")
