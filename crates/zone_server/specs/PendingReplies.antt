-- Tickets for pending replies (own).
use Rattle.std.specs.Prelude.{◌≡◌, ◌⊎◌, ◌++◌, ℕ, List, [], ◌∷◌, Option, None, Some, length, slice_get, slice_set}
use Rattle.zone_server.specs.declared.update_result.UpdateResult.{UpdateResult}
use Rattle.zone_server.specs.declared.update_result.Poll.{Poll}
use Rattle.zone_server.specs.declared.update_result.Poll.TheVariants.{Unknown as IsUnknown, Pending as IsPending, Ready as IsReady}
use Rattle.zone_server.specs.declared.pending_replies.AtTicket.{AtTicket}
use Rattle.zone_server.specs.declared.pending_replies.Ticket.{Ticket}
use Rattle.zone_server.specs.declared.pending_replies.Ticket.TheVariants.{Free, Pending, Abandoned, Ready}

-- a ticket is free
abbrev pub IsFreed : List Ticket → ℕ → List Ticket → Type 0
IsFreed old at new = (next : Option ℕ) × (new ≡ slice_set old at (Free next))

-- a free ticket becomes pending, or a pending one is appended. If none is opened, the tickets are unchanged
abbrev pub IsOpened : List Ticket → Option ℕ → List Ticket → Type 0
IsOpened old None new = new ≡ old
IsOpened old (Some at) new =
    ((next : Option ℕ) × (slice_get old at ≡ Some (Free next)) × (new ≡ slice_set old at Pending)) ⊎ ((at ≡ length old) × (new ≡ old ++ Pending ∷ []))

-- a result at a ticket is fetched, and the ticket is free. Otherwise all tickets are unchanged: the result is not there yet, or no reply is pending there
abbrev pub FetchesOf : Option Ticket → List Ticket → ℕ → Poll → List Ticket → Type 0
FetchesOf (Some (Ready done)) old at fetched new = (fetched ≡ IsReady done) × IsFreed old at new
FetchesOf (Some Pending) old at fetched new = (fetched ≡ IsPending) × (new ≡ old)
FetchesOf (Some Abandoned) old at fetched new = (fetched ≡ IsUnknown) × (new ≡ old)
FetchesOf (Some (Free next)) old at fetched new = (fetched ≡ IsUnknown) × (new ≡ old)
FetchesOf None old at fetched new = (fetched ≡ IsUnknown) × (new ≡ old)

-- a ticket is abandoned: if its result is there, the ticket is free
abbrev pub LeavesOf : Option Ticket → List Ticket → ℕ → List Ticket → Type 0
LeavesOf (Some (Ready done)) old at new = IsFreed old at new
LeavesOf (Some Pending) old at new = new ≡ slice_set old at Abandoned
LeavesOf (Some Abandoned) old at new = new ≡ old
LeavesOf (Some (Free next)) old at new = new ≡ old
LeavesOf None old at new = new ≡ old

-- a ticket with a pending reply is freed
abbrev pub ClosesOf : Option Ticket → List Ticket → ℕ → List Ticket → Type 0
ClosesOf (Some (Ready done)) old at new = new ≡ old
ClosesOf (Some Pending) old at new = IsFreed old at new
ClosesOf (Some Abandoned) old at new = new ≡ old
ClosesOf (Some (Free next)) old at new = new ≡ old
ClosesOf None old at new = new ≡ old

-- a result is put at a ticket whose reply is pending, and an abandoned ticket is freed
abbrev pub TellsOf : Option Ticket → List Ticket → ℕ → UpdateResult → List Ticket → Type 0
TellsOf (Some (Ready other)) old at done new = new ≡ old
TellsOf (Some Pending) old at done new = new ≡ slice_set old at (Ready done)
TellsOf (Some Abandoned) old at done new = IsFreed old at new
TellsOf (Some (Free next)) old at done new = new ≡ old
TellsOf None old at done new = new ≡ old

-- the receipt of a result that was put at a ticket
abbrev pub receipt_for : ℕ → UpdateResult → AtTicket
receipt_for ticket done = record { ticket = ticket; outcome = record { code = done.code; serials = done.serials } }
