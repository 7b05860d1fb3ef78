-- What becomes of a stream that reports its octets (own).
use Rattle.std.specs.Prelude.{◌≡◌, ℕ, ◌-◌, ◌^◌, ◌<◌, List, [], ◌++◌, Option, Some, IfSome}
use Rattle.requests.specs.Octets.{IsTorn}
use Rattle.requests.specs.declared.stream_end.StreamEnd.{StreamEnd}
use Rattle.requests.specs.declared.stream_end.StreamEnd.TheVariants.{Clean, Torn, Device, Spent, NoMemory}
use Rattle.tcp_connections.specs.declared.blocking.Fault.{Fault}
use Rattle.tcp_connections.specs.declared.blocking.Fault.TheVariants.{Blocked, Failed}

-- a stream's octets are as they were
abbrev pub Stays : Option (List ℕ × List ℕ) → Option (List ℕ × List ℕ) → Type 0
Stays old new = IfSome old (λ o. new ≡ Some o)

-- what was written stays, and more may follow
abbrev pub Writes : Option (List ℕ × List ℕ) → Option (List ℕ × List ℕ) → Type 0
Writes old new = IfSome old (λ o. (left front : List ℕ) × (new ≡ Some (left, o.1 ++ front)))

-- how a connection ends whose octets are known: with nothing left to be answered, or a torn frame, and all written; otherwise with a prefix
-- written of what was written or is to be
abbrev pub EndsTold : StreamEnd → Option (List ℕ × List ℕ) → Option (List ℕ × List ℕ) → Type 0
EndsTold Clean reported new = IfSome reported (λ o. (o.0 ≡ []) × (new ≡ Some ([], o.1)))
EndsTold Torn reported new = IfSome reported (λ o. IsTorn o.0 × (new ≡ Some ([], o.1)))
EndsTold Device reported new = IfSome reported (λ o. (left front back : List ℕ) × (o.1 ≡ front ++ back) × (new ≡ Some (left, front)))
EndsTold Spent reported new = IfSome reported (λ o. (left front back : List ℕ) × (o.1 ≡ front ++ back) × (new ≡ Some (left, front)))
EndsTold NoMemory reported new = IfSome reported (λ o. (left front back : List ℕ) × (o.1 ≡ front ++ back) × (new ≡ Some (left, front)))

-- a fault and the count of failures: a stream that would block hasn't failed, and a failure is counted, up to 2^64 - 1 of them
abbrev pub IsCounted : Fault → ℕ → ℕ → Type 0
IsCounted Blocked faults more = more ≡ faults
IsCounted Failed faults more = faults < 2 ^ 64 - 1 → faults < more

-- an end and the count of failures: an end by the device is counted, and nothing has failed at any other
abbrev pub EndCounted : StreamEnd → ℕ → ℕ → Type 0
EndCounted Device faults more = faults < 2 ^ 64 - 1 → faults < more
EndCounted Clean faults more = more ≡ faults
EndCounted Torn faults more = more ≡ faults
EndCounted Spent faults more = more ≡ faults
EndCounted NoMemory faults more = more ≡ faults
