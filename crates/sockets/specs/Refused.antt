-- Why no connection was accepted, by the number of the system's error (Linux, accept(2); own).
use Rattle.std.specs.Prelude.{◌==◌, ℕ, ℤ, pos, negsuc, Bool, false, if◌then◌else◌, List, [], ◌∷◌, Option, None, Some}
use Rattle.std.specs.List.{list_any}
use Rattle.tcp_loop.specs.declared.arrivals.Refusal.{Refusal}
use Rattle.tcp_loop.specs.declared.arrivals.Refusal.TheVariants.{Blocked, Client, Room, Broken}

-- the error if no connection is waiting: EAGAIN
abbrev pub blocked_errors : List ℕ
blocked_errors = 11 ∷ []

-- the errors of a connection that failed before it was accepted: EPERM, EINTR, ENONET, EPROTO, ENOPROTOOPT, EOPNOTSUPP, ENETDOWN,
-- ENETUNREACH, ECONNABORTED, EHOSTDOWN and EHOSTUNREACH
abbrev pub client_errors : List ℕ
client_errors = 1 ∷ 4 ∷ 64 ∷ 71 ∷ 92 ∷ 95 ∷ 100 ∷ 101 ∷ 103 ∷ 112 ∷ 113 ∷ []

-- the errors of a descriptor that is not a listener: EBADF, EFAULT, EINVAL and ENOTSOCK
abbrev pub listener_errors : List ℕ
listener_errors = 9 ∷ 14 ∷ 22 ∷ 88 ∷ []

-- whether an error has one of the given numbers
abbrev pub is_one_of : List ℕ → Option ℤ → Bool
is_one_of numbers None = false
is_one_of numbers (Some (pos n)) = list_any (λ m. n == m) numbers
is_one_of numbers (Some (negsuc n)) = false

-- an error in one of the lists above is reported as Blocked, Client or Broken; any other error, or one without a number, is reported as Room
abbrev pub refused_as : Option ℤ → Refusal
refused_as code =
    if is_one_of blocked_errors code then Blocked
    else (if is_one_of client_errors code then Client else (if is_one_of listener_errors code then Broken else Room))
