-- Readings, one after the other.
use Rattle.std.specs.Prelude.{Result, Ok, Err}

-- what a reading gives, in another form; a fault stays
abbrev pub on_ok : {A B E : Type 0} → (A → B) → Result A E → Result B E
on_ok f (Ok x) = Ok (f x)
on_ok f (Err e) = Err e

-- a reading, and what is read after it; the first fault is told
abbrev pub and_then : {A B E : Type 0} → Result A E → (A → Result B E) → Result B E
and_then (Ok x) f = f x
and_then (Err e) f = Err e
