-- What the contracts of private functions are told in.
use Rattle.std.specs.Prelude.{◌≡◌, ◌<◌, ◌^◌, ℕ, List, ◌∷◌, ◌++◌, Option, Some, None, Result, Ok}
use Rattle.record_text.specs.declared.cause.Cause.{Cause}
use Rattle.record_text.specs.declared.front.Mark.{Mark}
use Rattle.record_text.specs.declared.front.Mark.TheVariants as mark

-- a TTL lasts at most 2^31 - 1 seconds (RFC 2181, 8)
abbrev pub IsLasting : Mark → Type 0
IsLasting (mark.Ttl ttl) = ttl.0 < 2 ^ 31
IsLasting mark.Class = Unit {0}
IsLasting (mark.Type rtype) = Unit {0}

-- octets that a reading gives stand after the others
pub record ReadsBehind (reading : Result (List ℕ) Cause) (before after : List ℕ) : Type 0 where
  pub front : List ℕ
  pub read : reading ≡ Ok front
  pub octets : after ≡ before ++ front

-- a word is written after a space, and how many octets it takes is told; nothing where there is none
abbrev pub WritesWord : Option (List ℕ × ℕ) → List ℕ → List ℕ → Option ℕ → Type 0
WritesWord None before after len = (len ≡ None) × (after ≡ before)
WritesWord (Some word) before after len = (len ≡ Some word.1) × (after ≡ before ++ 32 ∷ word.0)
