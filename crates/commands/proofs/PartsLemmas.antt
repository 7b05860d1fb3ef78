-- Lemmas on what is written one part behind another.
use Rattle.std.proofs.Common.{◌≡◌, ℕ, List, [], ◌++◌, Option, Result, Ok, Err, IsErr, refl, sym, ap, ◌∙◌, append_assoc}
use Rattle.std.specs.Io.KnownBytes.{Appends}
use Rattle.commands.specs.Lines.{Begins, Writes}
use Rattle.commands.proofs.LinesLemmas.{IsWritten, Appends-none, Appends-twice}

-- the front of the rest is written too
pub IsWritten-front : (before between after : Option (List ℕ)) (octets rest first more : List ℕ) → rest ≡ first ++ more → IsWritten before between octets rest → Appends between after first → IsWritten before after octets more
IsWritten-front before between after octets rest first more e is grown = record {
  done = is.done ++ first;
  grown = Appends-twice before between after is.done first is.grown grown;
  whole = append_assoc is.done first more ∙ ap (λ (xs : List ℕ). is.done ++ xs) (sym e) ∙ is.whole;
}

-- the front of the rest is nothing
pub IsWritten-same : (before after : Option (List ℕ)) (octets rest more : List ℕ) → rest ≡ more → IsWritten before after octets rest → IsWritten before after octets more
IsWritten-same before after octets rest more e is = record { done = is.done; grown = is.grown; whole = ap (λ (xs : List ℕ). is.done ++ xs) (sym e) ∙ is.whole }

-- a beginning of the front of the rest is written: it is a beginning of all
pub Begins-front : (before between after : Option (List ℕ)) (octets rest first more : List ℕ) → rest ≡ first ++ more → IsWritten before between octets rest → Begins between after first → Begins before after octets
Begins-front before between after octets rest first more e is begins = record {
  done = is.done ++ begins.done;
  rest = begins.rest ++ more;
  grown = Appends-twice before between after is.done begins.done is.grown begins.grown;
  whole =
      append_assoc is.done begins.done (begins.rest ++ more)
      ∙ ap (λ (xs : List ℕ). is.done ++ xs) (sym (append_assoc begins.done begins.rest more) ∙ ap (λ (xs : List ℕ). xs ++ more) begins.whole ∙ sym e)
      ∙ is.whole;
}

-- nothing is written: it is a beginning of all
pub Begins-unwritten : (before : Option (List ℕ)) (octets : List ℕ) → Begins before before octets
Begins-unwritten before octets = record { done = []; rest = octets; grown = Appends-none before; whole = refl }

-- a beginning of the first octets is one of all
pub Begins-first : (before after : Option (List ℕ)) (first second : List ℕ) → Begins before after first → Begins before after (first ++ second)
Begins-first before after first second begins = record {
  done = begins.done;
  rest = begins.rest ++ second;
  grown = begins.grown;
  whole = sym (append_assoc begins.done begins.rest second) ∙ ap (λ (xs : List ℕ). xs ++ second) begins.whole;
}

-- octets are written behind others
pub Writes-behind : {T E : Type 0} (result : Result T E) (before between after : Option (List ℕ)) (first second : List ℕ) → Appends before between first → Writes result between after second → Writes result before after (first ++ second)
Writes-behind (Ok done) before between after first second grown writes = Appends-twice before between after first second grown writes
Writes-behind (Err fault) before between after first second grown writes = record {
  done = first ++ writes.done;
  rest = writes.rest;
  grown = Appends-twice before between after first writes.done grown writes.grown;
  whole = append_assoc first writes.done writes.rest ∙ ap (λ (xs : List ℕ). first ++ xs) writes.whole;
}

-- at an error a beginning of the octets is written
pub Writes-refused : {T E : Type 0} (result : Result T E) (before after : Option (List ℕ)) (octets : List ℕ) → IsErr result → Begins before after octets → Writes result before after octets
Writes-refused (Ok done) before after octets refused begins = absurd (cc)
Writes-refused (Err fault) before after octets refused begins = begins
