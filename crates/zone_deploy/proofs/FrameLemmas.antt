-- Messages after their length, as they are read one after another.
use Rattle.std.proofs.Common.{◌≡◌, ℕ, List, ◌++◌, length, [], Option, Some, None, sym, ap, ◌∙◌, append_assoc}
use Rattle.std.specs.Io.KnownBytes.{Consumes}

-- what is read twice is read as one
pub Consumes-twice : (before between after : Option (List ℕ)) (first second : List ℕ) → Consumes before between first → Consumes between after second → Consumes before after (first ++ second)
Consumes-twice None between after first second a b = tt
Consumes-twice (Some xs) None after first second a b = absurd a
Consumes-twice (Some xs) (Some ys) None first second a b = absurd b
Consumes-twice (Some xs) (Some ys) (Some zs) first second a b = a ∙ ap (λ us. first ++ us) b ∙ sym (append_assoc first second zs)

-- nothing was read
pub Consumes-none : (before : Option (List ℕ)) (bs : List ℕ) → bs ≡ [] → Consumes before before bs
Consumes-none None bs e = tt
Consumes-none (Some xs) bs e = ap (λ us. us ++ xs) (sym e)
