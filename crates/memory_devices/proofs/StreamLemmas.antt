-- What a read gives.
use Rattle.std.proofs.Common.{◌≡◌, ℕ, List, ◌++◌, take, drop, Some, sym, ap, ◌∙◌, take-append-drop}
use Rattle.requests.specs.Octets.{Gives}

-- the front of what is left is read, and the rest is left
pub gives_front : (n : ℕ) (left front rest written same : List ℕ) → front ≡ take n left → rest ≡ drop n left → same ≡ written → Gives (Some (left, written)) (Some (rest, same)) front
gives_front n left front rest written same f r e =
    (rest, sym (take-append-drop n left) ∙ ap (λ l. l ++ drop n left) (sym f) ∙ ap (λ l. front ++ l) (sym r), ap (λ w. Some (rest, w)) e)
