-- The comparison of octets.
use Rattle.std.proofs.Common.{◌≡◌, ◌↔◌, IsTrue, ℕ, Bool, List}
use Rattle.std.specs.Bool.{one_answer}
use Rattle.std.specs.Prelude.{bytes_eq}
use Rattle.std.proofs.lemmas.Slice.Eq.{bytes_eq-Decides}

-- a test that tells whether octets are the same is their comparison
pub same_as : (r : Bool) (a b : List ℕ) → (IsTrue r ↔ (a ≡ b)) → r ≡ bytes_eq a b
same_as r a b same = one_answer r (bytes_eq a b) (same.0, same.1) (bytes_eq-Decides a b)
