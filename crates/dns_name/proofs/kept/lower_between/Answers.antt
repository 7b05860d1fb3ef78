use Rattle.std.proofs.Common.{◌≡◌, ℕ, zero, suc, ◌+◌, ◌<◌, ◌++◌, List, [], ◌∷◌, length, map, take, drop, get_or, refl, ap, add-one, arith}
use Rattle.std.proofs.Math.ListN.{set}
use Rattle.std.specs.Char.{to_ascii_lowercase}
use Rattle.dns_name.proofs.kept.lower_between.Goals as goal

-- one octet more, where those in front of it are in lower case
one_more : (ys : List ℕ) (i : ℕ) → i < length ys
    → set (map to_ascii_lowercase (take i ys) ++ drop i ys) i (to_ascii_lowercase (get_or (map to_ascii_lowercase (take i ys) ++ drop i ys) i 0))
    ≡ map to_ascii_lowercase (take (suc i) ys) ++ drop (suc i) ys
one_more [] i h = absurd (omega arith)
one_more (y ∷ ys) zero h = refl
one_more (y ∷ ys) (suc i) h = ap (λ (zs : List ℕ). to_ascii_lowercase y ∷ zs) (one_more ys i (omega arith))

step : (xs ys : List ℕ) (i v : ℕ) → i < length ys → xs ≡ map to_ascii_lowercase (take i ys) ++ drop i ys → v ≡ to_ascii_lowercase (get_or xs i 0)
    → set xs i v ≡ map to_ascii_lowercase (take (i + 1) ys) ++ drop (i + 1) ys
step xs ys i v within e w = rw (add-one, w, e) (one_more ys i within)

pub loop-octet-preserved : goal.loop-octet-preserved
loop-octet-preserved c = step _ _ _ _ c.loop-octet-test.true c.loop-octet.invariant c.to_ascii_lowercase.ensures.value
