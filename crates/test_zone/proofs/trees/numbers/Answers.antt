use Rattle.std.proofs.Common.{◌≡◌, ℕ, ◌+◌, ◌<◌, List, [], ◌∷◌, ◌++◌, arith}
use Rattle.std.specs.List.{AllByRecursion}
use Rattle.std.specs.Ordering.{nat_cmp}
use Rattle.std.specs.declared.cmp.Ordering.TheVariants.{Less}
use Rattle.std.proofs.lemmas.Bool.Decides.{nat_tests}
use Rattle.shared_tree.specs.Pairs.{IsAscending}
use Rattle.shared_tree.proofs.PairLemmas.{ascends_append, each_weaker, each_append}
use Rattle.test_zone.proofs.trees.numbers.Goals as goal

less : (x y : ℕ) → x < y → nat_cmp x y ≡ Less
less x y lt = grind (arith, nat_tests)

-- the next number comes after those so far
pub loop-number-preserved : goal.loop-number-preserved
loop-number-preserved c =
    let n = c.loop-number.number in
    let xs = c.loop-number.pairs.items in
    let so_far = c.loop-number.invariant in
    rw c.in_ok-push.ensures.items (record {
      ascends = ascends_append nat_cmp xs ((n, n) ∷ []) so_far.ascends (tt, tt) (each_weaker (λ (pair : ℕ × ℕ). pair.0 < n) _ (λ pair lt. (less pair.0 n lt, tt)) xs so_far.below);
      below = each_append (λ (pair : ℕ × ℕ). pair.0 < n + 1) xs ((n, n) ∷ []) (each_weaker (λ (pair : ℕ × ℕ). pair.0 < n) _ (λ pair lt. omega arith) xs so_far.below) (omega arith, tt);
    })
