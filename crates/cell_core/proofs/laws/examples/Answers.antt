-- The cells on the way.
use Rattle.std.proofs.Common.{refl, lit<}
use Rattle.cell_core.specs.Cell.{with_strong, without_strong, with_weak}
use Rattle.cell_core.specs.Example.{one_value, two_values, one_weak}
use Rattle.cell_core.proofs.laws.examples.Goals as goal

pub returns-clause-two_values : goal.returns-clause-two_values
returns-clause-two_values c = (with_strong 0 one_value, (0, refl, refl, refl), (two_values, (0, refl, refl, refl), refl))

pub returns-clause-one_weak : goal.returns-clause-one_weak
returns-clause-one_weak c =
    let loaded = with_strong 1 two_values in
    let weak = with_weak 0 loaded in (
      loaded,
      (1, refl, refl, refl),
      (weak, (lit< tt, refl, refl), (without_strong 0 weak, (lit< tt, refl, refl), (one_weak, (lit< tt, refl, refl), refl))),
    )
