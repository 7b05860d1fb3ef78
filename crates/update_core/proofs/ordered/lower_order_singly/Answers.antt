use Rattle.std.proofs.Common.{◌≡◌, refl, rules, tests}
use Rattle.std.specs.Char.{to_ascii_lowercase}
use Rattle.std.specs.Ordering.{nat_cmp}
use Rattle.std.proofs.lemmas.Iterator.{YieldsList-from_slice, YieldsList-from_map}
use Rattle.std.proofs.lemmas.Iterator.Search.{cmp_from_yields_List}
use Rattle.update_core.proofs.ordered.lower_order_singly.Goals as goal

pub returns : goal.returns
returns c =
    cmp_from_yields_List (λ x y. y ≡ x) _ nat_cmp _ c.cmp.ensures.ran
    (YieldsList-from_map _ to_ascii_lowercase (YieldsList-from_slice c.args.own.now cc) c.map.ensures.closure (λ x r q k. search (rules, tests)))
    (λ it e. rw e (YieldsList-from_map _ to_ascii_lowercase (YieldsList-from_slice c.args.other.now cc) c.map-2.ensures.closure (λ x r q k. search (rules, tests))))
    (λ _ _. refl)
