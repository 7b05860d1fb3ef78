use Rattle.std.proofs.Common.{◌≡◌, ◌∙◌, ◌<◌, sym, ap, suc, length, take, arith}
use Rattle.shared_tree.specs.Links.{run_pairs}
use Rattle.shared_tree.specs.Pairs.{last_pair}
use Rattle.shared_tree.proofs.LinkLemmas.{run_length}
use Rattle.shared_tree.proofs.RunLemmas.{last_at}
use Rattle.shared_tree.proofs.look.pair_in_front.Goals as goal

-- the last pair in front of the place
pub returns : goal.returns
returns g c fits =
    let pairs = run_pairs c.args.run.now in
    let is : suc c.in_ok-front.front ≡ c.args.place = omega (arith, c.in_ok-front.ensures) in
    let within : c.in_ok-front.front < length pairs = omega (arith, run_length c.args.run.now) in
    c.pair_at_place.ensures ∙ sym (last_at pairs c.in_ok-front.front within) ∙ ap (λ place. last_pair (take place pairs)) is
