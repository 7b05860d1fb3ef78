use Rattle.std.proofs.Common.{◌≡◌, ◌≤◌, length, arith, rules}
use Rattle.zone_tree.specs.Zone.{is_of, rrset_of}
use Rattle.transfer_in.specs.Held.{size_in}
use Rattle.transfer_in.proofs.HoldingLemmas.{no_more}
use Rattle.transfer_in.proofs.holding.Holding.size_of.Goals as goal

pub returns-clause-small : goal.returns-clause-small
returns-clause-small c =
    let reported : c.unwrap_or.result ≡ size_in c.self.inside.sizes c.args.key.now = search rules in
    let least : length (rrset_of c.self.inside.records.keys c.args.key.now.owner c.args.key.now.rtype) ≤ length c.self.inside.records.keys = no_more (is_of c.args.key.now.owner c.args.key.now.rtype) c.self.inside.records.keys in
    let sized = c.self.invariant c.args.key.now in
    omega (arith, reported, least, sized, c.learn_order.ensures.small)
