use Rattle.std.proofs.Common.{◌≡◌}
use Rattle.transfer_core.specs.Take.{removed}
use Rattle.transfer_in.proofs.HoldingLemmas.{out_of_place, sizes_out, size_at}
use Rattle.transfer_in.proofs.holding.Holding.without.Goals as goal

pub returns-clause-records : goal.returns-clause-records
returns-clause-records c = out_of_place c.args.held.now c.self.inside.records.keys c.args.self c.remove.new.self.keys c.self.view_is c.learn_order.ensures.ordered c.remove.ensures.keys

pub invariant_of-result : goal.invariant_of-result
invariant_of-result c =
    sizes_out c.self.inside.sizes c.insert.new.self c.args.held.now c.in_ok-key.key c.in_ok-key.ensures _ c.in_ok-insert.ensures.updates.0
    c.self.inside.records.keys c.args.self c.remove.new.self.keys _ c.self.invariant c.self.view_is c.requires c.remove.ensures.keys c.size_of.ensures.size c.saturating_sub-size.ensures

pub returns-clause-size : goal.returns-clause-size
returns-clause-size c =
    let gone : c.remove.new.self.keys ≡ removed c.args.held.now c.args.self = out_of_place c.args.held.now c.self.inside.records.keys c.args.self c.remove.new.self.keys c.self.view_is c.learn_order.ensures.ordered c.remove.ensures.keys in
    size_at c.insert.new.self c.args.held.now c.in_ok-key.key c.saturating_sub-size.result c.remove.new.self.keys (removed c.args.held.now c.args.self)
    (sizes_out c.self.inside.sizes c.insert.new.self c.args.held.now c.in_ok-key.key c.in_ok-key.ensures c.saturating_sub-size.result c.in_ok-insert.ensures.updates.0
    c.self.inside.records.keys c.args.self c.remove.new.self.keys c.size_of.result c.self.invariant c.self.view_is c.requires c.remove.ensures.keys c.size_of.ensures.size c.saturating_sub-size.ensures)
    c.in_ok-insert.ensures.updates.1 c.in_ok-key.ensures gone
