use Rattle.std.proofs.Common.{◌≡◌, ◌+◌, refl}
use Rattle.transfer_core.specs.Take.{inserted}
use Rattle.transfer_in.proofs.HoldingLemmas.{in_place, sizes_in, size_at}
use Rattle.transfer_in.proofs.holding.Holding.with.Goals as goal

pub returns-clause-records : goal.returns-clause-records
returns-clause-records c = in_place c.args.held c.self.inside.records.keys c.args.self c.insert-2.new.self.keys c.self.view_is c.requires c.in_ok-insert-2.ensures.keys

pub invariant_of-result : goal.invariant_of-result
invariant_of-result c =
    let placed : c.insert-2.new.self.keys ≡ inserted c.args.held c.args.self = in_place c.args.held c.self.inside.records.keys c.args.self c.insert-2.new.self.keys c.self.view_is c.requires c.in_ok-insert-2.ensures.keys in
    sizes_in c.self.inside.sizes c.insert.new.self c.args.held c.in_ok-key.key c.in_ok-key.ensures _ c.in_ok-insert.ensures.updates.0
    c.self.inside.records.keys c.args.self c.insert-2.new.self.keys _ c.self.invariant c.self.view_is placed c.size_of-size.ensures.size refl

pub returns-clause-size : goal.returns-clause-size
returns-clause-size c =
    let placed : c.insert-2.new.self.keys ≡ inserted c.args.held c.args.self = in_place c.args.held c.self.inside.records.keys c.args.self c.insert-2.new.self.keys c.self.view_is c.requires c.in_ok-insert-2.ensures.keys in
    size_at c.insert.new.self c.args.held c.in_ok-key.key (c.size_of-size.result + 1) c.insert-2.new.self.keys (inserted c.args.held c.args.self)
    (sizes_in c.self.inside.sizes c.insert.new.self c.args.held c.in_ok-key.key c.in_ok-key.ensures (c.size_of-size.result + 1) c.in_ok-insert.ensures.updates.0
    c.self.inside.records.keys c.args.self c.insert-2.new.self.keys c.size_of-size.result c.self.invariant c.self.view_is placed c.size_of-size.ensures.size refl)
    c.in_ok-insert.ensures.updates.1 c.in_ok-key.ensures placed
