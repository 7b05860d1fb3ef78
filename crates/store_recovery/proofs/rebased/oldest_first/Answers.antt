use Rattle.std.proofs.Common.{rules}
use Rattle.store_recovery.proofs.RebasedLemmas.{one_in_all, oldest_in_all, behind_few}
use Rattle.store_recovery.proofs.rebased.oldest_first.Goals as goal

pub returns-then-is_empty-clause-all : goal.returns-then-is_empty-clause-all
returns-then-is_empty-clause-all c = one_in_all c.args.newest.older.items c.args.newest.last (search rules)

pub returns-clause-all : goal.returns-clause-all
returns-clause-all c =
    oldest_in_all c.args.newest.older.items c.args.newest.last c.remove-oldest.result c.remove-oldest.new.self.items c.push_reserved.new.self.items
    (search rules) c.remove-oldest.ensures.value c.remove-oldest.ensures.items c.push_reserved.ensures.items

pub returns-clause-few : goal.returns-clause-few
returns-clause-few c =
    behind_few c.args.newest.older.items c.push_reserved.new.self.items c.args.newest.last c.remove-oldest.result
    (oldest_in_all c.args.newest.older.items c.args.newest.last c.remove-oldest.result c.remove-oldest.new.self.items c.push_reserved.new.self.items
    (search rules) c.remove-oldest.ensures.value c.remove-oldest.ensures.items c.push_reserved.ensures.items) (search rules)
