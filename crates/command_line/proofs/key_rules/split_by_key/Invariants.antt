-- The rules so far are apart.
use Rattle.std.proofs.Common.{◌≡◌, ◌++◌, filter}
use Rattle.std.specs.Vec.Iter.{into_iter_items}
use Rattle.dns_name.specs.Name.{Name}
use Rattle.command_line.specs.Keys.{is_unsigned, names_key, rules_by}
use Rattle.command_line.proofs.key_rules.split_by_key.Given as goal

abbrev pub invariant-loop-rule : goal.invariant-loop-rule
invariant-loop-rule l = record {
  left : l.yielded ++ into_iter_items l.rule-iterator ≡ l.fn.rules.items;
  unsigned : l.unsigned.items ≡ filter is_unsigned l.yielded;
  signed : (key : Name) → rules_by key l.signed.items ≡ filter (names_key key) l.yielded;
}
