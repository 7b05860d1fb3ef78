-- The versions so far have their first owners.
use Rattle.std.proofs.Common.{◌≡◌, ◌+◌, ◌++◌, ◌≤◌, vec_len, vec_capacity}
use Rattle.std.specs.Vec.Iter.{into_iter_len, into_iter_items}
use Rattle.dns_engine.proofs.shared.SharedVersion.all.Given as goal

abbrev pub invariant-loop-version : goal.invariant-loop-version
invariant-loop-version l = record {
  all : l.yielded ++ into_iter_items l.version-iterator ≡ l.fn.versions.items;
  room : vec_len l.shared + into_iter_len l.version-iterator ≤ vec_capacity l.shared;
  shared : l.shared.items ≡ l.yielded;
}
