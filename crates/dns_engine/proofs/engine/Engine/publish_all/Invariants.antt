-- So many versions are published, and the others may be.
use Rattle.std.proofs.Common.{◌≡◌, ◌-◌, ◌≤◌, ◌++◌, length}
use Rattle.std.specs.Vec.Iter.{into_iter_items}
use Rattle.dns_engine.specs.Versions.{AreNext}
use Rattle.dns_engine.specs.Held.{held_through}
use Rattle.dns_engine.proofs.engine.Engine.publish_all.Given as goal

abbrev pub invariant-loop-version : goal.invariant-loop-version
invariant-loop-version g l = record {
  all : l.yielded ++ into_iter_items l.version-iterator ≡ l.fn.later.items;
  held : l.self.held ≡ held_through l.initial.self.held l.yielded;
  left : l.self.left ≡ l.initial.self.left - length l.yielded;
  free : length (into_iter_items l.version-iterator) ≤ l.self.free;
  follow : AreNext l.self.held.last (into_iter_items l.version-iterator);
}
