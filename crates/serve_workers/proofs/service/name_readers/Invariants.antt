-- The readers so far are named.
use Rattle.std.proofs.Common.{◌≡◌, ◌+◌, ◌++◌, ◌≤◌, All, vec_len, vec_capacity}
use Rattle.std.specs.Vec.Iter.{into_iter_len, into_iter_items}
use Rattle.serve_workers.proofs.service.name_readers.Given as goal

abbrev pub invariant-loop-reader : goal.invariant-loop-reader
invariant-loop-reader g l = record {
  left : l.named.items ++ into_iter_items l.reader-iterator ≡ l.fn.readers.items;
  named : All (λ r. r.cell ≡ g.N.Naming.cell) (into_iter_items l.reader-iterator);
  count : vec_len l.named + into_iter_len l.reader-iterator ≡ vec_len l.fn.readers;
  room : vec_len l.named + into_iter_len l.reader-iterator ≤ vec_capacity l.named;
  capacity : vec_capacity l.named ≡ vec_capacity l.initial.named;
}
