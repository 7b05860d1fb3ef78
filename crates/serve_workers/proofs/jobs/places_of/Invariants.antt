-- Each listener so far has a place.
use Rattle.std.proofs.Common.{◌≡◌, ◌+◌, vec_len}
use Rattle.std.specs.Vec.Iter.{into_iter_len}
use Rattle.serve_workers.proofs.jobs.places_of.Given as goal

abbrev pub invariant-loop-listener : goal.invariant-loop-listener
invariant-loop-listener g l = vec_len l.places + into_iter_len l.listener-iterator ≡ vec_len l.fn.listeners
