-- The jobs so far are those of the specs so far.
use Rattle.std.proofs.Common.{◌≡◌, ◌+◌, ◌++◌, ◌≤◌, All, map, vec_len, vec_capacity}
use Rattle.std.specs.Vec.Iter.{into_iter_len, into_iter_items}
use Rattle.serve_workers.specs.Numbers.{number_of, takes_datagrams, are_datagrams, HasRights}
use Rattle.serve_workers.proofs.jobs.jobs_of.Given as goal

abbrev pub invariant-loop-spec : goal.invariant-loop-spec
invariant-loop-spec g l = record {
  left : l.yielded ++ into_iter_items l.spec-iterator ≡ l.fn.specs.items;
  count : vec_len l.jobs + into_iter_len l.spec-iterator ≡ vec_len l.fn.specs;
  room : vec_len l.jobs + into_iter_len l.spec-iterator ≤ vec_capacity l.jobs;
  numbers : map (λ job. number_of job) l.jobs.items ≡ map (λ spec. spec.worker) l.yielded;
  kinds : map (λ job. takes_datagrams job) l.jobs.items ≡ map (λ spec. are_datagrams spec.sockets) l.yielded;
  rights : All (λ job. HasRights l.fn.plan.connections.allowed.rules.now job) l.jobs.items;
}
