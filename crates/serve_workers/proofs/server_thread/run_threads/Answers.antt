-- A thread may be sent, and the jobs come back with their numbers, done, and with their readers.
use denote.Exit.{no}
use denote.Param.{param}
use denote.Param.Send.{param_send, arg_send, sendable}
use Rattle.std.proofs.Common.{◌≡◌, length, Some, map, ap, sym, ◌∙◌}
use Rattle.std.proofs.lemmas.List.{length-map}
use Rattle.std.proofs.lemmas.Simd.{map-map}
use Rattle.requests.specs.Served.{BeginsWith}
use Rattle.serve_workers.specs.Numbers.{number_of}
use Rattle.serve_workers.specs.Readers.{seen_by}
use Rattle.serve_workers.proofs.ReaderLemmas.{each_other, length_same}
use Rattle.serve_workers.proofs.SendLemmas.{thread_send}
use Rattle.serve_workers.proofs.server_thread.run_threads.Goals as goal

pub run_tasks-requires-send-W : goal.run_tasks-requires-send-W
run_tasks-requires-send-W g c κs within =
    param_send _ _
    (arg_send _ no _
    (thread_send _ _ (param 1 g.row.Z) (param 2 g.row.N) (param 3 g.row.L) (param 4 g.row.C) g.Z.FirstZone g.N.Naming g.N.ServerName
    (search (c.type_bounds.sync-L, sendable)) (search (c.type_bounds.sync-C, sendable))))

pub returns-clause-numbers : goal.returns-clause-numbers
returns-clause-numbers g c =
    c.run_tasks.ensures.numbers ∙ sym (map-map (λ job. number_of job) (λ thread. thread.job) c.put_threads.new.threads.items) ∙ ap (map (λ job. number_of job)) c.put_threads.ensures.jobs

pub returns-clause-seen : goal.returns-clause-seen
returns-clause-seen g c =
    each_other (λ reader thread. BeginsWith (seen_by thread.reader) (seen_by reader)) (λ thread. thread.reader) (λ reader. Some reader) c.put_threads.new.threads.items c.args.readers.now.items _ c.put_threads.ensures.readers c.run_tasks.ensures.seen

pub returns-clause-none : goal.returns-clause-none
returns-clause-none g c = λ idle.
    (ap (map (λ thread. thread.reader)) (c.run_tasks.ensures.none idle) ∙ c.put_threads.ensures.readers, ap (map (λ thread. thread.job)) (c.run_tasks.ensures.none idle) ∙ c.put_threads.ensures.jobs)

pub returns-clause-count : goal.returns-clause-count
returns-clause-count g c =
    let back : length c.run_tasks.result.1.items ≡ length c.put_threads.new.threads.items = length_same (λ thread. number_of thread.job) (λ thread. number_of thread.job) _ _ c.run_tasks.ensures.numbers in
    let made : length c.put_threads.new.threads.items ≡ length c.args.jobs.items = sym (length-map c.put_threads.new.threads.items (λ thread. thread.job)) ∙ ap length c.put_threads.ensures.jobs in
    c.run_tasks.result.1.ok.0 ∙ back ∙ made ∙ sym c.args.jobs.ok.0
