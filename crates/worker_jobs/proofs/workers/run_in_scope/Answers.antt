-- What comes back is what was given, by one lock.
use Rattle.std.proofs.Common.{◌≡◌, sym, ◌∙◌}
use Rattle.worker_jobs.specs.GivenBack.{IsGivenBack, IsReturned}
use Rattle.worker_jobs.specs.declared.workers.Returned.{Returned}
use Rattle.worker_jobs.proofs.EachLemmas.{each_through, each_second, each_alike, each_same, each_wider, each_itself, ended, given_along}
use Rattle.requests.proofs.TurnLemmas.{begins_itself}
use Rattle.worker_jobs.proofs.workers.run_in_scope.Goals as goal

pub tasks_of-done-requires-clause-reported : goal.tasks_of-done-requires-clause-reported
tasks_of-done-requires-clause-reported g c κs within =
    let N = g.W.Task.number in
    let V = g.W.Task.seen in
    let D = g.W.Task.is_done in
    let lock = c.args.may.now.id in
    let back = each_through _ _ (λ (given : g.row.W.Denot) (back : Returned g.row.W.Denot). IsReturned N V D lock given back.reported.of back.reported.value back.work) (ended N V D lock (λ h. h.promise.may.now.id) (λ h. h.promise.work.value) (λ b. b.reported.of) (λ b. b.reported.value) (λ b. b.work)) _ _ _ c.start_threads-begun.ensures.begun c.end_all-returned.ensures.ended in
    each_second _ (λ (back : Returned g.row.W.Denot). back.reported.of ≡ c.init-reported.result.of) (λ given back r. r.0 ∙ sym c.init-reported.ensures) _ _ back

pub returns-clause-numbers : goal.returns-clause-numbers
returns-clause-numbers g c =
    let N = g.W.Task.number in
    let V = g.W.Task.seen in
    let D = g.W.Task.is_done in
    let lock = c.args.may.now.id in
    let back = each_through _ _ (λ (given : g.row.W.Denot) (back : Returned g.row.W.Denot). IsReturned N V D lock given back.reported.of back.reported.value back.work) (ended N V D lock (λ h. h.promise.may.now.id) (λ h. h.promise.work.value) (λ b. b.reported.of) (λ b. b.reported.value) (λ b. b.work)) _ _ _ c.start_threads-begun.ensures.begun c.end_all-returned.ensures.ended in
    let same = each_through _ _ (λ (given work : g.row.W.Denot). IsGivenBack N V D given c.init-reported.result.value work) (λ given back work r w. given_along N V D given back.reported.value c.init-reported.result.value back.work work w.0 w.1 r.1) _ _ _ back c.tasks_of-done.ensures in
    each_alike _ N N (λ given work r. r.0) _ _ same

pub returns-clause-seen : goal.returns-clause-seen
returns-clause-seen g c =
    let N = g.W.Task.number in
    let V = g.W.Task.seen in
    let D = g.W.Task.is_done in
    let lock = c.args.may.now.id in
    let back = each_through _ _ (λ (given : g.row.W.Denot) (back : Returned g.row.W.Denot). IsReturned N V D lock given back.reported.of back.reported.value back.work) (ended N V D lock (λ h. h.promise.may.now.id) (λ h. h.promise.work.value) (λ b. b.reported.of) (λ b. b.reported.value) (λ b. b.work)) _ _ _ c.start_threads-begun.ensures.begun c.end_all-returned.ensures.ended in
    let same = each_through _ _ (λ (given work : g.row.W.Denot). IsGivenBack N V D given c.init-reported.result.value work) (λ given back work r w. given_along N V D given back.reported.value c.init-reported.result.value back.work work w.0 w.1 r.1) _ _ _ back c.tasks_of-done.ensures in
    each_wider _ _ (λ given work r. r.1) _ _ same

pub returns-clause-none : goal.returns-clause-none
returns-clause-none g c =
    let N = g.W.Task.number in
    let V = g.W.Task.seen in
    let D = g.W.Task.is_done in
    let lock = c.args.may.now.id in
    let back = each_through _ _ (λ (given : g.row.W.Denot) (back : Returned g.row.W.Denot). IsReturned N V D lock given back.reported.of back.reported.value back.work) (ended N V D lock (λ h. h.promise.may.now.id) (λ h. h.promise.work.value) (λ b. b.reported.of) (λ b. b.reported.value) (λ b. b.work)) _ _ _ c.start_threads-begun.ensures.begun c.end_all-returned.ensures.ended in
    let same = each_through _ _ (λ (given work : g.row.W.Denot). IsGivenBack N V D given c.init-reported.result.value work) (λ given back work r w. given_along N V D given back.reported.value c.init-reported.result.value back.work work w.0 w.1 r.1) _ _ _ back c.tasks_of-done.ensures in
    λ idle. each_same (λ (given work : g.row.W.Denot). IsGivenBack N V D given c.init-reported.result.value work) (λ given work r. r.2 (sym c.value-started.ensures ∙ idle)) _ _ same

pub returns-clause-done : goal.returns-clause-done
returns-clause-done g c =
    let N = g.W.Task.number in
    let V = g.W.Task.seen in
    let D = g.W.Task.is_done in
    let lock = c.args.may.now.id in
    let back = each_through _ _ (λ (given : g.row.W.Denot) (back : Returned g.row.W.Denot). IsReturned N V D lock given back.reported.of back.reported.value back.work) (ended N V D lock (λ h. h.promise.may.now.id) (λ h. h.promise.work.value) (λ b. b.reported.of) (λ b. b.reported.value) (λ b. b.work)) _ _ _ c.start_threads-begun.ensures.begun c.end_all-returned.ensures.ended in
    let same = each_through _ _ (λ (given work : g.row.W.Denot). IsGivenBack N V D given c.init-reported.result.value work) (λ given back work r w. given_along N V D given back.reported.value c.init-reported.result.value back.work work w.0 w.1 r.1) _ _ _ back c.tasks_of-done.ensures in
    λ may. each_second (λ (given work : g.row.W.Denot). IsGivenBack N V D given c.init-reported.result.value work) D (λ given work r. r.3 (sym c.value-started.ensures ∙ may)) _ _ same

pub returns-in_default-clause-seen : goal.returns-in_default-clause-seen
returns-in_default-clause-seen g c = each_itself _ (λ given. begins_itself (g.W.Task.seen given)) _

pub returns-in_default-with_capacity-clause-seen : goal.returns-in_default-with_capacity-clause-seen
returns-in_default-with_capacity-clause-seen g c = each_itself _ (λ given. begins_itself (g.W.Task.seen given)) _

pub returns-in_default-with_capacity-2-clause-seen : goal.returns-in_default-with_capacity-2-clause-seen
returns-in_default-with_capacity-2-clause-seen g c = each_itself _ (λ given. begins_itself (g.W.Task.seen given)) _
