-- The jobs, and what they give back, may be sent to other threads.
use denote.Exit.{no}
use denote.Param.{param}
use denote.Param.Send.{IsSend, IsSync, param_send, arg_send, sendable}
use denote.Ref.{NamedLft}
use denote.RattleType.{RattleType}
use Rattle.std.proofs.Crossing as crossing
use Rattle.std.proofs.option.Option.TheSendSync as option
use Rattle.std.specs.contracts.option.Option as Option
use Rattle.rtrb.proofs.end.End.TheSendSync as end
use Rattle.rtrb.proofs.producer.Producer.TheSendSync as producer
use Rattle.rtrb.proofs.consumer.Consumer.TheSendSync as consumer
use Rattle.snapshot_cell.proofs.SendLemmas as cell
use Rattle.snapshot_cell.specs.declared.named.Naming as naming
use Rattle.test_cell.specs.contracts.counted.Counted as counted
use Rattle.test_cell.specs.contracts.counted.Tally as tally
use Rattle.test_cell.specs.contracts.jobs.Back as back
use Rattle.test_cell.specs.contracts.jobs.Copier as copier
use Rattle.test_cell.specs.contracts.jobs.Job as job
use Rattle.test_cell.specs.contracts.jobs.Raiser as raiser
use Rattle.test_cell.specs.contracts.named.CellWriter as writer
use Rattle.test_cell.proofs.jobs.run_all.Goals as goal

tally_send : IsSend tally.the_row
tally_send = search (option.the_field_send, crossing.crosses, sendable) depth 60 fits 20000

tally_sync : IsSync tally.the_row
tally_sync = search (option.the_field_sync, crossing.crosses, sendable) depth 60 fits 20000

counted_send : IsSend counted.the_row
counted_send = search (tally_send, tally_sync, crossing.crosses, sendable) depth 60 fits 20000

counted_sync : IsSync counted.the_row
counted_sync = search (tally_send, tally_sync, crossing.crosses, sendable) depth 60 fits 20000

module _ (N : RattleType) (n : naming.Ghosts N.Denot) where
  module _ (a : NamedLft) where
    writer_send : IsSend (writer.the_field a N n).row
    writer_send = search (counted_send, counted_sync, tally_send, tally_sync, option.the_field_send, producer.the_field_send, producer.the_send, cell.crosses, crossing.crosses, sendable) depth 60 fits 20000

    back_send : IsSend (back.the_row a N n)
    back_send = search (writer_send, counted_send, counted_sync, cell.crosses, sendable) depth 60 fits 20000

    ran_send : IsSend (Option.the_row (back.the_row a N n))
    ran_send = search (back_send, option.the_send, sendable) depth 60 fits 20000

    copier_send : IsSend (copier.the_field a N n).row
    copier_send = search (counted_send, counted_sync, tally_send, tally_sync, cell.crosses, crossing.crosses, sendable) depth 60 fits 20000

    raiser_send : IsSend (raiser.the_field a N n).row
    raiser_send = search (counted_send, counted_sync, tally_send, tally_sync, consumer.the_field_send, cell.crosses, crossing.crosses, sendable) depth 60 fits 20000

    jobs_send : IsSend (job.the_row a N n)
    jobs_send = search (copier_send, raiser_send, writer_send, counted_send, counted_sync, tally_send, tally_sync, cell.crosses, crossing.crosses, sendable) depth 60 fits 20000

pub map_vec-requires-send-J : goal.map_vec-requires-send-J
map_vec-requires-send-J g c κs within = param_send _ _ (arg_send _ no _ (jobs_send (param 1 g.row.N) g.N.Naming _))

pub map_vec-requires-send-X : goal.map_vec-requires-send-X
map_vec-requires-send-X g c κs within = param_send _ _ (arg_send _ no _ (ran_send (param 1 g.row.N) g.N.Naming _))
