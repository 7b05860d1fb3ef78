-- A text's thread may be given it.
use denote.Exit.{no}
use denote.Param.Send.{param_send, arg_send}
use Rattle.store_compaction.proofs.SendLemmas.{job_send, captured_send}
use Rattle.store_compaction.proofs.thread.spawn_job.Goals as goal

pub spawn_with-requires-send-F : goal.spawn_with-requires-send-F
spawn_with-requires-send-F g c κs within = param_send _ _ (arg_send _ no _ (captured_send _ _ job_send))
