-- The thread that reads a zone file again may be given its reader.
use denote.Exit.{no}
use denote.Param.Send.{param_send, arg_send}
use Rattle.dnsd.proofs.SendLemmas.{captured_send, reader_send, runtime_send}
use Rattle.dnsd.proofs.fn.main.start.Goals as goal

pub spawn-requires-send-F : goal.spawn-requires-send-F
spawn-requires-send-F g c κs = param_send _ _ (arg_send _ no _ (captured_send _ _ _ reader_send runtime_send))
