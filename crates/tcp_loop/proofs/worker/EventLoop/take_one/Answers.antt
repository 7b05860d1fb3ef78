-- The one that comes begins, or none does.
use Rattle.tcp_loop.specs.Steps.{stay}
use Rattle.tcp_loop.proofs.worker.EventLoop.take_one.Goals as goal

pub returns-in-Err-Blocked-clause-moves : goal.returns-in-Err-Blocked-clause-moves
returns-in-Err-Blocked-clause-moves g c = stay

pub returns-in-Err-Client-clause-moves : goal.returns-in-Err-Client-clause-moves
returns-in-Err-Client-clause-moves g c = stay

pub returns-in-Err-Room-clause-moves : goal.returns-in-Err-Room-clause-moves
returns-in-Err-Room-clause-moves g c = stay

pub returns-in-Err-Broken-clause-moves : goal.returns-in-Err-Broken-clause-moves
returns-in-Err-Broken-clause-moves g c = stay
