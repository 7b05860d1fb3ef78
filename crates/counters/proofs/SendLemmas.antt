-- What others see of the numbers of threads may be shared by threads.
use denote.Param.Send.{IsSend, IsSync, sendable}
use Rattle.std.proofs.Crossing as crossing
use Rattle.std.proofs.sync.Mutex.TheSendSync as mutex
use Rattle.crossbeam_utils.proofs.cache_padded.CachePadded.TheSendSync as padded
use Rattle.counters.specs.contracts.secondary.SecondaryCounters as secondary
use Rattle.counters.specs.contracts.server.ServerCounters as server
use Rattle.counters.specs.contracts.shared.SharedCounters as shared
use Rattle.counters.specs.contracts.shared.Shown as shown
use Rattle.counters.specs.contracts.shared.Streamed as streamed

shown_send : IsSend shown.the_row
shown_send = search (crossing.crosses, sendable) depth 60 fits 20000

streamed_sync : IsSync streamed.the_row
streamed_sync = search (crossing.crosses, sendable) depth 60 fits 20000

pub shared_sync : IsSync shared.the_row
shared_sync = search (mutex.the_sync, padded.the_field_sync, shown_send, streamed_sync, crossing.crosses, sendable) depth 60 fits 20000

pub secondary_sync : IsSync secondary.the_row
secondary_sync = search (crossing.crosses, sendable) depth 60 fits 20000

pub server_sync : IsSync server.the_row
server_sync = search (shared_sync, secondary_sync, crossing.crosses, sendable) depth 60 fits 20000
