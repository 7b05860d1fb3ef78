-- How a job has ended, and what it has answered until then.
use Rattle.std.specs.Prelude.{◌≡◌, ◌⊎◌, ℕ, List, Option}
use Rattle.rights.specs.declared.rule.Rule.{Rule}
use Rattle.serve_core.specs.declared.peer.Peer.{Peer}
use Rattle.requests.specs.Datagrams.{Datagram}
use Rattle.requests.specs.Exchanged.{EndsBy}
use Rattle.requests.specs.Served.{Learned}
use Rattle.requests.specs.declared.udp.DatagramsEnd.{DatagramsEnd}
use Rattle.requests.specs.declared.udp.DatagramsEnd.TheVariants.{Done, Device, Spent}
use Rattle.zone_server.specs.declared.service_log.JobEnd.{JobEnd}
use Rattle.zone_server.specs.declared.service_log.JobEnd.TheVariants.{Done as HasDone, Device as HasFailed, Spent as IsSpent, NoMemory as IsStarved}
use Rattle.tcp_loop.specs.declared.worker.TurnEnd.{TurnEnd}
use Rattle.tcp_loop.specs.declared.worker.TurnEnd.TheVariants.{Device as TurnFailed, NoMemory as TurnStarved}

-- the end of a job that answers at most this many requests over UDP, from the end of its datagrams (own)
abbrev pub job_end : DatagramsEnd → ℕ → JobEnd
job_end Done most = HasDone most
job_end Device most = HasFailed
job_end Spent most = IsSpent

-- the end of a job on connections, from the reason that it can't take another turn (own)
abbrev pub end_by : TurnEnd → JobEnd
end_by TurnFailed = HasFailed
end_by TurnStarved = IsStarved

-- the end of a thread's job, from the end of its datagrams: the same, except that it may also be done, with any count, where no datagram could be
-- received (own)
abbrev pub EndsSo : JobEnd → JobEnd → Type 0
EndsSo (HasDone count) reported = reported ≡ HasDone count
EndsSo HasFailed reported = (reported ≡ HasFailed) ⊎ ((count : ℕ) × (reported ≡ HasDone count))
EndsSo IsSpent reported = reported ≡ IsSpent
EndsSo IsStarved reported = reported ≡ IsStarved

-- a job's datagrams are answered, at most this many, each as its peer's, by the rules by which peers may update and transfer. The job's end is the one
-- from the end of its datagrams (RFC 1035, 4.2.1)
abbrev pub JobEndsBy : {T : Type 0} → (Peer → Learned T → Learned T → List ℕ → List (List ℕ) → Type 0) → List Rule → JobEnd
    → Learned T → List Datagram × List Datagram → ℕ → ℕ → Learned T → Option (List Datagram × List Datagram) → ℕ → Type 0
JobEndsBy IsReply rules reported start old faults most seen new more =
    (end : DatagramsEnd) × (reported ≡ job_end end most) × EndsBy IsReply rules end start old faults most seen new more
