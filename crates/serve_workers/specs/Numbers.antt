-- A thread's job: its number, whether it takes datagrams, the rules by which peers may update and transfer, how it ended, and with which fault (own).
use Rattle.std.specs.Prelude.{◌≡◌, ℕ, Bool, true, false, List, Option, None, Some}
use Rattle.rights.specs.declared.rule.Rule.{Rule}
use Rattle.zone_server.specs.declared.service_log.JobEnd.{JobEnd}
use Rattle.zone_server.specs.declared.service_log.JobEnd.TheVariants.{Done, Device, Spent, NoMemory}
use Rattle.server_control.specs.declared.serve_fault.ServeFault.{ServeFault}
use Rattle.server_control.specs.declared.serve_fault.ServeFault.TheVariants.{Device as HasFailed, Spent as IsSpent, NoMemory as IsStarved}
use Rattle.serve_workers.specs.declared.thread_spec.Sockets.{Sockets}
use Rattle.serve_workers.specs.declared.thread_spec.Sockets.TheVariants.{Datagrams as OfDatagrams, Connections as OfConnections, Secondaries as OfSecondaries, Control as OfControl, Metrics as OfMetrics}
use Rattle.serve_workers.specs.declared.threads.SocketJob.{SocketJob}
use Rattle.serve_workers.specs.declared.threads.SocketJob.TheVariants.{Datagrams, Connections, SignedDatagrams, SignedConnections, CountedDatagrams, CountedConnections, CountedSignedDatagrams, CountedSignedConnections, Secondaries, Control, Metrics}

-- the job's number
abbrev pub number_of : {C : Type 0} → SocketJob C → ℕ
number_of (Datagrams job) = job.number
number_of (Connections job) = job.number
number_of (SignedDatagrams signed) = signed.job.number
number_of (SignedConnections signed) = signed.job.number
number_of (CountedDatagrams job) = job.number
number_of (CountedConnections counted) = counted.job.number
number_of (CountedSignedDatagrams signed) = signed.job.number
number_of (CountedSignedConnections signed) = signed.job.job.number
number_of (Secondaries job) = job.number
number_of (Control job) = job.number
number_of (Metrics job) = job.number

-- whether the job takes datagrams
abbrev pub takes_datagrams : {C : Type 0} → SocketJob C → Bool
takes_datagrams (Datagrams job) = true
takes_datagrams (Connections job) = false
takes_datagrams (SignedDatagrams signed) = true
takes_datagrams (SignedConnections signed) = false
takes_datagrams (CountedDatagrams job) = true
takes_datagrams (CountedConnections counted) = false
takes_datagrams (CountedSignedDatagrams signed) = true
takes_datagrams (CountedSignedConnections signed) = false
takes_datagrams (Secondaries job) = false
takes_datagrams (Control job) = false
takes_datagrams (Metrics job) = false

-- whether the sockets are of datagrams
abbrev pub are_datagrams : Sockets → Bool
are_datagrams (OfDatagrams socket) = true
are_datagrams (OfConnections listeners) = false
are_datagrams (OfSecondaries secondaries) = false
are_datagrams (OfControl control) = false
are_datagrams (OfMetrics metrics) = false

-- the rules by which peers may update and transfer by the job are these; true of a job that notifies secondaries, takes the operator's commands or tells metrics, which answers no requests
abbrev pub HasRights : {C : Type 0} → List Rule → SocketJob C → Type 0
HasRights rules (Datagrams job) = job.job.allowed.rules.now ≡ rules
HasRights rules (Connections job) = job.plan.allowed.rules.now ≡ rules
HasRights rules (SignedDatagrams signed) = signed.job.job.allowed.rules.now ≡ rules
HasRights rules (SignedConnections signed) = signed.job.plan.allowed.rules.now ≡ rules
HasRights rules (CountedDatagrams job) = job.job.allowed.rules.now ≡ rules
HasRights rules (CountedConnections counted) = counted.job.plan.allowed.rules.now ≡ rules
HasRights rules (CountedSignedDatagrams signed) = signed.job.job.allowed.rules.now ≡ rules
HasRights rules (CountedSignedConnections signed) = signed.job.job.plan.allowed.rules.now ≡ rules
HasRights rules (Secondaries job) = Unit {0}
HasRights rules (Control job) = Unit {0}
HasRights rules (Metrics job) = Unit {0}

-- the job's end; none where it hasn't ended
abbrev pub end_of : {C : Type 0} → SocketJob C → Option JobEnd
end_of (Datagrams job) = job.end
end_of (Connections job) = job.end
end_of (SignedDatagrams signed) = signed.job.end
end_of (SignedConnections signed) = signed.job.end
end_of (CountedDatagrams job) = job.end
end_of (CountedConnections counted) = counted.job.end
end_of (CountedSignedDatagrams signed) = signed.job.end
end_of (CountedSignedConnections signed) = signed.job.job.end
end_of (Secondaries job) = job.end
end_of (Control job) = job.end
end_of (Metrics job) = job.end

-- why a zone is no longer served, from a job's end; none where the job ended without a failure or hasn't ended
abbrev pub fault_by : Option JobEnd → Option ServeFault
fault_by None = None
fault_by (Some (Done count)) = None
fault_by (Some Device) = Some HasFailed
fault_by (Some Spent) = Some IsSpent
fault_by (Some NoMemory) = Some IsStarved
