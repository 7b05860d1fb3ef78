-- How an update is answered: by what it comes to, and by how its call ends (RFC 2136, 3.8).
use Rattle.std.specs.Prelude.{◌≡◌, ℕ, ◌⊎◌, List, Option, None, Some}
use Rattle.cell_core.specs.declared.words.WordEvent.{WordEvent}
use Rattle.cell_core.specs.declared.words.WordEvent.TheVariants as reported
use Rattle.serve_core.specs.declared.heading.Heading.{Heading}
use Rattle.dns_message.specs.Octets.{fit}
use Rattle.dns_rdata.specs.declared.numbers.Rcode.{Rcode}
use Rattle.dns_rdata.specs.Record.{Record}
use Rattle.serve_core.specs.declared.transport.Transport.TheVariants.{Udp}
use Rattle.serve_core.specs.Heading.{coded}
use Rattle.serve_core.specs.Served.{Got}
use Rattle.serve_core.specs.Transport.{limit_of}
use Rattle.world_run.specs.declared.phase.End.TheVariants.{NoSlot, Kept}
use Rattle.world_run.specs.declared.entries.Entry.{Entry}
use Rattle.world_run.specs.declared.phase.Phase.{Phase}
use Rattle.world_run.specs.declared.phase.Phase.TheVariants.{Load, Look, Raise, Note, Probe, Prepare, Swap, Settle, Keep, Enter, Seek, Gain, Release, Bury, Fade, Reset, Free}
use Rattle.world_run.specs.declared.phase.Progress.{Progress}
use Rattle.world_run.specs.declared.phase.Progress.TheVariants.{On, Done}
use Rattle.world_run.specs.declared.phase.Purpose.{Purpose}
use Rattle.world_run.specs.declared.phase.Purpose.TheVariants as purpose

-- what the reply repeats of the update that an owner is released for; none where a name is dropped, and of a transfer (own)
abbrev pub heading_for : Purpose → Option Heading
heading_for purpose.Drop = None
heading_for (purpose.Publish keeping kept entry) = Some keeping.heading
heading_for (purpose.Oldest heading kept entry leaving) = Some heading
heading_for (purpose.Leaves heading kept entry leaving) = Some heading
heading_for (purpose.Sent sending owners) = None

-- what the reply repeats of the update that a call is; none of another call (own)
abbrev pub heading_of : Phase → Option Heading
heading_of (Load name) = None
heading_of (Look name owner) = None
heading_of (Raise name owner) = None
heading_of (Note name owner) = None
heading_of (Probe version keeping) = Some keeping.heading
heading_of (Prepare version keeping) = Some keeping.heading
heading_of (Swap keeping) = Some keeping.heading
heading_of (Settle keeping) = Some keeping.heading
heading_of (Keep given keeping) = Some keeping.heading
heading_of (Enter given kept keeping) = Some keeping.heading
heading_of (Seek owner seeking) = None
heading_of (Gain owner seeking) = None
heading_of (Release owner for) = heading_for for
heading_of (Bury owner for) = heading_for for
heading_of (Fade owner number for) = heading_for for
heading_of (Reset owner number for) = heading_for for
heading_of (Free owner number for) = heading_for for

-- an update keeps what its reply repeats of it from step to step, and ends where no slot was free, or with its version kept (own)
abbrev pub KeepsHeading : Heading → WordEvent → Progress → Type 0
KeepsHeading heading event (On next) = heading_of next ≡ Some heading
KeepsHeading heading event (Done end) = ((end ≡ NoSlot heading) × (event ≡ reported.NoSlot)) ⊎ ((owner : ℕ) × (entry : Option Entry) × (end ≡ Kept heading owner entry))

-- a request gets a code, and this zone stands after it (RFC 2136, 3.8)
abbrev pub got_alone : Heading → Rcode → List Record → Got
got_alone heading code zone = record { reply = Some (fit (coded heading code) (limit_of Udp None)); zone = zone }
