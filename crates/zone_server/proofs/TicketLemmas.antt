-- What is fetched by a ticket is what the state gives, or the ticket itself.
use Rattle.std.proofs.Common.{refl, List}
use Rattle.dns_rdata.specs.Record.{Record}
use Rattle.zone_tree.specs.Version.{Version}
use Rattle.zone_server.specs.Tickets.{fetched_by, IsFetchedBy}
use Rattle.zone_server.specs.UpdateResult.{IsFetched}
use Rattle.zone_server.specs.declared.open_ticket.WaitingTicket.{WaitingTicket}
use Rattle.zone_server.specs.declared.update_result.Poll.{Poll}
use Rattle.zone_server.specs.declared.update_result.Poll.TheVariants.{Unknown, Pending, Ready}

pub fetched_as : (first : List Record) (published : List Version) (ticket : WaitingTicket) (poll : Poll) → IsFetched first published poll → IsFetchedBy first published ticket (fetched_by ticket poll)
fetched_as first published ticket Unknown is = tt
fetched_as first published ticket Pending is = refl
fetched_as first published ticket (Ready done) is = is
