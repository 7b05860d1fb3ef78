-- What is fetched from the ticket of an update that waits (own).
use Rattle.std.specs.Prelude.{◌≡◌, List}
use Rattle.dns_rdata.specs.Record.{Record}
use Rattle.zone_tree.specs.Version.{Version}
use Rattle.zone_server.specs.UpdateResult.{IsDone}
use Rattle.zone_server.specs.declared.update_result.Poll.{Poll}
use Rattle.zone_server.specs.declared.update_result.Poll.TheVariants.{Unknown as IsUnknown, Pending as IsPending, Ready as IsReady}
use Rattle.zone_server.specs.declared.open_ticket.WaitingTicket.{WaitingTicket}
use Rattle.zone_server.specs.declared.open_ticket.TicketPoll.{TicketPoll}
use Rattle.zone_server.specs.declared.open_ticket.TicketPoll.TheVariants.{Unknown, Pending, Ready}

-- what the state gives when it is polled, with the ticket if that waits on
abbrev pub fetched_by : WaitingTicket → Poll → TicketPoll
fetched_by ticket IsUnknown = Unknown
fetched_by ticket IsPending = Pending ticket
fetched_by ticket (IsReady done) = Ready done

-- what is fetched by a ticket: the ticket itself if it waits on, or a result that holds for the versions known to be published
abbrev pub IsFetchedBy : List Record → List Version → WaitingTicket → TicketPoll → Type 0
IsFetchedBy first published ticket Unknown = Unit {0}
IsFetchedBy first published ticket (Pending same) = same ≡ ticket
IsFetchedBy first published ticket (Ready done) = IsDone first published done
