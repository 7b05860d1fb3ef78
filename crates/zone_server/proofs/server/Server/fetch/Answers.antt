-- What is told is about versions that the reader has met.
use Rattle.std.proofs.Common.{List, ap, ◌∙◌, sym, subst}
use Rattle.zone_tree.specs.Version.{Version}
use Rattle.snapshot_cell.specs.Tokens.{ReaderState}
use Rattle.dns_engine.specs.Held.{EngineState}
use Rattle.zone_server.specs.Tickets.{IsFetchedBy}
use Rattle.zone_server.specs.UpdateResult.{IsFetched}
use Rattle.zone_server.specs.declared.open_ticket.TicketPoll.{TicketPoll}
use Rattle.zone_server.proofs.TicketLemmas.{fetched_as}
use Rattle.zone_server.proofs.server.Server.fetch.Goals as goal

pub returns : goal.returns
returns g c =
    let first = g.Z.FirstZone.zone in
    let met = c.meet_last.ensures.met in
    let same = c.deref.ensures ∙ c.meet_last.ensures.same in
    let again = c.deref_mut-2.ensures.value ∙ c.meet_last.ensures.same in
    let seen = ap (λ (s : EngineState). s.held.published) again ∙ sym (ap (λ (r : ReaderState Version). r.seen) met.seen) in
    let reported = subst (λ (l : List Version). IsFetched first l c.fetch-poll.result) seen c.fetch-poll.ensures.reported in
    record {
      met = (c.deref_mut.result.now, met, ap (λ (s : EngineState). s.held.last.number) (sym same) ∙ sym c.number-number.ensures.number);
      fetched = subst (λ (f : TicketPoll). IsFetchedBy first c.meet_last.new.reader.seen c.args.ticket f) (sym c.fetched.ensures) (fetched_as first c.meet_last.new.reader.seen c.args.ticket c.fetch-poll.result reported);
    }
