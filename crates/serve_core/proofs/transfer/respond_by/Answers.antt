-- What is asked that isn't a transfer gets the reply to a query.
use Rattle.std.proofs.Common.{◌≡◌}
use Rattle.serve_core.specs.Reply.{reply_to}
use Rattle.serve_core.specs.Transfers.{reply_to_peer}
use Rattle.serve_core.proofs.TransferLemmas.{of_other_class, of_no_transfer}
use Rattle.serve_core.proofs.transfer.respond_by.Goals.{then-ne-via-then-ne, then-ne-via-else-ne+then-not-asks_transfer}
use Rattle.serve_core.proofs.transfer.respond_by.Goals as goal

pub returns-then-ne-clause-octets : goal.returns-then-ne-clause-octets
returns-then-ne-clause-octets g c =
    let zone = g.Z.ZoneRead.records c.args.zone.now in
    let query = c.args.query.now in
    let ne = c.ne.ensures in
    let same : reply_to_peer zone c.args.peer query ≡ reply_to zone query = elim c.then-ne.branch [
      | then-ne-via-then-ne w ↦ of_other_class zone c.args.peer query (let is = w.if-ne.true in cc)
      | then-ne-via-else-ne+then-not-asks_transfer w ↦
          of_no_transfer zone c.args.peer query (let isnt = w.if-ne.false in cc) (let asks = w.asks_transfer.ensures in let none = w.if-not-asks_transfer.true in cc)
    ] in
    rw same c.respond_to_query.ensures.octets
