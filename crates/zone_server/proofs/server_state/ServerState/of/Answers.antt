-- There is no ticket, and the versions are counted.
use Rattle.std.proofs.Common.{◌≡◌, ◌+◌, length, sym, subst, refl, arith}
use Rattle.std.specs.List.{All}
use Rattle.std.proofs.lemmas.List.Elements.{All-nil}
use Rattle.zone_server.specs.UpdateResult.{IsTicketDone}
use Rattle.zone_server.proofs.StateLemmas.{latest_length}
use Rattle.zone_server.proofs.server_state.ServerState.of.Goals as goal

pub invariant_of-state : goal.invariant_of-state
invariant_of-state g c =
    let held = c.args.engine.held in
    let long : length held.published ≡ held.last.number + 1 = latest_length g.Z.FirstZone.zone held.published held.last c.learn_latest.ensures.latest in (
      subst (All (IsTicketDone g.Z.FirstZone.zone held.published)) (sym c.new-tickets.ensures) (All-nil (IsTicketDone g.Z.FirstZone.zone held.published)),
      record {
        published_is = omega (arith, long, c.open-published.ensures.total, c.add.ensures.total, c.add-2.ensures.total, c.number.ensures.number);
        reserved_fit = omega (arith, c.open-reserved.ensures.total);
      },
    )

pub returns : goal.returns
returns g c =
    let held = c.args.engine.held in
    let long : length held.published ≡ held.last.number + 1 = latest_length g.Z.FirstZone.zone held.published held.last c.learn_latest.ensures.latest in
    record { state = refl; right = omega (arith, long, c.open-published.ensures.amount, c.add.ensures.amount, c.add-2.ensures.amount, c.number.ensures.number) }
