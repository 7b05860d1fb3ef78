-- What is next is told in the version that is loaded.
use Rattle.std.proofs.Common.{◌∙◌}
use Rattle.zone_server.proofs.KnownLemmas.{loads}
use Rattle.zone_server.proofs.NowLemmas.{load_grows, same_grows}
use Rattle.zone_server.proofs.NotifiedLemmas.{due_next, look_next}
use Rattle.zone_server.proofs.datagram_handler.DatagramHandlerNotifying.next_turn.Goals as goal

pub returns-in_err-strong-clause-grows : goal.returns-in_err-strong-clause-grows
returns-in_err-strong-clause-grows g c = same_grows _ _ c.in_err-strong.ensures.spent.1

pub returns-in-Some : goal.returns-in-Some
returns-in-Some g c =
    let first = g.Z.FirstZone.zone in
    let load = c.in_ok-strong.ensures.loaded in
    let strong = c.in_ok-strong.strong in
    record {
      grows = load_grows first _ _ strong.value (loads first _ _ strong load);
      next = due_next first _ _ strong c.get-version.result.now _ _ _ _ _ load (c.get-version.ensures ∙ c.get.ensures) c.in-Some.ensures;
      none = tt;
    }

pub returns-clause-grows : goal.returns-clause-grows
returns-clause-grows g c =
    let strong = c.in_ok-strong.strong in
    load_grows g.Z.FirstZone.zone _ _ strong.value (loads g.Z.FirstZone.zone _ _ strong c.in_ok-strong.ensures.loaded)

pub returns-clause-next : goal.returns-clause-next
returns-clause-next g c =
    look_next g.Z.FirstZone.zone _ _ c.in_ok-strong.strong c.get-version.result.now c.args.id _ _ _ _ c.next.new.out c.in_ok-strong.ensures.loaded (c.get-version.ensures ∙ c.get.ensures) c.in-None.ensures c.number.ensures c.next_look.ensures
