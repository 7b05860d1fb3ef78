-- The version that is loaded is the last of those known then.
use Rattle.std.proofs.Common.{◌∙◌, sym, subst}
use Rattle.zone_tree.specs.Version.{Version}
use Rattle.update_batches.specs.Engine.{IsLast}
use Rattle.zone_server.proofs.KnownLemmas.{loads, loaded_latest}
use Rattle.zone_server.proofs.NowLemmas.{load_grows, same_grows}
use Rattle.zone_server.proofs.datagram_handler.DatagramHandlerLocalUpdates.last_version.Goals as goal

pub returns-in_err-strong-clause-grows : goal.returns-in_err-strong-clause-grows
returns-in_err-strong-clause-grows g c = same_grows _ _ c.in_err-strong.ensures.spent.1

pub returns-clause-grows : goal.returns-clause-grows
returns-clause-grows g c =
    let strong = c.in_ok-strong.strong in
    load_grows g.Z.FirstZone.zone _ _ strong.value (loads g.Z.FirstZone.zone _ _ strong c.in_ok-strong.ensures.loaded)

pub returns-clause-last : goal.returns-clause-last
returns-clause-last g c =
    let strong = c.in_ok-strong.strong in
    let latest = loaded_latest g.Z.FirstZone.zone _ _ strong c.in_ok-strong.ensures.loaded in
    subst (λ (version : Version). IsLast c.load.new.reader.seen version) (sym (c.share.ensures ∙ c.get.ensures)) (latest.before, latest.ends)
