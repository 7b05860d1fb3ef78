use Rattle.std.proofs.Common.{Some, sym, ap, ◌∙◌}
use Rattle.zone_tree.specs.Zone.{soa_of}
use Rattle.transfer_core.specs.Chain.{zones_of, told_changes}
use Rattle.transfer_core.specs.Lists.{incremental}
use Rattle.transfer_core.specs.Packed.{listed}
use Rattle.serve_core.proofs.TransferLemmas.{told_whole, sent_by_stream, sent_by_datagram}
use Rattle.serve_core.proofs.transfer.transfer_reply.Goals as goal

pub returns-then-is_stream-clause-changes : goal.returns-then-is_stream-clause-changes
returns-then-is_stream-clause-changes g c zone whole leads =
    let versions = g.C.VersionList.versions c.args.chain.now in
    let served = c.args.version.now.zone in
    sent_by_stream served (Some (incremental zone (zones_of versions))) (told_changes (g.C.ChainView.whole c.args.chain.now) (soa_of served) versions) c.args.peer c.args.query.now _ (listed c.list_for-list.result) c.new.result
    (sym c.is_stream.ensures ∙ c.if-is_stream.true) (told_whole zone versions served (g.C.ChainView.whole c.args.chain.now) whole leads) c.reply_opt-opt.ensures c.list_for-list.ensures c.new.ensures

pub returns-clause-changes : goal.returns-clause-changes
returns-clause-changes g c zone whole leads =
    let versions = g.C.VersionList.versions c.args.chain.now in
    let served = c.args.version.now.zone in
    sent_by_datagram served (Some (incremental zone (zones_of versions))) (told_changes (g.C.ChainView.whole c.args.chain.now) (soa_of served) versions) c.args.peer c.args.query.now _ _ (listed c.list_for-list.result) c.soa-soa.result.now c.datagram.result
    (sym c.is_stream.ensures ∙ c.if-is_stream.false) (told_whole zone versions served (g.C.ChainView.whole c.args.chain.now) whole leads) c.reply_opt-opt.ensures c.udp_limit-limit.ensures.limit c.list_for-list.ensures (c.soa-soa.ensures.set ∙ ap soa_of c.zone.ensures) c.datagram.ensures
