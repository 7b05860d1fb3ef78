-- Its place is the start of its list.
use Rattle.std.proofs.Common.{◌≡◌, false, ap, subst}
use Rattle.zone_tree.specs.Zone.{soa_of}
use Rattle.zone_tree.specs.Version.{Version}
use Rattle.dns_engine.specs.Chain.{changes_by}
use Rattle.transfer_core.specs.Places.{left_at}
use Rattle.serve_core.specs.Transfers.{list_for}
use Rattle.zone_replies.specs.RemainingMessages.{messages_of_records}
use Rattle.zone_replies.proofs.transfer.Transfer.new.Goals as goal

pub returns : goal.returns
returns c =
    let chain = c.args.chain in
    let query = c.args.query in
    ap (messages_of_records query false)
    (subst (λ (v : Version). left_at v.zone chain.versions c.transfer_start-place.result ≡ list_for v.zone (changes_by (soa_of v.zone) chain) query) c.get.ensures c.transfer_start-place.ensures)
