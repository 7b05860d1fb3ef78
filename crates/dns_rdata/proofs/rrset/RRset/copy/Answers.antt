use Rattle.std.proofs.Common.{◌≡◌, ◌∙◌}
use Rattle.dns_rdata.specs.Record.{records_with}
use Rattle.dns_rdata.proofs.rrset.RRset.copy.Goals as goal

pub returns : goal.returns
returns c =
    let set = c.self.inside in
    let owner : c.in_ok-owner.owner ≡ set.owner = c.in_ok-owner.ensures in
    let items : c.in_ok-rdata.rdata.items ≡ set.rdata.items = c.in_ok-rdata.ensures ∙ c.deref.ensures in
    (λ i. records_with (owner i) set.rtype.0 set.ttl.0 (items i)) ∙ c.self.view_is
