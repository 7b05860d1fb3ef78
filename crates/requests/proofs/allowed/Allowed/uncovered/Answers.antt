-- The record is that of the requestor at the address.
use Rattle.std.proofs.Common.{◌≡◌, ap, ◌∙◌}
use Rattle.rights.specs.declared.requestor.Requestor.{Requestor}
use Rattle.requests.specs.Allowed.{requestor_at, uncovered}
use Rattle.requests.proofs.PeerLemmas.{requestor_as}
use Rattle.requests.proofs.allowed.Allowed.uncovered.Goals as goal

pub returns : goal.returns
returns c =
    let same = requestor_as c.new-who.result c.args.transport c.args.from c.ip.result c.ip.ensures c.new-who.ensures.bits (c.new-who.ensures.tcp ∙ c.is_stream.ensures) in
    (c.parse-parsed.result, c.parse-parsed.ensures, c.uncovered_in.ensures ∙ ap (λ (who : Requestor). uncovered c.args.self.rules.now who c.parse-parsed.result) same)
