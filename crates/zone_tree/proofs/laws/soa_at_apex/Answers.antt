-- The apex is the owner of the one SOA.
use Rattle.zone_tree.proofs.LawLemmas.{soa_is_at_apex}
use Rattle.zone_tree.proofs.laws.soa_at_apex.Goals as goal

pub returns : goal.returns
returns c = soa_is_at_apex
