use Rattle.std.proofs.Common.{refl}
use Rattle.shared_tree.specs.Links.{link_pairs}
use Rattle.shared_tree.proofs.LinkLemmas.{entry_parting}
use Rattle.shared_tree.proofs.look.share_first.Goals as goal

-- the entry that is shared parts what the first one does
pub returns-in_ok-shared-in-Some : goal.returns-in_ok-shared-in-Some
returns-in_ok-shared-in-Some g c front parted =
    entry_parting front c.in_ok-shared-in-Some.shared c.in-Some.first.now (link_pairs c.args.link.now) (link_pairs c.args.link.now) c.in_ok-shared-in-Some.ensures.front c.in_ok-shared-in-Some.ensures.pair refl (c.in-Some.ensures.parting front parted)
