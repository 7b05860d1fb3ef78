use Rattle.std.proofs.Common.{◌≡◌, ◌∙◌, subst}
use Rattle.dns_name.specs.Name.{fold_name}
use Rattle.dns_rdata.specs.Record.{owner_of}
use Rattle.zone_tree.proofs.OwnerLemmas.{put_new}
use Rattle.zone_tree.proofs.owners.put_new.Goals as goal

-- the set is the first of a new owner
pub returns : goal.returns
returns c = λ sets h before.
    let folded : owner_of c.args.set ≡ fold_name (owner_of c.args.set) = subst (λ n. n ≡ fold_name n) c.stored_owner.ensures.of c.stored_owner.ensures.folded in
    rw c.in_ok-push.ensures.items (put_new c.args.pairs.now.items _ sets c.args.set h (c.in_ok-key.ensures ∙ c.stored_owner.ensures.of) c.from_buf.ensures.items folded before)
