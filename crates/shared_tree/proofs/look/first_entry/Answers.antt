use Rattle.std.proofs.Common.{◌∙◌, sym, subst}
use Rattle.shared_tree.specs.Links.{link_pairs, IsFormed, IsParted}
use Rattle.shared_tree.specs.declared.node.Node.{Node}
use Rattle.shared_tree.proofs.LinkLemmas.{first_formed, first_of}
use Rattle.shared_tree.proofs.RunLemmas.{first_parts}
use Rattle.shared_tree.proofs.look.first_entry.Goals as goal

-- the left side has the first pair
pub loop-below-preserved : goal.loop-below-preserved
loop-below-preserved g c =
    let n = c.in-Fork.node.value in
    let sides = c.deref-in-Fork.ensures in
    record {
      first = λ f.
          let h = rw c.in-Fork.is at (c.loop-below.invariant.first f) in
          (subst (λ (node : Node g.row.K.Denot g.row.V.Denot). IsFormed node.left) (sym sides) h.0.2, rw sides (sym (first_formed n.left h.0.2 (link_pairs n.right)) ∙ h.1));
      parting = λ front p.
          let h = rw c.in-Fork.is at (c.loop-below.invariant.parting front p) in
          (subst (λ (node : Node g.row.K.Denot g.row.V.Denot). IsParted front node.left) (sym sides) h.0.1, rw sides (sym (first_of front n.left h.0.1 (link_pairs n.right)) ∙ h.1));
    }

-- the run's first entry
pub returns-in-Run-clause-parting : goal.returns-in-Run-clause-parting
returns-in-Run-clause-parting g c front p =
    let h = rw c.in-Run.is at (c.loop-below.invariant.parting front p) in
    let value = rw (c.deref-in-Run.ensures.value, c.deref.ensures) at c.first.ensures.value in
    first_parts front c.in-Run.run'.value.items (link_pairs c.args.link.now) c.first.result value h.0 h.1
