use Rattle.std.proofs.Common.{refl, sym, inr, subst, List}
use Rattle.dns_rdata.specs.Record.{Record}
use Rattle.zone_tree.specs.Zone.{IsZone}
use Rattle.zone_tree.specs.Sets.{records_in, AreUnsplit}
use Rattle.transfer_in.proofs.GroupLemmas.{unsplit}
use Rattle.transfer_in.proofs.EndLemmas.{held_no_zone}
use Rattle.transfer_in.proofs.ended.zone_of.Goals as goal

pub returns-in-Err-Broken-clause-fault : goal.returns-in-Err-Broken-clause-fault
returns-in-Err-Broken-clause-fault c =
    let is = rw c.in-Some.is at c.in_ok-sets.ensures.records in
    let order = rw c.in-Some.is at c.in_ok-sets.ensures.rising in
    let reported : AreUnsplit c.in-Some.sets.items → IsZone (records_in c.in-Some.sets.items) → ⊥ = rw c.in-Err-Broken.field-0-is at c.in-Err-Broken.ensures.refused in
    inr (refl, held_no_zone c.args.apex.now c.args.records c.requires.held c.requires.folded (λ zone. reported (unsplit c.in-Some.sets.items order) (subst (λ (records : List Record). IsZone records) (sym is) zone)))
