use Rattle.std.proofs.Common.{◌≡◌, ap, ◌∙◌}
use Rattle.std.specs.List.{AllPairs}
use Rattle.zone_tree.specs.Sets.{records_in, IsSetBefore}
use Rattle.master_file.specs.ZoneText.{zone_records}
use Rattle.master_file.proofs.FaultyLemmas.{few_shown, many_shown, many_by}
use Rattle.master_file.proofs.faulty.within_limits.Goals as goal

pub returns-in-Ok-clause-few : goal.returns-in-Ok-clause-few
returns-in-Ok-clause-few c =
    let sets = rw c.in-Some.is at c.in_ok-sets.ensures.sets in
    let is : records_in c.deref.result.now ≡ zone_records c.args.records.items = ap records_in c.deref.ensures.value ∙ sets in
    few_shown c.args.records.items c.deref.result.now is c.in-Ok.ensures.rising c.in-Ok.ensures.few

pub returns-in-Err-clause-many : goal.returns-in-Err-clause-many
returns-in-Err-clause-many c =
    let sets = rw c.in-Some.is at c.in_ok-sets.ensures.sets in
    let is : records_in c.deref.result.now ≡ zone_records c.args.records.items = ap records_in c.deref.ensures.value ∙ sets in
    let rising : AllPairs IsSetBefore c.in-Some.sets.items = rw c.in-Some.is at c.in_ok-sets.ensures.ascending in
    many_shown c.args.records.items c.deref.result.now is (many_by c.in-Err.field-0 c.deref.result.now (rw c.deref.ensures.value rising) c.in-Err.ensures.fault.0 c.in-Err.ensures.fault.1)
