use Rattle.std.proofs.Common.{sym, subst, ap, ◌∙◌, List}
use Rattle.dns_rdata.specs.Record.{Record}
use Rattle.std.specs.List.{AllPairs}
use Rattle.zone_tree.specs.Sets.{records_in, AreUnsplit, IsSetBefore}
use Rattle.zone_tree.proofs.Rising.{pairs_from_rises}
use Rattle.master_file.proofs.SetLemmas.{where_some, where_none}
use Rattle.master_file.proofs.SortLemmas.{rises_sorted, zone_sorted}
use Rattle.master_file.proofs.PutLemmas.{sets_of_zone}
use Rattle.master_file.proofs.OverLemmas.{none_over, unsplit_rising}
use Rattle.master_file.proofs.sorted.sets_of.Goals as goal

pub returns-clause-sets : goal.returns-clause-sets
returns-clause-sets c =
    let sorted = c.sort.new.self.items in
    where_some c.put_all.result (λ sets put.
    ap records_in put ∙ (sets_of_zone sorted (rises_sorted sorted c.in_ok-sort.ensures.sorted)).records
    ∙ zone_sorted c.args.records.items sorted c.in_ok-sort.ensures.permutation c.in_ok-sort.ensures.stable) c.put_all.ensures.sets

pub returns-clause-unsplit : goal.returns-clause-unsplit
returns-clause-unsplit c =
    let sorted = c.sort.new.self.items in
    where_some c.put_all.result (λ sets put.
    subst (λ (sets : List (List Record)). AreUnsplit sets) (sym put) (unsplit_rising _ (sets_of_zone sorted (rises_sorted sorted c.in_ok-sort.ensures.sorted)).rises)) c.put_all.ensures.sets

pub returns-clause-many : goal.returns-clause-many
returns-clause-many c =
    let sorted = c.sort.new.self.items in
    where_none c.put_all.result (λ over none.
    none_over c.args.records.items sorted (rises_sorted sorted c.in_ok-sort.ensures.sorted) (zone_sorted c.args.records.items sorted c.in_ok-sort.ensures.permutation c.in_ok-sort.ensures.stable) over none) c.put_all.ensures.over

pub returns-clause-ascending : goal.returns-clause-ascending
returns-clause-ascending c =
    let sorted = c.sort.new.self.items in
    where_some c.put_all.result (λ sets put.
    subst (λ (sets : List (List Record)). AllPairs IsSetBefore sets) (sym put) (pairs_from_rises IsSetBefore _ (sets_of_zone sorted (rises_sorted sorted c.in_ok-sort.ensures.sorted)).rises)) c.put_all.ensures.sets
