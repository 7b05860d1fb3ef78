use Rattle.std.proofs.Common.{◌≡◌, ◌∙◌, ap, sym, take, arith}
use Rattle.std.proofs.lemmas.Bool.Decides.{nat_tests}
use Rattle.zone_tree.specs.Sets.{records_in}
use Rattle.master_file.specs.ZoneText.{zone_records}
use Rattle.master_file.proofs.FaultyLemmas.{many_first, one_shown, second_shown, apart_shown, conflict_shown, on_true, on_false}
use Rattle.master_file.proofs.faulty.is_shown.Goals as goal

pub returns-in_default-clause-shown : goal.returns-in_default-clause-shown
returns-in_default-clause-shown c =
    let all = c.args.records.now in
    many_first c.args.sought c.args.count all c.in_ok-first.first.items c.in_ok-first.ensures c.requires.few (rw c.in_default.is at c.in_ok-sets.ensures.many)

pub returns-in-SecondSoa-clause-shown : goal.returns-in-SecondSoa-clause-shown
returns-in-SecondSoa-clause-shown c =
    let all = c.args.records.now in
    let first = c.in_ok-first.first.items in
    let front = c.in_ok-first.ensures in
    let sets = rw c.in-Some.is at c.in_ok-sets.ensures.sets in
    let is : records_in c.deref.result.now ≡ zone_records (take c.args.count all) = ap records_in c.deref.ensures.value ∙ sets ∙ ap zone_records front in
    rw c.in-SecondSoa.is (on_true _ c.has_second_soa.result (λ shown. second_shown (take c.args.count all) c.deref.result.now is (let e = sym c.has_second_soa.ensures ∙ shown in grind (arith, nat_tests))))

pub returns-in-SecondSoa-clause-none : goal.returns-in-SecondSoa-clause-none
returns-in-SecondSoa-clause-none c =
    let all = c.args.records.now in
    let front = c.in_ok-first.ensures in
    let sets = rw c.in-Some.is at c.in_ok-sets.ensures.sets in
    let is : records_in c.deref.result.now ≡ zone_records (take c.args.count all) = ap records_in c.deref.ensures.value ∙ sets ∙ ap zone_records front in
    rw c.in-SecondSoa.is (on_false _ c.has_second_soa.result (λ none. one_shown (take c.args.count all) c.deref.result.now is (let e = sym c.has_second_soa.ensures ∙ none in grind (arith, nat_tests))))

pub returns-clause-shown : goal.returns-clause-shown
returns-clause-shown c =
    let all = c.args.records.now in
    let front = c.in_ok-first.ensures in
    let sets = rw c.in-Some.is at c.in_ok-sets.ensures.sets in
    let is : records_in c.deref-in-Conflict.result.now ≡ zone_records (take c.args.count all) = ap records_in c.deref-in-Conflict.ensures.value ∙ sets ∙ ap zone_records front in
    rw c.in-Conflict.is (on_true _ c.is_crowded.result (λ shown. conflict_shown (take c.args.count all) c.deref-in-Conflict.result.now is (sym c.is_crowded.ensures ∙ shown)))

pub returns-clause-none : goal.returns-clause-none
returns-clause-none c =
    let all = c.args.records.now in
    let front = c.in_ok-first.ensures in
    let sets = rw c.in-Some.is at c.in_ok-sets.ensures.sets in
    let is : records_in c.deref-in-Conflict.result.now ≡ zone_records (take c.args.count all) = ap records_in c.deref-in-Conflict.ensures.value ∙ sets ∙ ap zone_records front in
    rw c.in-Conflict.is (on_false _ c.is_crowded.result (λ none. apart_shown (take c.args.count all) c.deref-in-Conflict.result.now is (sym c.is_crowded.ensures ∙ none)))
