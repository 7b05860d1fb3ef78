use Rattle.std.proofs.Common.{◌≡◌, ◌≤◌, refl, ap, sym, ◌∙◌, length, arith, Some, None, Err}
use Rattle.std.proofs.lemmas.Bool.Decides.{nat_tests}
use Rattle.zone_tree.specs.Sets.{records_in}
use Rattle.zone_tree.specs.Zone.{soa_of}
use Rattle.master_file.specs.Records.{Read}
use Rattle.master_file.specs.ZoneText.{zone_records}
use Rattle.master_file.proofs.FaultyLemmas.{second_shown, none_by, told_none, told_unserved, told_outside, told_conflict}
use Rattle.master_file.proofs.faulty.judge.Goals as goal

pub first_shown-requires-clause-shown : goal.first_shown-requires-clause-shown
first_shown-requires-clause-shown c =
    second_shown c.args.records.now c.args.sets.items c.requires.sets (let e = sym c.has_second_soa.ensures ∙ c.if-has_second_soa.true in grind (arith, nat_tests))

pub returns-in-Err : goal.returns-in-Err
returns-in-Err c =
    let read : Read = record { rrs = c.args.records.now; fault = None } in
    let one : length (soa_of (records_in c.args.sets.items)) ≤ 1 = let e = sym c.has_second_soa.ensures ∙ c.if-has_second_soa.false in grind (arith, nat_tests) in
    let is : records_in c.deref-2.result.now ≡ zone_records c.args.records.now = ap records_in c.deref-2.ensures.value ∙ c.requires.sets in
    told_none read c.deref-2.result.now is refl c.requires.few
    (none_by c.in-Err.field-0 c.deref-2.result.now (rw c.deref-2.ensures.value c.requires.rising.ascending) (rw c.deref-2.ensures.value c.requires.small) c.in-Err.ensures.fault c.in-Err.ensures.early (rw c.deref-2.ensures.value one))
    ∙ ap Err (sym c.fault_at-in-Err.ensures)

pub returns-then-not-apex : goal.returns-then-not-apex
returns-then-not-apex c =
    let read : Read = record { rrs = c.args.records.now; fault = None } in
    let is : records_in c.deref-2.result.now ≡ zone_records c.args.records.now = ap records_in c.deref-2.ensures.value ∙ c.requires.sets in
    told_unserved read c.deref-2.result.now is refl c.requires.few c.in-Ok.ensures.one (rw c.if-not-apex.true at c.in-Ok.ensures.unserved)
    ∙ ap Err (sym c.fault_at-then-not-apex.ensures)

pub returns-in-Some : goal.returns-in-Some
returns-in-Some c =
    let read : Read = record { rrs = c.args.records.now; fault = None } in
    let is : records_in c.deref-2.result.now ≡ zone_records c.args.records.now = ap records_in c.deref-2.ensures.value ∙ c.requires.sets in
    told_outside read c.deref-2.result.now is refl c.requires.few c.in-Ok.ensures.one (rw c.if-not-apex.false at c.in-Ok.ensures.served) c.in-Ok.apex.name c.in-Ok.ensures.apex c.in-Some.line (sym c.in-Some.is ∙ c.first_outside.ensures)
    ∙ ap Err (sym c.fault_at-in-Some.ensures)

pub first_conflict-requires-clause-shown : goal.first_conflict-requires-clause-shown
first_conflict-requires-clause-shown c = λ none.
    let read : Read = record { rrs = c.args.records.now; fault = None } in
    let is : records_in c.deref-2.result.now ≡ zone_records c.args.records.now = ap records_in c.deref-2.ensures.value ∙ c.requires.sets in
    c.requires.refused (zone_records read.rrs)
    (told_conflict read c.deref-2.result.now is refl c.requires.few c.in-Ok.ensures.one (rw c.if-not-apex.false at c.in-Ok.ensures.served) c.in-Ok.apex.name c.in-Ok.ensures.apex None none (sym c.in_default.is ∙ c.first_outside.ensures))

pub returns : goal.returns
returns c =
    let read : Read = record { rrs = c.args.records.now; fault = None } in
    let is : records_in c.deref-2.result.now ≡ zone_records c.args.records.now = ap records_in c.deref-2.ensures.value ∙ c.requires.sets in
    told_conflict read c.deref-2.result.now is refl c.requires.few c.in-Ok.ensures.one (rw c.if-not-apex.false at c.in-Ok.ensures.served) c.in-Ok.apex.name c.in-Ok.ensures.apex (Some c.in_ok-line-2.line) c.in_ok-line-2.ensures (sym c.in_default.is ∙ c.first_outside.ensures)
    ∙ ap Err (sym c.fault_at-2.ensures)
