use Rattle.std.proofs.Common.{Ok, ap, sym, ◌∙◌, arith}
use Rattle.std.proofs.lemmas.Result.{err_from_is_err_and}
use Rattle.wire_names.specs.Spells.{Refuses, no_part}
use Rattle.wire_names.specs.declared.part.NameReadFault.TheVariants.{BadPointer, TooLong}
use Rattle.wire_names.proofs.GrammarLemmas.{IsLabelAt-part, computed_fault}
use Rattle.wire_names.proofs.ReadLemmas.{IsClosed, UnderWay-put, IsClosed-way, computed_closed, refused_label, Refused-pointer, name_in-way, whole_way, named_way}
use Rattle.wire_names.proofs.LeadsLemmas.{UnderWay-led, leads_down}
use Rattle.wire_names.proofs.read.name_in.Goals as goal

pub returns-in_err-part_at-clause-refused : goal.returns-in_err-part_at-clause-refused
returns-in_err-part_at-clause-refused c =
    let p = err_from_is_err_and c.from_residual.result c.from_residual.ensures.1 in
    rw (p.1, p.2) (c.loop-octets.invariant.refused _ (no_part (sym c.part_at.ensures ∙ c.in_err-part_at.was)))

pub returns-in_err-part_at-clause-computed : goal.returns-in_err-part_at-clause-computed
returns-in_err-part_at-clause-computed c =
    let p = err_from_is_err_and c.from_residual.result c.from_residual.ensures.1 in
    rw (p.1, p.2) (sym (computed_fault _ _ _ (c.loop-octets.invariant.refused _ (no_part (sym c.part_at.ensures ∙ c.in_err-part_at.was)))))

pub from_octets-name-requires-clause-whole : goal.from_octets-name-requires-clause-whole
from_octets-name-requires-clause-whole c = whole_way _ _ _ _ _ _ _ c.loop-octets.invariant c.push.ensures.items

closed : (c : goal.After-unwrap_or) → IsClosed c.args.msg.now c.args.at c.from_octets-name.result c.unwrap_or.result
closed c =
    IsClosed-way _ _ _ _ _ _ _ _ _ c.loop-octets.invariant (sym c.part_at.ensures ∙ c.in_ok-part_at.was ∙ ap Ok c.in-Closing.is) c.push.ensures.items (named_way _ _ _ _ _ _ _ _ c.loop-octets.invariant c.push.ensures.items c.from_octets-name.ensures) c.unwrap_or.ensures

pub returns-in-Closing-clause-found : goal.returns-in-Closing-clause-found
returns-in-Closing-clause-found c = (closed c).spells

pub returns-in-Closing-clause-lawful : goal.returns-in-Closing-clause-lawful
returns-in-Closing-clause-lawful c = (closed c).lawful

pub returns-in-Closing-clause-computed : goal.returns-in-Closing-clause-computed
returns-in-Closing-clause-computed c = computed_closed _ _ _ _ (closed c)

pub label_at-requires : goal.label_at-requires
label_at-requires c =
    let is = IsLabelAt-part c.args.msg.now c.loop-octets.place c.in-Label.len (sym c.part_at.ensures ∙ c.in_ok-part_at.was ∙ ap Ok c.in-Label.is) in
    is.within

long : (c : goal.Then-not-put_label) → Refuses c.args.msg.now c.args.at c.args.at 0 TooLong
long c = refused_label _ _ _ _ _ _ _ _ _ c.loop-octets.invariant (sym c.part_at.ensures ∙ c.in_ok-part_at.was ∙ ap Ok c.in-Label.is) c.label_at.ensures c.if-not-put_label.true c.put_label.ensures.room.1

pub returns-then-not-put_label-clause-refused : goal.returns-then-not-put_label-clause-refused
returns-then-not-put_label-clause-refused c = long c

pub returns-then-not-put_label-clause-computed : goal.returns-then-not-put_label-clause-computed
returns-then-not-put_label-clause-computed c = sym (computed_fault _ _ _ (long c))

pub loop-octets-preserved-in-Label : goal.loop-octets-preserved-in-Label
loop-octets-preserved-in-Label c =
    UnderWay-put _ _ _ _ _ _ _ _ _ _ c.loop-octets.invariant (sym c.part_at.ensures ∙ c.in_ok-part_at.was ∙ ap Ok c.in-Label.is) c.label_at.ensures c.if-not-put_label.false c.put_label.ensures.room.0 c.put_label.ensures.put

up : (c : goal.Then-target-run) → Refuses c.args.msg.now c.args.at c.args.at 0 BadPointer
up c = Refused-pointer _ _ _ _ _ _ _ c.loop-octets.invariant (sym c.part_at.ensures ∙ c.in_ok-part_at.was ∙ ap Ok c.in-Pointer.is) c.if-target-run.true

pub returns-then-target-run-clause-refused : goal.returns-then-target-run-clause-refused
returns-then-target-run-clause-refused c = up c

pub returns-then-target-run-clause-computed : goal.returns-then-target-run-clause-computed
returns-then-target-run-clause-computed c = sym (computed_fault _ _ _ (up c))

pub loop-octets-preserved : goal.loop-octets-preserved
loop-octets-preserved c =
    UnderWay-led _ _ _ _ _ _ _ _ _ c.loop-octets.invariant (sym c.part_at.ensures ∙ c.in_ok-part_at.was ∙ ap Ok c.in-Pointer.is) c.if-target-run.false (c.led_from-run.ensures _ c.requires) c.unwrap_or-in-Pointer.ensures

pub loop-octets-smaller : goal.loop-octets-smaller
loop-octets-smaller c =
    let down = leads_down c.args.msg.now c.in-Pointer.target c.led_from-run.result (c.led_from-run.ensures _ c.requires) in
    omega arith
