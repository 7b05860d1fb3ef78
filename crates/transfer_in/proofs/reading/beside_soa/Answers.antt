use Rattle.std.proofs.Common.{◌≡◌, ap, sym, ◌∙◌, not, ◌==◌, true, false}
use Rattle.dns_rdata.specs.Numbers.{type_SOA}
use Rattle.transfer_core.specs.Take.{inserted}
use Rattle.transfer_core.proofs.SoaLemmas.{IsLoading-start, IsLoading-soa, IsLoading-apart, IsLoading-one, IsLoading-end}
use Rattle.transfer_in.proofs.reading.beside_soa.Goals as goal

pub loop-lent-init : goal.loop-lent-init
loop-lent-init c = IsLoading-start _ _ _ c.full-list.ensures.lawful c.new-records.ensures c.full-list.ensures.list

pub with-requires : goal.with-requires
with-requires c =
    let plain : not (c.in-Some.lent.rtype == type_SOA) ≡ true = ap (λ t. not (t == type_SOA)) (sym c.rtype.ensures) ∙ sym c.ne.ensures ∙ c.if-ne.true in
    rw c.in_ok-one.ensures
    (IsLoading-apart c.args.zone.now c.loop-lent.records c.loop-lent.list c.loop-lent.invariant c.in-Some.lent c.next.new.self c.in-Some.ensures.steps plain)

pub loop-lent-preserved : goal.loop-lent-preserved
loop-lent-preserved c =
    let soa : not (c.in-Some.lent.rtype == type_SOA) ≡ false = ap (λ t. not (t == type_SOA)) (sym c.rtype.ensures) ∙ sym c.ne.ensures ∙ c.if-ne.false in
    IsLoading-soa c.args.zone.now c.loop-lent.records c.loop-lent.list c.loop-lent.invariant c.in-Some.lent c.next.new.self c.in-Some.ensures.steps soa

pub loop-lent-preserved-then-ne : goal.loop-lent-preserved-then-ne
loop-lent-preserved-then-ne c =
    let plain : not (c.in-Some.lent.rtype == type_SOA) ≡ true = ap (λ t. not (t == type_SOA)) (sym c.rtype.ensures) ∙ sym c.ne.ensures ∙ c.if-ne.true in
    IsLoading-one c.args.zone.now c.loop-lent.records c.loop-lent.list c.loop-lent.invariant c.in-Some.lent c.next.new.self c.in-Some.ensures.steps plain _
    (c.in_ok-next.ensures.records ∙ ap (λ one. inserted one c.loop-lent.records) c.in_ok-one.ensures)

pub returns : goal.returns
returns c = IsLoading-end c.args.zone.now c.loop-lent.records c.loop-lent.list c.loop-lent.invariant c.in_default.ensures.steps.0
