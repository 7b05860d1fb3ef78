use Rattle.std.proofs.Common.{List, filter, flat_map, sym, ap, ◌∙◌}
use Rattle.dns_rdata.specs.Record.{Record}
use Rattle.master_file.specs.WrittenZone.{record_line, is_other}
use Rattle.master_file.proofs.ZoneTextLemmas.{other_lines, set_in_front, soa_in_front}
use Rattle.commands.proofs.LinesLemmas.{IsWritten-start, Appends-written}
use Rattle.commands.proofs.PartsLemmas.{IsWritten-front, IsWritten-same, Begins-front, Writes-refused}
use Rattle.commands.proofs.check.put_others.Goals as goal

pub loop-set-init : goal.loop-set-init
loop-set-init g c =
    let e = ap (λ (rs : List Record). flat_map record_line (filter is_other rs)) (ap (flat_map (λ (set : List Record). set)) c.into_iter-set-iterator.ensures.into_iter_gives ∙ c.walk-set-items.ensures.records) in
    IsWritten-same _ _ _ _ _ (sym e) (IsWritten-start _ _)

pub loop-set-preserved-in-Continue-1 : goal.loop-set-preserved-in-Continue-1
loop-set-preserved-in-Continue-1 g c =
    let left = ap other_lines c.in-Some.ensures.steps in
    let front = left ∙ set_in_front c.rtype.result.0 c.in-Some.set.now c.next.new.self c.rtype.ensures.shared (sym c.ne.ensures ∙ c.if-ne.true) in
    IsWritten-front _ _ _ _ _ _ _ front c.loop-set.invariant c.in_ok-put_set.ensures

pub loop-set-preserved : goal.loop-set-preserved
loop-set-preserved g c =
    let left = ap other_lines c.in-Some.ensures.steps in
    IsWritten-same _ _ _ _ _ (left ∙ soa_in_front c.rtype.result.0 c.in-Some.set.now c.next.new.self c.rtype.ensures.shared (sym c.ne.ensures ∙ c.if-ne.false)) c.loop-set.invariant

pub returns-in_err-put_set : goal.returns-in_err-put_set
returns-in_err-put_set g c =
    let left = ap other_lines c.in-Some.ensures.steps in
    let front = left ∙ set_in_front c.rtype.result.0 c.in-Some.set.now c.next.new.self c.rtype.ensures.shared (sym c.ne.ensures ∙ c.if-ne.true) in
    Writes-refused _ _ _ _ c.from_residual.ensures.0 (Begins-front _ _ _ _ _ _ _ front c.loop-set.invariant c.in_err-put_set.ensures)

pub returns : goal.returns
returns g c = Appends-written _ _ _ _ c.loop-set.invariant (ap other_lines c.in-None.ensures.steps.0)
