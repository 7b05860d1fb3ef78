use Rattle.std.proofs.Common.{ap, sym, subst, ◌∙◌}
use Rattle.dns_name.specs.Labels.{labels_in, IsWhole}
use Rattle.dns_name.specs.Name.{is_under}
use Rattle.dns_name.proofs.SameLemmas.{ends_step, ends_test, step_at}
use Rattle.dns_name.proofs.octets.ends_in.Goals as goal

pub split_at-requires : goal.split_at-requires
split_at-requires c = (step_at c.from-len.result c.loop-rest.rest.now c.args.other.now c.loop-rest.invariant.whole c.requires.others c.loop-rest-test.true c.from-len.ensures).within

pub loop-rest-preserved : goal.loop-rest-preserved
loop-rest-preserved c =
    let step = step_at c.from-len.result c.loop-rest.rest.now c.args.other.now c.loop-rest.invariant.whole c.requires.others c.loop-rest-test.true c.from-len.ensures in
    let back = c.split_at.ensures.back in
    record {
      whole = subst IsWhole (sym back) step.first.whole;
      same = ap (λ rest. is_under (labels_in rest) (labels_in c.args.other.now)) back
          ∙ ends_step _ _ _ _ c.loop-rest.invariant.whole c.requires.others c.loop-rest-test.true step.first ∙ c.loop-rest.invariant.same;
    }

pub returns : goal.returns
returns c =
    ends_test _ _ _ c.loop-rest.invariant.whole c.requires.others c.loop-rest-test.false c.eq_ignore_ascii_case.ensures.test ∙ c.loop-rest.invariant.same
