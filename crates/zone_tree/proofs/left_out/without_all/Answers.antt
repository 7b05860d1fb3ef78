use Rattle.std.proofs.Common.{◌≡◌, refl, sym, ap, ◌∙◌, [], true≢false}
use Rattle.std.specs.Option.{option_to_list}
use Rattle.dns_rdata.specs.Record.{without_data}
use Rattle.zone_tree.specs.Delta.{some_set}
use Rattle.zone_tree.proofs.LackingLemmas.{untold_next, untold_end, some_is, some_from}
use Rattle.zone_tree.proofs.left_out.without_all.Goals as goal

pub loop-rdata-init : goal.loop-rdata-init
loop-rdata-init c = record { some = c.requires.some; is = refl }

pub loop-rdata-preserved : goal.loop-rdata-preserved
loop-rdata-preserved c =
    let next = c.in_ok-left.ensures.left in
    record {
      some = some_from c.in_ok-left.left (λ e. true≢false (c.in_ok-left.ensures.none.1 (sym next ∙ e)));
      is =
          sym (untold_next c.args.absent.now c.loop-rdata.rdata-index c.rdata-item.result c.loop-rdata.left c.in_ok-left.left c.loop-rdata-test.true c.rdata-item.is (next ∙ ap (without_data c.loop-rdata.left) c.octets.ensures.octets))
          ∙ c.loop-rdata.invariant.is;
    }

-- no record is left
pub returns-in_err-left : goal.returns-in_err-left
returns-in_err-left c =
    let none : [] ≡ without_data c.loop-rdata.left c.rdata-item.result.octets = sym (c.in_err-left.ensures.none.0 refl) ∙ ap (without_data c.loop-rdata.left) c.octets.ensures.octets in
    ap option_to_list c.from_residual.ensures
    ∙ ap some_set (sym (untold_next c.args.absent.now c.loop-rdata.rdata-index c.rdata-item.result c.loop-rdata.left [] c.loop-rdata-test.true c.rdata-item.is none) ∙ c.loop-rdata.invariant.is)

pub returns : goal.returns
returns c =
    sym (some_is c.loop-rdata.left c.loop-rdata.invariant.some)
    ∙ ap some_set (sym (untold_end c.args.absent.now c.loop-rdata.rdata-index c.loop-rdata.left c.loop-rdata-test.false) ∙ c.loop-rdata.invariant.is)
