use Rattle.std.proofs.Common.{◌≡◌, ◌<◌, ◌-◌, length, get_or, refl, ap, ◌∙◌, sym, arith}
use Rattle.std.proofs.lemmas.List.{drop_all}
use Rattle.dns_name.specs.Stored.{octets_stored}
use Rattle.dns_name.proofs.LastLemmas.{begins, goes_on}
use Rattle.dns_name.proofs.BesideLemmas.{itself_more, plain_at}
use Rattle.dns_name.proofs.beside.plain_front.Goals.{else-start-gt0-via-then-start-gt0+else-labels-start-ne-CLOSING, else-start-gt0-via-else-start-gt0}
use Rattle.dns_name.proofs.beside.plain_front.Goals as goal

pub loop-start-init : goal.loop-start-init
loop-start-init c =
    let labels = c.in_ok-labels.labels.now in
    let none = drop_all (length labels) labels (omega arith) in
    record {
      behind = begins _ _ c.in_ok-labels.field-0-0.now c.requires c.in_ok-labels.ensures.cases.0;
      itself = ap octets_stored none ∙ sym none;
    }

pub loop-start-preserved : goal.loop-start-preserved
loop-start-preserved c =
    let labels = c.in_ok-labels.labels.now in
    let start = c.loop-start.start in
    let octet = get_or labels (start - 1) 0 in
    let above = c.if-labels-start-gt-ESCAPE.true in
    let some = c.loop-start-test.true in
    let behind = c.loop-start.invariant.behind in
    record {
      behind = goes_on _ labels start octet behind some refl (λ e. absurd (omega (arith, e, above)));
      itself = itself_more labels start octet some behind.within refl above c.loop-start.invariant.itself;
    }

pub returns : goal.returns
returns c =
    let labels = c.in_ok-labels.labels.now in
    let start = c.loop-start.start in
    let closes : 0 < start → get_or labels (start - 1) 0 ≡ 0 =
    elim c.else-start-gt0.branch [
      | else-start-gt0-via-then-start-gt0+else-labels-start-ne-CLOSING w ↦ λ some. w.if-labels-start-ne-CLOSING.false
      | else-start-gt0-via-else-start-gt0 w ↦ λ some. absurd (omega (arith, w.if-start-gt0.false, some))
    ] in
    plain_at _ labels start c.loop-start.invariant.behind closes c.loop-start.invariant.itself
