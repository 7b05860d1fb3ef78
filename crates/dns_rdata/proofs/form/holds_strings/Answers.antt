use Rattle.std.proofs.Common.{◌+◌, ◌<◌, get_or, drop, ◌∙◌, sym, arith}
use Rattle.std.proofs.lemmas.List.{at_drop_more}
use Rattle.dns_rdata.proofs.StringLemmas.{strings_behind}
use Rattle.dns_rdata.proofs.StringLemmas.{strings_start, strings_inside, strings_end}
use Rattle.dns_rdata.proofs.form.holds_strings.Goals as goal
use Rattle.dns_rdata.proofs.form.holds_strings.Goals.{then-left-eq0, else-left-eq0}

pub loop-octet-preserved : goal.loop-octet-preserved
loop-octet-preserved c =
    let left = c.loop-octet.left in
    let octets = c.args.octets.now in
    let i = c.loop-octet.octet-index in
    let x = get_or octets i 0 in
    let rest = drop (i + 1) octets in
    let step = at_drop_more (strings_behind left) octets i 0 c.loop-octet-test.true in
    elim c.if-left-eq0.branch [
      | then-left-eq0 w ↦ rw (w.left-is, w.from-left.ensures) (sym (strings_start left x rest w.if-left-eq0.true) ∙ sym step ∙ c.loop-octet.invariant)
      | else-left-eq0 w ↦ let some : 0 < left = omega arith in rw w.left-is (sym (strings_inside left x rest some) ∙ sym step ∙ c.loop-octet.invariant)
    ]

pub returns : goal.returns
returns c = strings_end c.loop-octet.left c.loop-octet.octet-index c.args.octets.now c.loop-octet-test.false c.loop-octet.invariant
