-- Labels are passed over, up to the octet that closes the name.
use Rattle.std.proofs.Common.{arith, ◌≡◌, ◌<◌, length, ◌∙◌}
use Rattle.std.proofs.lemmas.Bool.Decides.{nat_tests}
use Rattle.signed_replies.proofs.BareLemmas.{passes_closing, passes_label}
use Rattle.signed_replies.proofs.bare.behind_labels.Goals as goal

pub returns-then-len-eq0-clause-name : goal.returns-then-len-eq0-clause-name
returns-then-len-eq0-clause-name c =
    let within = c.in-Some.ensures.within in
    let here : c.loop-len.place < length c.args.msg.now = omega (arith, within) in
    let none : c.in-Some.len ≡ 0 = grind (arith, nat_tests) in
    passes_closing c.args.msg.now c.args.at c.loop-len.place c.loop-len.invariant (c.in-Some.ensures.octet ∙ none) here

pub loop-len-preserved : goal.loop-len-preserved
loop-len-preserved c =
    let some : 0 < c.in-Some.len = grind (arith, nat_tests) in
    passes_label c.args.msg.now c.args.at c.loop-len.place c.in-Some.len c.loop-len.invariant c.in-Some.ensures.octet some c.in-Some.ensures.short c.in-Some.ensures.within
