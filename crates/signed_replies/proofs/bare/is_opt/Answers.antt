-- The record's type is read where the root ends.
use Rattle.std.proofs.Common.{arith, ◌≡◌, ◌<◌, ℕ, length, slice_index, nat_eq, Some, sym, ◌∙◌}
use Rattle.std.proofs.lemmas.Bool.{OnTrue_from}
use Rattle.std.proofs.lemmas.Bool.Decides.{nat_tests}
use Rattle.dns_message.specs.Message.{Entry}
use Rattle.dns_message.specs.Reads.{record_at}
use Rattle.signed_replies.proofs.BareLemmas.{rtype_at}
use Rattle.signed_replies.proofs.bare.is_opt.Goals as goal

pub returns-in-Some-eq0 : goal.returns-in-Some-eq0
returns-in-Some-eq0 c = OnTrue_from (nat_eq c.number_at.result 41) ((r : Entry × ℕ) → record_at c.args.msg.now c.args.at ≡ Some r → r.0.rtype ≡ 41) (λ e r found.
    let none : c.in-Some-eq0.field-0 ≡ 0 = grind (arith, nat_tests) in
    let octet : slice_index c.args.msg.now c.args.at ≡ 0 = c.in-Some-eq0.ensures.octet ∙ none in
    let within = c.in-Some-eq0.ensures.within in
    let here : c.args.at < length c.args.msg.now = omega (arith, within) in
    let is : c.number_at.result ≡ 41 = grind (arith, nat_tests) in
    rtype_at c.args.msg.now c.args.at 41 here octet (sym c.number_at.ensures ∙ is) r found)
