use Rattle.std.proofs.Common.{ℕ, List, ◌++◌, string_bytes, lit<, sym, ap, ◌∙◌}
use Rattle.record_text.proofs.GenericLemmas.{digits_more, digits_end}
use Rattle.record_text.proofs.generic.write_digits.Goals as goal

pub loop-octet-preserved : goal.loop-octet-preserved
loop-octet-preserved c =
    digits_more (string_bytes c.loop-octet.text) (string_bytes c.push.new.self) (string_bytes c.push-in-loop-octet.new.self) c.args.octets.now c.loop-octet.octet-index c.digit.result c.digit-in-loop-octet.result c.loop-octet-test.true
    c.digit.ensures.digit c.digit-in-loop-octet.ensures.digit
    (c.in_ok-push.ensures.bytes ∙ ap (λ (os : List ℕ). string_bytes c.loop-octet.text ++ os) (c.in_ok-push.ensures.ascii c.digit.ensures.ascii))
    (c.in_ok-push-2.ensures.bytes ∙ ap (λ (os : List ℕ). string_bytes c.push.new.self ++ os) (c.in_ok-push-2.ensures.ascii c.digit-in-loop-octet.ensures.ascii))
    ∙ c.loop-octet.invariant

pub returns : goal.returns
returns c = sym (digits_end (string_bytes c.loop-octet.text) c.args.octets.now c.loop-octet.octet-index c.loop-octet-test.false) ∙ c.loop-octet.invariant
