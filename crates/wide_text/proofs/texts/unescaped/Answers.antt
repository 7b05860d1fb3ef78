use Rattle.std.proofs.Common.{ℕ, List, true, false, ◌≡◌, ◌==◌, ◌∙◌, sym, ap, length, drop, arith}
use Rattle.std.proofs.lemmas.Bool.Decides.{nat_tests}
use Rattle.std.proofs.lemmas.List.{take_rest}
use Rattle.record_text.proofs.StringLemmas.{whole, whole_step, whole_none, whole_end}
use Rattle.wide_text.proofs.texts.unescaped.Goals as goal

no_octet : (text : List ℕ) → true ≡ (length text == 0) → length text ≡ 0
no_octet text e = grind (arith, nat_tests)

some_octet : (text : List ℕ) → false ≡ (length text == 0) → length text ≡ 0 → ⊥
some_octet text e h = grind (arith, nat_tests)

pub returns-in_default : goal.returns-in_default
returns-in_default c =
    sym (whole_none c.loop-rest.octets.items c.loop-rest.rest.now (some_octet c.loop-rest.rest.now c.loop-rest-test.ensures) (sym c.in_default.ensures.octet))
    ∙ c.loop-rest.invariant

pub loop-rest-preserved : goal.loop-rest-preserved
loop-rest-preserved c =
    let own = c.loop-rest.octets.items in
    let rest = c.loop-rest.rest.now in
    let step = whole_step own rest c.in-Some.octet c.in-Some.len c.in-Some.ensures.within.0 (sym c.in-Some.ensures.octet) in
    rw take_rest (ap (λ (octets : List ℕ). whole octets (drop c.in-Some.len rest)) c.in-Ok.ensures.items ∙ sym step ∙ c.loop-rest.invariant)

pub returns : goal.returns
returns c =
    sym (whole_end c.loop-rest.octets.items c.loop-rest.rest.now (no_octet c.loop-rest.rest.now c.loop-rest-test.ensures))
    ∙ c.loop-rest.invariant
