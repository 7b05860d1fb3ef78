use Rattle.std.proofs.Common.{ℕ, ◌≡◌, ◌+◌, ◌<◌, ◌==◌, List, true, false, get_or, drop, length, sym, ◌∙◌, arith}
use Rattle.std.proofs.lemmas.Bool.Decides.{nat_tests}
use Rattle.std.proofs.lemmas.List.{at_drop_more}
use Rattle.record_text.proofs.NumberLemmas.{left_after, left_after-some, left_after-none, left_after-end, with_digit-within, decimal_of-some, decimal_of-none}
use Rattle.record_text.proofs.numbers.decimal.Goals as goal

no_octet : (text : List ℕ) → true ≡ (length text == 0) → length text ≡ 0
no_octet text e = grind (arith, nat_tests)

some_octet : (text : List ℕ) → false ≡ (length text == 0) → 0 < length text
some_octet text e = grind (arith, nat_tests)

pub loop-octet-preserved : goal.loop-octet-preserved
loop-octet-preserved c =
    let text = c.args.text.now in
    let i = c.loop-octet.octet-index in
    let x = get_or text i 0 in
    let step = at_drop_more (left_after c.args.most c.loop-octet.value) text i 0 c.loop-octet-test.true in
    record {
      left = sym (left_after-some c.args.most c.loop-octet.value x c.in_ok-value.value (drop (i + 1) text) (sym c.in_ok-value.ensures)) ∙ sym step ∙ c.loop-octet.invariant.left;
      within = with_digit-within c.args.most c.loop-octet.value x c.in_ok-value.value (sym c.in_ok-value.ensures);
    }

pub returns-then-is_empty : goal.returns-then-is_empty
returns-then-is_empty c = record {
  number = sym (decimal_of-none c.args.most c.args.text.now (no_octet c.args.text.now c.if-is_empty.ensures));
  within = tt;
}

pub returns-in_err-value : goal.returns-in_err-value
returns-in_err-value c =
    let text = c.args.text.now in
    let i = c.loop-octet.octet-index in
    let x = get_or text i 0 in
    let step = at_drop_more (left_after c.args.most c.loop-octet.value) text i 0 c.loop-octet-test.true in
    let none = left_after-none c.args.most c.loop-octet.value x (drop (i + 1) text) (sym c.in_err-value.ensures) in
    rw c.from_residual.ensures (record {
      number = sym none ∙ sym step ∙ c.loop-octet.invariant.left ∙ sym (decimal_of-some c.args.most text (some_octet text c.if-is_empty.ensures));
      within = tt;
    })

pub returns-clause-number : goal.returns-clause-number
returns-clause-number c =
    let text = c.args.text.now in
    sym (left_after-end c.args.most c.loop-octet.value c.loop-octet.octet-index text c.loop-octet-test.false c.loop-octet.invariant.within)
    ∙ c.loop-octet.invariant.left ∙ sym (decimal_of-some c.args.most text (some_octet text c.if-is_empty.ensures))
