use Rattle.std.proofs.Common.{ℕ, false, ltb, ◌≡◌, ◌≤◌, length, arith}
use Rattle.std.proofs.lemmas.Bool.Decides.{nat_tests}
use Rattle.record_text.proofs.DataLemmas.{IsToldOf-behind}
use Rattle.std.proofs.lemmas.Result.{IfErr-weaker}
use Rattle.wide_text.proofs.FieldLemmas.{whole_few, rest-from, rest-put, rest-fault, on_ok_weaker}
use Rattle.wide_text.proofs.fields.put_fields.Goals as goal

none_left : (i n : ℕ) → false ≡ ltb i n → n ≤ i
none_left i n e = grind (arith, nat_tests)

pub returns-in_default-clause-fault : goal.returns-in_default-clause-fault
returns-in_default-clause-fault c =
    IsToldOf-behind c.args.octets.now.items c.loop-at.octets.items _ _ _ c.loop-at.invariant.way
    (whole_few c.loop-at.octets.items c.args.origin.now c.args.fields.now c.args.rest c.args.words.now c.loop-at.at c.loop-at-test.true
    (none_left c.loop-at.at (length c.args.words.now) c.in_default.ensures.lookup.0))

pub returns-clause-put : goal.returns-clause-put
returns-clause-put c =
    on_ok_weaker c.put_rest.result _ _
    (rest-put c.args.octets.now.items c.loop-at.octets.items c.put_rest.new.octets.items _ _
    (rest-from c.loop-at.octets.items c.args.octets.now.items c.args.origin.now c.args.fields.now c.args.rest c.args.words.now c.loop-at.at c.loop-at-test.false c.loop-at.auto.at-end c.loop-at.invariant.way))
    c.put_rest.ensures.put

pub returns-clause-fault : goal.returns-clause-fault
returns-clause-fault c =
    IfErr-weaker c.put_rest.result _ _
    (λ cause. rest-fault c.args.octets.now.items c.loop-at.octets.items _ _ cause
    (rest-from c.loop-at.octets.items c.args.octets.now.items c.args.origin.now c.args.fields.now c.args.rest c.args.words.now c.loop-at.at c.loop-at-test.false c.loop-at.auto.at-end c.loop-at.invariant.way))
    c.put_rest.ensures.fault
