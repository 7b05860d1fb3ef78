use Rattle.std.proofs.Common.{ℕ, true, false, ltb, ◌≡◌, ◌<◌, ◌≤◌, length, arith}
use Rattle.std.proofs.lemmas.Bool.Decides.{nat_tests}
use Rattle.record_text.proofs.DataLemmas.{IsToldOf-behind, whole_few, whole_many}
use Rattle.record_text.proofs.data.put_fields.Goals as goal

none_left : (i n : ℕ) → false ≡ ltb i n → n ≤ i
none_left i n e = grind (arith, nat_tests)

pub returns-in_default-clause-fault : goal.returns-in_default-clause-fault
returns-in_default-clause-fault c =
    IsToldOf-behind c.args.octets.now.items c.loop-at.octets.items _ _ _ c.loop-at.invariant.way
    (whole_few c.loop-at.octets.items c.args.origin.now c.args.fields.now c.args.words.now c.loop-at.at c.loop-at-test.true
    (none_left c.loop-at.at (length c.args.words.now) c.in_default.ensures.lookup.0))

some_left : (i n : ℕ) → true ≡ ltb i n → i < n
some_left i n e = grind (arith, nat_tests)

pub returns-in-Some-get-clause-fault : goal.returns-in-Some-get-clause-fault
returns-in-Some-get-clause-fault c =
    rw c.surplus.ensures
    (IsToldOf-behind c.args.octets.now.items c.loop-at.octets.items _ _ _ c.loop-at.invariant.way
    (whole_many c.loop-at.octets.items c.args.origin.now c.args.fields.now c.args.words.now c.loop-at.at c.in-Some-get.word.now c.loop-at-test.false c.loop-at.auto.at-end
    (some_left (length c.args.fields.now) (length c.args.words.now) c.in-Some-get.ensures.lookup.0) c.in-Some-get.ensures.lookup.1))
