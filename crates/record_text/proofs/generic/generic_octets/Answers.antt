use Rattle.std.proofs.Common.{◌≡◌, length, inr, sym, ◌∙◌, arith}
use Rattle.std.proofs.lemmas.Result.{err_from_is_err_and}
use Rattle.record_text.proofs.DataLemmas.{generic-none, generic-size, generic-hexes, generic-all, equal_test, other_test, put_alone}
use Rattle.record_text.proofs.generic.generic_octets.Goals as goal

pub returns-in_default-clause-fault : goal.returns-in_default-clause-fault
returns-in_default-clause-fault c = inr (generic-none c.args.words.now c.in_default.ensures.cases)

pub returns-in_err-size-clause-fault : goal.returns-in_err-size-clause-fault
returns-in_err-size-clause-fault c =
    let p = err_from_is_err_and c.from_residual.result c.from_residual.ensures.1 in
    rw (p.1, p.2)
    (generic-size c.args.words.now c.in-Some.behind.now c.in-Some.first.now c.in_err-size.field-0.0 c.in-Some.ensures.cases.0 (sym c.stated_size.ensures.size ∙ c.in_err-size.was))

pub returns-in_err-put_hexes-clause-fault : goal.returns-in_err-put_hexes-clause-fault
returns-in_err-put_hexes-clause-fault c =
    let p = err_from_is_err_and c.from_residual-in_err-put_hexes.result c.from_residual-in_err-put_hexes.ensures.1 in
    rw (p.1, p.2)
    (generic-hexes c.args.words.now c.in-Some.behind.now c.in-Some.first.now c.in_ok-size.size c.in_err-put_hexes.field-0.0 c.in-Some.ensures.cases.0 (sym c.stated_size.ensures.size ∙ c.in_ok-size.was) c.in_err-put_hexes.ensures.fault)

pub returns-then-len-size-clause-octets : goal.returns-then-len-size-clause-octets
returns-then-len-size-clause-octets c =
    let own = c.put_hexes.new.octets.ok in
    let len = c.len.ensures in
    let same : length c.put_hexes.new.octets.items ≡ c.in_ok-size.size = omega arith in
    generic-all c.args.words.now c.in-Some.behind.now c.in-Some.first.now c.in_ok-size.size c.put_hexes.new.octets.items _ c.in-Some.ensures.cases.0 (sym c.stated_size.ensures.size ∙ c.in_ok-size.was)
    (put_alone _ _ _ c.new-octets.ensures.items c.in_ok-put_hexes.ensures.put) (equal_test (length c.put_hexes.new.octets.items) c.in_ok-size.size same)

pub returns-else-len-size-clause-fault : goal.returns-else-len-size-clause-fault
returns-else-len-size-clause-fault c =
    let own = c.put_hexes.new.octets.ok in
    let len = c.len.ensures in
    let other : length c.put_hexes.new.octets.items ≡ c.in_ok-size.size → ⊥ = λ e. c.if-len-size.false (omega arith) in
    inr (generic-all c.args.words.now c.in-Some.behind.now c.in-Some.first.now c.in_ok-size.size c.put_hexes.new.octets.items _ c.in-Some.ensures.cases.0 (sym c.stated_size.ensures.size ∙ c.in_ok-size.was)
    (put_alone _ _ _ c.new-octets.ensures.items c.in_ok-put_hexes.ensures.put) (other_test (length c.put_hexes.new.octets.items) c.in_ok-size.size other))
