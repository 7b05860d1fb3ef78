use Rattle.std.proofs.Common.{ℕ, ◌≡◌, ◌≤◌, List, Ok, Err, Result, true, false, bytes_eq, length, inr, sym, ap, ◌∙◌, arith}
use Rattle.std.proofs.lemmas.Result.{err_from_is_err_and}
use Rattle.dns_rdata.specs.Data.{data_of}
use Rattle.record_text.specs.Generic.{generic_of}
use Rattle.record_text.proofs.DataLemmas.{IsToldOf-own, own_data-if}
use Rattle.record_text.proofs.generic.read_generic.Goals as goal

pub returns-in_err-rdata-clause-fault : goal.returns-in_err-rdata-clause-fault
returns-in_err-rdata-clause-fault c =
    let p = err_from_is_err_and c.from_residual-in_err-rdata.result c.from_residual-in_err-rdata.ensures.1 in
    let same = ap length c.deref.ensures.value in
    let within = c.in_ok-octets.ensures.within in
    let short : length c.deref.result.now ≤ 4096 = omega arith in
    rw (p.1, p.2)
    (IsToldOf-own c.args.rtype.0 c.deref.result.now _ c.in_err-rdata.field-0.0
    (c.in_ok-octets.ensures.octets ∙ ap Ok (sym c.deref.ensures.value)) short
    (λ e. c.in_err-rdata.ensures.bad_length (ap Err e))
    (λ e. c.in_err-rdata.ensures.too_long (ap Err e)))

pub returns-then-eq-clause-octets : goal.returns-then-eq-clause-octets
returns-then-eq-clause-octets c =
    let own = c.in_ok-rdata.rdata.octets in
    let octets = c.in_ok-octets.octets.items in
    own_data-if c.args.rtype.0 octets own true _ c.in_ok-octets.ensures.octets
    (ap (data_of c.args.rtype.0) (sym c.deref.ensures.value) ∙ c.in_ok-rdata.ensures.data.1)
    (c.if-eq.ensures ∙ ap (λ (os : List ℕ). bytes_eq os c.as_slice.result.now) c.octets.ensures.octets ∙ ap (bytes_eq own) c.as_slice.ensures.value)

pub returns-clause-fault : goal.returns-clause-fault
returns-clause-fault c =
    let own = c.in_ok-rdata.rdata.octets in
    let octets = c.in_ok-octets.octets.items in
    inr (own_data-if c.args.rtype.0 octets own false _ c.in_ok-octets.ensures.octets
    (ap (data_of c.args.rtype.0) (sym c.deref.ensures.value) ∙ c.in_ok-rdata.ensures.data.1)
    (c.if-eq.ensures ∙ ap (λ (os : List ℕ). bytes_eq os c.as_slice.result.now) c.octets.ensures.octets ∙ ap (bytes_eq own) c.as_slice.ensures.value))
