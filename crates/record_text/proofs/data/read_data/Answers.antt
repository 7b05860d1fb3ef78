use Rattle.std.proofs.Common.{ℕ, List, Result, Ok, Err, subst, ◌∙◌, sym, ap}
use Rattle.std.proofs.lemmas.Result.{err_from_is_err_and}
use Rattle.record_text.specs.declared.cause.Cause.{Cause}
use Rattle.record_text.specs.Data.{IsToldOf}
use Rattle.record_text.specs.Fault.{cause_of_data}
use Rattle.record_text.proofs.DataLemmas.{IsToldOf-data, data_of_words-ok, put_alone, words_in_form}
use Rattle.record_text.proofs.data.read_data.Goals as goal

pub returns-in_err-from_wire-clause-fault : goal.returns-in_err-from_wire-clause-fault
returns-in_err-from_wire-clause-fault c =
    let p = err_from_is_err_and c.from_residual-in_err-from_wire.result c.from_residual-in_err-from_wire.ensures.1 in
    let form = words_in_form c.args.rtype.0 c.args.origin.now c.args.words.now c.if-are_generic.ensures in
    rw (p.1, p.2)
    (subst (λ (r : Result (List ℕ) Cause). IsToldOf r (cause_of_data c.in_err-from_wire.field-0.0)) (sym form)
    (IsToldOf-data c.args.rtype.0 c.deref.result.now _ c.in_err-from_wire.field-0.0
    (put_alone _ _ _ c.new-octets.ensures.items c.in_ok-put_words.ensures.put ∙ ap Ok (sym c.deref.ensures.value))
    (λ e. c.in_err-from_wire.ensures.bad_length (ap Err e))
    (λ e. c.in_err-from_wire.ensures.too_long (ap Err e))))

pub returns-clause-octets : goal.returns-clause-octets
returns-clause-octets c =
    words_in_form c.args.rtype.0 c.args.origin.now c.args.words.now c.if-are_generic.ensures
    ∙ data_of_words-ok c.args.rtype.0 c.deref.result.now c.in_ok-from_wire.field-0.octets _
    (put_alone _ _ _ c.new-octets.ensures.items c.in_ok-put_words.ensures.put ∙ ap Ok (sym c.deref.ensures.value))
    c.in_ok-from_wire.ensures.data.1 c.in_ok-from_wire.ensures.data.2
