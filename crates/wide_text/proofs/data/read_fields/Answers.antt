use Rattle.std.proofs.Common.{Ok, Err, sym, ap, ◌∙◌}
use Rattle.std.proofs.lemmas.Result.{err_from_is_err_and}
use Rattle.record_text.proofs.DataLemmas.{IsToldOf-data, data_of_words-ok, put_alone}
use Rattle.wide_text.proofs.data.read_fields.Goals as goal

pub returns-in_err-from_wire-clause-fault : goal.returns-in_err-from_wire-clause-fault
returns-in_err-from_wire-clause-fault c =
    let p = err_from_is_err_and c.from_residual-in_err-from_wire.result c.from_residual-in_err-from_wire.ensures.1 in
    rw (p.1, p.2)
    (IsToldOf-data c.args.rtype.0 c.deref.result.now _ c.in_err-from_wire.field-0.0
    (put_alone _ _ _ c.new-octets.ensures.items c.in_ok-put_fields.ensures.put ∙ ap Ok (sym c.deref.ensures.value))
    (λ e. c.in_err-from_wire.ensures.bad_length (ap Err e))
    (λ e. c.in_err-from_wire.ensures.too_long (ap Err e)))

pub returns-clause-octets : goal.returns-clause-octets
returns-clause-octets c =
    data_of_words-ok c.args.rtype.0 c.deref.result.now c.in_ok-from_wire.field-0.octets _
    (put_alone _ _ _ c.new-octets.ensures.items c.in_ok-put_fields.ensures.put ∙ ap Ok (sym c.deref.ensures.value))
    c.in_ok-from_wire.ensures.data.1 c.in_ok-from_wire.ensures.data.2
