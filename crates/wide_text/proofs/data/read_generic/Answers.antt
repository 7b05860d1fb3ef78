use Rattle.std.proofs.Common.{ℕ, List, Result, Ok, Err, subst, sym, ap, ◌∙◌, map}
use Rattle.std.proofs.lemmas.Result.{err_from_is_err_and}
use Rattle.record_text.proofs.DataLemmas.{IsToldOf-data, IsToldOf-words, data_of_words-ok}
use Rattle.record_text.specs.Data.{IsToldOf}
use Rattle.record_text.specs.declared.cause.Cause.{Cause}
use Rattle.wide_text.proofs.GenericLemmas.{opaque_words}
use Rattle.wide_text.proofs.data.read_generic.Goals as goal
use Rattle.zone_lexing.specs.Word.{written}

pub returns-in_err-own-clause-fault : goal.returns-in_err-own-clause-fault
returns-in_err-own-clause-fault c =
    let p = err_from_is_err_and c.from_residual.result c.from_residual.ensures.1 in
    let told = c.in_err-own.ensures.fault in
    rw (p.1, p.2)
    (IsToldOf-words c.args.rtype.0 _ c.in_err-own.field-0.0
    (subst (λ (r : Result (List ℕ) Cause). IsToldOf r c.in_err-own.field-0.0) (opaque_words c.args.origin.now (map written c.args.words.now) c.requires) told))

pub returns-in_err-from_wire-clause-fault : goal.returns-in_err-from_wire-clause-fault
returns-in_err-from_wire-clause-fault c =
    let p = err_from_is_err_and c.from_residual-in_err-from_wire.result c.from_residual-in_err-from_wire.ensures.1 in
    rw (p.1, p.2)
    (IsToldOf-data c.args.rtype.0 c.octets.result.now _ c.in_err-from_wire.field-0.0
    (sym (opaque_words c.args.origin.now (map written c.args.words.now) c.requires) ∙ c.in_ok-own.ensures.octets ∙ ap Ok (sym c.octets.ensures.octets))
    (λ e. c.in_err-from_wire.ensures.bad_length (ap Err e))
    (λ e. c.in_err-from_wire.ensures.too_long (ap Err e)))

pub returns-clause-octets : goal.returns-clause-octets
returns-clause-octets c =
    data_of_words-ok c.args.rtype.0 c.octets.result.now c.in_ok-from_wire.field-0.octets _
    (sym (opaque_words c.args.origin.now (map written c.args.words.now) c.requires) ∙ c.in_ok-own.ensures.octets ∙ ap Ok (sym c.octets.ensures.octets))
    c.in_ok-from_wire.ensures.data.1 c.in_ok-from_wire.ensures.data.2
