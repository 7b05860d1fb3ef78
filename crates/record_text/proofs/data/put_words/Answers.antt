use Rattle.std.proofs.Common.{ℕ, List, true, false, ◌==◌, ◌≡◌, ◌<◌, Result, Err, IfErr, OnOk, ap, ◌∙◌, inr, sym, subst, map, length, arith}
use Rattle.std.proofs.lemmas.Bool.Decides.{nat_tests}
use Rattle.record_text.specs.declared.cause.Cause.{Cause}
use Rattle.zone_lexing.specs.declared.word.Word.{Word}
use Rattle.record_text.specs.Data.{IsToldOf}
use Rattle.record_text.specs.Private.{ReadsBehind}
use Rattle.zone_lexing.specs.Word.{written}
use Rattle.record_text.proofs.DataLemmas.{words_text, words_no_text, words_fields, words_unknown}
use Rattle.record_text.proofs.data.put_words.Goals as goal

none : (words : List Word) → true ≡ (length words == 0) → length words ≡ 0
none words e = grind (arith, nat_tests)

some : (words : List Word) → false ≡ (length words == 0) → 0 < length words
some words e = grind (arith, nat_tests)

pub returns-then-is_empty-clause-fault : goal.returns-then-is_empty-clause-fault
returns-then-is_empty-clause-fault c =
    inr (words_no_text c.args.rtype.0 c.args.origin.now c.args.words.now c.if-eq.ensures (none c.args.words.now c.if-is_empty.ensures))

pub returns-then-eq-clause-put : goal.returns-then-eq-clause-put
returns-then-eq-clause-put c =
    subst (λ (r : Result (List ℕ) Cause). OnOk c.put_strings.result (ReadsBehind r c.args.octets.now.items c.put_strings.new.octets.items))
    (sym (words_text c.args.rtype.0 c.args.origin.now c.args.words.now c.if-eq.ensures (some c.args.words.now c.if-is_empty.ensures)))
    c.put_strings.ensures.put

pub returns-then-eq-clause-fault : goal.returns-then-eq-clause-fault
returns-then-eq-clause-fault c =
    subst (λ (r : Result (List ℕ) Cause). IfErr c.put_strings.result (IsToldOf r))
    (sym (words_text c.args.rtype.0 c.args.origin.now c.args.words.now c.if-eq.ensures (some c.args.words.now c.if-is_empty.ensures)))
    c.put_strings.ensures.fault

pub returns-in-Some-clause-put : goal.returns-in-Some-clause-put
returns-in-Some-clause-put c =
    subst (λ (r : Result (List ℕ) Cause). OnOk c.put_fields.result (ReadsBehind r c.args.octets.now.items c.put_fields.new.octets.items))
    (sym (words_fields c.args.rtype.0 c.args.origin.now (map written c.args.words.now) c.in-Some.fields.now c.if-eq.ensures (sym c.in-Some.ensures)))
    c.put_fields.ensures.put

pub returns-in-Some-clause-fault : goal.returns-in-Some-clause-fault
returns-in-Some-clause-fault c =
    subst (λ (r : Result (List ℕ) Cause). IfErr c.put_fields.result (IsToldOf r))
    (sym (words_fields c.args.rtype.0 c.args.origin.now (map written c.args.words.now) c.in-Some.fields.now c.if-eq.ensures (sym c.in-Some.ensures)))
    c.put_fields.ensures.fault

pub returns-in-None-clause-fault : goal.returns-in-None-clause-fault
returns-in-None-clause-fault c = inr (words_unknown c.args.rtype.0 c.args.origin.now (map written c.args.words.now) c.if-eq.ensures (sym c.in-None.ensures) ∙ ap Err (sym c.unmarked.ensures))
