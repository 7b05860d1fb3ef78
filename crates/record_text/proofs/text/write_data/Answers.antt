use Rattle.std.proofs.Common.{◌∙◌, ◌≡◌, ◌==◌, ◌++◌, ℕ, List, OnOk, sym, ap, subst, string_bytes}
use Rattle.record_text.specs.Data.{form_of}
use Rattle.record_text.specs.Generic.{generic_words}
use Rattle.record_text.specs.Text.{words_at, text_of_words}
use Rattle.zone_lexing.specs.Word.{Written}
use Rattle.record_text.proofs.TextLemmas.{words_of-fields, words_of-none}
use Rattle.record_text.proofs.text.write_data.Goals as goal

pub returns-in-Some : goal.returns-in-Some
returns-in-Some c =
    let d = c.args.rdata.now in
    let same = words_of-fields d.rtype d.octets c.in-Some.fields.now
    (c.if-eq.ensures ∙ ap (λ (n : ℕ). n == 16) c.rtype.ensures.rtype) (sym (c.in-Some.ensures ∙ ap form_of c.rtype-2.ensures.rtype)) in
    subst (λ (words : List Written). OnOk c.write_fields.result (string_bytes c.write_fields.new.text ≡ string_bytes c.args.text.now ++ text_of_words words))
    (sym (same ∙ ap (words_at c.in-Some.fields.now) (sym c.octets-in-Some.ensures.octets)))
    c.write_fields.ensures

pub returns-in-None : goal.returns-in-None
returns-in-None c =
    let d = c.args.rdata.now in
    let same = words_of-none d.rtype d.octets
    (c.if-eq.ensures ∙ ap (λ (n : ℕ). n == 16) c.rtype.ensures.rtype) (sym (c.in-None.ensures ∙ ap form_of c.rtype-2.ensures.rtype)) in
    subst (λ (words : List Written). OnOk c.write_generic.result (string_bytes c.write_generic.new.text ≡ string_bytes c.args.text.now ++ text_of_words words))
    (sym (same ∙ ap generic_words (sym c.octets-in-None.ensures.octets)))
    c.write_generic.ensures
