use Rattle.std.proofs.Common.{◌+◌, List, get_or, drop, string_bytes, sym, ◌∙◌}
use Rattle.std.proofs.lemmas.List.{at_drop_more, take_rest}
use Rattle.wide_text.specs.Private.{text_with}
use Rattle.wide_text.specs.Words.{words_by}
use Rattle.wide_text.specs.declared.forms.Field.{Field}
use Rattle.wide_text.specs.declared.forms.Field.TheVariants as field
use Rattle.wide_text.proofs.WriteLemmas.{text_step}
use Rattle.wide_text.proofs.words.write_words.Goals as goal

pub loop-field-preserved : goal.loop-field-preserved
loop-field-preserved c =
    let before = string_bytes c.loop-field.text in
    let fields = c.args.fields.now in
    let i = c.loop-field.field-index in
    let left = c.loop-field.left.now in
    let step = at_drop_more (λ (fs : List Field). text_with before (words_by fs c.args.rest left)) fields i field.Name c.loop-field-test.true in
    let wrote = rw c.in-Some.is at c.in_ok-len.ensures.word in
    rw take_rest
    (text_step before (string_bytes c.write_field.new.text) (get_or fields i field.Name) (drop (i + 1) fields) c.args.rest left c.in-Some.len wrote
    ∙ sym step ∙ c.loop-field.invariant)
