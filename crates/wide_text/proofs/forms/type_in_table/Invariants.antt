use Rattle.std.proofs.Common.{◌≡◌, drop, map}
use Rattle.std.specs.List.{find}
use Rattle.record_text.specs.Mnemonics.{is_word}
use Rattle.wide_text.specs.Forms.{Form, form_seen, forms}
use Rattle.wide_text.proofs.forms.type_in_table.Given as goal

abbrev pub invariant-loop-form : goal.invariant-loop-form
invariant-loop-form l = find (λ (form : Form). is_word l.text form.word) (map form_seen (drop l.form-index l.form-items)) ≡ find (λ (form : Form). is_word l.text form.word) forms
