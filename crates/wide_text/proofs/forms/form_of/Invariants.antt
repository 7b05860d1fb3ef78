use Rattle.std.proofs.Common.{◌≡◌, ◌==◌, drop, map}
use Rattle.std.specs.List.{find}
use Rattle.wide_text.specs.Forms.{Form, form_seen, forms}
use Rattle.wide_text.proofs.forms.form_of.Given as goal

abbrev pub invariant-loop-form : goal.invariant-loop-form
invariant-loop-form l = find (λ (form : Form). form.rtype == l.rtype.0) (map form_seen (drop l.form-index l.form-items)) ≡ find (λ (form : Form). form.rtype == l.rtype.0) forms
