use Rattle.std.proofs.Common.{◌≡◌, length}
use Rattle.record_text.proofs.DataLemmas.{behind}
use Rattle.wide_text.specs.Encoded.{eui_digits}
use Rattle.wide_text.proofs.encoded.eui_digits.Given as goal

abbrev pub invariant-loop-rest : goal.invariant-loop-rest
invariant-loop-rest l = behind l.digits.items (eui_digits l.rest) ≡ eui_digits l.text

abbrev pub decreases-loop-rest : goal.decreases-loop-rest
decreases-loop-rest l = length l.rest
