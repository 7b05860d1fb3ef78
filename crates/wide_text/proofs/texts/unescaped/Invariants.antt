use Rattle.std.proofs.Common.{◌≡◌, length}
use Rattle.record_text.specs.Strings.{unescaped}
use Rattle.record_text.proofs.StringLemmas.{whole}
use Rattle.wide_text.proofs.texts.unescaped.Given as goal

abbrev pub invariant-loop-rest : goal.invariant-loop-rest
invariant-loop-rest l = whole l.octets.items l.rest ≡ unescaped l.text

abbrev pub decreases-loop-rest : goal.decreases-loop-rest
decreases-loop-rest l = length l.rest
