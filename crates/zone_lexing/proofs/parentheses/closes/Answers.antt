use Rattle.std.proofs.Common.{◌∙◌, sym}
use Rattle.std.proofs.lemmas.List.{take_rest}
use Rattle.zone_lexing.proofs.ScanLemmas.{closes_on}
use Rattle.zone_lexing.proofs.parentheses.closes.Goals as goal

pub loop-token-preserved : goal.loop-token-preserved
loop-token-preserved c =
    rw take_rest (closes_on c.loop-token.rest.now c.in-Some.token c.in-Some.len (sym c.in-Some.ensures.item) c.in-Some.ensures.some c.in_default-token.not-Close ∙ c.loop-token.invariant)
