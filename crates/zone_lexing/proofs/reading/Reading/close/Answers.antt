use Rattle.std.proofs.Common.{◌+◌}
use Rattle.zone_lexing.specs.Items.{items}
use Rattle.zone_lexing.proofs.StepLemmas.{Steps-same, close_outside}
use Rattle.zone_lexing.proofs.reading.Reading.close.Goals as goal

pub returns-then-not-self : goal.returns-then-not-self
returns-then-not-self c = λ words octets same.
    Steps-same _ _ c.args.self.now c.unclosed.new.self words c.unclosed.result
    (close_outside _ words c.args.self.now.inside (c.args.self.now.lines + 1) octets (items 0 c.args.behind.now) c.if-not-self.true) (c.unclosed.ensures words)
