use Rattle.std.proofs.Common.{◌+◌, ℕ, Option, sym, ◌∙◌, ap, unwrap_or}
use Rattle.zone_lexing.specs.Items.{items}
use Rattle.zone_lexing.proofs.StepLemmas.{Steps-same, open_inside, open_unclosed}
use Rattle.zone_lexing.proofs.reading.Reading.open.Goals as goal

pub returns-then-self : goal.returns-then-self
returns-then-self c = λ words octets same.
    Steps-same _ _ c.args.self.now c.unclosed.new.self words c.unclosed.result
    (open_inside _ words c.args.self.now.inside (c.args.self.now.lines + 1) octets (items 0 c.args.behind.now) c.if-self.true) (c.unclosed.ensures words)

pub returns-then-not-closes : goal.returns-then-not-closes
returns-then-not-closes c = λ words octets same.
    let line = c.args.self.now.lines + 1 in
    let none = sym c.closes.ensures ∙ c.if-not-closes.true in
    let reported = c.unwrap_or.ensures ∙ ap (λ (o : Option ℕ). unwrap_or o line) c.nested.ensures in
    Steps-same _ _ c.args.self.now c.unclosed-then-not-closes.new.self words c.unclosed-then-not-closes.result
    (open_unclosed _ words c.args.self.now.inside line c.unwrap_or.result octets (items 0 c.args.behind.now) c.if-self.false none reported) (c.unclosed-then-not-closes.ensures words)
