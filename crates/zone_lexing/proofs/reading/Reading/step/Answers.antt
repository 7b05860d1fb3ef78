use Rattle.std.proofs.Common.{inl, inr}
use Rattle.zone_lexing.specs.Word.Written.{Quoted}
use Rattle.zone_lexing.specs.Entries.{between_quotes}
use Rattle.zone_lexing.proofs.StepLemmas.{IsFront-found, Steps-front, Steps-word}
use Rattle.zone_lexing.proofs.reading.Reading.step.Goals as goal

pub returns-in-Bare : goal.returns-in-Bare
returns-in-Bare c = λ words same.
    let is = IsFront-found c.args.self.now c.in-Some.token _ c.in-Some.len c.split_at.result.0.now c.split_at.result.1.now c.in-Some.ensures.item c.in-Some.ensures.some c.split_at.ensures.front c.split_at.ensures.back c.in-Bare.is in
    Steps-front c.args.self.now c.word.new.self words _ _ c.split_at.result.0.now c.split_at.result.1.now is (c.word.ensures words same)

pub returns-in-InQuotes : goal.returns-in-InQuotes
returns-in-InQuotes c = λ words same.
    let is = IsFront-found c.args.self.now c.in-Some.token _ c.in-Some.len c.split_at.result.0.now c.split_at.result.1.now c.in-Some.ensures.item c.in-Some.ensures.some c.split_at.ensures.front c.split_at.ensures.back c.in-InQuotes.is in
    Steps-front c.args.self.now c.word-in-InQuotes.new.self words _ _ c.split_at.result.0.now c.split_at.result.1.now is (Steps-word c.args.self.now c.word-in-InQuotes.new.self words c.word-in-InQuotes.result c.between_quotes.result (Quoted (between_quotes c.split_at.result.0.now)) c.split_at.result.1.now c.between_quotes.ensures (c.word-in-InQuotes.ensures words same))

pub returns-in-Blank : goal.returns-in-Blank
returns-in-Blank c = λ words same.
    elim c.in-Blank.is [
      | inl e ↦ (let is = IsFront-found c.args.self.now c.in-Some.token _ c.in-Some.len c.split_at.result.0.now c.split_at.result.1.now c.in-Some.ensures.item c.in-Some.ensures.some c.split_at.ensures.front c.split_at.ensures.back e in
          Steps-front c.args.self.now c.on.new.self words _ _ c.split_at.result.0.now c.split_at.result.1.now is (c.on.ensures words same))
      | inr e ↦ (let is = IsFront-found c.args.self.now c.in-Some.token _ c.in-Some.len c.split_at.result.0.now c.split_at.result.1.now c.in-Some.ensures.item c.in-Some.ensures.some c.split_at.ensures.front c.split_at.ensures.back e in
          Steps-front c.args.self.now c.on.new.self words _ _ c.split_at.result.0.now c.split_at.result.1.now is (c.on.ensures words same))
    ]

pub returns-in-Open : goal.returns-in-Open
returns-in-Open c = λ words same.
    let is = IsFront-found c.args.self.now c.in-Some.token _ c.in-Some.len c.split_at.result.0.now c.split_at.result.1.now c.in-Some.ensures.item c.in-Some.ensures.some c.split_at.ensures.front c.split_at.ensures.back c.in-Open.is in
    Steps-front c.args.self.now c.open.new.self words _ _ c.split_at.result.0.now c.split_at.result.1.now is (c.open.ensures words c.split_at.result.0.now same)

pub returns-in-Close : goal.returns-in-Close
returns-in-Close c = λ words same.
    let is = IsFront-found c.args.self.now c.in-Some.token _ c.in-Some.len c.split_at.result.0.now c.split_at.result.1.now c.in-Some.ensures.item c.in-Some.ensures.some c.split_at.ensures.front c.split_at.ensures.back c.in-Close.is in
    Steps-front c.args.self.now c.close.new.self words _ _ c.split_at.result.0.now c.split_at.result.1.now is (c.close.ensures words c.split_at.result.0.now same)

pub returns-in-Unclosed : goal.returns-in-Unclosed
returns-in-Unclosed c = λ words same.
    let is = IsFront-found c.args.self.now c.in-Some.token _ c.in-Some.len c.split_at.result.0.now c.split_at.result.1.now c.in-Some.ensures.item c.in-Some.ensures.some c.split_at.ensures.front c.split_at.ensures.back c.in-Unclosed.is in
    Steps-front c.args.self.now c.unclosed.new.self words _ _ c.split_at.result.0.now c.split_at.result.1.now is (c.unclosed.ensures words)

pub returns-in-LineEnd : goal.returns-in-LineEnd
returns-in-LineEnd c = λ words same.
    let is = IsFront-found c.args.self.now c.in-Some.token _ c.in-Some.len c.split_at.result.0.now c.split_at.result.1.now c.in-Some.ensures.item c.in-Some.ensures.some c.split_at.ensures.front c.split_at.ensures.back c.in-LineEnd.is in
    Steps-front c.args.self.now c.line_end.new.self words _ _ c.split_at.result.0.now c.split_at.result.1.now is (c.line_end.ensures words c.split_at.result.0.now same)
