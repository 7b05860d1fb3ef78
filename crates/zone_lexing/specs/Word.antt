-- Words as they are written, escapes not undone (RFC 1035, 5.1).
use Rattle.std.specs.Prelude.{ℕ, List}
use Rattle.zone_lexing.specs.declared.word.Word.{Word}
use Rattle.zone_lexing.specs.declared.word.Word.TheVariants as word

-- a word outside quotes, or what stands between two; or a quote or a parenthesis without its other one, which stands
-- where a word would
pub data Written : Type 0 where
  Plain : List ℕ → Written
  Quoted : List ℕ → Written
  Unclosed : Written

-- a word as contracts see it
abbrev pub written : Word → Written
written (word.Plain text) = Plain text.now
written (word.Quoted text) = Quoted text.now
written word.Unclosed = Unclosed
