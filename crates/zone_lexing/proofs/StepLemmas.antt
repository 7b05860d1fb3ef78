-- What an item makes of the entry that is read.
use Rattle.std.proofs.Common.{◌≡◌, ℕ, ◌<◌, Bool, true, false, List, [], ◌∷◌, ◌++◌, take, drop, Some, unwrap_or, refl, sym, ap, subst, ◌∙◌}
use Rattle.zone_lexing.specs.Items.{Item, items, item_at}
use Rattle.zone_lexing.specs.Word.{Written, written}
use Rattle.zone_lexing.specs.Entries.{Start, Entry, closes, nested, faulty, entries_from}
use Rattle.zone_lexing.specs.Steps.{left, left_before, Steps}
use Rattle.zone_lexing.specs.declared.item.Token.{Token}
use Rattle.zone_lexing.specs.declared.item.Token.TheVariants.{Open, Close}
use Rattle.zone_lexing.specs.declared.reading.Reading.{Reading}
use Rattle.zone_lexing.specs.declared.reading.Step.{Step}
use Rattle.zone_lexing.specs.declared.word.Word.{Word}
use Rattle.zone_lexing.proofs.ItemLemmas.{items_step}

-- the entries before a step, by an equation
pub Steps-same : (before other : List Entry) (old new : Reading) (words : List Written) (step : Step) → before ≡ other → Steps other old new words step → Steps before old new words step
Steps-same before other old new words step e h = subst (λ (es : List Entry). Steps es old new words step) (sym e) h

-- the item at the front of what is left
pub record IsFront (reading : Reading) (token : Token) (octets behind : List ℕ) : Type 0 where
  pub front : items 0 reading.rest.now ≡ (token, octets) ∷ items 0 behind

pub IsFront-found : (reading : Reading) (token other : Token) (n : ℕ) (octets behind : List ℕ) → Some (token, n) ≡ item_at reading.rest.now → 0 < n → octets ≡ take n reading.rest.now → behind ≡ drop n reading.rest.now → token ≡ other → IsFront reading other octets behind
IsFront-found reading token other n octets behind e some head tail is =
    let step = items_step reading.rest.now token n (sym e) some in
    record { front = cc }

pub left-front : (reading : Reading) (words : List Written) (token : Token) (octets behind : List ℕ) → IsFront reading token octets behind → left reading words ≡ left_before reading words ((token, octets) ∷ items 0 behind)
left-front reading words token octets behind is = ap (left_before reading words) is.front

-- a step at the item at the front
pub Steps-front : (old new : Reading) (words : List Written) (step : Step) (token : Token) (octets behind : List ℕ) → IsFront old token octets behind → Steps (left_before old words ((token, octets) ∷ items 0 behind)) old new words step → Steps (left old words) old new words step
Steps-front old new words step token octets behind is h =
    Steps-same _ _ old new words step (left-front old words token octets behind is) h

-- a word of other octets
pub Steps-word : (old new : Reading) (words : List Written) (step : Step) (word : Word) (is : Written) (behind : List ℕ) → written word ≡ is → Steps (left_before old (words ++ written word ∷ []) (items 0 behind)) old new words step → Steps (left_before old (words ++ is ∷ []) (items 0 behind)) old new words step
Steps-word old new words step word is behind e h =
    Steps-same _ _ old new words step (ap (λ (w : Written). left_before old (words ++ w ∷ []) (items 0 behind)) (sym e)) h

-- an opening parenthesis inside others
pub open_inside : (start : Start) (words : List Written) (inside : Bool) (line : ℕ) (octets : List ℕ) (behind : List Item) → inside ≡ true → entries_from start words inside line ((Open, octets) ∷ behind) ≡ faulty start words line
open_inside start words true line octets behind e = refl
open_inside start words false line octets behind e = cc

open_unclosed_by : (start : Start) (words : List Written) (line : ℕ) (octets : List ℕ) (behind : List Item) → closes behind ≡ false → entries_from start words false line ((Open, octets) ∷ behind) ≡ faulty start words (unwrap_or (nested line behind) line)
open_unclosed_by start words line octets behind e = rw (e, entries_from) refl

-- one that isn't closed
pub open_unclosed : (start : Start) (words : List Written) (inside : Bool) (line reported : ℕ) (octets : List ℕ) (behind : List Item) → inside ≡ false → closes behind ≡ false → reported ≡ unwrap_or (nested line behind) line → entries_from start words inside line ((Open, octets) ∷ behind) ≡ faulty start words reported
open_unclosed start words true line reported octets behind e none is = cc
open_unclosed start words false line reported octets behind e none is = open_unclosed_by start words line octets behind none ∙ ap (faulty start words) (sym is)

-- a closing parenthesis where none is open
pub close_outside : (start : Start) (words : List Written) (inside : Bool) (line : ℕ) (octets : List ℕ) (behind : List Item) → inside ≡ false → entries_from start words inside line ((Close, octets) ∷ behind) ≡ faulty start words line
close_outside start words false line octets behind e = refl
close_outside start words true line octets behind e = cc
