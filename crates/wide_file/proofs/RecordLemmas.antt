-- The records of entries, entry by entry.
use Rattle.std.proofs.Common.{◌≡◌, ℕ, ◌⊎◌, inl, inr, Bool, Option, Some, None, MatchOption, List, [], map, Result, Ok, Err, sym, ap, subst, ◌∙◌}
use Rattle.record_text.specs.declared.cause.Cause.{Cause}
use Rattle.record_text.specs.declared.cause.Cause.TheVariants.{NoMemory}
use Rattle.wide_file.specs.declared.context.Context.{Context}
use Rattle.wide_file.specs.declared.record_entry.WideEntry.{WideEntry}
use Rattle.zone_lexing.specs.declared.entry.EntryHead.{EntryHead}
use Rattle.zone_lexing.specs.declared.word.Word.{Word}
use Rattle.record_text.specs.Data.{IsToldOf}
use Rattle.zone_lexing.specs.Entries.{Entry}
use Rattle.master_file.specs.Records.{fault_at, IsFirst}
use Rattle.wide_file.specs.WideRecords.{WideRead, faulty, in_front, judged, records_from}
use Rattle.zone_lexing.specs.Word.{Written, written}

-- what the first entry's judgement makes of the records
abbrev then : ℕ → Option ℕ → List Entry → Result (Context × Option WideEntry) Cause → WideRead
then line unclosed entries r = elim r [
  | Err cause ↦ faulty (fault_at line unclosed cause)
  | Ok (next, None) ↦ records_from next entries
  | Ok (next, Some own) ↦ in_front own (records_from next entries)
]

-- the records from the first entry on, by what its words are judged to be
from_first : (context : Context) (before after : List Entry) (head : EntryHead) (words : List Written) → IsFirst before after head words → records_from context before ≡ then head.line head.unclosed after (judged context head.line head.indented words)
from_first context before after head words is =
    ap (records_from context) is.first
    ∙ ap (λ (ws : List Written). then is.entry.line is.entry.unclosed after (judged context is.entry.line is.entry.indented ws)) (sym is.all)
    ∙ ap (λ (i : Bool). then is.entry.line is.entry.unclosed after (judged context is.entry.line i words)) is.indented
    ∙ ap (λ (u : Option ℕ). then is.entry.line u after (judged context is.entry.line head.indented words)) is.unclosed
    ∙ ap (λ (l : ℕ). then l head.unclosed after (judged context l head.indented words)) is.line

first_of : (before after : List Entry) (head : EntryHead) (found : Option EntryHead) (words : List Written) → found ≡ Some head → MatchOption found ((before ≡ []) × (after ≡ [])) (λ (h : EntryHead). IsFirst before after h words) → IsFirst before after head words
first_of before after head found words e h = subst (λ (o : Option EntryHead). MatchOption o ((before ≡ []) × (after ≡ [])) (λ (h : EntryHead). IsFirst before after h words)) e h

-- a fault of the first entry is that of the whole
pub fault_first : (context : Context) (before after : List Entry) (head : EntryHead) (found : Option EntryHead) (items words : List Word) (cause : Cause) → found ≡ Some head → MatchOption found ((before ≡ []) × (after ≡ [])) (λ (h : EntryHead). IsFirst before after h (map written items)) → words ≡ items → IsToldOf (judged context head.line head.indented (map written words)) cause → (cause ≡ NoMemory) ⊎ (records_from context before ≡ faulty (fault_at head.line head.unclosed cause))
fault_first context before after head found items words cause e h same (inl none) = inl none
fault_first context before after head found items words cause e h same (inr reported) =
    inr (from_first context before after head (map written items) (first_of before after head found (map written items) e h)
    ∙ ap (λ (ws : List Word). then head.line head.unclosed after (judged context head.line head.indented (map written ws))) (sym same)
    ∙ ap (then head.line head.unclosed after) reported)
