-- Words put after a text, field by field.
use Rattle.std.proofs.Common.{◌≡◌, ℕ, List, ◌∷◌, ◌++◌, drop, Option, Some, None, option_map, option_and_then, refl, ap, ◌∙◌}
use Rattle.std.proofs.lemmas.List.{append_assoc}
use Rattle.record_text.specs.Text.{as_text, text_of_words}
use Rattle.wide_text.specs.Private.{WritesWord, text_with}
use Rattle.wide_text.specs.Words.{word_at, words_by}
use Rattle.wide_text.specs.declared.forms.Field.{Field}
use Rattle.wide_text.specs.declared.forms.Rest.{Rest}
use Rattle.zone_lexing.specs.Word.{Written}

one_more : (before : List ℕ) (word : Written) (words : Option (List Written)) → text_with (before ++ 32 ∷ as_text word) words ≡ text_with before (option_map (λ (ws : List Written). word ∷ ws) words)
one_more before word None = refl
one_more before word (Some words) = ap (λ (t : List ℕ). Some t) (append_assoc before (32 ∷ as_text word) (text_of_words words))

text_by : (before after : List ℕ) (fields : List Field) (r : Rest) (octets : List ℕ) (len : ℕ) (word : Option (Written × ℕ)) → WritesWord word before after (Some len)
    → text_with after (words_by fields r (drop len octets)) ≡ text_with before (option_and_then (λ (w : Written × ℕ). option_map (λ (ws : List Written). w.0 ∷ ws) (words_by fields r (drop w.1 octets))) word)
text_by before after fields r octets len None h = cc
text_by before after fields r octets len (Some word) h =
    let same : len ≡ word.1 = let e = h.0 in cc in
    ap (λ (t : List ℕ). text_with t (words_by fields r (drop len octets))) h.1
    ∙ ap (λ (n : ℕ). text_with (before ++ 32 ∷ as_text word.0) (words_by fields r (drop n octets))) same
    ∙ one_more before word.0 (words_by fields r (drop word.1 octets))

-- the word of a field is written, and the others follow
pub text_step : (before after : List ℕ) (f : Field) (fields : List Field) (r : Rest) (octets : List ℕ) (len : ℕ) → WritesWord (word_at f octets) before after (Some len) → text_with after (words_by fields r (drop len octets)) ≡ text_with before (words_by (f ∷ fields) r octets)
text_step before after f fields r octets len h = text_by before after fields r octets len (word_at f octets) h
