-- What the contracts of private functions cite.
use Rattle.std.specs.Prelude.{◌≡◌, ℕ, Bool, List, ◌∷◌, ◌++◌, if◌then◌else◌, Option, Some, None, option_map, String, string_bytes}
use Rattle.record_text.specs.Text.{as_text, text_of_words}
use Rattle.zone_lexing.specs.Word.{Written}
use Rattle.zone_lexing.specs.Word.Written.{Plain}

-- a word is written after a space, and how many octets it takes is returned; None where there is none
abbrev pub WritesWord : Option (Written × ℕ) → List ℕ → List ℕ → Option ℕ → Type 0
WritesWord None before after len = len ≡ None
WritesWord (Some word) before after len = (len ≡ Some word.1) × (after ≡ before ++ 32 ∷ as_text word.0)

-- a text with words after it, each after a space, where there are words
abbrev pub text_with : List ℕ → Option (List Written) → Option (List ℕ)
text_with before words = option_map (λ words. before ++ text_of_words words) words

-- words are written after a text, and that they are is returned
abbrev pub WritesWords : Option (List Written) → List ℕ → List ℕ → Bool → Type 0
WritesWords words before after done = (if done then Some after else None) ≡ text_with before words

-- a text as a word outside quotes
abbrev pub plain_word : {A : Type 0} → String A → Written
plain_word text = Plain (string_bytes text)
