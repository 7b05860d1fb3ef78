-- What stands behind an opening parenthesis, item by item.
use Rattle.std.proofs.Common.{◌≡◌, ℕ, ◌+◌, ◌<◌, List, ◌∷◌, take, drop, Some, refl, sym, ap, ◌∙◌}
use Rattle.zone_lexing.specs.Items.{Item, items, item_at}
use Rattle.zone_lexing.specs.Entries.{closes, nested}
use Rattle.zone_lexing.specs.declared.item.Token.{Token}
use Rattle.zone_lexing.specs.declared.item.Token.TheVariants.{Bare, InQuotes, Blank, Comment, Open, Close, Unclosed, LineEnd}
use Rattle.zone_lexing.proofs.ItemLemmas.{items_step}

closes_behind : (token : Token) (octets : List ℕ) (behind : List Item) → (token ≡ Close → ⊥) → closes ((token, octets) ∷ behind) ≡ closes behind
closes_behind Bare octets behind other = refl
closes_behind InQuotes octets behind other = refl
closes_behind Blank octets behind other = refl
closes_behind Comment octets behind other = refl
closes_behind Open octets behind other = refl
closes_behind Close octets behind other = absurd (other refl)
closes_behind Unclosed octets behind other = refl
closes_behind LineEnd octets behind other = refl

-- behind an item that is no closing parenthesis
pub closes_on : (text : List ℕ) (token : Token) (n : ℕ) → item_at text ≡ Some (token, n) → 0 < n → (token ≡ Close → ⊥) → closes (items 0 (drop n text)) ≡ closes (items 0 text)
closes_on text token n e some other =
    sym (ap closes (items_step text token n e some) ∙ closes_behind token (take n text) (items 0 (drop n text)) other)

nested_behind : (token : Token) (octets : List ℕ) (behind : List Item) (line : ℕ) → (token ≡ Open → ⊥) → (token ≡ LineEnd → ⊥) → nested line ((token, octets) ∷ behind) ≡ nested line behind
nested_behind Bare octets behind line other goes_on = refl
nested_behind InQuotes octets behind line other goes_on = refl
nested_behind Blank octets behind line other goes_on = refl
nested_behind Comment octets behind line other goes_on = refl
nested_behind Open octets behind line other goes_on = absurd (other refl)
nested_behind Close octets behind line other goes_on = refl
nested_behind Unclosed octets behind line other goes_on = refl
nested_behind LineEnd octets behind line other goes_on = absurd (goes_on refl)

-- behind an item that is neither an opening parenthesis nor a line's end
pub nested_on : (text : List ℕ) (token : Token) (n line : ℕ) → item_at text ≡ Some (token, n) → 0 < n → (token ≡ Open → ⊥) → (token ≡ LineEnd → ⊥) → nested line (items 0 (drop n text)) ≡ nested line (items 0 text)
nested_on text token n line e some other goes_on =
    sym (ap (nested line) (items_step text token n e some) ∙ nested_behind token (take n text) (items 0 (drop n text)) line other goes_on)

-- behind a line's end
pub nested_below : (text : List ℕ) (token : Token) (n line : ℕ) → item_at text ≡ Some (token, n) → 0 < n → token ≡ LineEnd → nested (line + 1) (items 0 (drop n text)) ≡ nested line (items 0 text)
nested_below text token n line e some is =
    sym (ap (nested line) (items_step text token n e some) ∙ ap (λ (k : Token). nested line ((k, take n text) ∷ items 0 (drop n text))) is)
