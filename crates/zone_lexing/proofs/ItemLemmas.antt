-- The items of a text, from its front on.
use Rattle.std.proofs.Common.{◌≡◌, ℕ, zero, suc, ◌-◌, ◌<◌, List, [], ◌∷◌, take, drop, Some, None, refl, sym, ap, ◌∙◌, arith}
use Rattle.zone_lexing.specs.Items.{Item, items, item_at, token_at}
use Rattle.zone_lexing.specs.declared.item.Token.{Token}

-- the items behind the first k octets are those of the octets left
items-drop : (k : ℕ) (text : List ℕ) → items k text ≡ items 0 (drop k text)
items-drop zero text = refl
items-drop (suc k) [] = refl
items-drop (suc k) (c ∷ text) = items-drop k text

pub drop_less : (n c : ℕ) (text : List ℕ) → 0 < n → drop n (c ∷ text) ≡ drop (n - 1) text
drop_less zero c text h = absurd (omega arith)
drop_less (suc n) c text h = let e : suc n - 1 ≡ n = omega arith in rw e

-- an item, and the items of the octets behind it
pub items_step : (text : List ℕ) (token : Token) (n : ℕ) → item_at text ≡ Some (token, n) → 0 < n → items 0 text ≡ (token, take n text) ∷ items 0 (drop n text)
items_step [] token n e some = cc
items_step (c ∷ text) token n e some =
    let found : token_at c text ≡ (token, n) = cc in
    ap (λ (f : Token × ℕ). ◌∷◌ (f.0, take f.1 (c ∷ text)) (items (f.1 - 1) text)) found
    ∙ ap (λ (is : List Item). ◌∷◌ (token, take n (c ∷ text)) is) (items-drop (n - 1) text ∙ ap (items 0) (sym (drop_less n c text some)))

-- no item, no text
pub items_none : (text : List ℕ) → item_at text ≡ None → items 0 text ≡ []
items_none [] e = refl
items_none (c ∷ text) e = cc
