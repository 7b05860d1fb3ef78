-- Items of lists, and parameters, one after the other.
use Rattle.std.proofs.Common.{◌≡◌, ℕ, zero, suc, ◌+◌, ◌-◌, ◌<◌, ◌≤◌, List, [], ◌∷◌, ◌++◌, length, take, drop, get_or, refl, sym, ap, ◌∙◌, arith}
use Rattle.std.specs.Int.{from_be_bytes, w16}
use Rattle.std.proofs.lemmas.List.{append_assoc, length-drop}
use Rattle.wide_text.specs.ParamWords.{item_len, item_text, items_text, param_text, params_words}
use Rattle.wide_text.specs.declared.params.Item.{Item}
use Rattle.wide_text.specs.declared.params.Item.TheVariants as item
use Rattle.zone_lexing.specs.Word.{Written}
use Rattle.zone_lexing.specs.Word.Written.{Plain}

some_item : (kind : Item) (first : ℕ) → 0 < item_len kind first
some_item item.Key first = omega arith
some_item item.Protocol first = omega arith
some_item item.Address first = omega arith
some_item item.Address6 first = omega arith

-- what stands after octets is no longer than so many
shorter : (n len : ℕ) (octets : List ℕ) → length octets ≤ n + len → length (drop len octets) ≤ n
shorter n len octets h = let left = length-drop len octets in omega arith

shorter_item : (n : ℕ) (kind : Item) (first : ℕ) (octets : List ℕ) → length (first ∷ octets) ≤ suc n → length (drop (item_len kind first) (first ∷ octets)) ≤ n
shorter_item n kind first octets h = let some = some_item kind first in shorter n (item_len kind first) (first ∷ octets) (omega arith)

-- how many items may be is of no matter where they are enough
items_enough : (m n : ℕ) (kind : Item) (mark : ℕ) (octets : List ℕ) → length octets ≤ m → length octets ≤ n → items_text m kind mark octets ≡ items_text n kind mark octets
items_enough zero zero kind mark octets h k = refl
items_enough zero (suc n) kind mark [] h k = refl
items_enough zero (suc n) kind mark (first ∷ octets) h k = absurd (omega arith)
items_enough (suc m) zero kind mark [] h k = refl
items_enough (suc m) zero kind mark (first ∷ octets) h k = absurd (omega arith)
items_enough (suc m) (suc n) kind mark [] h k = refl
items_enough (suc m) (suc n) kind mark (first ∷ octets) h k =
    let len = item_len kind first in
    ap (λ (t : List ℕ). mark ∷ item_text kind (take len (first ∷ octets)) ++ t)
    (items_enough m n kind 44 (drop len (first ∷ octets)) (shorter_item m kind first octets h) (shorter_item n kind first octets k))

-- the first item, and those after it
pub items_next : (kind : Item) (mark : ℕ) (octets : List ℕ) → 0 < length octets
    → items_text (length octets) kind mark octets
    ≡ mark ∷ item_text kind (take (item_len kind (get_or octets 0 0)) octets) ++ items_text (length (drop (item_len kind (get_or octets 0 0)) octets)) kind 44 (drop (item_len kind (get_or octets 0 0)) octets)
items_next kind mark [] h = absurd (omega arith)
items_next kind mark (first ∷ octets) h =
    let len = item_len kind first in
    items_enough (length (first ∷ octets)) (suc (length octets)) kind mark (first ∷ octets) (omega arith) (omega arith)
    ∙ ap (λ (t : List ℕ). mark ∷ item_text kind (take len (first ∷ octets)) ++ t)
    (items_enough (length octets) (length (drop len (first ∷ octets))) kind 44 (drop len (first ∷ octets)) (shorter_item (length octets) kind first octets (omega arith)) (omega arith))

pub items_end : (kind : Item) (mark : ℕ) (octets : List ℕ) → length octets < 1 → items_text (length octets) kind mark octets ≡ []
items_end kind mark [] h = refl
items_end kind mark (first ∷ octets) h = absurd (omega arith)

-- the same of parameters
shorter_param : (n len : ℕ) (octets : List ℕ) → length octets + 4 ≤ suc n → length (drop len octets) ≤ n
shorter_param n len octets h = shorter n len octets (omega arith)

params_enough : (m n : ℕ) (octets : List ℕ) → length octets ≤ m → length octets ≤ n → params_words m octets ≡ params_words n octets
params_enough zero zero octets h k = refl
params_enough zero (suc n) [] h k = refl
params_enough zero (suc n) (a ∷ octets) h k = absurd (omega arith)
params_enough (suc m) zero [] h k = refl
params_enough (suc m) zero (a ∷ octets) h k = absurd (omega arith)
params_enough (suc m) (suc n) [] h k = refl
params_enough (suc m) (suc n) (a ∷ []) h k = refl
params_enough (suc m) (suc n) (a ∷ b ∷ []) h k = refl
params_enough (suc m) (suc n) (a ∷ b ∷ c ∷ []) h k = refl
params_enough (suc m) (suc n) (a ∷ b ∷ c ∷ d ∷ octets) h k =
    let len = from_be_bytes w16 (c ∷ d ∷ []) in
    ap (λ (ws : List Written). Plain (param_text (from_be_bytes w16 (a ∷ b ∷ [])) (take len octets)) ∷ ws)
    (params_enough m n (drop len octets) (shorter_param m len octets (omega arith)) (shorter_param n len octets (omega arith)))

-- the first parameter, and those after it
abbrev pub IsNext : ℕ → ℕ → ℕ → ℕ → List ℕ → Type 0
IsNext a b c d octets =
    params_words (length (a ∷ b ∷ c ∷ d ∷ octets)) (a ∷ b ∷ c ∷ d ∷ octets)
    ≡ Plain (param_text (from_be_bytes w16 (a ∷ b ∷ [])) (take (from_be_bytes w16 (c ∷ d ∷ [])) octets))
    ∷ params_words (length (drop (from_be_bytes w16 (c ∷ d ∷ [])) octets)) (drop (from_be_bytes w16 (c ∷ d ∷ [])) octets)

pub params_next : (a b c d : ℕ) (octets : List ℕ) → IsNext a b c d octets
params_next a b c d octets =
    let all = a ∷ b ∷ c ∷ d ∷ octets in
    let len = from_be_bytes w16 (c ∷ d ∷ []) in
    params_enough (length all) (suc (length octets + 3)) all (omega arith) (omega arith)
    ∙ ap (λ (ws : List Written). Plain (param_text (from_be_bytes w16 (a ∷ b ∷ [])) (take len octets)) ∷ ws)
    (params_enough (length octets + 3) (length (drop len octets)) (drop len octets) (shorter_param (length octets + 3) len octets (omega arith)) (omega arith))

pub params_end : (octets : List ℕ) → length octets < 4 → params_words (length octets) octets ≡ []
params_end [] h = refl
params_end (a ∷ []) h = refl
params_end (a ∷ b ∷ []) h = refl
params_end (a ∷ b ∷ c ∷ []) h = refl
params_end (a ∷ b ∷ c ∷ d ∷ octets) h = absurd (omega arith)

-- an item that is written after a mark, and those after it
pub items_step : (kind : Item) (mark : ℕ) (rest before after own others : List ℕ) (len : ℕ) → 0 < length rest → len ≡ item_len kind (get_or rest 0 0) → own ≡ take len rest → others ≡ drop len rest
    → after ≡ (before ++ mark ∷ []) ++ item_text kind own → after ++ items_text (length others) kind 44 others ≡ before ++ items_text (length rest) kind mark rest
items_step kind mark rest before after own others len some l i o a =
    let n = item_len kind (get_or rest 0 0) in
    ap (λ (t : List ℕ). t ++ items_text (length others) kind 44 others) a
    ∙ ap (λ (t : List ℕ). ((before ++ mark ∷ []) ++ item_text kind t) ++ items_text (length others) kind 44 others) (i ∙ ap (λ (k : ℕ). take k rest) l)
    ∙ ap (λ (t : List ℕ). ((before ++ mark ∷ []) ++ item_text kind (take n rest)) ++ items_text (length t) kind 44 t) (o ∙ ap (λ (k : ℕ). drop k rest) l)
    ∙ append_assoc (before ++ mark ∷ []) (item_text kind (take n rest)) (items_text (length (drop n rest)) kind 44 (drop n rest))
    ∙ append_assoc before (mark ∷ []) (item_text kind (take n rest) ++ items_text (length (drop n rest)) kind 44 (drop n rest))
    ∙ ap (λ (t : List ℕ). before ++ t) (sym (items_next kind mark rest some))

-- the word of a parameter, and those after it
pub params_step : (octets value others : List ℕ) (words next : List Written) (key len : ℕ) → 4 ≤ length octets
    → key ≡ from_be_bytes w16 (get_or octets 0 0 ∷ get_or octets 1 0 ∷ []) → len ≡ from_be_bytes w16 (get_or octets 2 0 ∷ get_or octets 3 0 ∷ [])
    → value ≡ take len (drop 4 octets) → others ≡ drop len (drop 4 octets) → next ≡ words ++ Plain (param_text key value) ∷ []
    → next ++ params_words (length others) others ≡ words ++ params_words (length octets) octets
params_step [] value others words next key len h k l v o e = absurd (omega arith)
params_step (a ∷ []) value others words next key len h k l v o e = absurd (omega arith)
params_step (a ∷ b ∷ []) value others words next key len h k l v o e = absurd (omega arith)
params_step (a ∷ b ∷ c ∷ []) value others words next key len h k l v o e = absurd (omega arith)
params_step (a ∷ b ∷ c ∷ d ∷ octets) value others words next key len h k l v o e =
    let n = from_be_bytes w16 (c ∷ d ∷ []) in
    let name = from_be_bytes w16 (a ∷ b ∷ []) in
    ap (λ (ws : List Written). ws ++ params_words (length others) others) e
    ∙ append_assoc words (Plain (param_text key value) ∷ []) (params_words (length others) others)
    ∙ ap (λ (m : ℕ). words ++ (Plain (param_text m value) ∷ params_words (length others) others)) k
    ∙ ap (λ (t : List ℕ). words ++ (Plain (param_text name t) ∷ params_words (length others) others)) (v ∙ ap (λ (m : ℕ). take m octets) l)
    ∙ ap (λ (t : List ℕ). words ++ (Plain (param_text name (take n octets)) ∷ params_words (length t) t)) (o ∙ ap (λ (m : ℕ). drop m octets) l)
    ∙ ap (λ (ws : List Written). words ++ ws) (sym (params_next a b c d octets))
