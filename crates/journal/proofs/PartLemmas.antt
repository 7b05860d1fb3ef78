-- Lists that are made of parts, and numbers as octets.
use Rattle.std.proofs.Common.{◌≡◌, ℕ, ◌+◌, ◌^◌, ◌<◌, List, ◌++◌, length, take, drop, get_or, ◌≤◌, ◌⊎◌, inl, inr, subst, refl, sym, ap, ◌∙◌, append_assoc, length-append, arith, true, false, [], ◌∷◌, map, Bor}
use Rattle.std.specs.List.{IsSplitAt}
use Rattle.std.specs.Int.{w16, w32, w64, to_be_bytes, from_be_bytes}
use Rattle.std.proofs.lemmas.List.{take_at, drop_at, take-append-drop, get_or_append_left, get_or_past, map_push}
use Rattle.std.proofs.lemmas.Bool.{cases_lt}
use Rattle.std.proofs.lemmas.Nat.{from_be_bytes-to_be_bytes_2, from_be_bytes-to_be_bytes_4, from_be_bytes-to_be_bytes_8}

-- two fronts of one length in one list are the same, and so is what stands behind them
pub same_parts : (a b c d : List ℕ) → length a ≡ length c → a ++ b ≡ c ++ d → (a ≡ c) × (b ≡ d)
same_parts a b c d len e =
    let front : a ≡ c = sym (take_at a b (length a) refl) ∙ (ap (λ (o : List ℕ). take (length a) o) e ∙ take_at c d (length a) (sym len)) in
    let back : b ≡ d = sym (drop_at a b (length a) refl) ∙ (ap (λ (o : List ℕ). drop (length a) o) e ∙ drop_at c d (length a) (sym len)) in
    (front, back)

-- parts of a text, its sum and the rest, one behind another
pub parts_in_a_row : (a b c s rest : List ℕ) → ((a ++ (b ++ c)) ++ s) ++ rest ≡ a ++ (b ++ (c ++ (s ++ rest)))
parts_in_a_row a b c s rest = simp append_assoc

-- how many octets such parts have
pub parts_long : (a b c s : List ℕ) → length a ≡ 4 → length b ≡ 8 → length s ≡ 32 → length ((a ++ (b ++ c)) ++ s) ≡ length c + 44
parts_long a b c s four eight sum = simp length-append (omega arith)

-- numbers of 16, 32 and 64 bits are told by their octets
pub same_number_2 : (m n : ℕ) → m < 2 ^ 16 → n < 2 ^ 16 → to_be_bytes w16 m ≡ to_be_bytes w16 n → m ≡ n
same_number_2 m n small fits e = sym (from_be_bytes-to_be_bytes_2 m small) ∙ (ap (from_be_bytes w16) e ∙ from_be_bytes-to_be_bytes_2 n fits)

pub same_number_4 : (m n : ℕ) → m < 2 ^ 32 → n < 2 ^ 32 → to_be_bytes w32 m ≡ to_be_bytes w32 n → m ≡ n
same_number_4 m n small fits e = sym (from_be_bytes-to_be_bytes_4 m small) ∙ (ap (from_be_bytes w32) e ∙ from_be_bytes-to_be_bytes_4 n fits)

pub same_number_8 : (m n : ℕ) → m < 2 ^ 64 → n < 2 ^ 64 → to_be_bytes w64 m ≡ to_be_bytes w64 n → m ≡ n
same_number_8 m n small fits e = sym (from_be_bytes-to_be_bytes_8 m small) ∙ (ap (from_be_bytes w64) e ∙ from_be_bytes-to_be_bytes_8 n fits)

-- octets in front of others are octets
pub front_small : (octets part rest : List ℕ) → octets ≡ part ++ rest → ((i : ℕ) → get_or octets i 0 < 256) → (i : ℕ) → get_or part i 0 < 256
front_small octets part rest e small i = by_place (cases_lt i (length part))
  where
    by_place : (i < length part) ⊎ (length part ≤ i) → get_or part i 0 < 256
    by_place (inl less) = subst (λ (n : ℕ). n < 256) (ap (λ (o : List ℕ). get_or o i 0) e ∙ get_or_append_left part rest 0 i less) (small i)
    by_place (inr more) = subst (λ (n : ℕ). n < 256) (sym (get_or_past part i 0 more)) (omega arith)

-- octets that are split are their two parts
pub split_again : (octets : List ℕ) (place : ℕ) (front back : List ℕ) → IsSplitAt octets place front back → octets ≡ front ++ back
split_again octets place front back split =
    sym (take-append-drop place octets) ∙ (ap (λ (o : List ℕ). o ++ drop place octets) (sym split.1) ∙ ap (λ (o : List ℕ). front ++ o) (sym split.2))

-- false isn't true
pub not_so : false ≡ true → ⊥
not_so h = cc

-- what is lent in a list with one more
pub lent_more : (xs ys : List (Bor (List ℕ))) (x : Bor (List ℕ)) → ys ≡ xs ++ x ∷ [] → map (λ (b : Bor (List ℕ)). b.now) ys ≡ map (λ (b : Bor (List ℕ)). b.now) xs ++ x.now ∷ []
lent_more xs ys x e = ap (λ (zs : List (Bor (List ℕ))). map (λ (b : Bor (List ℕ)). b.now) zs) e ∙ map_push (λ (b : Bor (List ℕ)). b.now) xs x
