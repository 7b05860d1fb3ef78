-- Words as contracts see them, the first ones and those after them.
use Rattle.std.proofs.Common.{◌≡◌, ℕ, zero, suc, ◌^◌, ◌<◌, ◌≤◌, List, [], ◌∷◌, ◌++◌, map, take, drop, refl, ap, ◌∙◌, arith}
use Rattle.std.proofs.lemmas.List.{append_assoc}
use Rattle.zone_lexing.specs.Word.{Written, written}
use Rattle.zone_lexing.specs.declared.word.Word.{Word}

pub dropped : (n : ℕ) (words : List Word) → map written (drop n words) ≡ drop n (map written words)
dropped zero words = refl
dropped (suc n) [] = refl
dropped (suc n) (word ∷ words) = dropped n words

pub taken : (n : ℕ) (words : List Word) → map written (take n words) ≡ take n (map written words)
taken zero words = refl
taken (suc n) [] = refl
taken (suc n) (word ∷ words) = ap (λ (ws : List Written). written word ∷ ws) (taken n words)

-- the first sixteen powers of ten
pub power_small : (n : ℕ) → n < 16 → 10 ^ n ≤ 1000000000000000
power_small zero h = omega arith
power_small (suc zero) h = omega arith
power_small (suc (suc zero)) h = omega arith
power_small (suc (suc (suc zero))) h = omega arith
power_small (suc (suc (suc (suc zero)))) h = omega arith
power_small (suc (suc (suc (suc (suc zero))))) h = omega arith
power_small (suc (suc (suc (suc (suc (suc zero)))))) h = omega arith
power_small (suc (suc (suc (suc (suc (suc (suc zero))))))) h = omega arith
power_small (suc (suc (suc (suc (suc (suc (suc (suc zero)))))))) h = omega arith
power_small (suc (suc (suc (suc (suc (suc (suc (suc (suc zero))))))))) h = omega arith
power_small (suc (suc (suc (suc (suc (suc (suc (suc (suc (suc zero)))))))))) h = omega arith
power_small (suc (suc (suc (suc (suc (suc (suc (suc (suc (suc (suc zero))))))))))) h = omega arith
power_small (suc (suc (suc (suc (suc (suc (suc (suc (suc (suc (suc (suc zero)))))))))))) h = omega arith
power_small (suc (suc (suc (suc (suc (suc (suc (suc (suc (suc (suc (suc (suc zero))))))))))))) h = omega arith
power_small (suc (suc (suc (suc (suc (suc (suc (suc (suc (suc (suc (suc (suc (suc zero)))))))))))))) h = omega arith
power_small (suc (suc (suc (suc (suc (suc (suc (suc (suc (suc (suc (suc (suc (suc (suc zero))))))))))))))) h = omega arith
power_small (suc (suc (suc (suc (suc (suc (suc (suc (suc (suc (suc (suc (suc (suc (suc (suc n)))))))))))))))) h = absurd (omega arith)

-- words that are put one after the other
pub put_six : (old north east altitude size horizontal vertical : List Written) (a b c d e f : List Written)
    → a ≡ old ++ north → b ≡ a ++ east → c ≡ b ++ altitude → d ≡ c ++ size → e ≡ d ++ horizontal → f ≡ e ++ vertical
    → f ≡ old ++ ((north ++ east) ++ (altitude ++ (size ++ (horizontal ++ vertical))))
put_six old north east altitude size horizontal vertical a b c d e f p q r s t u =
    u
    ∙ ap (λ (ws : List Written). ws ++ vertical) t
    ∙ ap (λ (ws : List Written). (ws ++ horizontal) ++ vertical) s
    ∙ ap (λ (ws : List Written). ((ws ++ size) ++ horizontal) ++ vertical) r
    ∙ ap (λ (ws : List Written). (((ws ++ altitude) ++ size) ++ horizontal) ++ vertical) (q ∙ ap (λ (ws : List Written). ws ++ east) p ∙ append_assoc old north east)
    ∙ append_assoc (((old ++ (north ++ east)) ++ altitude) ++ size) horizontal vertical
    ∙ append_assoc ((old ++ (north ++ east)) ++ altitude) size (horizontal ++ vertical)
    ∙ append_assoc (old ++ (north ++ east)) altitude (size ++ (horizontal ++ vertical))
    ∙ append_assoc old (north ++ east) (altitude ++ (size ++ (horizontal ++ vertical)))
