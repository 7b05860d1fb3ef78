-- The values of a row, one more or one less. Assumes `Logic`.
use Rattle.std.proofs.Common.{◌≡◌, ℕ, ◌+◌, ◌*◌, ◌^◌, ◌<◌, ◌≤◌, List, [], ◌∷◌, length, sym, subst, mul-le-mul_right, arith}
use seplogic.Ra.Ura.{Ura}
use base.Fraction.{full_share}
use base.Logic.{SProp, ent, sep, via, never, never_e, fst∗, guard}
use base.Fml.{Fml, ftrue}
use types.Logic.{Logic, sem}
use types.Kit.{‵, ◌$◌, ◌∵◌, !, qed, move, drop, fsplit, fjoin, fpick, fpack, check, done}
use denote.RattleType.{RattleType}
use denote.Memory.{mem}
use denote.RawPtr.{Ptr, block_ptr, null_ptr, InBlock, lies_at}
use denote.Steps.{nothing}
use Rattle.atomic_table.specs.Seated.{strip}
use Rattle.raw_slots.specs.Rows.{row_owns, next_to}

module _ {M : Type 1} {𝓤 : Ura M} (𝓛 : Logic 𝓤) (R : RattleType) where
  abbrev Pr : Type 2
  Pr = SProp 𝓤

  abbrev ◌⊢◌ : Pr → Pr → Type 1
  P ⊢ Q = ent 𝓤 P Q

  abbrev ◌∗◌ : Pr → Pr → Pr
  P ∗ Q = sep 𝓤 P Q

  infix 26 ◌⊢◌
  infixr 35 ◌∗◌
  abbrev ⟦◌⟧ : Fml → Pr
  ⟦ P ⟧ = sem 𝓛 P

  abbrev sz : ℕ
  sz = (mem R).size

  abbrev pub Fits : Ptr → ℕ → List R.Denot → Type 0
  Fits p n xs = InBlock p × (length xs ≤ n) × (n * sz < 2 ^ 63)

  pub row_in : (p : Ptr) (n : ℕ) (xs : List R.Denot) → n ≡ length xs → ⟦ strip R p xs ⟧ ⊢ ⟦ row_owns R p n xs ⟧
  row_in p n xs e = qed 𝓛 (‵ (strip R p xs) ∷ []) ∵ fsplit ! $ fpick ! (λ f. drop ! $ nothing ! $ fpack ! (Fits p n xs) (λ _. ftrue) (f.0, (let r : length xs ≤ n = omega arith in r), subst (λ (m : ℕ). m * sz < 2 ^ 63) (sym e) f.1) $ done !)

  pub row_out : (p : Ptr) (n : ℕ) (xs : List R.Denot) → ⟦ row_owns R p n xs ⟧ ⊢ ⟦ strip R p xs ⟧
  row_out p n xs = qed 𝓛 (‵ (row_owns R p n xs) ∷ []) ∵ fsplit ! $ fpick ! (λ f. drop ! $ nothing ! $ let less : length xs * sz ≤ n * sz = mul-le-mul_right sz f.1 in let far : n * sz < 2 ^ 63 = f.2 in
      fpack ! (InBlock p × (length xs * sz < 2 ^ 63)) (λ _. ftrue) (f.0, (let r : length xs * sz < 2 ^ 63 = omega arith in r)) $ done !)

  pub row_fits : (p : Ptr) (n : ℕ) (xs : List R.Denot) → ⟦ row_owns R p n xs ⟧ ⊢ guard 𝓤 (Fits p n xs) ⟦ row_owns R p n xs ⟧
  row_fits p n xs = qed 𝓛 (‵ (row_owns R p n xs) ∷ []) ∵ fsplit ! $ fpick ! (λ f. drop ! $ check ! f $ nothing ! $ fpack ! (Fits p n xs) (λ _. ftrue) f $ done !)

  -- the first value goes
  pub row_cut : (p : Ptr) (n : ℕ) (x : R.Denot) (xs : List R.Denot) → ⟦ row_owns R p n (x ∷ xs) ⟧ ⊢ ⟦ lies_at R full_share p x ⟧ ∗ ⟦ row_owns R (next_to R p) n xs ⟧
  row_cut (block_ptr b o) n x xs = qed 𝓛 (‵ (row_owns R (block_ptr b o) n (x ∷ xs)) ∷ []) ∵ fsplit ! $ fpick ! (λ f. drop ! $ fsplit ! $ nothing ! $ let long : length (x ∷ xs) ≤ n = f.1 in
      fpack ! (Fits (block_ptr b (o + sz)) n xs) (λ _. ftrue) (tt, (let r : length xs ≤ n = omega arith in r), f.2) $ move ! (1 ∷ 0 ∷ []) $ done !)
  row_cut null_ptr n x xs = qed 𝓛 (‵ (row_owns R null_ptr n (x ∷ xs)) ∷ []) ∵ fsplit ! $ fpick ! (λ f. absurd f.0)

  -- and comes back
  pub row_join : (p : Ptr) (n : ℕ) (x : R.Denot) (xs : List R.Denot) → length xs < n → ⟦ lies_at R full_share p x ⟧ ∗ ⟦ row_owns R (next_to R p) n xs ⟧ ⊢ ⟦ row_owns R p n (x ∷ xs) ⟧
  row_join (block_ptr b o) n x xs room = qed 𝓛 (‵ (lies_at R full_share (block_ptr b o) x) ∷ ‵ (row_owns R (next_to R (block_ptr b o)) n xs) ∷ []) ∵ move ! (1 ∷ []) $ fsplit ! $ fpick ! (λ f. drop ! $ move ! (1 ∷ 0 ∷ []) $ fjoin ! $ nothing ! $
      fpack ! (Fits (block_ptr b o) n (x ∷ xs)) (λ _. ftrue) (tt, (let r : length (x ∷ xs) ≤ n = omega arith in r), f.2) $ done !)
  row_join null_ptr n x xs room = via 𝓤 (never 𝓤) (fst∗ 𝓤 (never 𝓤) ⟦ row_owns R null_ptr n xs ⟧) (never_e 𝓤 _)
