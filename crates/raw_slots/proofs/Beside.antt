-- A step on a word of one's own, beside which the table is opened and the value of a slot at home is traded with. Assumes `Logic`.
use Rattle.std.proofs.Common.{◌≡◌, ℕ, zero, suc, ◌+◌, ◌*◌, ◌<◌, List, [], ◌∷◌, length, set, sym, refl, arith}
use mathlib.Core.List.{Mem, not-mem-nil}
use mathlib.Core.Option.{Option}
use mathlib.Core.Option as maybe
use lib.ListN.{get_elem?}
use seplogic.Ra.Ura.{Ura}
use base.Stored.{Coded}
use base.Logic.{SProp, ent, sep, wand, ex, guard, upd, ex_i, upd_i}
use base.Fml.{Lft, Share, Fml, ftrue, fsep, fbor, fobor, fauth, fnamed, flft}
use types.Logic.{Logic, sem}
use types.Tokens.{name_agree}
use types.Kit.{‵, raw, ◌⊛◌, some, given, ◌$◌, ◌∵◌, !, qed, by, move, keep, drop, split, join, fsplit, fsplit3, fjoin, fjoin3, fpick, fpack, pick, learn, show, check, frame, each, assume, suffices, done, use1, use2, rewrite}
use denote.RattleType.{RattleType}
use denote.Memory.{mem}
use denote.RawPtr.{Ptr, block_ptr, block_of, count_of}
use denote.Steps.{nothing}
use Rattle.core.specs.Sync.RawAtomic.{Shift, rests, opens, shuts, enters, leaves, along, found, back, if_none, asks, always}
use Rattle.core.proofs.raw_atomic.Asked.{borrowed, Lies, Again}
use Rattle.atomic_table.specs.Table.{State}
use Rattle.atomic_table.specs.Seated.{word, roster, tracked, shelf, held, TableId, age, place, names, standing, inner, common}
use Rattle.atomic_table.proofs.Roster.{taken, returned}

put_again : {X : Type 0} (l : List X) (i : ℕ) (a b : X) → get_elem? l i ≡ maybe.some a → set (set l i b) i a ≡ l
put_again [] i a b e = refl
put_again (x ∷ xs) zero a b e = λ k. sym (maybe.some-injective x a e) k ∷ xs
put_again (x ∷ xs) (suc i) a b e = λ k. x ∷ put_again xs i a b e k

module _ {M : Type 1} {𝓤 : Ura M} (𝓛 : Logic 𝓤) (R : RattleType) {V : Type 0} (cv : Coded V) (holds : State R.Denot V → Type 0) (w p : Ptr) (z : TableId) where
  open 𝓛 use {H, A}

  abbrev Pr : Type 2
  Pr = SProp 𝓤

  abbrev ◌⊢◌ : Pr → Pr → Type 1
  P ⊢ Q = ent 𝓤 P Q

  abbrev ◌∗◌ : Pr → Pr → Pr
  P ∗ Q = sep 𝓤 P Q

  infix 26 ◌⊢◌
  infixr 35 ◌∗◌
  abbrev ◌-∗◌ : Pr → Pr → Pr
  P -∗ Q = wand 𝓤 P Q

  abbrev ⟦◌⟧ : Fml → Pr
  ⟦ P ⟧ = sem 𝓛 P

  infixr 30 ◌-∗◌
  abbrev κ : Lft
  κ = age z

  abbrev C : Fml
  C = common R cv.code holds w p z

  abbrev I : Fml
  I = inner R cv.code holds w p z

  abbrev S : Type 0
  S = R.Denot

  abbrev Views : State S V → Fml
  Views s = roster cv.code z.views_name 0 s.views

  abbrev pub Fits : State S V → Type 0
  Fits s = holds s × (length s.words ≡ z.words) × (length s.homes ≡ z.slots)

  module _ (b o n : ℕ) (K out : Fml) where
    module _ (q₁ q₂ : Share) (k : ℕ) (Good : S → Type 0) where
      abbrev Sl : Fml
      Sl = held κ R (place z) (names z) k

      abbrev b' : ℕ
      b' = block_of (place z)

      abbrev o' : ℕ
      o' = k * (mem R).size + count_of (place z)

      -- the slot is at home with a value that is good
      abbrev pub There : State S V → S → Pr
      There s y = guard 𝓤 ((get_elem? s.homes k ≡ maybe.some (maybe.some y)) × Good y) (⟦ Views s ⟧ ∗ ⟦ K ⟧)

      abbrev pub after : ℕ → Fml
      after m = fsep (flft κ q₁) (fsep (flft κ q₂) (fsep out (word b o m)))

      pub beside : ((s : State S V) → Fits s → ⟦ Views s ⟧ ∗ ⟦ K ⟧ ⊢ ex 𝓤 (There s)) → ((y : S) → Good y → ⟦ (mem R).own_at y b' o' ⟧ ∗ ⟦ K ⟧ ⊢ ⟦ (mem R).own_at y b' o' ⟧ ∗ ⟦ out ⟧)
          → ⟦ C ⟧ ∗ A.lft κ q₁ ∗ A.lft κ q₂ ∗ ⟦ K ⟧ ∗ ⟦ word b o n ⟧ ⊢ asks 𝓛 (block_ptr b o) (λ m. m) always after
      beside law swap = let P : Fml = fbor κ I in let Q : List (ℕ × Fml) → Pr = λ l. ex 𝓤 (found 𝓛 l b o (λ m. m) always after) in let own : S → Fml = λ x. (mem R).own_at x b' o' in
          qed 𝓛 (‵ C ∷ ‵ (flft κ q₁) ∷ ‵ (flft κ q₂) ∷ ‵ K ∷ ‵ (word b o n) ∷ []) ∵ fsplit ! $ drop ! $
          use1 𝓛 (some (λ (j : ℕ). ‵ (fnamed j P))) (𝓛.invs.inv_named P) $ pick ! (λ j. let L : List (ℕ × Fml) = (j, P) ∷ [] in
          let S₁ : Shift = leaves rests in let S₂ : Shift = shuts κ q₁ I S₁ in let S₃ : Shift = shuts κ q₂ Sl S₂ in let S₄ : Shift = opens κ q₂ Sl S₃ in let S₅ : Shift = opens κ q₁ I S₄ in
          let B₁ : Pr = along 𝓛 S₁ Q L in let B₂ : Pr = along 𝓛 S₂ Q L in let B₃ : Pr = along 𝓛 S₃ Q L in let B₄ : Pr = along 𝓛 S₄ Q L in let B₅ : Pr = along 𝓛 S₅ Q L in
          suffices ! _ (ex_i 𝓤 (λ (s : Shift). along 𝓛 s Q []) (enters j P S₅)) $ suffices ! _ (upd_i 𝓤 (guard 𝓤 (¬ Mem j []) (A.named j P ∗ (⟦ P ⟧ -∗ B₅)))) $
          check ! (λ m. not-mem-nil m) $ frame ! $ assume ! (‵ P) $
          -- [the table's borrow; two tokens; K; the word]
          suffices ! _ (upd_i 𝓤 ((A.bor κ I ∗ A.lft κ q₁) ∗ ((A.obor κ q₁ I ∗ ⟦ I ⟧) -∗ B₄))) $ join ! $ frame ! $ assume ! (‵ (fobor κ q₁ I) ⊛ ‵ I) $ split ! $
          move ! (1 ∷ []) $ fpick ! (λ s. fsplit3 ! $ move ! (2 ∷ []) $ fpick ! (λ so. drop ! $ move ! (1 ∷ []) $ fsplit ! $ move ! (1 ∷ 5 ∷ []) $
          use2 𝓛 (some (λ (y : S). given ((get_elem? s.homes k ≡ maybe.some (maybe.some y)) × Good y) (‵ (Views s) ⊛ ‵ K))) (law s so) $ pick ! (λ y. learn ! (λ g. split ! $ move ! (2 ∷ []) $
          use1 𝓛 (given (k < length s.homes) (‵ (tracked κ R (place z) (names z) k y) ⊛ ‵ (shelf κ R (place z) (names z) 0 (set s.homes k maybe.none)))) (taken 𝓛 κ R (place z) (names z) s.homes 0 k k y (omega arith) g.0) $ learn ! (λ near. split ! $ fsplit ! $
          -- [the slot's name; its borrow; the other slots; the views; K; the words; the table's open borrow; the second token; the word]
          move ! (1 ∷ 7 ∷ []) $ suffices ! _ (upd_i 𝓤 ((A.bor κ Sl ∗ A.lft κ q₂) ∗ ((A.obor κ q₂ Sl ∗ ⟦ Sl ⟧) -∗ B₃))) $ join ! $ frame ! $ assume ! (‵ (fobor κ q₂ Sl) ⊛ ‵ Sl) $ split ! $
          move ! (1 ∷ []) $ fpick ! (λ x. fsplit ! $ move ! (3 ∷ 1 ∷ []) $ name_agree ! R.coded (λ e. rewrite ! 2 (λ (u : S). ‵ (own u)) (sym e) refl $ move ! (2 ∷ 6 ∷ []) $
          use2 𝓛 (‵ (own y) ⊛ ‵ out) (swap y g.1) $ split ! $ rewrite ! 3 (λ (u : S). ‵ (fauth (names z k) (R.coded.code u))) (sym e) refl $ move ! (0 ∷ 3 ∷ []) $ fjoin ! $
          fpack ! S (λ u. fsep (own u) (fauth (names z k) (R.coded.code u))) y $ move ! (3 ∷ 0 ∷ []) $
          -- [the slot's open borrow; its value; what goes out; its name; the other slots; the views; the words; the table's open borrow; the word]
          suffices ! _ (upd_i 𝓤 ((A.obor κ q₂ Sl ∗ ⟦ Sl ⟧) ∗ ((A.bor κ Sl ∗ A.lft κ q₂) -∗ B₂))) $ join ! $ frame ! $ assume ! (‵ (fbor κ Sl) ⊛ ‵ (flft κ q₂)) $ split ! $
          move ! (3 ∷ 0 ∷ []) $ fjoin ! $ move ! (3 ∷ 0 ∷ []) $ use2 𝓛 (‵ (shelf κ R (place z) (names z) 0 (set (set s.homes k maybe.none) k (maybe.some y)))) (returned 𝓛 κ R (place z) (names z) (set s.homes k maybe.none) 0 k k y (omega arith)) $
          rewrite ! 0 (λ (hs : List (Option S)). ‵ (shelf κ R (place z) (names z) 0 hs)) (put_again s.homes k (maybe.some y) maybe.none g.0) refl $ move ! (0 ∷ 3 ∷ []) $ fjoin ! $
          nothing ! $ fpack ! (Fits s) (λ _. ftrue) so $ move ! (4 ∷ 1 ∷ 0 ∷ []) $ fjoin3 ! $ fpack ! (State S V) (standing R cv.code holds w p z) s $ move ! (3 ∷ 0 ∷ []) $
          -- [the table's open borrow; the table; the second token; what goes out; the word]
          suffices ! _ (upd_i 𝓤 ((A.obor κ q₁ I ∗ ⟦ I ⟧) ∗ ((A.bor κ I ∗ A.lft κ q₁) -∗ B₁))) $ join ! $ frame ! $ assume ! (‵ P ⊛ ‵ (flft κ q₁)) $ split ! $
          suffices ! _ (upd_i 𝓤 (⟦ P ⟧ ∗ upd 𝓤 (Q []))) $ frame ! $ suffices ! _ (upd_i 𝓤 (Q [])) $ show ! (found 𝓛 [] b o (λ m. m) always after) n $ move ! (3 ∷ []) $ frame ! $
          each ! (λ (_ : always n). back 𝓛 [] b o (λ m. m) after n) (λ _. assume ! (‵ (word b o n)) $ suffices ! _ (ex_i 𝓤 (λ (s' : Shift). along 𝓛 s' (if_none 𝓛 ⟦ after n ⟧) []) rests) $
          suffices ! _ (upd_i 𝓤 ⟦ after n ⟧) $ move ! (1 ∷ 2 ∷ 3 ∷ 0 ∷ []) $ done !)))))))))

    -- the same where no slot is traded with
    module _ (q : Share) where
      abbrev pub alone : ℕ → Fml
      alone m = fsep (flft κ q) (fsep out (word b o m))

      pub looking : ((s : State S V) → Fits s → ⟦ Views s ⟧ ∗ ⟦ K ⟧ ⊢ ⟦ Views s ⟧ ∗ ⟦ out ⟧) → ⟦ C ⟧ ∗ A.lft κ q ∗ ⟦ K ⟧ ∗ ⟦ word b o n ⟧ ⊢ asks 𝓛 (block_ptr b o) (λ m. m) always alone
      looking law = let next : ℕ → Fml = λ m. fsep out (word b o m) in let G : Pr = ex 𝓤 (Lies 𝓛 κ q I b o (λ m. m) always next) in
          qed 𝓛 (‵ C ∷ ‵ (flft κ q) ∷ ‵ K ∷ ‵ (word b o n) ∷ []) ∵ fsplit ! $ drop ! $
          by ! (borrowed 𝓛 κ q I b o (λ m. m) always next (types.Kit.mean 𝓛 (‵ K ⊛ ‵ (word b o n))) (qed 𝓛 (‵ I ∷ ‵ K ∷ ‵ (word b o n) ∷ []) ∵ suffices ! _ (upd_i 𝓤 G) $ fpick ! (λ s. fsplit3 ! $ move ! (2 ∷ []) $ fpick ! (λ so. drop ! $
          move ! (1 ∷ []) $ fsplit ! $ move ! (1 ∷ 3 ∷ []) $ use2 𝓛 (‵ (Views s) ⊛ ‵ out) (law s so) $ split ! $ show ! (Lies 𝓛 κ q I b o (λ m. m) always next) n $ move ! (4 ∷ []) $ frame ! $
          each ! (λ (_ : always n). Again 𝓛 κ q I b o (λ m. m) always next n) (λ _. assume ! (‵ (word b o n)) $ suffices ! _ (upd_i 𝓤 (⟦ I ⟧ ∗ ⟦ next n ⟧)) $
          move ! (3 ∷ 1 ∷ []) $ fjoin ! $ nothing ! $ fpack ! (Fits s) (λ _. ftrue) so $ move ! (4 ∷ 1 ∷ 0 ∷ []) $ fjoin3 ! $ fpack ! (State S V) (standing R cv.code holds w p z) s $ move ! (0 ∷ 2 ∷ 1 ∷ []) $ done !)))))
