-- What a step on a word of one's own asks, where a claim is made, given back, or the pieces are collected beside it. Assumes `Logic`.
use Rattle.std.proofs.Common.{◌≡◌, ℕ, ◌+◌, ◌*◌, List, [], ◌∷◌, refl, sym, arith}
use mathlib.Core.Option as maybe
use lib.ListN.{get_elem?}
use seplogic.Ra.Ura.{Ura}
use base.Fraction.{full_share}
use base.Share.{three_quarters}
use base.Stored.{Coded}
use base.Logic.{SProp, ent, sep, guard}
use base.Fml.{Share, Fml, ftrue, fsep, fex, flft}
use types.Logic.{Logic, sem}
use types.Kit.{‵, ◌⊛◌, given, ◌$◌, ◌∵◌, !, qed, move, drop, split, fsplit, fsplit3, fjoin, fjoin3, fpack, learn, show, check, done, use1, use2, rewrite}
use denote.RattleType.{RattleType}
use denote.Memory.{mem, part_at}
use denote.RawPtr.{Ptr, block_ptr, block_of, count_of}
use denote.Param.Laws.{Laws}
use denote.SharingLaws.{contraction}
use denote.Steps.{nothing}
use denote.Struct.Struct.{Struct}
use denote.Struct.Owning.{shape, to}
use denote.Struct.OwningLaws.{part_out, part_in}
use denote.Struct.Lending.{lent_at, lent_at_shr_laws}
use Rattle.core.specs.Sync.RawAtomic.{asks, always}
use Rattle.atomic_table.specs.Table.{State}
use Rattle.atomic_table.specs.Seated.{word, fact, seen, roster, TableId, age, place, common}
use Rattle.raw_slots.specs.Places.{Stake, gone, tally, claimed, place_owns, held_owns, Claimable, Returnable, Alone}
use Rattle.raw_slots.specs.contracts.place.Place as spot
use Rattle.raw_slots.proofs.Grants.{looks, grants, returns, collects}
use Rattle.raw_slots.proofs.Beside.{beside, after, looking, alone}

module _ {M : Type 1} {𝓤 : Ura M} (𝓛 : Logic 𝓤) (T W : RattleType) (holds : State (spot.the_row T W).Denot W.Denot → Type 0) (w p : Ptr) (z : TableId) where
  open 𝓛 use {H, A}

  abbrev Pr : Type 2
  Pr = SProp 𝓤

  abbrev ◌⊢◌ : Pr → Pr → Type 1
  P ⊢ Q = ent 𝓤 P Q

  abbrev ◌∗◌ : Pr → Pr → Pr
  P ∗ Q = sep 𝓤 P Q

  infix 26 ◌⊢◌
  infixr 35 ◌∗◌
  abbrev ⟦◌⟧ : Fml → Pr
  ⟦ P ⟧ = sem 𝓛 P

  abbrev R : RattleType
  R = spot.the_row T W

  abbrev S : Type 0
  S = R.Denot

  abbrev V : Type 0
  V = W.Denot

  abbrev cv : Coded V
  cv = W.coded

  abbrev γ : ℕ
  γ = z.views_name

  abbrev C : Fml
  C = common R cv.code holds w p z

  abbrev Views : State S V → Fml
  Views s = roster cv.code γ 0 s.views

  abbrev Data : S → ℕ → ℕ → Fml
  Data y b o = part_at (Struct (shape (spot.the_type T W))) full_share (to (spot.the_type T W) y) b o

  abbrev heap : S → List (Stake V) → Fml
  heap y ss = place_owns T cv.code y.at y.value ss

  module _ (b o n : ℕ) (q₁ q₂ : Share) (k id : ℕ) where
    abbrev b' : ℕ
    b' = block_of (place z)

    abbrev o' : ℕ
    o' = k * (mem R).size + count_of (place z)

    -- ---- a claim
    module _ (L : Laws T) (at : Ptr) (v : V) (tells : Stake V → T.Denot → Type 0) where
      abbrev Told : Stake V → T.Denot → Type 0
      Told s x = (s.key ≡ v) × (s.views ≡ γ) × tells s x

      abbrev got : Stake V × T.Denot → Fml
      got t = fsep (fact (Told t.0 t.1)) (held_owns T cv.code at t.1 t.0 id)

      abbrev pub claim_out : Fml
      claim_out = fex (Stake V × T.Denot) got

      abbrev half : Fml
      half = seen cv.code γ id three_quarters v

      abbrev pub Good : S → Type 0
      Good y = (s : Stake V) × (y.at ≡ at) × (y.stake ≡ s ∷ []) × (s.key ≡ v) × (s.views ≡ γ) × tells s y.value

      claim_swap : (y : S) → Good y → ⟦ (mem R).own_at y b' o' ⟧ ∗ ⟦ half ⟧ ⊢ ⟦ (mem R).own_at y b' o' ⟧ ∗ ⟦ claim_out ⟧
      claim_swap y g = let s : Stake V = g.0 in let lent : Fml = lent_at T y.at y.value (s.life ∷ []) in let tal : Fml = tally cv.code s.views s.tally s.life s.key in
          qed 𝓛 (‵ ((mem R).own_at y b' o') ∷ ‵ half ∷ []) ∵ use1 𝓛 (‵ (Data y b' o') ⊛ ‵ (heap y y.stake)) (part_out 𝓛 (spot.the_type T W) full_share y b' o') $ split ! $
          rewrite ! 1 (λ (ss : List (Stake V)). ‵ (heap y ss)) g.2 refl $ rewrite ! 2 (λ (u : V). ‵ (seen cv.code γ id three_quarters u)) (sym g.3) refl $ rewrite ! 2 (λ (m : ℕ). ‵ (seen cv.code m id three_quarters s.key)) (sym g.4) refl $
          move ! (1 ∷ []) $ fsplit3 ! $ move ! (2 ∷ 4 ∷ []) $ use2 𝓛 (‵ tal ⊛ ‵ (claimed cv.code s.views s.tally s.life s.key id)) (grants 𝓛 cv s.views s.life s.key s.tally id) $ split ! $
          move ! (2 ∷ []) $ use1 𝓛 (‵ lent ⊛ ‵ lent) (contraction 𝓛 (lent_at T y.at y.value) (lent_at_shr_laws T L.shr_laws y.at y.value) (s.life ∷ [])) $ split ! $
          -- [lent; lent; the tally; the claim; the lender's right; the data]
          move ! (0 ∷ 4 ∷ 2 ∷ []) $ fjoin3 ! $ rewrite ! 0 (λ (ss : List (Stake V)). ‵ (heap y ss)) (sym g.2) refl $ move ! (3 ∷ 0 ∷ []) $
          use2 𝓛 (‵ ((mem R).own_at y b' o')) (part_in 𝓛 (spot.the_type T W) full_share y b' o') $ move ! (1 ∷ 2 ∷ []) $ fjoin ! $
          rewrite ! 0 (λ (π : Ptr). ‵ (held_owns T cv.code π y.value s id)) g.1 refl $ nothing ! $ fpack ! (Told s y.value) (λ _. ftrue) (g.3, g.4, g.5) $ fjoin ! $
          fpack ! (Stake V × T.Denot) got (s, y.value) $ move ! (1 ∷ 0 ∷ []) $ done !

      pub claims : Claimable {S = S} {T = T.Denot} {V = V} (λ y. y.at) (λ y. y.value) (λ y. y.stake) holds tells γ id v k at
          → ⟦ C ⟧ ∗ A.lft (age z) q₁ ∗ A.lft (age z) q₂ ∗ ⟦ half ⟧ ∗ ⟦ word b o n ⟧ ⊢ asks 𝓛 (block_ptr b o) (λ m. m) always (after 𝓛 R cv holds w p z b o n half claim_out q₁ q₂ k Good)
      claims can = beside 𝓛 R cv holds w p z b o n half claim_out q₁ q₂ k Good (λ t so.
          qed 𝓛 (‵ (Views t) ∷ ‵ half ∷ []) ∵ use2 𝓛 (given (get_elem? t.views id ≡ maybe.some v) (‵ (Views t) ⊛ ‵ half)) (looks 𝓛 cv γ t.views 0 id id three_quarters v (omega arith)) $ learn ! (λ seen_so. split ! $
          let c = can t so.0 seen_so in show ! (λ (y : S). guard 𝓤 ((get_elem? t.homes k ≡ maybe.some (maybe.some y)) × Good y) (⟦ Views t ⟧ ∗ ⟦ half ⟧)) c.0 $
          check ! (c.2, (c.1, c.3, c.4, c.5, c.6, c.7)) $ done !)) claim_swap

    -- ---- and back
    module _ (at : Ptr) (x : T.Denot) (s : Stake V) where
      abbrev pub Mine : Fml
      Mine = held_owns T cv.code at x s id

      abbrev pub back_out : Fml
      back_out = seen cv.code γ id three_quarters s.key

      abbrev pub Home : S → Type 0
      Home y = y.stake ≡ s ∷ []

      back_swap : s.views ≡ γ → (y : S) → Home y → ⟦ (mem R).own_at y b' o' ⟧ ∗ ⟦ Mine ⟧ ⊢ ⟦ (mem R).own_at y b' o' ⟧ ∗ ⟦ back_out ⟧
      back_swap e y g = let tal : Fml = tally cv.code s.views s.tally s.life s.key in
          qed 𝓛 (‵ ((mem R).own_at y b' o') ∷ ‵ Mine ∷ []) ∵ use1 𝓛 (‵ (Data y b' o') ⊛ ‵ (heap y y.stake)) (part_out 𝓛 (spot.the_type T W) full_share y b' o') $ split ! $
          rewrite ! 1 (λ (ss : List (Stake V)). ‵ (heap y ss)) g refl $ move ! (2 ∷ []) $ fsplit ! $ drop ! $ move ! (2 ∷ []) $ fsplit3 ! $ move ! (2 ∷ 3 ∷ []) $
          use2 𝓛 (‵ tal ⊛ ‵ (seen cv.code s.views id three_quarters s.key)) (returns 𝓛 cv s.views s.life s.key s.tally id) $ split ! $
          rewrite ! 1 (λ (m : ℕ). ‵ (seen cv.code m id three_quarters s.key)) e refl $
          -- [the tally; the view; lent; the lender's right; the data]
          move ! (2 ∷ 3 ∷ 0 ∷ []) $ fjoin3 ! $ rewrite ! 0 (λ (ss : List (Stake V)). ‵ (heap y ss)) (sym g) refl $ move ! (2 ∷ 0 ∷ []) $
          use2 𝓛 (‵ ((mem R).own_at y b' o')) (part_in 𝓛 (spot.the_type T W) full_share y b' o') $ done !

      pub unclaims : s.views ≡ γ → Returnable {S = S} {V = V} (λ y. y.stake) holds id s k
          → ⟦ C ⟧ ∗ A.lft (age z) q₁ ∗ A.lft (age z) q₂ ∗ ⟦ Mine ⟧ ∗ ⟦ word b o n ⟧ ⊢ asks 𝓛 (block_ptr b o) (λ m. m) always (after 𝓛 R cv holds w p z b o n Mine back_out q₁ q₂ k Home)
      unclaims e can = beside 𝓛 R cv holds w p z b o n Mine back_out q₁ q₂ k Home (λ t so.
          qed 𝓛 (‵ (Views t) ∷ ‵ Mine ∷ []) ∵ move ! (1 ∷ []) $ fsplit ! $ move ! (1 ∷ []) $ fsplit3 ! $ rewrite ! 2 (λ (m : ℕ). ‵ (seen cv.code m id gone s.key)) e refl $ move ! (4 ∷ 2 ∷ []) $
          use2 𝓛 (given (get_elem? t.views id ≡ maybe.some s.key) (‵ (Views t) ⊛ ‵ (seen cv.code γ id gone s.key))) (looks 𝓛 cv γ t.views 0 id id gone s.key (omega arith)) $ learn ! (λ seen_so. split ! $
          let c = can t so.0 seen_so in show ! (λ (y : S). guard 𝓤 ((get_elem? t.homes k ≡ maybe.some (maybe.some y)) × Home y) (⟦ Views t ⟧ ∗ ⟦ Mine ⟧)) c.0 $
          check ! (c.1, c.2) $ rewrite ! 1 (λ (m : ℕ). ‵ (seen cv.code m id gone s.key)) (sym e) refl $ move ! (2 ∷ 3 ∷ 1 ∷ []) $ fjoin3 ! $ move ! (2 ∷ 0 ∷ []) $ fjoin ! $ move ! (1 ∷ 0 ∷ []) $ done !)) (back_swap e)

  -- ---- and all of them
  module _ (b o n : ℕ) (q : Share) (id : ℕ) (v : V) (ρ a : ℕ) (key : V) where
    abbrev sat : Fml
    sat = seen cv.code γ id three_quarters v

    abbrev pub full_tally : Fml
    full_tally = fsep (tally cv.code γ ρ a key) sat

    abbrev pub all_out : Fml
    all_out = fsep (flft (a ∷ []) full_share) sat

    pub gathers : Alone holds id v key → ⟦ C ⟧ ∗ A.lft (age z) q ∗ ⟦ full_tally ⟧ ∗ ⟦ word b o n ⟧ ⊢ asks 𝓛 (block_ptr b o) (λ m. m) always (alone 𝓛 R cv holds w p z b o n full_tally all_out q)
    gathers can = looking 𝓛 R cv holds w p z b o n full_tally all_out q (λ t so.
        qed 𝓛 (‵ (Views t) ∷ ‵ full_tally ∷ []) ∵ move ! (1 ∷ []) $ fsplit ! $ move ! (2 ∷ 1 ∷ []) $
        use2 𝓛 (given (get_elem? t.views id ≡ maybe.some v) (‵ (Views t) ⊛ ‵ sat)) (looks 𝓛 cv γ t.views 0 id id three_quarters v (omega arith)) $ learn ! (λ seen_so. split ! $
        move ! (2 ∷ 0 ∷ []) $ use2 𝓛 (‵ (flft (a ∷ []) full_share) ⊛ ‵ (Views t)) (collects 𝓛 cv γ a key ρ t.views (can t so.0 seen_so)) $ split ! $ move ! (0 ∷ 2 ∷ []) $ fjoin ! $ move ! (1 ∷ 0 ∷ []) $ done !))
