-- The pieces of a place's token: handed out against a part of a view, taken back for it, and had again all together where no view is the key. Assumes `Logic`.
use Rattle.std.proofs.Common.{◌≡◌, ℕ, zero, suc, ◌+◌, List, [], ◌∷◌, Bool, true, false, refl, sym, ap, arith}
use mathlib.Core.Option.{some}
use lib.ListN.{get_elem?}
use mathlib.Mathlib.Data.Part.{◌∈◌}
use seplogic.Ra.Pcs.{OpDef, OpDef-comm}
use seplogic.Ra.Ura.{Ura}
use seplogic.Ra.Constructions.Prod
use seplogic.Ra.Instances.Ag
use base.Fraction.{full_share}
use base.FractionLaws.{not-OpDef-full_share}
use base.Share
use base.Share.{quarter, three_quarters, halves}
use base.Stored.{Gv, Coded}
use base.SetCodes.{coded, SetCoded-set}
use base.Algebras.{pcs, shares}
use base.Logic.{SProp, ent, sep, ex, guard, upd, emp, never, id⊢, via, ex_e, guard_e, guard_i, never_e}
use base.Fml.{Share, Fml, fex, flft}
use types.Logic.{Logic, sem}
use types.Keyed.{token, entry, ticket, tickets_from, ticket_once, entries_take, entries_new, entries_beside, entry_cut, entry_glue}
use types.Kit.{‵, raw, ◌⊛◌, given, ◌$◌, ◌∵◌, !, qed, by, move, keep, drop, split, join, fsplit, fsplit3, fjoin, fjoin3, fpick, fpack, learn, check, done, use0, use1, use2, rewrite}
use types.Kit as Kit
use Rattle.atomic_table.specs.Seated.{itself, halved, seen, unused, roster}
use Rattle.raw_slots.specs.Places.{left_after, piece, kept, gone, spot, stock, tally, claimed}

module _ {M : Type 1} {𝓤 : Ura M} (𝓛 : Logic 𝓤) where
  open 𝓛 use {H, A}

  abbrev Pr : Type 2
  Pr = SProp 𝓤

  abbrev ◌⊢◌ : Pr → Pr → Type 1
  P ⊢ Q = ent 𝓤 P Q

  abbrev ◌∗◌ : Pr → Pr → Pr
  P ∗ Q = sep 𝓤 P Q

  infix 26 ◌⊢◌
  infixr 35 ◌∗◌
  abbrev ⟦◌⟧ : Fml → Pr
  ⟦ P ⟧ = sem 𝓛 P

  module _ {V : Type 0} (cv : Coded V) (γ : ℕ) where
    abbrev c : V → Gv
    c = cv.code

    abbrev of : ℕ → Share → V → Fml
    of k q v = seen c γ k q v

    -- two parts of one seat's view are of one view
    pub agree : (k : ℕ) (q r : Share) (v w : V) → ⟦ of k q v ⟧ ∗ ⟦ of k r w ⟧ ⊢ guard 𝓤 (v ≡ w) (⟦ of k q v ⟧ ∗ ⟦ of k r w ⟧)
    agree k q r v w = let F : Share × Gv → Pr = λ x. guard 𝓤 (x ∈ halved.op (q, c v) (r, c w)) ⟦ entry halved γ k x ⟧ in let Z : Pr = ⟦ of k q v ⟧ ∗ ⟦ of k r w ⟧ in
        via 𝓤 (ex 𝓤 F) (entry_glue halved 𝓛 γ k (q, c v) (r, c w)) (ex_e 𝓤 F (λ x. guard_e 𝓤 (x ∈ halved.op (q, c v) (r, c w)) ⟦ entry halved γ k x ⟧ (λ m.
        via 𝓤 Z (entry_cut halved 𝓛 γ k (q, c v) (r, c w) x m) (guard_i 𝓤 (v ≡ w) Z (cv.inj v w m.0.1)))))

    whole : (v : Gv) → ◌∈◌ {α = Share × Gv} (three_quarters, v) (halved.op (kept, v) (gone, v))
    whole v = Prod.mk-mem-op Share.op (Ag.op (SetCoded-set (coded itself))) {a = kept} {a' = gone} {x = three_quarters} {b = v} {b' = v} {y = v} (halves three_quarters) (Ag.idem (SetCoded-set (coded itself)) v)

    pub parts : (k : ℕ) (v : V) → ⟦ of k three_quarters v ⟧ ⊢ ⟦ of k kept v ⟧ ∗ ⟦ of k gone v ⟧
    parts k v = entry_cut halved 𝓛 γ k (kept, c v) (gone, c v) (three_quarters, c v) (whole (c v))

    pub rejoins : (k : ℕ) (v : V) → ⟦ of k kept v ⟧ ∗ ⟦ of k gone v ⟧ ⊢ ⟦ of k three_quarters v ⟧
    rejoins k v = let F : Share × Gv → Pr = λ x. guard 𝓤 (x ∈ halved.op (kept, c v) (gone, c v)) ⟦ entry halved γ k x ⟧ in let Z : Pr = ⟦ of k three_quarters v ⟧ in
        via 𝓤 (ex 𝓤 F) (entry_glue halved 𝓛 γ k (kept, c v) (gone, c v)) (ex_e 𝓤 F (λ x. guard_e 𝓤 (x ∈ halved.op (kept, c v) (gone, c v)) ⟦ entry halved γ k x ⟧ (λ m.
        mathlib.Core.Path.subst (λ (y : Share × Gv). ⟦ entry halved γ k y ⟧ ⊢ Z) m.1 (id⊢ 𝓤 Z))))

    -- a claim that is out leaves no room for a seat of that number
    pub clash : (k : ℕ) (v w : V) (Z : Pr) → ⟦ of k kept v ⟧ ∗ ⟦ of k three_quarters w ⟧ ⊢ Z
    clash k v w Z = let F : Share × Gv → Pr = λ x. guard 𝓤 (x ∈ halved.op (kept, c v) (three_quarters, c w)) ⟦ entry halved γ k x ⟧ in
        via 𝓤 (ex 𝓤 F) (entry_glue halved 𝓛 γ k (kept, c v) (three_quarters, c w)) (ex_e 𝓤 F (λ x. guard_e 𝓤 (x ∈ halved.op (kept, c v) (three_quarters, c w)) ⟦ entry halved γ k x ⟧ (λ m. absurd m.0.0)))

    -- whoever has a part of a view sees it among the views
    pub looks : (vs : List V) (k i j : ℕ) (q : Share) (v : V) → j ≡ k + i → ⟦ roster c γ k vs ⟧ ∗ ⟦ of j q v ⟧ ⊢ guard 𝓤 (get_elem? vs i ≡ some v) (⟦ roster c γ k vs ⟧ ∗ ⟦ of j q v ⟧)
    looks [] k i j q v e = qed 𝓛 (‵ (roster c γ k []) ∷ ‵ (of j q v) ∷ []) ∵ fpick ! (λ d. move ! (1 ∷ 0 ∷ []) $
        use2 𝓛 (given (OpDef halved.op (q, c v) (full_share, c d)) (‵ (of j q v) ⊛ ‵ (unused c γ k d))) (entries_beside halved 𝓛 γ k j (λ _. (full_share, c d)) (q, c v) (omega arith)) $
        learn ! (λ x. absurd (not-OpDef-full_share q ((OpDef-comm (pcs shares) {a = q} {b = full_share}).0 x.0))))
    looks (w ∷ ws) k zero j q v e = let is : j ≡ k = omega arith in qed 𝓛 ((‵ (of k quarter w) ⊛ ‵ (roster c γ (suc k) ws)) ∷ ‵ (of j q v) ∷ []) ∵ split ! $ rewrite ! 2 (λ (m : ℕ). ‵ (of m q v)) is refl $ move ! (0 ∷ 2 ∷ []) $
        use2 𝓛 (given (w ≡ v) (‵ (of k quarter w) ⊛ ‵ (of k q v))) (agree k quarter q w v) $ learn ! (λ same. check ! (ap some same) $ split ! $
        rewrite ! 1 (λ (m : ℕ). ‵ (of m q v)) (sym is) refl $ move ! (0 ∷ 2 ∷ []) $ join ! $ done !)
    looks (w ∷ ws) k (suc i) j q v e = qed 𝓛 ((‵ (of k quarter w) ⊛ ‵ (roster c γ (suc k) ws)) ∷ ‵ (of j q v) ∷ []) ∵ split ! $ move ! (1 ∷ 2 ∷ []) $
        use2 𝓛 (given (get_elem? ws i ≡ some v) (‵ (roster c γ (suc k) ws) ⊛ ‵ (of j q v))) (looks ws (suc k) i j q v (omega arith)) $ learn ! (λ at. check ! at $ split ! $ move ! (2 ∷ 0 ∷ []) $ join ! $ done !)

    module _ (a : ℕ) (key : V) where
      module _ (ρ : ℕ) where
        abbrev Spot : ℕ → Bool → Fml
        Spot = spot c γ ρ a key

        abbrev Stock : ℕ → List Bool → Fml
        Stock = stock c γ ρ a key

        abbrev Tally : ℕ → Fml
        Tally k = fex (List Bool) (Stock k)

        abbrev Claim : ℕ → Fml
        Claim = claimed c γ ρ a key

        takes : (k : ℕ) (u : Bool) → ⟦ Spot k u ⟧ ∗ ⟦ of k three_quarters key ⟧ ⊢ ⟦ Spot k true ⟧ ∗ ⟦ Claim k ⟧
        takes k true = clash k key key _
        takes k false = qed 𝓛 (‵ (Spot k false) ∷ ‵ (of k three_quarters key) ∷ []) ∵ fsplit ! $ move ! (2 ∷ []) $ use1 𝓛 (‵ (of k kept key) ⊛ ‵ (of k gone key)) (parts k key) $ split ! $
            move ! (2 ∷ 3 ∷ 1 ∷ []) $ fjoin3 ! $ move ! (1 ∷ 0 ∷ []) $ done !

        puts : (k : ℕ) (u : Bool) → ⟦ Spot k u ⟧ ∗ ⟦ Claim k ⟧ ⊢ ⟦ Spot k false ⟧ ∗ ⟦ of k three_quarters key ⟧
        puts k true = qed 𝓛 (‵ (Spot k true) ∷ ‵ (Claim k) ∷ []) ∵ move ! (1 ∷ []) $ fsplit3 ! $ move ! (3 ∷ 2 ∷ []) $ use2 𝓛 (‵ (of k three_quarters key)) (rejoins k key) $ move ! (1 ∷ 2 ∷ []) $ fjoin ! $ done !
        puts k false = qed 𝓛 (‵ (Spot k false) ∷ ‵ (Claim k) ∷ []) ∵ fsplit ! $ move ! (2 ∷ []) $ fsplit3 ! $ keep ! (0 ∷ 3 ∷ []) $ by ! (via 𝓤 (never 𝓤) (ticket_once 𝓛 ρ k) (never_e 𝓤 _))

        longer : (k : ℕ) → ⟦ Stock k [] ⟧ ⊢ ⟦ Spot k false ⟧ ∗ ⟦ Stock (suc k) [] ⟧
        longer k = qed 𝓛 (‵ (tickets_from ρ k) ∷ ‵ (flft (a ∷ []) (left_after k)) ∷ []) ∵ use1 𝓛 (‵ (ticket ρ k) ⊛ ‵ (tickets_from ρ (suc k))) (entries_take token 𝓛 ρ k (λ _. tt)) $ split ! $
            move ! (2 ∷ []) $ use1 𝓛 (‵ (flft (a ∷ []) (left_after (suc k))) ⊛ ‵ (flft (a ∷ []) (piece k))) (𝓛.lfts.lft_cut (a ∷ []) (left_after k) (left_after (suc k)) (piece k) (halves (left_after k))) $ split ! $
            move ! (2 ∷ 1 ∷ []) $ fjoin ! $ move ! (0 ∷ 2 ∷ 1 ∷ []) $ Kit.done !

        -- what goes at a spot goes at the tally
        module _ (j : ℕ) (P Q : Fml) (to : Bool) (law : (u : Bool) → ⟦ Spot j u ⟧ ∗ ⟦ P ⟧ ⊢ ⟦ Spot j to ⟧ ∗ ⟦ Q ⟧) where
          turned : (us : List Bool) (k i : ℕ) → j ≡ k + i → ⟦ Stock k us ⟧ ∗ ⟦ P ⟧ ⊢ ⟦ Tally k ⟧ ∗ ⟦ Q ⟧
          turned [] k zero e = let is : k ≡ j = omega arith in qed 𝓛 (‵ (Stock k []) ∷ ‵ P ∷ []) ∵ use1 𝓛 (‵ (Spot k false) ⊛ ‵ (Stock (suc k) [])) (longer k) $ split ! $
              rewrite ! 0 (λ (m : ℕ). ‵ (Spot m false)) is refl $ move ! (0 ∷ 2 ∷ []) $ use2 𝓛 (‵ (Spot j to) ⊛ ‵ Q) (law false) $ split ! $ rewrite ! 0 (λ (m : ℕ). ‵ (Spot m to)) (sym is) refl $
              move ! (0 ∷ 2 ∷ []) $ fjoin ! $ fpack ! (List Bool) (Stock k) (to ∷ []) $ done !
          turned [] k (suc i) e = qed 𝓛 (‵ (Stock k []) ∷ ‵ P ∷ []) ∵ use1 𝓛 (‵ (Spot k false) ⊛ ‵ (Stock (suc k) [])) (longer k) $ split ! $ move ! (1 ∷ 2 ∷ []) $
              use2 𝓛 (‵ (Tally (suc k)) ⊛ ‵ Q) (turned [] (suc k) i (omega arith)) $ split ! $ fpick ! (λ ws. move ! (2 ∷ 0 ∷ []) $ fjoin ! $ fpack ! (List Bool) (Stock k) (false ∷ ws) $ done !)
          turned (u ∷ us) k zero e = let is : k ≡ j = omega arith in qed 𝓛 (‵ (Stock k (u ∷ us)) ∷ ‵ P ∷ []) ∵ fsplit ! $
              rewrite ! 0 (λ (m : ℕ). ‵ (Spot m u)) is refl $ move ! (0 ∷ 2 ∷ []) $ use2 𝓛 (‵ (Spot j to) ⊛ ‵ Q) (law u) $ split ! $ rewrite ! 0 (λ (m : ℕ). ‵ (Spot m to)) (sym is) refl $
              move ! (0 ∷ 2 ∷ []) $ fjoin ! $ fpack ! (List Bool) (Stock k) (to ∷ us) $ done !
          turned (u ∷ us) k (suc i) e = qed 𝓛 (‵ (Stock k (u ∷ us)) ∷ ‵ P ∷ []) ∵ fsplit ! $ move ! (1 ∷ 2 ∷ []) $
              use2 𝓛 (‵ (Tally (suc k)) ⊛ ‵ Q) (turned us (suc k) i (omega arith)) $ split ! $ fpick ! (λ ws. move ! (2 ∷ 0 ∷ []) $ fjoin ! $ fpack ! (List Bool) (Stock k) (u ∷ ws) $ done !)

          turns : ⟦ Tally 0 ⟧ ∗ ⟦ P ⟧ ⊢ ⟦ Tally 0 ⟧ ∗ ⟦ Q ⟧
          turns = qed 𝓛 (‵ (Tally 0) ∷ ‵ P ∷ []) ∵ fpick ! (λ us. by ! (turned us 0 j (omega arith)))

        -- a seat with the key for its view takes its piece, and leaves a part of its view
        pub grants : (k : ℕ) → ⟦ Tally 0 ⟧ ∗ ⟦ of k three_quarters key ⟧ ⊢ ⟦ Tally 0 ⟧ ∗ ⟦ Claim k ⟧
        grants k = turns k (of k three_quarters key) (Claim k) true (takes k)

        -- and has its view again for it
        pub returns : (k : ℕ) → ⟦ Tally 0 ⟧ ∗ ⟦ Claim k ⟧ ⊢ ⟦ Tally 0 ⟧ ∗ ⟦ of k three_quarters key ⟧
        returns k = turns k (Claim k) (of k three_quarters key) false (puts k)

        module _ (vs : List V) (alone : (i : ℕ) → ¬ (get_elem? vs i ≡ some key)) where
          abbrev All : Fml
          All = roster c γ 0 vs

          gathered : (us : List Bool) (k : ℕ) → ⟦ Stock k us ⟧ ∗ ⟦ All ⟧ ⊢ ⟦ flft (a ∷ []) (left_after k) ⟧ ∗ ⟦ All ⟧
          gathered [] k = qed 𝓛 (‵ (Stock k []) ∷ ‵ All ∷ []) ∵ fsplit ! $ drop ! $ done !
          gathered (true ∷ us) k = qed 𝓛 (‵ (Stock k (true ∷ us)) ∷ ‵ All ∷ []) ∵ fsplit ! $ move ! (2 ∷ 0 ∷ []) $
              use2 𝓛 (given (get_elem? vs k ≡ some key) (‵ All ⊛ ‵ (of k kept key))) (looks vs 0 k k kept key (omega arith)) $ learn ! (λ at. absurd (alone k at))
          gathered (false ∷ us) k = qed 𝓛 (‵ (Stock k (false ∷ us)) ∷ ‵ All ∷ []) ∵ fsplit ! $ move ! (1 ∷ 2 ∷ []) $
              use2 𝓛 (‵ (flft (a ∷ []) (left_after (suc k))) ⊛ ‵ All) (gathered us (suc k)) $ split ! $ move ! (2 ∷ []) $ fsplit ! $ drop ! $ move ! (1 ∷ 0 ∷ []) $
              use2 𝓛 (‵ (flft (a ∷ []) (left_after k))) (𝓛.lfts.lft_glue (a ∷ []) (left_after k) (left_after (suc k)) (piece k) (halves (left_after k))) $ done !

          -- no view can have a claim, so each piece is here
          pub collects : ⟦ Tally 0 ⟧ ∗ ⟦ All ⟧ ⊢ A.lft (a ∷ []) full_share ∗ ⟦ All ⟧
          collects = qed 𝓛 (‵ (Tally 0) ∷ ‵ All ∷ []) ∵ fpick ! (λ us. by ! (gathered us 0))

    pub starts : (a : ℕ) (key : ℕ → V) → A.lft (a ∷ []) full_share ⊢ upd 𝓤 (ex 𝓤 (λ (ρ : ℕ). ⟦ tally c γ ρ a (key ρ) ⟧))
    starts a key = let Z : Pr = ex 𝓤 (λ (ρ : ℕ). ⟦ tally c γ ρ a (key ρ) ⟧) in qed 𝓛 (‵ (flft (a ∷ []) full_share) ∷ []) ∵ use0 𝓛 (raw (upd 𝓤 (ex 𝓤 (λ (ρ : ℕ). ⟦ tickets_from ρ 0 ⟧)))) (entries_new token 𝓛 0 (λ _. tt)) $
        Kit.settle 𝓛 Z (Kit.some (λ (ρ : ℕ). ‵ (tickets_from ρ 0))) $ Kit.pick ! (λ ρ. Kit.suffices ! Z (base.Logic.upd_i 𝓤 Z) $ Kit.show ! (λ (r : ℕ). ⟦ tally c γ r a (key r) ⟧) ρ $
        fjoin ! $ fpack ! (List Bool) (stock c γ ρ a (key ρ) 0) [] $ done !)
