-- A `&` to a claim holds a share of its piece of the place's token. Assumes `Logic`.
use Rattle.std.proofs.Common.{ℕ, [], ◌∷◌}
use seplogic.Ra.Ura.{Ura}
use base.Stored.{Gv}
use base.Logic.{ent, sep, upd_i, id⊢, apply∗, wand}
use base.Fml.{Lft, Share, Fml, ftrue, fsep, fseps, fwand, fupd, fdead, fbor, flft}
use contract.BorrowLft.{meet_⊑_left}
use ghost.Rules.{span, thinned}
use types.Logic.{Logic, sem, lfts}
use types.Kit.{‵, raw, ◌⊛◌, some as exists, later, ◌$◌, ◌∵◌, !, qed, by, move, keep, use1, use2, split, fsplit, fsplit3, fjoin, pick, assume, suffices, await, updating, now, done}
use types.Tokens.{bor_open, obor_alter, bor_fracture, one_token}
use types.Keyed.{ticket}
use denote.Sharing.{ShrLaws, beside, one, held}
use denote.SharingLaws.{contraction, beside_shr_laws, one_shr_laws, held_shr_laws}
use denote.Moves.{moves_from}
use denote.Steps.{nothing}
use denote.Struct.Lending.{Lends}
use Rattle.atomic_table.specs.Seated.{seen}
use Rattle.raw_slots.specs.Places.{piece, gone, claimed}

module _ (t : Lft → Fml) (L : ShrLaws t) {V : Type 0} (c : V → Gv) (γ ρ a : ℕ) (key : V) (id : ℕ) where
  abbrev pub Owns : Fml
  Owns = fsep (t (a ∷ [])) (claimed c γ ρ a key id)

  abbrev pub Lent : Lft → Fml
  Lent = beside (one (λ q. flft (a ∷ []) q)) (held (a ∷ []) t)

  pub lent_laws : ShrLaws Lent
  lent_laws = beside_shr_laws (one (λ q. flft (a ∷ []) q)) (held (a ∷ []) t) (one_shr_laws (λ q. flft (a ∷ []) q)) (held_shr_laws (a ∷ []) t L)

  module _ {M : Type 1} {𝓤 : Ura M} (𝓛 : Logic 𝓤) where
    open 𝓛 use {H, A}

    abbrev Mine : Fml
    Mine = flft (a ∷ []) (piece id)

    abbrev Beside : Fml
    Beside = fsep (t (a ∷ [])) (fsep (ticket ρ id) (seen c γ id gone key))

    again : (κ : Lft) → ent 𝓤 (sem 𝓛 Beside) (sem 𝓛 (fwand (fsep (fdead κ) (fseps (Mine ∷ []))) (fupd Owns)))
    unfolding fseps
    again κ = qed 𝓛 (‵ Beside ∷ []) ∵ assume ! (‵ (fsep (fdead κ) (fsep Mine ftrue))) $ suffices ! (sem 𝓛 Owns) (upd_i 𝓤 (sem 𝓛 Owns)) $
        fsplit3 ! $ move ! (3 ∷ []) $ fsplit3 ! $ move ! (4 ∷ 2 ∷ []) $ fjoin ! $ keep ! (1 ∷ 2 ∷ 0 ∷ []) $ done !

    by_token : (κ : Lft) (q : Share) → ent 𝓤 (sep 𝓤 (A.bor κ Owns) (A.lft κ q)) (H.⇛ (sep 𝓤 (sem 𝓛 (Lent κ)) (A.lft κ q)))
    unfolding fseps
    by_token κ q = qed 𝓛 (‵ (fbor κ Owns) ∷ ‵ (flft κ q) ∷ []) ∵ updating ! $ bor_open ! tt $ move ! (1 ∷ []) $ fsplit ! $
        use1 𝓛 (‵ (t (a ∷ [])) ⊛ ‵ (t (a ∷ []))) (contraction 𝓛 t L (a ∷ [])) $ split ! $ move ! (2 ∷ []) $ fsplit3 ! $ move ! (0 ∷ 2 ∷ []) $ fjoin ! $ move ! (2 ∷ 0 ∷ []) $ fjoin ! $
        use1 𝓛 (‵ (fwand (fsep (fdead κ) (fseps (Mine ∷ []))) (fupd Owns))) (again κ) $ nothing ! $ move ! (2 ∷ 0 ∷ []) $ fjoin ! $ move ! (3 ∷ 0 ∷ 1 ∷ []) $ obor_alter ! tt (Mine ∷ []) $
        use1 𝓛 (‵ (fbor κ Mine) ⊛ ‵ ftrue) (id⊢ 𝓤 _) $ split ! $ bor_fracture ! tt (λ r. flft (a ∷ []) r) (piece id) $ move ! (0 ∷ 3 ∷ []) $ fjoin ! $ now ! $ keep ! (0 ∷ 2 ∷ []) $ done !

    pub Lends-claim : (l : Lft) → Lends 𝓛 Owns Lent l
    Lends-claim l κ ts inc sp = qed 𝓛 (‵ (fbor κ Owns) ∷ raw (lfts 𝓛 ts) ∷ []) ∵ updating ! $ move ! (1 ∷ []) $
        use1 𝓛 (exists (λ (q : Share). ‵ (flft (span ts) q) ⊛ raw (wand 𝓤 (A.lft (span ts) q) (lfts 𝓛 ts)))) (one_token 𝓛 ts) $ pick ! (λ q. split ! $
        use1 𝓛 (‵ (flft κ (thinned κ q)) ⊛ raw (wand 𝓤 (A.lft κ (thinned κ q)) (A.lft (span ts) q))) (𝓛.lfts.lft-incl (span ts) κ q sp) $ split ! $ move ! (3 ∷ 0 ∷ []) $
        use2 𝓛 (later (‵ (Lent κ) ⊛ ‵ (flft κ (thinned κ q)))) (by_token κ (thinned κ q)) $ await ! tt $ split ! $ move ! (1 ∷ 2 ∷ []) $
        use2 𝓛 (‵ (flft (span ts) q)) (apply∗ 𝓤 (A.lft κ (thinned κ q)) (A.lft (span ts) q)) $ move ! (0 ∷ 2 ∷ []) $ use2 𝓛 (raw (lfts 𝓛 ts)) (apply∗ 𝓤 (A.lft (span ts) q) (lfts 𝓛 ts)) $
        now ! $ move ! (1 ∷ 0 ∷ []) $ done !)

    -- the value, for as long as the claim is borrowed
    pub claim_sees : (κ : Lft) → ent 𝓤 (sem 𝓛 (Lent κ)) (sem 𝓛 (t κ))
    claim_sees κ = qed 𝓛 (‵ (Lent κ) ∷ []) ∵ fsplit ! $ by ! (moves_from 𝓛 t L κ (a ∷ []) (a ∷ []) (meet_⊑_left (a ∷ []) κ))
