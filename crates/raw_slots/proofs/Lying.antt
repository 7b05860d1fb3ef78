-- A value that lies at a pointer, at its one machine value. Assumes `Logic`.
use Rattle.std.proofs.Common.{ℕ, List, [], ◌∷◌, refl}
use seplogic.Ra.Ura.{Ura}
use mir.Val.{Val}
use base.Fraction.{full_share}
use base.Logic.{SProp, ent, sep, ex, guard}
use base.Fml.{Fml, fsep}
use types.Logic.{Logic, sem}
use types.Kit.{‵, ◌$◌, ◌∵◌, !, qed, move, fsplit, fjoin, fpick, fpack, check, show, rewrite, done}
use denote.Laws.{Is, shows}
use denote.Memory.{cell_at, part_at}
use denote.Steps.{peeks}
use Rattle.core.proofs.mem.Param.{El, el_x, elτ, R, lawful, Good, one}

module _ (E : El) {M : Type 1} {𝓤 : Ura M} (𝓛 : Logic 𝓤) (b o : ℕ) (x : el_x E) where
  abbrev pub Cell : Val → Fml
  Cell v = cell_at full_share (elτ E ∷ []) (v ∷ []) b o

  abbrev pub Own : Val → Fml
  Own v = E.row.own_val x (v ∷ [])

  abbrev pub Found : Val → SProp 𝓤
  Found v = guard 𝓤 (Good E v) (sep 𝓤 (sem 𝓛 (Cell v)) (sem 𝓛 (Own v)))

  pub lying_out : ent 𝓤 (sem 𝓛 (part_at (R E) full_share x b o)) (ex 𝓤 Found)
  unfolding denote.Memory.part_of
  lying_out = qed 𝓛 (‵ (part_at (R E) full_share x b o) ∷ []) ∵ fpick ! (λ vs. fsplit ! $ move ! (1 ∷ []) $ peeks ! (R E) (Is (R E)) (shows 𝓛 (R E)) x vs (λ is.
      let got = one E vs ((lawful E 𝓛).typed x vs is) in rewrite ! 0 (λ (us : List Val). ‵ (E.row.own_val x us)) got.1 refl $ rewrite ! 1 (λ (us : List Val). ‵ (cell_at full_share (elτ E ∷ []) us b o)) got.1 refl $
      move ! (1 ∷ 0 ∷ []) $ show ! Found got.0 $ check ! got.2 $ done !))

  pub lying_in : (v : Val) → ent 𝓤 (sep 𝓤 (sem 𝓛 (Cell v)) (sem 𝓛 (Own v))) (sem 𝓛 (part_at (R E) full_share x b o))
  unfolding denote.Memory.part_of
  lying_in v = qed 𝓛 (‵ (Cell v) ∷ ‵ (Own v) ∷ []) ∵ fjoin ! $ fpack ! (List Val) (λ us. fsep (cell_at full_share (elτ E ∷ []) us b o) (E.row.own_val x us)) (v ∷ []) $ done !
