-- Where a place lies is read off its field.
use Rattle.atomic_table.proofs.Names.{◌≡◌, ℕ, List, [], ◌∷◌, sym, refl, a_type, named, Val, vptr, inst_fn, SProp, emp, Fml, ftrue, fsep, flft, ‵, raw, ◌⊛◌, ◌$◌, ◌∵◌, !, qed, by, move, keep, split, join, fsplit, fsplit3, fjoin, fjoin3, use0, rewrite, feq_i, stop, fld, load, of_opd, no_more, and_then, returns, enter, alloc_all, pass_all, free_all, look_at, get, through, sets, agg, tables, RattleType, owns, types_at, plain, Ptr, ptr_val, nothing, param, layouts, Stays, walk_of, fact, fact_i, Is, shows, cell_at, peeks, mut_vals, mut_Tells, opens, closes, stay_ref, Goes-ref}
use types.Part.{sub, whole, look_in}
use base.Fraction.{full_share}
use Rattle.atomic_table.proofs.Walks.{proved, leaves}
use Rattle.core.proofs.atomic.Steps.{Ptr-Good}
use Rattle.raw_slots.specs.contracts.place.Place as place
use Rattle.raw_slots.proofs.Fields.{word, lone_word, lone_good, place_told}
use denote.Shadow.{makes_shadow}
use Rattle.raw_slots.specs.contracts.place.Spot as spots
use Rattle.raw_slots.specs.contracts.place.Place.spot.{ended, clauses}
use Rattle.raw_slots.specs.contracts.place.Place.spot.Key.{name as #self}
use Rattle.raw_slots.proofs.place.Place.spot.Statement.{statement}
use Rattle.raw_slots.proofs.place.Place.spot.Code as code

pub spot_spec : {M : Type 1} → statement M
spot_spec 𝓤 𝓛 𝓜 𝓡 wired T U _ _ =
    let H = 𝓛.H in let 𝓣 = tables 𝓤 H 𝓜 𝓡 𝓡.env in let R : RattleType = param 0 T in let W : RattleType = param 1 U in let En = ended T U in
    let inst = layouts (a_type ∷ a_type ∷ []) (T, (U, tt)) in let fn = inst_fn inst code.function in let Pr : RattleType = place.the_row R W in let So : RattleType = spots.the_row R in let mine = plain (λ _. Pr) in
    let hs : Stays En.signature.params En.kept = (stay_ref (0 ∷ []) tt mine, tt) in let c = clauses T U 𝓛 𝓜.mem 𝓡.returns in
    proved 𝓛 En hs c 𝓜 𝓡 (Goes-ref 𝓛 3 0 tt mine, tt) (#self inst) fn (code.unfolded 𝓤 H 𝓜 𝓡 wired (T, (U, tt)))
    (λ κs. (mut_vals, tt)) (λ κs. (mut_Tells (named 0) κs.0 Pr, tt)) (λ κs qs bounds a gh are.
    let b : ℕ = a.0.ref_ptr.0 in let o : ℕ = a.0.ref_ptr.1 in let h : Pr.Denot = a.0.now in let p : Ptr = h.at in let r : So.Denot = record { at = p } in let Told : Type 0 = (p ≡ p) × (h ≡ h) in
    let y : (walk_of 𝓛 En hs c).Ghost = ((κs, qs, bounds, a, (vptr b o ∷ [], tt)), gh) in let Post : Val → SProp 𝓤 = (walk_of 𝓛 En hs c).post y in
    let others : Fml = fsep (flft κs.1.0 qs.1.0) (fsep (flft κs.1.1.0 qs.1.1.0) ftrue) in
    qed 𝓛 (((‵ (flft κs.0 qs.0) ⊛ ‵ others) ⊛ ‵ (owns (types_at En.signature.params κs) a y.0.4)) ∷ raw ((c κs a).requires gh) ∷ []) ∵
    split ! $ split ! $ move ! (2 ∷ []) $ fsplit ! $ fsplit3 ! $ keep ! (1 ∷ 2 ∷ 4 ∷ 5 ∷ []) $
    enter ! 𝓣.C 𝓣.Λ fn (vptr b o ∷ []) Post $ alloc_all ! (λ l. pass_all ! refl ((tt, tt), tt) $
    opens ! tt Pr b o (λ us. move ! (1 ∷ []) $ peeks ! Pr (Is Pr) (shows 𝓛 Pr) h us (λ is. let ev : us ≡ word p ∷ [] = place_told R W p us is.0 in
    rewrite ! 1 (λ (ws : List Val). ‵ (cell_at full_share Pr.mir ws b o)) ev refl $
    sets ! (of_opd ! (load ! (through ! refl (fld ! refl (stop !))) (look_in ! 1 (sub ! 0 refl (whole !))))) refl (Ptr-Good p) $ sets ! (agg ! (and_then ! (get ! refl) (no_more !))) refl (lone_good p) $
    rewrite ! 1 (λ (ws : List Val). ‵ (cell_at full_share Pr.mir ws b o)) (sym ev) refl $ move ! (1 ∷ 0 ∷ []) $ closes ! tt Pr h us b o $ feq_i ! (List Val) (vptr b o ∷ []) (vptr b o ∷ []) refl $ fjoin3 ! $
    nothing ! $ move ! (1 ∷ 0 ∷ []) $ fjoin ! $ move ! (1 ∷ 2 ∷ []) $ join ! $
    use0 𝓛 (‵ (So.own_val r (lone_word p ∷ []))) (makes_shadow 𝓛 (So.own_val r (lone_word p ∷ [])) (λ vss. (tt, (tt, tt))) ((ptr_val p ∷ [], tt), (refl, (refl, tt)))) $
    use0 𝓛 (raw (fact 𝓤 Told)) (fact_i 𝓤 Told (emp 𝓤) (refl, refl)) $
    returns ! (look_at ! 0 refl) $ free_all ! refl $ keep ! (2 ∷ 3 ∷ 1 ∷ 0 ∷ []) $ by ! (leaves 𝓛 En hs c y (lone_word p) r (h, tt) (tt, tt))))))
