-- A whole place is read and written.
use Rattle.atomic_table.proofs.Names.{◌≡◌, ℕ, List, [], ◌∷◌, sym, refl, ap, ◌∙◌, subst, a_type, Val, vptr, inst_fn, SProp, emp, Fml, ftrue, fsep, flft, ‵, raw, ◌⊛◌, given, at_ret, ◌$◌, ◌∵◌, !, qed, by, move, keep, drop, split, join, fsplit, fsplit3, fjoin, fjoin3, learn, use0, use1, use2, rewrite, feq_i, stop, fld, load, of_opd, first, blocks, exec, returns, enter, alloc_all, pass_all, free_all, look_at, get, through, sets, env, tables, no, RattleType, owns, types_at, plain, Ptr, block_ptr, nothing, param, layouts, Stays, stay_dropped, walk_of, Goes-dropped, fact, fact_i, Is, shows, cell_at, peeks, Coded, opens, closes, stay_ref, Goes-ref}
use types.Part.{sub, whole, look_in}
use types.Run.{assigns, look_raw, store_raw}
use types.ByLocal.{sets_last}
use types.Kit.{some, pick}
use base.Fraction.{full_share}
use base.Logic.{ent, id⊢}
use denote.RawPtr.{lies_at, in_a_block}
use Rattle.atomic_table.proofs.Walks.{proved_at, leaves}
use Rattle.core.proofs.atomic.Steps.{tail}
use Rattle.raw_slots.specs.Places.{Stake, place_owns}
use Rattle.raw_slots.specs.contracts.place.Place as place
use Rattle.raw_slots.proofs.Fields.{word, place_told}
use Rattle.core.proofs.mem.Param.{El, lawful, Good, one}
use Rattle.raw_slots.proofs.Lying.{lying_out, lying_in, Cell, Own}
use Rattle.raw_slots.specs.contracts.place.Place.replace.{ended, clauses}
use Rattle.raw_slots.specs.contracts.place.Place.replace.Key.{name as #self}
use Rattle.raw_slots.proofs.place.Place.replace.Statement.{statement}
use Rattle.raw_slots.proofs.place.Place.replace.Code as code

pub replace_spec : {M : Type 1} → statement M
replace_spec 𝓤 𝓛 𝓜 𝓡 wired T U L _ =
    let H = 𝓛.H in let 𝓣 = tables 𝓤 H 𝓜 𝓡 𝓡.env in let R : RattleType = param 0 T in let W : RattleType = param 1 U in let En = ended T U in let E : El = record { row = T; laws = L } in let cv : Coded U.Denot = W.coded in
    let inst = layouts (a_type ∷ a_type ∷ []) (T, (U, tt)) in let fn = inst_fn inst code.function in let Pr : RattleType = place.the_row R W in let mine = plain (λ _. Pr) in
    let hs : Stays En.signature.params En.kept = (stay_ref (0 ∷ []) tt mine, (stay_dropped (plain (λ _. R)) no, tt)) in let c = clauses T U 𝓛 𝓜.mem 𝓡.returns in
    proved_at 𝓛 En hs c 𝓜 𝓡 (Goes-ref 𝓛 3 0 tt mine, (Goes-dropped 𝓛 3 (plain (λ _. R)) no (λ κs x f. refl), tt)) (#self inst) fn (code.unfolded 𝓤 H 𝓜 𝓡 wired (T, (U, tt)))
    (λ y₀ are. let κs = y₀.0.0 in let qs = y₀.0.1 in let a = y₀.0.3 in
    let b : ℕ = a.0.ref_ptr.0 in let o : ℕ = a.0.ref_ptr.1 in let h : Pr.Denot = a.0.now in let p : Ptr = h.at in let new : T.Denot = a.1.0 in let old : T.Denot = h.value in
    let got = one E y₀.0.4.1.0 ((lawful E 𝓛).typed new y₀.0.4.1.0 are.1.0) in let vy : Val = got.0 in let fy : Good E vy = got.2 in
    let At : List Val × (List Val × Unit {0}) → (walk_of 𝓛 En hs c).Ghost = λ vss. ((κs, qs, y₀.0.2, a, vss), y₀.1) in
    let y : (walk_of 𝓛 En hs c).Ghost = At (vptr b o ∷ [], (vy ∷ [], tt)) in let Post : Val → SProp 𝓤 = (walk_of 𝓛 En hs c).post y in
    let others : Fml = fsep (flft κs.1.0 qs.1.0) (fsep (flft κs.1.1.0 qs.1.1.0) ftrue) in
    let h' : Pr.Denot = record { at = p; marker = h.marker; value = new; stake = [] } in let Told : Type 0 = (old ≡ old) × (new ≡ new) × (p ≡ p) × (h'.stake ≡ []) in
    subst (λ (vss : List Val × (List Val × Unit {0})). ent 𝓤 ((walk_of 𝓛 En hs c).pre (At vss)) (prog.Wp.WpFn 𝓤 H 𝓣.C 𝓣.Λ fn ((walk_of 𝓛 En hs c).args (At vss)) ((walk_of 𝓛 En hs c).post (At vss))))
    (λ i. (sym are.0.0 i, (sym got.1 i, tt))) (
    qed 𝓛 (((‵ (flft κs.0 qs.0) ⊛ ‵ others) ⊛ ‵ (owns (types_at En.signature.params κs) a y.0.4)) ∷ raw (fact 𝓤 _) ∷ raw (fact 𝓤 _) ∷ given (h.stake ≡ []) (‵ ftrue) ∷ []) ∵
    keep ! (3 ∷ 0 ∷ []) $ learn ! (λ bare. drop ! $ split ! $ split ! $ move ! (2 ∷ []) $ fsplit ! $ fsplit3 ! $ move ! (3 ∷ []) $ fsplit ! $ keep ! (3 ∷ 4 ∷ 5 ∷ 6 ∷ 0 ∷ []) $
    enter ! 𝓣.C 𝓣.Λ fn (vptr b o ∷ vy ∷ []) Post $ alloc_all ! (λ l. pass_all ! refl ((tt, tt), (fy, tt)) $ let Ev = env fn.locals l in
    opens ! tt Pr b o (λ us. move ! (1 ∷ []) $ peeks ! Pr (Is Pr) (shows 𝓛 Pr) h us (λ is. fsplit ! $ move ! (1 ∷ []) $ rewrite ! 0 (λ (ss : List (Stake U.Denot)). ‵ (place_owns R cv.code p old ss)) bare refl $
    in_a_block ! p (λ π. lies_at R full_share π old) (id⊢ 𝓤 _) (λ b' o' e. let ev : us ≡ word (block_ptr b' o') ∷ [] = place_told R W p us is.0 ∙ ap (λ (π : Ptr). word π ∷ []) e in
    use1 𝓛 (some (λ (v : Val). given (Good E v) (‵ (Cell E 𝓛 b' o' old v) ⊛ ‵ (Own E 𝓛 b' o' old v)))) (lying_out E 𝓛 b' o' old) $ pick ! (λ vo. learn ! (λ tv. split ! $
    -- [the value's cell; the value; the place's field; its cell; three of its borrow; the others; the new value]
    rewrite ! 3 (λ (ws : List Val). ‵ (cell_at full_share Pr.mir ws b o)) ev refl $ first ! $ blocks ! $
    sets ! (of_opd ! (load ! (through ! refl (fld ! refl (stop !))) (look_in ! 3 (sub ! 0 refl (whole !))))) refl (tt, tt) $ sets ! (of_opd ! (load ! (through ! refl (stop !)) (look_raw ! 0 refl))) refl tv $
    sets ! (of_opd ! (load ! (through ! refl (fld ! refl (stop !))) (look_in ! 3 (sub ! 0 refl (whole !))))) refl (tt, tt) $ sets ! (of_opd ! (get ! refl)) refl fy $
    assigns ! (of_opd ! (get ! refl)) (through ! refl (stop !)) (store_raw ! 0 refl fy) $ sets_last ! (of_opd ! (get ! refl)) refl tv $
    exec ! 𝓣.C 𝓣.Λ Ev (tail fn.body) (at_ret Ev Post) $ sets ! (of_opd ! (get ! refl)) refl tv $
    move ! (0 ∷ 8 ∷ []) $ use2 𝓛 (‵ (lies_at R full_share (block_ptr b' o') new)) (lying_in E 𝓛 b' o' new vy) $ rewrite ! 0 (λ (π : Ptr). ‵ (lies_at R full_share π new)) (sym e) refl $
    rewrite ! 3 (λ (ws : List Val). ‵ (cell_at full_share Pr.mir ws b o)) (sym ev) refl $ move ! (2 ∷ 0 ∷ []) $ fjoin ! $ move ! (2 ∷ 0 ∷ 3 ∷ 4 ∷ 5 ∷ []) $ closes ! tt Pr h' us b o $
    feq_i ! (List Val) (vptr b o ∷ []) (vptr b o ∷ []) refl $ fjoin3 ! $ nothing ! $ nothing ! $ fjoin ! $ move ! (1 ∷ 0 ∷ []) $ fjoin ! $ move ! (1 ∷ 3 ∷ []) $ join ! $
    use0 𝓛 (raw (fact 𝓤 Told)) (fact_i 𝓤 Told (emp 𝓤) (refl, refl, refl, refl)) $
    returns ! (look_at ! 0 refl) $ free_all ! refl $ keep ! (1 ∷ 2 ∷ 3 ∷ 0 ∷ []) $ by ! (leaves 𝓛 En hs c y vo old (h', (tt, tt)) (tt, (tt, tt))))))))))))
