-- A place right before a row is its first value again.
use Rattle.atomic_table.proofs.Names.{◌≡◌, ℕ, ◌<◌, List, [], ◌∷◌, refl, a_type, named, Val, vptr, vunit, inst_fn, SProp, emp, Fml, ftrue, fsep, flft, ‵, raw, ◌⊛◌, given, ◌$◌, ◌∵◌, !, qed, by, move, keep, drop, split, join, fsplit, fsplit3, fjoin, fjoin3, learn, use0, use2, rewrite, feq_i, stop, fld, of_opd, unit_lit, returns, enter, alloc_all, pass_all, free_all, look_at, get, through, sets, env, tables, no, RattleType, owns, types_at, plain, Ptr, nothing, param, layouts, Stays, stay_dropped, walk_of, Goes-dropped, fact, fact_i, Is, shows, cell_at, peeks, Coded, mut_vals, mut_Tells, opens, closes, stay_ref, Goes-ref}
use types.Part.{sub, whole, store_in}
use types.Run.{assigns}
use types.ByLocal.{get_in}
use base.Fraction.{full_share}
use Rattle.atomic_table.proofs.Walks.{proved, leaves}
use Rattle.core.proofs.atomic.Steps.{Ptr-Good}
use Rattle.raw_slots.specs.Places.{Stake, place_owns}
use Rattle.raw_slots.specs.Rows.{row_owns, next_to}
use Rattle.raw_slots.specs.contracts.place.Place as place
use Rattle.raw_slots.specs.contracts.row.Row as row
use Rattle.raw_slots.proofs.Fields.{word, word_good, lone_word, place_told, RowData, row_told, row_made}
use Rattle.raw_slots.proofs.RowSteps.{row_join}
use Rattle.raw_slots.specs.contracts.row.Row.join.{ended, clauses}
use Rattle.raw_slots.specs.contracts.row.Row.join.Key.{name as #self}
use Rattle.raw_slots.proofs.row.Row.join.Statement.{statement}
use Rattle.raw_slots.proofs.row.Row.join.Code as code

pub join_spec : {M : Type 1} → statement M
join_spec 𝓤 𝓛 𝓜 𝓡 wired T U _ _ =
    let H = 𝓛.H in let 𝓣 = tables 𝓤 H 𝓜 𝓡 𝓡.env in let R : RattleType = param 0 T in let W : RattleType = param 1 U in let En = ended T U in let cv : Coded U.Denot = W.coded in
    let inst = layouts (a_type ∷ a_type ∷ []) (T, (U, tt)) in let fn = inst_fn inst code.function in let Pr : RattleType = place.the_row R W in let Rr : RattleType = row.the_row R in let mine = plain (λ _. Rr) in
    let hs : Stays En.signature.params En.kept = (stay_ref (0 ∷ []) tt mine, (stay_dropped (plain (λ _. Pr)) no, tt)) in let c = clauses T U 𝓛 𝓜.mem 𝓡.returns in
    proved 𝓛 En hs c 𝓜 𝓡 (Goes-ref 𝓛 3 0 tt mine, (Goes-dropped 𝓛 3 (plain (λ _. Pr)) no (λ κs x f. refl), tt)) (#self inst) fn (code.unfolded 𝓤 H 𝓜 𝓡 wired (T, (U, tt)))
    (λ κs. (mut_vals, ((λ x. word x.at ∷ []), tt))) (λ κs. (mut_Tells (named 0) κs.0 Rr, ((λ x vs so. place_told R W x.at vs so.0), tt))) (λ κs qs bounds a gh are.
    let b : ℕ = a.0.ref_ptr.0 in let o : ℕ = a.0.ref_ptr.1 in let h : Rr.Denot = a.0.now in let d : Pr.Denot = a.1.0 in let p : Ptr = d.at in let x : T.Denot = d.value in
    let h' : Rr.Denot = record { at = p; total = h.total; values = x ∷ h.values } in let Told : Type 0 = (h'.values ≡ x ∷ h.values) × (p ≡ p) × (h.total ≡ h.total) in
    let y : (walk_of 𝓛 En hs c).Ghost = ((κs, qs, bounds, a, (vptr b o ∷ [], (word p ∷ [], tt))), gh) in let Post : Val → SProp 𝓤 = (walk_of 𝓛 En hs c).post y in
    let others : Fml = fsep (flft κs.1.0 qs.1.0) (fsep (flft κs.1.1.0 qs.1.1.0) ftrue) in
    qed 𝓛 (((‵ (flft κs.0 qs.0) ⊛ ‵ others) ⊛ ‵ (owns (types_at En.signature.params κs) a y.0.4)) ∷ raw (fact 𝓤 _) ∷ raw (fact 𝓤 _) ∷ given ((d.stake ≡ []) × (h.at ≡ next_to R p) × (lib.ListN.length h.values < h.total)) (‵ ftrue) ∷ []) ∵
    keep ! (3 ∷ 0 ∷ []) $ learn ! (λ asked. drop ! $ split ! $ split ! $ move ! (2 ∷ []) $ fsplit ! $ fsplit3 ! $ move ! (3 ∷ []) $ fsplit ! $ keep ! (3 ∷ 4 ∷ 5 ∷ 6 ∷ 0 ∷ []) $ move ! (4 ∷ []) $ fsplit ! $ drop ! $ move ! (1 ∷ 2 ∷ 3 ∷ 4 ∷ 0 ∷ []) $
    enter ! 𝓣.C 𝓣.Λ fn (vptr b o ∷ word p ∷ []) Post $ alloc_all ! (λ l. pass_all ! refl ((tt, tt), (word_good p, tt)) $ let Ev = env fn.locals l in
    opens ! tt Rr b o (λ us. move ! (1 ∷ []) $ peeks ! Rr (Is Rr) (shows 𝓛 Rr) h us (λ is. fsplit ! $ let ev : us ≡ lone_word h.at ∷ [] = row_told R h.at us is.0 in
    rewrite ! 2 (λ (ws : List Val). ‵ (cell_at full_share Rr.mir ws b o)) ev refl $
    -- [the row's field; its values; its cell; three of its borrow; the others; the place]
    sets ! (of_opd ! (get_in ! (fld ! refl (stop !)) (sub ! 0 refl (whole !)))) refl (Ptr-Good p) $ assigns ! (of_opd ! (get ! refl)) (through ! refl (fld ! refl (stop !))) (store_in ! 2 (sub ! 0 refl (whole !)) (Ptr-Good p)) $
    sets ! (of_opd ! (unit_lit !)) refl (tt, tt) $ move ! (1 ∷ 7 ∷ []) $ rewrite ! 1 (λ (ss : List (Stake U.Denot)). ‵ (place_owns R cv.code p x ss)) asked.0 refl $ rewrite ! 0 (λ (π : Ptr). ‵ (row_owns R π h.total h.values)) asked.1 refl $
    move ! (1 ∷ 0 ∷ []) $ use2 𝓛 (‵ (row_owns R p h.total (x ∷ h.values))) (row_join 𝓛 R p h.total x h.values asked.2) $ move ! (1 ∷ []) $ drop ! $
    use0 𝓛 (‵ ((RowData R).own_val (p, tt) (lone_word p ∷ []))) (row_made R 𝓛 p) $ fjoin ! $ move ! (1 ∷ 0 ∷ []) $ closes ! tt Rr h' (lone_word p ∷ []) b o $ feq_i ! (List Val) (vptr b o ∷ []) (vptr b o ∷ []) refl $ fjoin3 ! $
    nothing ! $ nothing ! $ fjoin ! $ move ! (1 ∷ 0 ∷ []) $ fjoin ! $ move ! (1 ∷ 2 ∷ []) $ join ! $
    use0 𝓛 (raw (fact 𝓤 Told)) (fact_i 𝓤 Told (emp 𝓤) (refl, refl, refl)) $ feq_i ! (List Val) (vunit ∷ []) (vunit ∷ []) refl $
    returns ! (look_at ! 0 refl) $ free_all ! refl $ keep ! (2 ∷ 3 ∷ 0 ∷ 1 ∷ []) $ by ! (leaves 𝓛 En hs c y vunit tt (h', (tt, tt)) (tt, (tt, tt))))))))
