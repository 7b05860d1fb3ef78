-- A claim is made beside a load of a word of the call's own.
use Rattle.atomic_table.proofs.Names.{◌≡◌, ℕ, ◌<◌, List, [], ◌∷◌, sym, refl, ap, ◌∙◌, subst, lit<, w64, a_type, dcons, dnil, named, Val, vint, vptr, inst_fn, SProp, emp, Lft, Fml, ftrue, fsep, flft, ‵, raw, ◌⊛◌, given, mean, at_ret, ◌$◌, ◌∵◌, !, qed, by, move, keep, drop, split, split3, join, fsplit, fsplit3, fjoin, fjoin3, fpick, learn, use0, use1, use2, group, rewrite, feq_i, stop, lit, of_opd, no_more, and_then, first, blocks, exec, Calls-last, returns, enter, alloc_all, pass_all, free_all, look_at, get, sets, lands_last, env, agg, addr, tables, yes, RattleType, owns, types_at, plain, Ptr, block_ptr, ptr_val, nothing, param, bounded, Stays, stay_dropped, walk_of, Goes-dropped, fact, fact_i, Coded, via, RefOf, usize, mut_vals, mut_Tells, shr_vals, shr_Tells, uint_vals, uint_Tells, opens, closes, stay_ref, Goes-ref, unhide, hidden_shr, lent_out, Tuple, shr_bor-open, obor_close, tokens_halve}
use types.Run.{from}
use types.ByLocal.{take_at, give_at}
use base.Fraction.{left, right}
use base.Share.{three_quarters}
use denote.Builtin.{RawPtr}
use denote.Param.Laws.{param_laws}
use denote.RawPtr.{rawptr_vals, rawptr_Tells}
use Rattle.atomic_table.proofs.Walks.{proved, leaves}
use Rattle.core.proofs.atomic.Steps.{tail, Ptr-Good}
use Rattle.core.specs.contracts.marker.PhantomData as marker
use Rattle.atomic_table.specs.Table.{State}
use Rattle.atomic_table.specs.Seated.{TableId, age, common, seen, badge_owns, word}
use Rattle.atomic_table.specs.contracts.shared.Shared as table
use Rattle.atomic_table.specs.contracts.badge.Badge as badge
use Rattle.atomic_table.proofs.Fields.{HandData}
use Rattle.atomic_table.proofs.Calls.{fm, seq_cst, found, finds, loads}
use Rattle.raw_slots.specs.Places.{Stake}
use Rattle.raw_slots.specs.contracts.place.Place as spot
use Rattle.raw_slots.specs.contracts.place.Held as held
use Rattle.raw_slots.proofs.Fields as fields
use Rattle.raw_slots.proofs.Beside.{after}
use Rattle.raw_slots.proofs.Claiming.{claims, claim_out, Good}
use Rattle.raw_slots.specs.contracts.claims.claim_at.{ended, clauses}
use Rattle.raw_slots.specs.contracts.claims.claim_at.Key.{name as #self}
use Rattle.raw_slots.proofs.claims.claim_at.Statement.{statement}
use Rattle.raw_slots.proofs.claims.claim_at.Code as code

pub claim_at_spec : {M : Type 1} → statement M
unfolding Rattle.atomic_table.specs.Seated.seal
claim_at_spec 𝓤 𝓛 𝓜 𝓡 wired T U Q P Mv L _ _ _ _ g d g' d' _ _ =
    let H = 𝓛.H in let LT = param_laws 0 T L in let 𝓣 = tables 𝓤 H 𝓜 𝓡 𝓡.env in let T₀ : RattleType = param 0 T in let W : RattleType = param 1 U in let X : RattleType = param 2 Q in let Y : RattleType = param 3 P in let R : RattleType = spot.the_row T₀ W in let En = ended T U Q P Mv g d g' d' in
    let inst = bounded (a_type ∷ a_type ∷ a_type ∷ a_type ∷ a_type ∷ []) (T, (U, (Q, (P, (Mv, tt))))) (dcons d (dcons d' dnil)) in let fn = inst_fn inst code.function in
    let Row : RattleType = table.the_row R W X Y g in let Br : RattleType = badge.the_row W in let D : RattleType = HandData R W X Y g in let self = RefOf (0 ∷ []) tt (plain (λ _. Row)) (λ _. tt) in let sitter = plain (λ _. Br) in
    let hs : Stays En.signature.params En.kept = (stay_dropped self yes, (stay_ref (1 ∷ []) tt sitter, (stay_dropped (plain (λ _. RawPtr)) yes, (stay_dropped (plain (λ _. usize)) yes, tt)))) in let c = clauses T U Q P Mv g d g' d' 𝓛 𝓜.mem 𝓡.returns in
    proved 𝓛 En hs c 𝓜 𝓡 (Goes-dropped 𝓛 7 self yes (λ κs x f. refl), (Goes-ref 𝓛 7 1 tt sitter, (Goes-dropped 𝓛 7 (plain (λ _. RawPtr)) yes (λ κs x f. refl), (Goes-dropped 𝓛 7 (plain (λ _. usize)) yes (λ κs x f. refl), tt)))) (#self inst) fn (code.unfolded 𝓤 H 𝓜 𝓡 wired (T, (U, (Q, (P, (Mv, tt))))) d d')
    (λ κs. (shr_vals, (mut_vals, (rawptr_vals, (uint_vals w64, tt))))) (λ κs. (shr_Tells (named 0) κs.0 Row, (mut_Tells (named 1) κs.1.0 Br, (rawptr_Tells, (uint_Tells w64, tt))))) (λ κs qs bounds a gh are.
    let b : ℕ = a.0.ref_ptr.0 in let o : ℕ = a.0.ref_ptr.1 in let κ : Lft = κs.0 in let t : Row.Denot = a.0.now in let w : Ptr = t.words in let p : Ptr = t.slots in let z : TableId = t.table_id in let α : Lft = age z in
    let cv : Coded U.Denot = W.coded in let holds : State R.Denot U.Denot → Type 0 = g.holds t.key in let C : Fml = common R cv.code holds w p z in
    let b' : ℕ = a.1.0.ref_ptr.0 in let o' : ℕ = a.1.0.ref_ptr.1 in let h : Br.Denot = a.1.0.now in let id : ℕ = h.id in let at : Ptr = a.1.1.0 in let k : ℕ = a.1.1.1.0 in
    let y : (walk_of 𝓛 En hs c).Ghost = ((κs, qs, bounds, a, (vptr b o ∷ [], (vptr b' o' ∷ [], (ptr_val at ∷ [], (vint w64 k ∷ [], tt))))), gh) in let Post : Val → SProp 𝓤 = (walk_of 𝓛 En hs c).post y in
    let others : Fml = fsep (flft κs.1.1.0 qs.1.1.0) (fsep (flft κs.1.1.1.0 qs.1.1.1.0) (fsep (flft κs.1.1.1.1.0 qs.1.1.1.1.0) (fsep (flft κs.1.1.1.1.1.0 qs.1.1.1.1.1.0) (fsep (flft κs.1.1.1.1.1.1.0 qs.1.1.1.1.1.1.0) ftrue)))) in
    let Can : U.Denot → Type 0 = λ v. Rattle.raw_slots.specs.Places.Claimable {S = R.Denot} {T = T.Denot} {V = U.Denot} (λ u. u.at) (λ u. u.value) (λ u. u.stake) holds (g'.tells v) z.views_name id v k at in
    qed 𝓛 (((‵ (flft κs.0 qs.0) ⊛ ‵ (flft κs.1.0 qs.1.0) ⊛ ‵ others) ⊛ ‵ (owns (types_at En.signature.params κs) a y.0.4)) ∷ raw (fact 𝓤 _) ∷ raw (fact 𝓤 _) ∷ raw (fact 𝓤 _) ∷ raw (fact 𝓤 _) ∷ raw (fact 𝓤 _) ∷ given ((h.table_id ≡ z) × (k < z.slots) × ((v : U.Denot) × (h.views ≡ v ∷ []) × Can v)) (‵ ftrue) ∷ []) ∵
    keep ! (6 ∷ 0 ∷ []) $ learn ! (λ asked. let v : U.Denot = asked.2.0 in drop ! $ split ! $ split3 ! $ move ! (3 ∷ []) $ fsplit3 ! $ fsplit ! $ move ! (2 ∷ []) $ fsplit3 ! $ keep ! (4 ∷ 6 ∷ 1 ∷ 2 ∷ 7 ∷ 8 ∷ []) $
    enter ! 𝓣.C 𝓣.Λ fn (vptr b o ∷ vptr b' o' ∷ ptr_val at ∷ vint w64 k ∷ []) Post $ alloc_all ! (λ l. pass_all ! refl ((tt, tt), ((tt, tt), (Ptr-Good at, ((tt, record { fits = are.1.1.1.0.1 }), tt)))) $ let Ev = env fn.locals l in
    use1 𝓛 (‵ (hidden_shr D κ (w, (p, (tt, tt))) b o) ⊛ ‵ (base.Fml.fhide (table.the_lent R W X Y g t (block_ptr b o) κ))) (lent_out 𝓛 (table.struct R W X Y g) (table.the_codes R.Denot U.Denot Q.Denot P.Denot R.coded W.coded X.coded Y.coded (marker.the_row (Tuple (Y ∷ W ∷ X ∷ []))).coded) (table.the_heap R W X Y g) (table.the_lent R W X Y g) κ t b o) $
    split ! $ move ! (1 ∷ []) $ unhide ! $ fsplit ! $ move ! (0 ∷ 3 ∷ []) $
    -- [the table's life; the first token; the table; its fields; the badge's name and borrow; the second token; the others]
    shr_bor-open ! tt (tokens_halve 𝓛 α) (λ s. move ! (1 ∷ []) $ use1 𝓛 (‵ (flft α (left s)) ⊛ ‵ (flft α (right s))) (𝓛.lfts.lft_split α s) $ split ! $ move ! (5 ∷ 6 ∷ 7 ∷ []) $
    opens ! tt Br b' o' (λ ts. move ! (1 ∷ []) $ fsplit ! $ rewrite ! 1 (λ (vs : List U.Denot). ‵ (badge_owns cv.code h.table_id id vs)) asked.2.1 refl $
    rewrite ! 1 (λ (x : TableId). ‵ (seen cv.code x.views_name id three_quarters v)) asked.0 refl $
    -- [the badge's field; its view; its cell; three of its borrow; two tokens of the table; its open token; the table]
    sets ! (of_opd ! (lit ! tt)) refl (tt, record { fits = lit< tt }) $ first ! $ blocks ! $ sets ! (addr ! (from ! (stop !))) refl (tt, tt) $
    sets ! (agg ! (and_then ! (lit ! tt) (no_more !))) refl (tt, (record { fits = lit< tt }, tt)) $ take_at ! 5 $
    move ! (10 ∷ 7 ∷ 8 ∷ 2 ∷ 0 ∷ []) $ let half : Fml = seen cv.code z.views_name id three_quarters v in
    let taken : Fml = claim_out 𝓛 T₀ W holds w p z (l 5) 0 0 (left s) (right s) k id LT at v (g'.tells v) in
    let out : ℕ → Fml = after 𝓛 R cv holds w p z (l 5) 0 0 half taken (left s) (right s) k (Good 𝓛 T₀ W holds w p z (l 5) 0 0 (left s) (right s) k id LT at v (g'.tells v)) in
    group ! 5 $ use1 𝓛 (raw (𝓣.C _ (vptr (l 5) 0 ∷ seq_cst ∷ []) (λ u. mean 𝓛 (found out u))))
    (via 𝓤 _ (claims 𝓛 T₀ W holds w p z (l 5) 0 0 (left s) (right s) k id LT at v (g'.tells v) asked.2.2) (loads 𝓛 𝓜 𝓡 (code.calls-core::raw_atomic::load 𝓡.env wired) (block_ptr (l 5) 0) out)) $
    Calls-last ! (fm 𝓛 𝓜 𝓡) (found out) (and_then ! (get ! refl) (and_then ! (get ! refl) (no_more !))) (λ u. finds ! out (λ n fits.
    fsplit3 ! $ move ! (2 ∷ []) $ fsplit ! $ move ! (1 ∷ []) $ give_at ! 5 $ lands_last ! refl (tt, record { fits = fits }) $ exec ! 𝓣.C 𝓣.Λ Ev (tail (tail fn.body)) (at_ret Ev Post) $
    sets ! (agg ! (no_more !)) refl (tt, tt) $ sets ! (agg ! (and_then ! (get ! refl) (and_then ! (get ! refl) (no_more !)))) refl (fields.word_good at) $
    -- [the claim; two tokens; the badge's field; its cell; three of its borrow; the open token; the table's fields; the others]
    fpick ! (λ got. fsplit ! $ fpick ! (λ reported. drop ! $ move ! (1 ∷ 2 ∷ []) $ use2 𝓛 (‵ (flft α s)) (𝓛.lfts.lft_join α s) $ move ! (7 ∷ 0 ∷ []) $ obor_close ! tt $ drop ! $
    let h' : Br.Denot = record { marker = h.marker; table_id = h.table_id; id = id; views = [] } in let r : (held.the_row T₀ W).Denot = record { at = at; marker = record {}; value = got.1; stake = got.0; id = id } in
    let Told : Type 0 = (h'.views ≡ []) × (at ≡ at) × (h.views ≡ got.0.key ∷ []) × (got.0.views ≡ z.views_name) × (id ≡ id) × g'.tells got.0.key got.0 got.1 in
    move ! (2 ∷ []) $ nothing ! $ move ! (1 ∷ 0 ∷ []) $ fjoin ! $ move ! (3 ∷ 0 ∷ 4 ∷ 5 ∷ 6 ∷ []) $ closes ! tt Br h' ts b' o' $ feq_i ! (List Val) (vptr b' o' ∷ []) (vptr b' o' ∷ []) refl $ fjoin3 ! $
    nothing ! $ nothing ! $ fjoin ! $ nothing ! $ fjoin ! $ move ! (1 ∷ 0 ∷ []) $ fjoin ! $ nothing ! $ fjoin ! $ move ! (1 ∷ 5 ∷ []) $ join ! $ move ! (2 ∷ 0 ∷ []) $ join ! $
    move ! (2 ∷ []) $ use0 𝓛 (‵ ((fields.HeldData T₀ W).own_val (at, (tt, tt)) (fields.word at ∷ []))) (fields.held_made T₀ W 𝓛 at) $ fjoin ! $
    use0 𝓛 (raw (fact 𝓤 Told)) (fact_i 𝓤 Told (emp 𝓤) (refl, refl, asked.2.1 ∙ ap (λ (u : U.Denot). u ∷ []) (sym reported.0), reported.1, refl, subst (λ (u : U.Denot). g'.tells u got.0 got.1) (sym reported.0) reported.2)) $
    returns ! (look_at ! 0 refl) $ free_all ! refl $ keep ! (2 ∷ 3 ∷ 1 ∷ 0 ∷ []) $ by ! (leaves 𝓛 En hs c y (fields.word at) r (tt, (h', (tt, (tt, tt)))) (tt, (tt, (tt, (tt, tt))))))))))))))
