-- The pieces are collected beside a load of a word of the call's own.
use Rattle.atomic_table.proofs.Names.{◌≡◌, ℕ, ◌+◌, ◌*◌, List, [], ◌∷◌, sym, refl, ap, lit<, w64, a_type, dcons, dnil, named, Val, vint, vptr, vunit, inst_fn, SProp, emp, Lft, Fml, ftrue, fsep, flft, ‵, raw, ◌⊛◌, given, mean, at_ret, ◌$◌, ◌∵◌, !, qed, by, move, keep, drop, split, split3, join, fsplit, fsplit3, fjoin, fjoin3, fpick, learn, use0, use1, use2, group, rewrite, feq_i, stop, lit, of_opd, unit_lit, no_more, and_then, first, blocks, exec, Calls-last, returns, enter, alloc_all, pass_all, free_all, look_at, get, sets, lands_last, env, agg, addr, tables, yes, RattleType, owns, types_at, plain, Ptr, block_ptr, nothing, param, bounded, Stays, stay_dropped, walk_of, Goes-dropped, fact, fact_i, block_of, count_of, Coded, via, RefOf, usize, mut_vals, mut_Tells, shr_vals, shr_Tells, uint_vals, uint_Tells, opens, closes, stay_ref, Goes-ref, unhide, hidden_shr, lent_out, Tuple, shr_bor-open, obor_close, tokens_halve, mem}
use types.Run.{from}
use types.ByLocal.{take_at, give_at}
use base.Fraction.{left, right}
use Rattle.atomic_table.proofs.Walks.{proved, leaves}
use Rattle.core.proofs.atomic.Steps.{tail}
use Rattle.core.specs.contracts.marker.PhantomData as marker
use Rattle.atomic_table.specs.Table.{State, Me, rest}
use Rattle.atomic_table.specs.Seated.{TableId, age, common, place, names, carried, tracked, mine}
use Rattle.atomic_table.specs.contracts.shared.Shared as table
use Rattle.atomic_table.specs.contracts.shared.Seat as seat
use Rattle.atomic_table.proofs.Fields.{HandData}
use Rattle.atomic_table.proofs.Calls.{fm, seq_cst, found, finds, loads}
use Rattle.raw_slots.specs.Places.{Stake, tally, place_owns, Alone, first_with}
use Rattle.raw_slots.specs.contracts.place.Place as spot
use Rattle.raw_slots.proofs.Beside.{alone}
use Rattle.raw_slots.proofs.Claiming.{gathers, full_tally, all_out}
use Rattle.raw_slots.specs.contracts.claims.collect.{ended, clauses}
use Rattle.raw_slots.specs.contracts.claims.collect.Key.{name as #self}
use Rattle.raw_slots.proofs.claims.collect.Statement.{statement}
use Rattle.raw_slots.proofs.claims.collect.Code as code
use base.Fraction.{full_share}
use base.Fml.{fex, fauth}
use types.Tokens.{bor_open, name_agree, name_set, lft_end, lent_back}
use types.Kit.{fpack}
use denote.Memory.{part_at}
use denote.Struct.Struct.{Struct}
use denote.Struct.Owning.{shape, to}
use denote.Struct.OwningLaws.{part_out, part_in}

pub collect_spec : {M : Type 1} → statement M
unfolding Rattle.atomic_table.specs.Seated.seal
collect_spec 𝓤 𝓛 𝓜 𝓡 wired T U Q P _ _ _ _ g d _ =
    let H = 𝓛.H in let 𝓣 = tables 𝓤 H 𝓜 𝓡 𝓡.env in let T₀ : RattleType = param 0 T in let W : RattleType = param 1 U in let X : RattleType = param 2 Q in let Y : RattleType = param 3 P in let R : RattleType = spot.the_row T₀ W in let En = ended T U Q P g d in
    let inst = bounded (a_type ∷ a_type ∷ a_type ∷ a_type ∷ []) (T, (U, (Q, (P, tt)))) (dcons d dnil) in let fn = inst_fn inst code.function in
    let Row : RattleType = table.the_row R W X Y g in let Sr : RattleType = seat.the_row R W in let D : RattleType = HandData R W X Y g in let self = RefOf (0 ∷ []) tt (plain (λ _. Row)) (λ _. tt) in let sitter = plain (λ _. Sr) in
    let hs : Stays En.signature.params En.kept = (stay_dropped self yes, (stay_ref (1 ∷ []) tt sitter, (stay_dropped (plain (λ _. usize)) yes, tt))) in let c = clauses T U Q P g d 𝓛 𝓜.mem 𝓡.returns in
    proved 𝓛 En hs c 𝓜 𝓡 (Goes-dropped 𝓛 6 self yes (λ κs x f. refl), (Goes-ref 𝓛 6 1 tt sitter, (Goes-dropped 𝓛 6 (plain (λ _. usize)) yes (λ κs x f. refl), tt))) (#self inst) fn (code.unfolded 𝓤 H 𝓜 𝓡 wired (T, (U, (Q, (P, tt)))) d)
    (λ κs. (shr_vals, (mut_vals, (uint_vals w64, tt)))) (λ κs. (shr_Tells (named 0) κs.0 Row, (mut_Tells (named 1) κs.1.0 Sr, (uint_Tells w64, tt)))) (λ κs qs bounds a gh are.
    let b : ℕ = a.0.ref_ptr.0 in let o : ℕ = a.0.ref_ptr.1 in let κ : Lft = κs.0 in let t : Row.Denot = a.0.now in let w : Ptr = t.words in let p : Ptr = t.slots in let z : TableId = t.table_id in let α : Lft = age z in
    let cv : Coded U.Denot = W.coded in let holds : State R.Denot U.Denot → Type 0 = g.holds t.key in let C : Fml = common R cv.code holds w p z in
    let b' : ℕ = a.1.0.ref_ptr.0 in let o' : ℕ = a.1.0.ref_ptr.1 in let h : Sr.Denot = a.1.0.now in let id : ℕ = h.id in let v : Me R.Denot U.Denot = h.me in let k : ℕ = a.1.1.0 in let more : List (ℕ × R.Denot) = rest v.1 in
    let y₀ : (walk_of 𝓛 En hs c).Ghost = ((κs, qs, bounds, a, (vptr b o ∷ [], (vptr b' o' ∷ [], (vint w64 k ∷ [], tt)))), gh) in let Post : Val → SProp 𝓤 = (walk_of 𝓛 En hs c).post y₀ in
    let others : Fml = fsep (flft κs.1.1.0 qs.1.1.0) (fsep (flft κs.1.1.1.0 qs.1.1.1.0) (fsep (flft κs.1.1.1.1.0 qs.1.1.1.1.0) (fsep (flft κs.1.1.1.1.1.0 qs.1.1.1.1.1.0) ftrue))) in
    let bs : ℕ = block_of (place z) in let os : ℕ = k * (mem R).size + count_of (place z) in let own : R.Denot → Fml = λ u. (mem R).own_at u bs os in let δ : ℕ = names z k in
    qed 𝓛 (((‵ (flft κs.0 qs.0) ⊛ ‵ (flft κs.1.0 qs.1.0) ⊛ ‵ others) ⊛ ‵ (owns (types_at En.signature.params κs) a y₀.0.4)) ∷ raw (fact 𝓤 _) ∷ raw (fact 𝓤 _) ∷ raw (fact 𝓤 _) ∷ raw (fact 𝓤 _)
    ∷ given ((h.table_id ≡ z) × ((y : R.Denot) × (s : Stake U.Denot) × (v.1 ≡ (k, y) ∷ more) × (y.stake ≡ s ∷ []) × (s.views ≡ z.views_name) × Alone holds id v.0 s.key)) (‵ ftrue) ∷ []) ∵
    keep ! (5 ∷ 0 ∷ []) $ learn ! (λ asked. let y : R.Denot = asked.1.0 in let st : Stake U.Denot = asked.1.1 in drop ! $ split ! $ split3 ! $ move ! (3 ∷ []) $ fsplit3 ! $ fsplit ! $ move ! (2 ∷ []) $ fsplit3 ! $ keep ! (4 ∷ 6 ∷ 1 ∷ 2 ∷ 7 ∷ 8 ∷ []) $
    enter ! 𝓣.C 𝓣.Λ fn (vptr b o ∷ vptr b' o' ∷ vint w64 k ∷ []) Post $ alloc_all ! (λ l. pass_all ! refl ((tt, tt), ((tt, tt), ((tt, record { fits = are.1.1.0.1 }), tt))) $ let Ev = env fn.locals l in
    use1 𝓛 (‵ (hidden_shr D κ (w, (p, (tt, tt))) b o) ⊛ ‵ (base.Fml.fhide (table.the_lent R W X Y g t (block_ptr b o) κ))) (lent_out 𝓛 (table.struct R W X Y g) (table.the_codes R.Denot U.Denot Q.Denot P.Denot R.coded W.coded X.coded Y.coded (marker.the_row (Tuple (Y ∷ W ∷ X ∷ []))).coded) (table.the_heap R W X Y g) (table.the_lent R W X Y g) κ t b o) $
    split ! $ move ! (1 ∷ []) $ unhide ! $ fsplit ! $ move ! (0 ∷ 3 ∷ []) $
    -- [the table's life; the first token; the table; its fields; the seat's name and borrow; the second token; the others]
    shr_bor-open ! tt (tokens_halve 𝓛 α) (λ s. move ! (1 ∷ []) $ use1 𝓛 (‵ (flft α (left s)) ⊛ ‵ (flft α (right s))) (𝓛.lfts.lft_split α s) $ split ! $ move ! (5 ∷ 6 ∷ 7 ∷ []) $
    opens ! tt Sr b' o' (λ ts. move ! (1 ∷ []) $ fsplit ! $ rewrite ! 1 (λ (x : TableId). ‵ (mine R cv.code x id v)) asked.0 refl $
    rewrite ! 1 (λ (cs : List (ℕ × R.Denot)). ‵ (mine R cv.code z id (v.0, cs))) asked.1.2 refl $ move ! (1 ∷ []) $ fsplit3 ! $ move ! (2 ∷ []) $ fsplit ! $ fsplit ! $
    -- [the slot's name; its borrow; the other slots; the view; that the slot is one; the seat's field; its cell; three of its borrow; two tokens of the table; its open token; the table; its fields; the others]
    move ! (1 ∷ 10 ∷ []) $ bor_open ! tt $ move ! (1 ∷ []) $ fpick ! (λ x. fsplit ! $ move ! (3 ∷ 1 ∷ []) $ name_agree ! R.coded (λ e. rewrite ! 2 (λ (u : R.Denot). ‵ (own u)) (sym e) refl $ move ! (2 ∷ []) $
    use1 𝓛 (‵ (part_at (Struct (shape (spot.the_type T₀ W))) full_share (to (spot.the_type T₀ W) y) bs os) ⊛ ‵ (place_owns T₀ cv.code y.at y.value y.stake)) (part_out 𝓛 (spot.the_type T₀ W) full_share y bs os) $ split ! $
    rewrite ! 1 (λ (ss : List (Stake U.Denot)). ‵ (place_owns T₀ cv.code y.at y.value ss)) asked.1.3 refl $ move ! (1 ∷ []) $ fsplit3 ! $ drop ! $
    rewrite ! 1 (λ (m : ℕ). ‵ (tally cv.code m st.tally st.life st.key)) asked.1.4 refl $ move ! (1 ∷ 7 ∷ []) $ fjoin ! $
    -- [the tally and the view; the lender's right; the place's fields; its name, two; its open borrow; the other slots; that it is one; the seat's field; its cell; three of its borrow; a token of the table; its open token; the table; its fields; the others]
    sets ! (of_opd ! (lit ! tt)) refl (tt, record { fits = lit< tt }) $ first ! $ blocks ! $ sets ! (addr ! (from ! (stop !))) refl (tt, tt) $
    sets ! (agg ! (and_then ! (lit ! tt) (no_more !))) refl (tt, (record { fits = lit< tt }, tt)) $ take_at ! 4 $ move ! (16 ∷ 14 ∷ 1 ∷ 0 ∷ []) $
    let full : Fml = full_tally 𝓛 T₀ W holds w p z (l 4) 0 0 (right s) id v.0 st.tally st.life st.key in let every : Fml = all_out 𝓛 T₀ W holds w p z (l 4) 0 0 (right s) id v.0 st.tally st.life st.key in
    let out : ℕ → Fml = alone 𝓛 R cv holds w p z (l 4) 0 0 full every (right s) in
    group ! 4 $ use1 𝓛 (raw (𝓣.C _ (vptr (l 4) 0 ∷ seq_cst ∷ []) (λ u. mean 𝓛 (found out u))))
    (via 𝓤 _ (gathers 𝓛 T₀ W holds w p z (l 4) 0 0 (right s) id v.0 st.tally st.life st.key asked.1.5) (loads 𝓛 𝓜 𝓡 (code.calls-core::raw_atomic::load 𝓡.env wired) (block_ptr (l 4) 0) out)) $
    Calls-last ! (fm 𝓛 𝓜 𝓡) (found out) (and_then ! (get ! refl) (and_then ! (get ! refl) (no_more !))) (λ u. finds ! out (λ n fits.
    fsplit3 ! $ move ! (2 ∷ []) $ give_at ! 4 $ lands_last ! refl (tt, record { fits = fits }) $ exec ! 𝓣.C 𝓣.Λ Ev (tail (tail fn.body)) (at_ret Ev Post) $ sets ! (of_opd ! (unit_lit !)) refl (tt, tt) $
    let y' : R.Denot = record { at = y.at; marker = y.marker; value = y.value; stake = [] } in
    move ! (1 ∷ []) $ fsplit ! $ lft_end ! tt $ move ! (0 ∷ 3 ∷ []) $ lent_back ! tt $ move ! (3 ∷ 0 ∷ []) $ use2 𝓛 (‵ (own y')) (part_in 𝓛 (spot.the_type T₀ W) full_share y' bs os) $
    -- [the place; the view; a token of the table; the place's name, two; its open borrow; the other slots; that it is one; the seat's field; its cell; three of its borrow; the open token; the table's fields; the others]
    move ! (3 ∷ 4 ∷ []) $ name_set ! tt (R.coded.code y') $ move ! (2 ∷ 1 ∷ []) $ fjoin ! $ fpack ! R.Denot (λ u. fsep (own u) (fauth δ (R.coded.code u))) y' $ move ! (4 ∷ 0 ∷ []) $ obor_close ! tt $
    move ! (2 ∷ 0 ∷ []) $ fjoin ! $ move ! (0 ∷ 4 ∷ []) $ fjoin ! $ move ! (4 ∷ 0 ∷ []) $ fjoin ! $ move ! (2 ∷ 0 ∷ []) $ fjoin ! $ move ! (3 ∷ 0 ∷ []) $ fjoin ! $
    let v' : Me R.Denot U.Denot = (v.0, (k, y') ∷ more) in let h' : Sr.Denot = record { marker = h.marker; table_id = z; id = id; me = v' } in
    let cleared : R.Denot → R.Denot = λ u. record { at = u.at; marker = u.marker; value = u.value; stake = [] } in
    let Told : Type 0 = (z ≡ h.table_id) × (id ≡ id) × (v' ≡ (v.0, first_with cleared v.1)) in
    move ! (3 ∷ 0 ∷ 4 ∷ 5 ∷ 6 ∷ []) $ closes ! tt Sr h' ts b' o' $ feq_i ! (List Val) (vptr b' o' ∷ []) (vptr b' o' ∷ []) refl $ fjoin3 ! $
    move ! (2 ∷ 3 ∷ []) $ use2 𝓛 (‵ (flft α s)) (𝓛.lfts.lft_join α s) $ move ! (3 ∷ 0 ∷ []) $ obor_close ! tt $ drop ! $
    move ! (1 ∷ []) $ nothing ! $ nothing ! $ fjoin ! $ move ! (1 ∷ 0 ∷ []) $ fjoin ! $ nothing ! $ fjoin ! $ move ! (2 ∷ 4 ∷ []) $ join ! $ move ! (2 ∷ 0 ∷ []) $ join ! $
    use0 𝓛 (raw (fact 𝓤 Told)) (fact_i 𝓤 Told (emp 𝓤) (sym asked.0, refl, ap (λ (cs : List (ℕ × R.Denot)). (v.0, first_with cleared cs)) (sym asked.1.2))) $ feq_i ! (List Val) (vunit ∷ []) (vunit ∷ []) refl $
    returns ! (look_at ! 0 refl) $ free_all ! refl $ keep ! (2 ∷ 3 ∷ 0 ∷ 1 ∷ []) $ by ! (leaves 𝓛 En hs c y₀ vunit tt (tt, (h', (tt, tt))) (tt, (tt, (tt, tt)))))))))))))
