-- The first value of a row is cut off as a place.
use Rattle.atomic_table.proofs.Names.{◌≡◌, ℕ, ◌+◌, ◌*◌, ◌^◌, ◌<◌, List, [], ◌∷◌, sym, refl, ap, ◌∙◌, subst, arith, w64, a_type, named, Val, vint, vptr, inst_fn, SProp, emp, Fml, ftrue, fsep, flft, ‵, raw, ◌⊛◌, given, at_ret, ◌$◌, ◌∵◌, !, qed, by, move, keep, drop, split, join, fsplit, fsplit3, fjoin, fjoin3, learn, use0, use1, rewrite, feq_i, stop, fld, load, lit, of_opd, bin, no_more, and_then, first, blocks, exec, returns, enter, alloc_all, pass_all, free_all, look_at, get, through, sets, is, env, agg, tables, RattleType, owns, types_at, plain, Ptr, block_ptr, nothing, param, layouts, Stays, walk_of, fact, fact_i, Is, shows, cell_at, peeks, block_of, count_of, Coded, mut_vals, mut_Tells, opens, closes, stay_ref, Goes-ref, mem}
use types.Part.{sub, whole, look_in, store_in}
use types.Run.{assigns, size_word}
use types.ByLocal.{sets_last}
use base.Fraction.{full_share}
use denote.RawPtr.{lies_at, at_block}
use Rattle.atomic_table.proofs.Walks.{proved, leaves}
use Rattle.core.proofs.atomic.Steps.{tail}
use Rattle.raw_slots.specs.Rows.{row_owns, next_to}
use Rattle.raw_slots.specs.contracts.place.Place as place
use Rattle.raw_slots.specs.contracts.row.Row as row
use Rattle.raw_slots.proofs.Fields.{word, word_good, lone_word, PlaceData, place_made, RowData, row_told, row_made}
use Rattle.raw_slots.proofs.RowSteps.{row_cut, row_fits, Fits}
use prog.Memory.{capped}
use prog.Capped.{capped_is}
use Rattle.atomic_table.proofs.Names.{suc, length, suc-mul, ◌≤◌}
use Rattle.raw_slots.specs.contracts.row.Row.cut.{ended, clauses}
use Rattle.raw_slots.specs.contracts.row.Row.cut.Key.{name as #self}
use Rattle.raw_slots.proofs.row.Row.cut.Statement.{statement}
use Rattle.raw_slots.proofs.row.Row.cut.Code as code

first_of : {X : Type 0} (xs : List X) → 0 < length xs → (x : X) × (ys : List X) × (xs ≡ x ∷ ys)
first_of [] f = absurd (omega arith)
first_of (x ∷ xs) f = (x, xs, refl)

uncapped : (k : ℕ) → k < 2 ^ 64 → 1 * capped k ≡ 1 * k
uncapped k h = ap (λ (j : ℕ). 1 * j) (capped_is k h)

pub cut_spec : {M : Type 1} → statement M
cut_spec 𝓤 𝓛 𝓜 𝓡 wired T U _ _ =
    let H = 𝓛.H in let 𝓣 = tables 𝓤 H 𝓜 𝓡 𝓡.env in let R : RattleType = param 0 T in let W : RattleType = param 1 U in let En = ended T U in let cv : Coded U.Denot = W.coded in
    let inst = layouts (a_type ∷ a_type ∷ []) (T, (U, tt)) in let fn = inst_fn inst code.function in let Pr : RattleType = place.the_row R W in let Rr : RattleType = row.the_row R in let mine = plain (λ _. Rr) in
    let hs : Stays En.signature.params En.kept = (stay_ref (0 ∷ []) tt mine, tt) in let c = clauses T U 𝓛 𝓜.mem 𝓡.returns in
    proved 𝓛 En hs c 𝓜 𝓡 (Goes-ref 𝓛 3 0 tt mine, tt) (#self inst) fn (code.unfolded 𝓤 H 𝓜 𝓡 wired (T, (U, tt)))
    (λ κs. (mut_vals, tt)) (λ κs. (mut_Tells (named 0) κs.0 Rr, tt)) (λ κs qs bounds a gh are.
    let b : ℕ = a.0.ref_ptr.0 in let o : ℕ = a.0.ref_ptr.1 in let h : Rr.Denot = a.0.now in let p : Ptr = h.at in let sz : ℕ = (mem R).size in
    let y : (walk_of 𝓛 En hs c).Ghost = ((κs, qs, bounds, a, (vptr b o ∷ [], tt)), gh) in let Post : Val → SProp 𝓤 = (walk_of 𝓛 En hs c).post y in
    let others : Fml = fsep (flft κs.1.0 qs.1.0) (fsep (flft κs.1.1.0 qs.1.1.0) ftrue) in
    qed 𝓛 (((‵ (flft κs.0 qs.0) ⊛ ‵ others) ⊛ ‵ (owns (types_at En.signature.params κs) a y.0.4)) ∷ raw (fact 𝓤 _) ∷ raw (fact 𝓤 _) ∷ given (0 < length h.values) (‵ ftrue) ∷ []) ∵
    keep ! (3 ∷ 0 ∷ []) $ learn ! (λ some_left. let got = first_of h.values some_left in let x : T.Denot = got.0 in let ys : List T.Denot = got.1 in
    drop ! $ split ! $ split ! $ move ! (2 ∷ []) $ fsplit ! $ fsplit3 ! $ keep ! (1 ∷ 2 ∷ 4 ∷ 5 ∷ []) $
    enter ! 𝓣.C 𝓣.Λ fn (vptr b o ∷ []) Post $ alloc_all ! (λ l. pass_all ! refl ((tt, tt), tt) $ let Ev = env fn.locals l in
    opens ! tt Rr b o (λ us. move ! (1 ∷ []) $ peeks ! Rr (Is Rr) (shows 𝓛 Rr) h us (λ so. fsplit ! $ move ! (1 ∷ []) $ rewrite ! 0 (λ (zs : List T.Denot). ‵ (row_owns R p h.total zs)) got.2 refl $
    use1 𝓛 (given (Fits 𝓛 R p h.total (x ∷ ys)) (‵ (row_owns R p h.total (x ∷ ys)))) (row_fits 𝓛 R p h.total (x ∷ ys)) $ learn ! (λ f. let bp : ℕ = block_of p in let op : ℕ = count_of p in let e : p ≡ block_ptr bp op = at_block p f.0 in
    let ev : us ≡ lone_word (block_ptr bp op) ∷ [] = row_told R p us so.0 ∙ ap (λ (π : Ptr). lone_word π ∷ []) e in let q : Ptr = block_ptr bp (op + sz) in let eq : next_to R p ≡ q = ap (next_to R) e in
    let one_fits : suc (length ys) ≤ h.total = f.1 in let less : suc (length ys) * sz ≤ h.total * sz = Rattle.std.proofs.Common.mul-le-mul_right sz one_fits in let steps : suc (length ys) * sz ≡ length ys * sz + sz = suc-mul (length ys) sz in
    let far : h.total * sz < 2 ^ 63 = f.2 in let small : sz < 2 ^ 64 = omega (arith, steps) in let small₁ : 1 * sz < 2 ^ 64 = omega arith in let is_next : 1 * sz + op ≡ op + sz = omega arith in
    use1 𝓛 (‵ (lies_at R full_share p x) ⊛ ‵ (row_owns R (next_to R p) h.total ys)) (row_cut 𝓛 R p h.total x ys) $ split ! $
    -- [the value; the rest; the row's field; its cell; three of its borrow; the others]
    rewrite ! 3 (λ (ws : List Val). ‵ (cell_at full_share Rr.mir ws b o)) ev refl $
    sets ! (of_opd ! (load ! (through ! refl (fld ! refl (stop !))) (look_in ! 3 (sub ! 0 refl (whole !))))) refl (tt, tt) $ first ! $ blocks ! $
    sets ! (is ! (bin ! (lit ! tt) (size_word !) (record { fits = subst (λ (j : ℕ). j < 2 ^ 64) (sym (uncapped sz small)) small₁ })) (ap (vint w64) (uncapped sz small))) refl (tt, record { fits = small₁ }) $
    sets_last ! (is ! (bin ! (get ! refl) (get ! refl) tt) (ap (λ (j : ℕ). vptr bp j) is_next)) refl (tt, tt) $ exec ! 𝓣.C 𝓣.Λ Ev (tail (tail fn.body)) (at_ret Ev Post) $
    assigns ! (of_opd ! (get ! refl)) (through ! refl (fld ! refl (stop !))) (store_in ! 3 (sub ! 0 refl (whole !)) (tt, tt)) $
    sets ! (agg ! (no_more !)) refl (tt, tt) $ sets ! (agg ! (and_then ! (get ! refl) (and_then ! (get ! refl) (no_more !)))) refl (word_good (block_ptr bp op)) $
    rewrite ! 1 (λ (π : Ptr). ‵ (row_owns R π h.total ys)) eq refl $ rewrite ! 0 (λ (π : Ptr). ‵ (lies_at R full_share π x)) e refl $
    let h' : Rr.Denot = record { at = q; total = h.total; values = ys } in let r : Pr.Denot = record { at = block_ptr bp op; marker = record {}; value = x; stake = [] } in
    let Told : Type 0 = (h.values ≡ x ∷ ys) × (r.stake ≡ []) × (block_ptr bp op ≡ p) × (q ≡ next_to R p) × (h.total ≡ h.total) in
    move ! (2 ∷ []) $ drop ! $ move ! (1 ∷ []) $ use0 𝓛 (‵ ((RowData R).own_val (q, tt) (lone_word q ∷ []))) (row_made R 𝓛 q) $ fjoin ! $ move ! (2 ∷ 0 ∷ 3 ∷ 4 ∷ 5 ∷ []) $ closes ! tt Rr h' (lone_word q ∷ []) b o $
    feq_i ! (List Val) (vptr b o ∷ []) (vptr b o ∷ []) refl $ fjoin3 ! $ nothing ! $ move ! (1 ∷ 0 ∷ []) $ fjoin ! $ move ! (1 ∷ 3 ∷ []) $ join ! $
    move ! (2 ∷ []) $ use0 𝓛 (‵ ((PlaceData R W).own_val (block_ptr bp op, (tt, tt)) (word (block_ptr bp op) ∷ []))) (place_made R W 𝓛 (block_ptr bp op)) $ fjoin ! $
    use0 𝓛 (raw (fact 𝓤 Told)) (fact_i 𝓤 Told (emp 𝓤) (got.2, refl, sym e, sym eq, refl)) $
    returns ! (look_at ! 0 refl) $ free_all ! refl $ keep ! (2 ∷ 3 ∷ 1 ∷ 0 ∷ []) $ by ! (leaves 𝓛 En hs c y (word (block_ptr bp op)) r (h', tt) (tt, tt))))))))
