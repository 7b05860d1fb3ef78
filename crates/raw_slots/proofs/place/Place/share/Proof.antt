-- A whole place is lent for a lifetime of its own, whose token becomes the tally.
use Rattle.atomic_table.proofs.Names.{◌≡◌, ℕ, List, [], ◌∷◌, refl, a_type, dcons, dnil, named, Val, vptr, vunit, inst_fn, SProp, emp, Lft, Fml, ftrue, fsep, flft, ‵, raw, ◌⊛◌, given, ◌$◌, ◌∵◌, !, qed, by, move, keep, drop, split, join, fsplit, fsplit3, fjoin, fjoin3, fpick, learn, use0, use1, use2, rewrite, feq_i, of_opd, unit_lit, returns, enter, alloc_all, pass_all, free_all, look_at, sets, tables, yes, RattleType, owns, types_at, plain, Ptr, nothing, param, bounded, Stays, stay_dropped, walk_of, Goes-dropped, fact, fact_i, Coded, via, RefOf, mut_vals, mut_Tells, shr_vals, shr_Tells, opens, closes, stay_ref, Goes-ref, Share}
use types.Kit.{some, later, pick, await}
use base.Fraction.{full_share}
use base.Fml.{fex}
use contract.BorrowLft.{◌⊑◌}
use denote.Steps.{heard}
use denote.Param.Laws.{param_laws}
use denote.RawPtr.{lies_at}
use denote.Struct.Lending.{lent_at, lent_at_shr_laws, Lends-lies}
use types.Owned.{basic}
use Rattle.atomic_table.proofs.Walks.{proved, leaves}
use Rattle.left_right.proofs.PartSteps.{freezes, Frozen, tokens_whole}
use Rattle.atomic_table.specs.Seated.{TableId}
use Rattle.atomic_table.specs.contracts.shared.Shared as table
use Rattle.raw_slots.specs.Places.{Stake, tally, place_owns}
use Rattle.raw_slots.specs.contracts.place.Place as place
use Rattle.raw_slots.proofs.Grants.{starts}
use Rattle.raw_slots.specs.contracts.place.Place.share.{ended, clauses}
use Rattle.raw_slots.specs.contracts.place.Place.share.Key.{name as #self}
use Rattle.raw_slots.proofs.place.Place.share.Statement.{statement}
use Rattle.raw_slots.proofs.place.Place.share.Code as code

pub share_spec : {M : Type 1} → statement M
share_spec 𝓤 𝓛 𝓜 𝓡 wired T U Q P A Mv L _ _ _ _ _ g d g' d' _ _ =
    let H = 𝓛.H in let 𝓣 = tables 𝓤 H 𝓜 𝓡 𝓡.env in let R : RattleType = param 0 T in let W : RattleType = param 1 U in let X : RattleType = param 2 Q in let Y : RattleType = param 3 P in let Z : RattleType = param 4 A in let En = ended T U Q P A Mv g d g' d' in
    let LT = param_laws 0 T L in let Pr : RattleType = place.the_row R W in let Row : RattleType = table.the_row Pr W X Y g in let cv : Coded U.Denot = W.coded in
    let inst = bounded (a_type ∷ a_type ∷ a_type ∷ a_type ∷ a_type ∷ a_type ∷ []) (T, (U, (Q, (P, (A, (Mv, tt)))))) (dcons d (dcons d' dnil)) in let fn = inst_fn inst code.function in
    let mine = plain (λ _. Pr) in let there = RefOf (1 ∷ []) tt (plain (λ _. Row)) (λ _. tt) in let reported = RefOf (2 ∷ []) tt (plain (λ _. Z)) (λ _. tt) in
    let hs : Stays En.signature.params En.kept = (stay_ref (0 ∷ []) tt mine, (stay_dropped there yes, (stay_dropped reported yes, tt))) in let c = clauses T U Q P A Mv g d g' d' 𝓛 𝓜.mem 𝓡.returns in
    proved 𝓛 En hs c 𝓜 𝓡 (Goes-ref 𝓛 9 0 tt mine, (Goes-dropped 𝓛 9 there yes (λ κs x f. refl), (Goes-dropped 𝓛 9 reported yes (λ κs x f. refl), tt))) (#self inst) fn (code.unfolded 𝓤 H 𝓜 𝓡 wired (T, (U, (Q, (P, (A, (Mv, tt)))))) d d')
    (λ κs. (mut_vals, (shr_vals, (shr_vals, tt)))) (λ κs. (mut_Tells (named 0) κs.0 Pr, (shr_Tells (named 1) κs.1.0 Row, (shr_Tells (named 2) κs.1.1.0 Z, tt)))) (λ κs qs bounds a gh are.
    let b : ℕ = a.0.ref_ptr.0 in let o : ℕ = a.0.ref_ptr.1 in let h : Pr.Denot = a.0.now in let p : Ptr = h.at in let x : T.Denot = h.value in let z : TableId = a.1.0.now.table_id in let γ : ℕ = z.views_name in
    let b₁ : ℕ = a.1.0.ref_ptr.0 in let o₁ : ℕ = a.1.0.ref_ptr.1 in let b₂ : ℕ = a.1.1.0.ref_ptr.0 in let o₂ : ℕ = a.1.1.0.ref_ptr.1 in
    let y : (walk_of 𝓛 En hs c).Ghost = ((κs, qs, bounds, a, (vptr b o ∷ [], (vptr b₁ o₁ ∷ [], (vptr b₂ o₂ ∷ [], tt)))), gh) in let Post : Val → SProp 𝓤 = (walk_of 𝓛 En hs c).post y in
    let t₁ : Fml = flft κs.1.0 qs.1.0 in let t₂ : Fml = flft κs.1.1.0 qs.1.1.0 in let κT : Lft = κs.1.1.1.0 in let qT : Share = qs.1.1.1.0 in let tT : Fml = flft κT qT in
    let more : Fml = fsep (flft κs.1.1.1.1.0 qs.1.1.1.1.0) (fsep (flft κs.1.1.1.1.1.0 qs.1.1.1.1.1.0) (fsep (flft κs.1.1.1.1.1.1.0 qs.1.1.1.1.1.1.0) (fsep (flft κs.1.1.1.1.1.1.1.0 qs.1.1.1.1.1.1.1.0) (fsep (flft κs.1.1.1.1.1.1.1.1.0 qs.1.1.1.1.1.1.1.1.0) ftrue)))) in
    let others : Fml = fsep t₁ (fsep t₂ (fsep tT more)) in let whole_value : Fml = lies_at R full_share p x in let laws = lent_at_shr_laws R LT.shr_laws p x in
    qed 𝓛 (((‵ (flft κs.0 qs.0) ⊛ ‵ others) ⊛ ‵ (owns (types_at En.signature.params κs) a y.0.4)) ∷ raw (fact 𝓤 (κT ⊑ T.lives)) ∷ raw (fact 𝓤 _) ∷ raw (fact 𝓤 _) ∷ raw (fact 𝓤 _) ∷ raw (fact 𝓤 _) ∷ raw (fact 𝓤 _) ∷ given (h.stake ≡ []) (‵ ftrue) ∷ []) ∵
    keep ! (1 ∷ 7 ∷ 0 ∷ []) $ heard ! (κT ⊑ T.lives) (λ le. learn ! (λ bare. drop ! $ split ! $ split ! $ move ! (2 ∷ []) $ fsplit ! $ fsplit3 ! $ keep ! (1 ∷ 2 ∷ 4 ∷ 5 ∷ []) $
    enter ! 𝓣.C 𝓣.Λ fn (vptr b o ∷ vptr b₁ o₁ ∷ vptr b₂ o₂ ∷ []) Post $ alloc_all ! (λ l. pass_all ! refl ((tt, tt), ((tt, tt), ((tt, tt), tt))) $
    opens ! tt Pr b o (λ us. move ! (1 ∷ []) $ fsplit ! $ move ! (1 ∷ []) $ rewrite ! 0 (λ (ss : List (Stake U.Denot)). ‵ (place_owns R cv.code p x ss)) bare refl $
    -- [the value; the place's field; its cell; three of its borrow; the others]
    move ! (6 ∷ []) $ fsplit3 ! $ move ! (2 ∷ []) $ fsplit ! $ move ! (4 ∷ 0 ∷ []) $
    use2 𝓛 (later (‵ (fex ℕ (Frozen (lent_at R p x) laws 𝓛 whole_value)) ⊛ ‵ tT)) (freezes (lent_at R p x) laws 𝓛 whole_value R.lives κT qT (Lends-lies 𝓛 R R.lives p x (LT.shares 𝓛 x)) le) $
    await ! tt $ split ! $ fpick ! (λ n. fsplit ! $ move ! (1 ∷ []) $ fsplit ! $ use1 𝓛 (‵ (flft (n ∷ []) full_share)) (tokens_whole 𝓛 n) $
    let key : ℕ → U.Denot = λ ρ. g'.key a.1.1.0.now γ n ρ in
    use1 𝓛 (later (some (λ (ρ : ℕ). ‵ (tally cv.code γ ρ n (key ρ))))) (via 𝓤 _ (starts 𝓛 cv γ n key) (basic 𝓛 _)) $ await ! tt $ pick ! (λ ρ.
    let st : Stake U.Denot = record { key = key ρ; views = γ; life = n; tally = ρ } in let h' : Pr.Denot = record { at = p; marker = h.marker; value = x; stake = st ∷ [] } in
    -- [the tally; what is lent; the lender's right; T's token; more; two tokens; the place's field; its cell; three of its borrow]
    move ! (1 ∷ 2 ∷ 0 ∷ []) $ fjoin3 ! $ move ! (5 ∷ 0 ∷ []) $ fjoin ! $ move ! (5 ∷ 0 ∷ 6 ∷ 7 ∷ 8 ∷ []) $ closes ! tt Pr h' us b o $ feq_i ! (List Val) (vptr b o ∷ []) (vptr b o ∷ []) refl $ fjoin3 ! $
    move ! (2 ∷ 3 ∷ []) $ fjoin ! $ move ! (4 ∷ 0 ∷ []) $ fjoin ! $ move ! (3 ∷ 0 ∷ []) $ fjoin ! $ move ! (2 ∷ 0 ∷ []) $ join ! $
    move ! (1 ∷ []) $ nothing ! $ nothing ! $ fjoin ! $ nothing ! $ fjoin ! $ move ! (1 ∷ 0 ∷ []) $ fjoin ! $
    sets ! (of_opd ! (unit_lit !)) refl (tt, tt) $ let A₁ : Type 0 = (p ≡ p) × (x ≡ x) in let A₂ : Type 0 = (s : Stake U.Denot) × (h'.stake ≡ s ∷ []) × (s.views ≡ γ) × (s.key ≡ g'.key a.1.1.0.now s.views s.life s.tally) in
    use0 𝓛 (raw (fact 𝓤 A₂)) (fact_i 𝓤 A₂ (emp 𝓤) (st, refl, refl, refl)) $ use0 𝓛 (raw (fact 𝓤 A₁)) (fact_i 𝓤 A₁ (emp 𝓤) (refl, refl)) $ join ! $ feq_i ! (List Val) (vunit ∷ []) (vunit ∷ []) refl $
    returns ! (look_at ! 0 refl) $ free_all ! refl $ keep ! (3 ∷ 2 ∷ 0 ∷ 1 ∷ []) $ by ! (leaves 𝓛 En hs c y vunit tt (h', (tt, (tt, tt))) (tt, (tt, (tt, tt)))))))))))
