-- A row, its lease and its first spot come out of the struct.
use Rattle.atomic_table.proofs.Names.{◌≡◌, ℕ, ◌^◌, ◌<◌, List, [], ◌∷◌, refl, a_type, dcons, dnil, Val, inst_fn, SProp, emp, fsep, ‵, raw, ◌⊛◌, ◌$◌, ◌∵◌, !, qed, by, move, keep, drop, split, join, fsplit, fsplit3, fjoin, fpick, use0, rewrite, feq_i, stop, fld, of_opd, no_more, and_then, returns, enter, alloc_all, pass_all, free_all, look_at, get, sets, agg, tables, no, RattleType, owns, types_at, plain, Ptr, nothing, param, bounded, Stays, stay_dropped, walk_of, fact, fact_i, Is, shows, peeks, Valss, of_list, vstruct, ◌++◌}
use types.Part.{sub, whole}
use types.ByLocal.{get_in}
use types.Kit.{fpack}
use denote.Triple.Entry.{alive}
use Rattle.core.proofs.alloc.Calls.{Goes-blank}
use Rattle.core.specs.Mem.Slots.{lease_ptr, lease_len}
use Rattle.core.specs.contracts.slots.Lease as lease
use Rattle.core.proofs.slots.Leases.{lease_val}
use Rattle.atomic_table.proofs.Walks.{proved, leaves}
use Rattle.atomic_table.proofs.Rights.{lease_good, lease_told}
use Rattle.raw_slots.specs.contracts.row.Row as row
use Rattle.raw_slots.specs.contracts.place.Spot as spots
use Rattle.raw_slots.specs.contracts.bare.Bare as bare
use Rattle.raw_slots.specs.Bare.{IsBare}
use Rattle.raw_slots.proofs.Fields.{lone_word, lone_good, row_told}
use Rattle.raw_slots.proofs.BareFields.{bare_val, bare_good, spot_told, bare_told}
use Rattle.raw_slots.specs.contracts.bare.Bare.into_parts.{ended, clauses}
use Rattle.raw_slots.specs.contracts.bare.Bare.into_parts.Key.{name as #self}
use Rattle.raw_slots.proofs.bare.Bare.into_parts.Statement.{statement}
use Rattle.raw_slots.proofs.bare.Bare.into_parts.Code as code

pub into_parts_spec : {M : Type 1} → statement M
into_parts_spec 𝓤 𝓛 𝓜 𝓡 wired T A _ _ g d dd _ _ =
    let H = 𝓛.H in let 𝓣 = tables 𝓤 H 𝓜 𝓡 𝓡.env in let R : RattleType = param 0 T in let Z : RattleType = param 1 A in let En = ended T A g d dd in let c = clauses T A g d dd 𝓛 𝓜.mem 𝓡.returns in
    let inst = bounded (a_type ∷ a_type ∷ []) (T, (A, tt)) (dcons d (dcons dd dnil)) in let fn = inst_fn inst code.function in let Rr : RattleType = row.the_row R in let Lr : RattleType = lease.the_row R Z g in let So : RattleType = spots.the_row R in let Br : RattleType = bare.the_row R Z g in
    let hs : Stays En.signature.params En.kept = (stay_dropped (plain (λ _. Br)) no, tt) in
    proved 𝓛 En hs c 𝓜 𝓡 (Goes-blank 𝓛 2 (plain (λ _. Br)) no (λ κs x f. tt), tt) (#self inst) fn (code.unfolded 𝓤 H 𝓜 𝓡 wired (T, (A, tt)) d dd)
    (λ κs. ((λ x. bare_val x.row.at (lease_ptr x.lease) (lease_len x.lease) x.first.at ∷ []), tt)) (λ κs. ((λ x vs so. (bare_told R Z g x vs so).0), tt)) (λ κs qs bounds a gh are.
    let x : Br.Denot = a.0 in let rw : Rr.Denot = x.row in let le : Lr.Denot = x.lease in let sp : So.Denot = x.first in let p : Ptr = lease_ptr le in let n : ℕ = lease_len le in let v₁ : Val = lone_word rw.at in let v₂ : Val = lease_val p n in let v₃ : Val = lone_word sp.at in
    let u : Val = bare_val rw.at p n sp.at in let fits : n < 2 ^ 64 = (bare_told R Z g x (u ∷ []) are.0).1 in
    let y : (walk_of 𝓛 En hs c).Ghost = ((κs, qs, bounds, a, (u ∷ [], tt)), gh) in let Post : Val → SProp 𝓤 = (walk_of 𝓛 En hs c).post y in
    qed 𝓛 ((raw (alive 𝓛 En.signature κs qs) ⊛ ‵ (owns (types_at En.signature.params κs) a y.0.4)) ∷ raw ((c κs a).requires gh) ∷ []) ∵
    split ! $ keep ! (1 ∷ 0 ∷ []) $ fsplit ! $ fsplit ! $ move ! (1 ∷ []) $ fpick ! (λ known. drop ! $ fpick ! (λ vss. fsplit ! $ drop ! $ fsplit3 ! $ peeks ! Rr (Is Rr) (shows 𝓛 Rr) rw vss.0 (λ s₁.
    rewrite ! 0 (λ (ws : List Val). ‵ (Rr.own_val rw ws)) (row_told R rw.at vss.0 s₁.0) refl $ move ! (1 ∷ []) $ peeks ! Lr (Is Lr) (shows 𝓛 Lr) le vss.1.0 (λ s₂.
    rewrite ! 0 (λ (ws : List Val). ‵ (Lr.own_val le ws)) (lease_told R Z g le vss.1.0 s₂).0 refl $ move ! (2 ∷ []) $ fsplit ! $ peeks ! So (Is So) (shows 𝓛 So) sp vss.1.1.0 (λ s₃.
    rewrite ! 0 (λ (ws : List Val). ‵ (So.own_val sp ws)) (spot_told R sp vss.1.1.0 s₃) refl $ keep ! (3 ∷ 2 ∷ 0 ∷ 5 ∷ []) $
    nothing ! $ move ! (3 ∷ 0 ∷ []) $ fjoin ! $ move ! (2 ∷ 0 ∷ []) $ fjoin ! $ move ! (1 ∷ 0 ∷ []) $ fjoin ! $ feq_i ! (List Val) (u ∷ []) (u ∷ []) refl $ fjoin ! $
    fpack ! (Valss (Rr ∷ Lr ∷ So ∷ [])) (λ uss. fsep (base.Fml.feq (List Val) (u ∷ []) (vstruct (of_list (uss.0 ++ (uss.1.0 ++ (uss.1.1.0 ++ [])))) ∷ [])) (owns (Rr ∷ Lr ∷ So ∷ []) (rw, (le, (sp, tt))) uss)) (v₁ ∷ [], (v₂ ∷ [], (v₃ ∷ [], tt))) $
    enter ! 𝓣.C 𝓣.Λ fn (u ∷ []) Post $ alloc_all ! (λ l. pass_all ! refl (bare_good rw.at p sp.at n fits, tt) $
    sets ! (of_opd ! (get_in ! (fld ! refl (stop !)) (sub ! 0 refl (whole !)))) refl (lone_good rw.at) $ sets ! (of_opd ! (get_in ! (fld ! refl (stop !)) (sub ! 1 refl (whole !)))) refl (lease_good p n fits) $ sets ! (of_opd ! (get_in ! (fld ! refl (stop !)) (sub ! 2 refl (whole !)))) refl (lone_good sp.at) $
    sets ! (of_opd ! (get ! refl)) refl (lone_good rw.at) $ sets ! (of_opd ! (get ! refl)) refl (lease_good p n fits) $
    sets ! (agg ! (and_then ! (get ! refl) (and_then ! (get ! refl) (and_then ! (get ! refl) (no_more !))))) refl (bare_good rw.at p sp.at n fits) $
    let A₁ : Type 0 = (rw ≡ rw) × (le ≡ le) × (sp ≡ sp) in let A₂ : Type 0 = IsBare R rw.at rw.total rw.values sp.at p n x.spots in use0 𝓛 (raw (fact 𝓤 A₂)) (fact_i 𝓤 A₂ (emp 𝓤) known) $ use0 𝓛 (raw (fact 𝓤 A₁)) (fact_i 𝓤 A₁ (emp 𝓤) (refl, refl, refl)) $ join ! $ nothing ! $ nothing ! $ fjoin ! $
    returns ! (look_at ! 0 refl) $ free_all ! refl $ keep ! (3 ∷ 0 ∷ 2 ∷ 1 ∷ []) $ by ! (leaves 𝓛 En hs c y u (rw, le, sp) ((tt, (tt, tt)), tt) (tt, tt)))))))))
