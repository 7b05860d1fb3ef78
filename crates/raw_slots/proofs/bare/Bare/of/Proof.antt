-- A row, its lease and its first spot go into the struct.
use Rattle.atomic_table.proofs.Names.{◌≡◌, ℕ, ◌^◌, ◌<◌, List, [], ◌∷◌, refl, a_type, dcons, dnil, Val, inst_fn, SProp, emp, ftrue, fsep, ‵, raw, ◌⊛◌, given, ◌$◌, ◌∵◌, !, qed, by, move, keep, drop, split, fjoin, learn, use0, feq_i, of_opd, no_more, and_then, returns, enter, alloc_all, pass_all, free_all, look_at, get, sets, agg, tables, no, RattleType, owns, types_at, plain, Ptr, nothing, param, bounded, Stays, stay_dropped, walk_of, Goes-dropped, fact, fact_i, Valss, of_list, vstruct, ◌++◌}
use types.Kit.{fpack}
use denote.Triple.Entry.{alive}
use Rattle.core.specs.Mem.Slots.{lease_ptr, lease_len}
use Rattle.core.specs.contracts.slots.Lease as lease
use Rattle.core.proofs.slots.Leases.{lease_val}
use Rattle.atomic_table.proofs.Walks.{proved, leaves}
use Rattle.atomic_table.proofs.Rights.{lease_good, lease_told}
use Rattle.raw_slots.specs.contracts.row.Row as row
use Rattle.raw_slots.specs.contracts.place.Spot as spots
use Rattle.raw_slots.specs.contracts.bare.Bare as bare
use denote.Memory.{mem}
use Rattle.raw_slots.specs.declared.place.Spot.{Spot}
use Rattle.raw_slots.specs.Chains.{after, spots_from}
use Rattle.raw_slots.specs.Bare.{IsBare}
use Rattle.raw_slots.proofs.Chained.{along_from}
use Rattle.raw_slots.proofs.Fields.{lone_word, lone_good, row_told}
use Rattle.raw_slots.proofs.BareFields.{bare_val, bare_good, spot_told}
use Rattle.raw_slots.specs.contracts.bare.Bare.of.{ended, clauses}
use Rattle.raw_slots.specs.contracts.bare.Bare.of.Key.{name as #self}
use Rattle.raw_slots.proofs.bare.Bare.of.Statement.{statement}
use Rattle.raw_slots.proofs.bare.Bare.of.Code as code

pub of_spec : {M : Type 1} → statement M
of_spec 𝓤 𝓛 𝓜 𝓡 wired T A _ _ g d dd _ _ =
    let H = 𝓛.H in let 𝓣 = tables 𝓤 H 𝓜 𝓡 𝓡.env in let R : RattleType = param 0 T in let Z : RattleType = param 1 A in let En = ended T A g d dd in let c = clauses T A g d dd 𝓛 𝓜.mem 𝓡.returns in
    let inst = bounded (a_type ∷ a_type ∷ []) (T, (A, tt)) (dcons d (dcons dd dnil)) in let fn = inst_fn inst code.function in let Rr : RattleType = row.the_row R in let Lr : RattleType = lease.the_row R Z g in let So : RattleType = spots.the_row R in let Br : RattleType = bare.the_row R Z g in
    let hs : Stays En.signature.params En.kept = (stay_dropped (plain (λ _. Rr)) no, (stay_dropped (plain (λ _. Lr)) no, (stay_dropped (plain (λ _. So)) no, tt))) in
    proved 𝓛 En hs c 𝓜 𝓡 (Goes-dropped 𝓛 2 (plain (λ _. Rr)) no (λ κs x f. refl), (Goes-dropped 𝓛 2 (plain (λ _. Lr)) no (λ κs x f. refl), (Goes-dropped 𝓛 2 (plain (λ _. So)) no (λ κs x f. refl), tt))) (#self inst) fn (code.unfolded 𝓤 H 𝓜 𝓡 wired (T, (A, tt)) d dd)
    (λ κs. ((λ x. lone_word x.at ∷ []), ((λ x. lease_val (lease_ptr x) (lease_len x) ∷ []), ((λ x. lone_word x.at ∷ []), tt)))) (λ κs. ((λ x vs so. row_told R x.at vs so.0), ((λ x vs so. (lease_told R Z g x vs so).0), ((λ x vs so. spot_told R x vs so), tt)))) (λ κs qs bounds a gh are.
    let rw : Rr.Denot = a.0 in let le : Lr.Denot = a.1.0 in let sp : So.Denot = a.1.1.0 in let p : Ptr = lease_ptr le in let n : ℕ = lease_len le in let v₁ : Val = lone_word rw.at in let v₂ : Val = lease_val p n in let v₃ : Val = lone_word sp.at in
    let u : Val = bare_val rw.at p n sp.at in let fits : n < 2 ^ 64 = (lease_told R Z g le (v₂ ∷ []) are.1.0).1 in let ss : List (Spot R.Denot) = spots_from (mem R).size sp.at 0 rw.total in let r : Br.Denot = record { row = rw; lease = le; first = sp; spots = ss } in
    let y : (walk_of 𝓛 En hs c).Ghost = ((κs, qs, bounds, a, (v₁ ∷ [], (v₂ ∷ [], (v₃ ∷ [], tt)))), gh) in let Post : Val → SProp 𝓤 = (walk_of 𝓛 En hs c).post y in
    qed 𝓛 ((raw (alive 𝓛 En.signature κs qs) ⊛ ‵ (owns (types_at En.signature.params κs) a y.0.4)) ∷ raw (fact 𝓤 _) ∷ raw (fact 𝓤 _) ∷ given ((rw.at ≡ after R sp.at rw.total) × (rw.values ≡ []) × (p ≡ sp.at) × (n ≡ rw.total)) (‵ ftrue) ∷ []) ∵
    keep ! (3 ∷ 0 ∷ []) $ learn ! (λ asked. drop ! $ split ! $ move ! (1 ∷ []) $ feq_i ! (List Val) (u ∷ []) (u ∷ []) refl $ fjoin ! $
    fpack ! (Valss (Rr ∷ Lr ∷ So ∷ [])) (λ vss. fsep (base.Fml.feq (List Val) (u ∷ []) (vstruct (of_list (vss.0 ++ (vss.1.0 ++ (vss.1.1.0 ++ [])))) ∷ [])) (owns (Rr ∷ Lr ∷ So ∷ []) (rw, (le, (sp, tt))) vss)) (v₁ ∷ [], (v₂ ∷ [], (v₃ ∷ [], tt))) $
    nothing ! $ fpack ! (IsBare R rw.at rw.total rw.values sp.at p n ss) (λ _. ftrue) (asked.0, asked.1, asked.2, asked.3, along_from R.Denot (mem R).size sp.at rw.total) $ move ! (1 ∷ 0 ∷ []) $ fjoin ! $
    enter ! 𝓣.C 𝓣.Λ fn (v₁ ∷ v₂ ∷ v₃ ∷ []) Post $ alloc_all ! (λ l. pass_all ! refl (lone_good rw.at, (lease_good p n fits, (lone_good sp.at, tt))) $
    sets ! (of_opd ! (get ! refl)) refl (lone_good rw.at) $ sets ! (of_opd ! (get ! refl)) refl (lease_good p n fits) $
    sets ! (agg ! (and_then ! (get ! refl) (and_then ! (get ! refl) (and_then ! (get ! refl) (no_more !))))) refl (bare_good rw.at p sp.at n fits) $
    let Told : Type 0 = (rw ≡ rw) × (le ≡ le) × (sp ≡ sp) × (ss ≡ ss) in use0 𝓛 (raw (fact 𝓤 Told)) (fact_i 𝓤 Told (emp 𝓤) (refl, refl, refl, refl)) $ nothing ! $ nothing ! $ fjoin ! $ nothing ! $ fjoin ! $ nothing ! $ fjoin ! $
    returns ! (look_at ! 0 refl) $ free_all ! refl $ keep ! (3 ∷ 0 ∷ 2 ∷ 1 ∷ []) $ by ! (leaves 𝓛 En hs c y u r (tt, (tt, (tt, tt))) (tt, (tt, (tt, tt)))))))
