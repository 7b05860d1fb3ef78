-- What is kept, and the window, between an update's hand and the others.
use Rattle.std.proofs.Common.{◌≡◌, refl, sym, ap, subst, ℕ, ◌+◌, true, false, inl, inr, List, [], ◌∷◌, ◌++◌, length, arith}
use Rattle.std.specs.Prelude.{nat_lt}
use Rattle.std.proofs.lemmas.Bool.{cases_Bool}
use Rattle.cell_core.specs.declared.words.Owner.{Owner}
use Rattle.world_run.specs.declared.names.Named.{Named}
use Rattle.world_run.specs.declared.calls.UnderWay.{UnderWay}
use Rattle.world_run.specs.World.{oldest_kept}
use Rattle.world_laws.proofs.UseLemmas.{AllFit, InUse, times, times_append, fit_append, fit_front, fit_back, in_use_as}
use Rattle.world_laws.proofs.UseLists.{oldest_uses, window_uses, early_uses}
use Rattle.world_laws.proofs.UseTurns.{times_four, fit_four, fits_four}
use Rattle.world_laws.proofs.UseWorld.{Store, stays_of, store_left, both_uses, kept_uses, kept_left, call_uses, rest_uses}

-- the oldest version that is kept, and the others
oldest_apart : (from keep : ℕ) (kept : List ℕ) → oldest_uses from (oldest_kept keep kept) ++ kept_left from keep kept true ≡ kept_uses from kept
oldest_apart from keep [] = elim (cases_Bool (nat_lt keep 0)) [ inl more ↦ rw more refl | inr all ↦ rw all refl ]
oldest_apart from keep (o ∷ os) = elim (cases_Bool (nat_lt keep (length (o ∷ os)))) [ inl more ↦ rw more refl | inr all ↦ rw all refl ]

-- that and the window move between an update's hand and the others
store_times : (i from : ℕ) (store : Store) → times i (early_uses from (stays_of store) (stays_of store).oldest) + times i (store_left from store true) ≡ times i (store_left from store false)
store_times i from store =
    let a = times_append i (oldest_uses from (oldest_kept store.keep store.kept)) (window_uses (from + length store.kept) store.entries) in
    let b = times_append i (kept_left from store.keep store.kept true) [] in
    let c = times_append i (kept_uses from store.kept) (window_uses (from + length store.kept) store.entries) in
    let d = times_append i (oldest_uses from (oldest_kept store.keep store.kept)) (kept_left from store.keep store.kept true) in
    let e : times i (oldest_uses from (oldest_kept store.keep store.kept) ++ kept_left from store.keep store.kept true) ≡ times i (kept_uses from store.kept) = ap (times i) (oldest_apart from store.keep store.kept) in
    omega (arith, a, b, c, d, e)

store_out : (owners : List Owner) (from : ℕ) (store : Store) → AllFit owners (store_left from store false) → AllFit owners (early_uses from (stays_of store) (stays_of store).oldest) × AllFit owners (store_left from store true)
store_out owners from store f =
    let kept_fit = subst (λ ss. AllFit owners ss) (sym (oldest_apart from store.keep store.kept)) (fit_front owners (kept_uses from store.kept) (window_uses (from + length store.kept) store.entries) f) in
    let window_fit = fit_back owners (kept_uses from store.kept) (window_uses (from + length store.kept) store.entries) f in (
      fit_append owners (oldest_uses from (oldest_kept store.keep store.kept)) (window_uses (from + length store.kept) store.entries)
          (fit_front owners (oldest_uses from (oldest_kept store.keep store.kept)) (kept_left from store.keep store.kept true) kept_fit) window_fit,
      fit_append owners (kept_left from store.keep store.kept true) [] (fit_back owners (oldest_uses from (oldest_kept store.keep store.kept)) (kept_left from store.keep store.kept true) kept_fit) tt,
    )

store_in : (owners : List Owner) (from : ℕ) (store : Store) → AllFit owners (early_uses from (stays_of store) (stays_of store).oldest) → AllFit owners (store_left from store true) → AllFit owners (store_left from store false)
store_in owners from store f g =
    fit_append owners (kept_uses from store.kept) (window_uses (from + length store.kept) store.entries)
    (subst (λ ss. AllFit owners ss) (oldest_apart from store.keep store.kept)
    (fit_append owners (oldest_uses from (oldest_kept store.keep store.kept)) (kept_left from store.keep store.kept true)
    (fit_front owners (oldest_uses from (oldest_kept store.keep store.kept)) (window_uses (from + length store.kept) store.entries) f)
    (fit_front owners (kept_left from store.keep store.kept true) [] g)))
    (fit_back owners (oldest_uses from (oldest_kept store.keep store.kept)) (window_uses (from + length store.kept) store.entries) f)

pub in_use_kept : (owners : List Owner) (last from : ℕ) (names weaks : List Named) (store : Store) (calls : List UnderWay) → InUse owners (rest_uses last from names weaks store calls false) → InUse owners (early_uses from (stays_of store) (stays_of store).oldest ++ rest_uses last from names weaks store calls true)
in_use_kept owners last from names weaks store calls s =
    let early = early_uses from (stays_of store) (stays_of store).oldest in
    let all = fits_four owners [] (both_uses names weaks) (store_left from store false) (call_uses last from (stays_of store) calls) s.fit in
    let out = store_out owners from store all.2 in
    in_use_as owners _ (early ++ rest_uses last from names weaks store calls true)
    (fit_four owners early (both_uses names weaks) (store_left from store true) (call_uses last from (stays_of store) calls) out.0 all.1 out.1 all.3)
    (λ i. (
    let a = times_four i early (both_uses names weaks) (store_left from store true) (call_uses last from (stays_of store) calls) in
    let b = times_four i [] (both_uses names weaks) (store_left from store false) (call_uses last from (stays_of store) calls) in
    let d = store_times i from store in
    omega (arith, a, b, d)
    )) s

pub in_use_given : (owners : List Owner) (last from : ℕ) (names weaks : List Named) (store : Store) (calls : List UnderWay) → InUse owners (early_uses from (stays_of store) (stays_of store).oldest ++ rest_uses last from names weaks store calls true) → InUse owners (rest_uses last from names weaks store calls false)
in_use_given owners last from names weaks store calls s =
    let early = early_uses from (stays_of store) (stays_of store).oldest in
    let all = fits_four owners early (both_uses names weaks) (store_left from store true) (call_uses last from (stays_of store) calls) s.fit in
    in_use_as owners _ (rest_uses last from names weaks store calls false)
    (fit_four owners [] (both_uses names weaks) (store_left from store false) (call_uses last from (stays_of store) calls) tt all.1 (store_in owners from store all.0 all.2) all.3)
    (λ i. (
    let a = times_four i early (both_uses names weaks) (store_left from store true) (call_uses last from (stays_of store) calls) in
    let b = times_four i [] (both_uses names weaks) (store_left from store false) (call_uses last from (stays_of store) calls) in
    let d = store_times i from store in
    omega (arith, a, b, d)
    )) s
