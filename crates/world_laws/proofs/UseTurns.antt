-- Calls that begin, that go on and that end, by what is in hand.
use Rattle.std.proofs.Common.{◌≡◌, refl, sym, ap, ◌∙◌, subst, ℕ, ◌+◌, ◌≤◌, Bool, true, false, inl, inr, List, [], ◌∷◌, ◌++◌, arith, Some}
use Rattle.std.specs.Prelude.{◌||◌, bytes_eq}
use Rattle.std.proofs.lemmas.Bool.{cases_Bool}
use Rattle.std.proofs.lemmas.Slice.Eq.{bytes_eq-Decides}
use Rattle.cell_core.proofs.CountLemmas.{one_if}
use Rattle.cell_core.specs.declared.words.Owner.{Owner}
use Rattle.world_run.specs.declared.phase.Progress.TheVariants.{On}
use Rattle.world_run.specs.declared.names.Named.{Named}
use Rattle.world_run.specs.declared.calls.UnderWay.{UnderWay}
use Rattle.world_run.specs.Phases.{reserves, reserves_weakly, updates}
use Rattle.world_run.specs.World.{call_of, without_call}
use Rattle.world_laws.proofs.OtherCalls.{any_update, AtMostOne}
use Rattle.world_laws.proofs.UseLemmas.{Use, AllFit, InUse, times, times_append, fit_append, fit_front, fit_back, in_use_as}
use Rattle.world_laws.proofs.UseLists.{Zones, Stays, phase_uses, StaysIn, swapped_in, publishes_in}
use Rattle.world_laws.proofs.UseWorld.{Store, stays_of, both_uses, store_left, call_uses, AllStay, swaps_of, any_publishes, reserved_by, weak_reserved_by, called, rest_uses, Open, nothing_apart}

-- four lists of those in hand, one behind the other
pub times_four : (i : ℕ) (a b c d : List Use) → times i (a ++ (b ++ (c ++ d))) ≡ times i a + (times i b + (times i c + times i d))
times_four i a b c d = let x = times_append i a (b ++ (c ++ d)) in let y = times_append i b (c ++ d) in let z = times_append i c d in omega (arith, x, y, z)

pub fit_four : (owners : List Owner) (a b c d : List Use) → AllFit owners a → AllFit owners b → AllFit owners c → AllFit owners d → AllFit owners (a ++ (b ++ (c ++ d)))
fit_four owners a b c d f g h k = fit_append owners a (b ++ (c ++ d)) f (fit_append owners b (c ++ d) g (fit_append owners c d h k))

pub fits_four : (owners : List Owner) (a b c d : List Use) → AllFit owners (a ++ (b ++ (c ++ d))) → AllFit owners a × AllFit owners b × AllFit owners c × AllFit owners d
fits_four owners a b c d f =
    let g = fit_back owners a (b ++ (c ++ d)) f in
    let h = fit_back owners b (c ++ d) g in
    (fit_front owners a (b ++ (c ++ d)) f, fit_front owners b (c ++ d) g, fit_front owners c d h, fit_back owners c d h)

-- a call among others
call_times : (i last from : ℕ) (stays : Stays) (front back : List UnderWay) (c : UnderWay) → times i (call_uses last from stays (front ++ c ∷ back)) ≡ times i (phase_uses last from stays c.phase) + times i (call_uses last from stays (front ++ back))
call_times i last from stays [] back c = times_append i (phase_uses last from stays c.phase) (call_uses last from stays back)
call_times i last from stays (x ∷ front) back c =
    let more = call_times i last from stays front back c in
    let one = times_append i (phase_uses last from stays x.phase) (call_uses last from stays (front ++ c ∷ back)) in
    let two = times_append i (phase_uses last from stays x.phase) (call_uses last from stays (front ++ back)) in
    omega (arith, more, one, two)

call_fits : (owners : List Owner) (last from : ℕ) (stays : Stays) (front back : List UnderWay) (c : UnderWay) → AllFit owners (call_uses last from stays (front ++ c ∷ back)) → AllFit owners (phase_uses last from stays c.phase) × AllFit owners (call_uses last from stays (front ++ back))
call_fits owners last from stays [] back c f = (fit_front owners (phase_uses last from stays c.phase) (call_uses last from stays back) f, fit_back owners (phase_uses last from stays c.phase) (call_uses last from stays back) f)
call_fits owners last from stays (x ∷ front) back c f =
    let more = call_fits owners last from stays front back c (fit_back owners (phase_uses last from stays x.phase) (call_uses last from stays (front ++ c ∷ back)) f) in
    (more.0, fit_append owners (phase_uses last from stays x.phase) (call_uses last from stays (front ++ back)) (fit_front owners (phase_uses last from stays x.phase) (call_uses last from stays (front ++ c ∷ back)) f) more.1)

calls_fit : (owners : List Owner) (last from : ℕ) (stays : Stays) (front back : List UnderWay) (c : UnderWay) → AllFit owners (phase_uses last from stays c.phase) → AllFit owners (call_uses last from stays (front ++ back)) → AllFit owners (call_uses last from stays (front ++ c ∷ back))
calls_fit owners last from stays [] back c f g = fit_append owners (phase_uses last from stays c.phase) (call_uses last from stays back) f g
calls_fit owners last from stays (x ∷ front) back c f g =
    fit_append owners (phase_uses last from stays x.phase) (call_uses last from stays (front ++ c ∷ back)) (fit_front owners (phase_uses last from stays x.phase) (call_uses last from stays (front ++ back)) g)
    (calls_fit owners last from stays front back c f (fit_back owners (phase_uses last from stays x.phase) (call_uses last from stays (front ++ back)) g))

swaps_split : (front back : List UnderWay) (c : UnderWay) → swaps_of (front ++ c ∷ back) ≡ swapped_in c.phase + swaps_of (front ++ back)
swaps_split [] back c = refl
swaps_split (x ∷ front) back c = let more = swaps_split front back c in omega (arith, more)

reserved_split : (name : List ℕ) (front back : List UnderWay) (c : UnderWay) → reserved_by name (front ++ c ∷ back) ≡ one_if (reserves name c.phase) + reserved_by name (front ++ back)
reserved_split name [] back c = refl
reserved_split name (x ∷ front) back c = let more = reserved_split name front back c in omega (arith, more)

weak_reserved_split : (name : List ℕ) (front back : List UnderWay) (c : UnderWay) → weak_reserved_by name (front ++ c ∷ back) ≡ one_if (reserves_weakly name c.phase) + weak_reserved_by name (front ++ back)
weak_reserved_split name [] back c = refl
weak_reserved_split name (x ∷ front) back c = let more = weak_reserved_split name front back c in omega (arith, more)

called_split : (name : List ℕ) (front back : List UnderWay) (c : UnderWay) → called name (front ++ c ∷ back) ≡ one_if (bytes_eq c.name name) + called name (front ++ back)
called_split name [] back c = refl
called_split name (x ∷ front) back c = let more = called_split name front back c in omega (arith, more)

or_swap : (a b c : Bool) → (a || (b || c)) ≡ (b || (a || c))
or_swap true true c = refl
or_swap true false c = refl
or_swap false true c = refl
or_swap false false c = refl

or_false : (a b : Bool) → (a || b) ≡ false → (a ≡ false) × (b ≡ false)
or_false true b e = absurd (let wrong = e in cc)
or_false false b e = (refl, e)

any_split : (front back : List UnderWay) (c : UnderWay) → any_update (front ++ c ∷ back) ≡ (updates c.phase || any_update (front ++ back))
any_split [] back c = refl
any_split (x ∷ front) back c = ap (λ b. updates x.phase || b) (any_split front back c) ∙ or_swap (updates x.phase) (updates c.phase) (any_update (front ++ back))

publishes_split : (front back : List UnderWay) (c : UnderWay) → any_publishes (front ++ c ∷ back) ≡ (publishes_in c.phase || any_publishes (front ++ back))
publishes_split [] back c = refl
publishes_split (x ∷ front) back c = ap (λ b. publishes_in x.phase || b) (publishes_split front back c) ∙ or_swap (publishes_in x.phase) (publishes_in c.phase) (any_publishes (front ++ back))

stays_split : (stays : Stays) (front back : List UnderWay) (c : UnderWay) → AllStay stays (front ++ c ∷ back) → StaysIn stays c.phase × AllStay stays (front ++ back)
stays_split stays [] back c all = all
stays_split stays (x ∷ front) back c all = let more = stays_split stays front back c all.1 in (more.0, (all.0, more.1))

stays_join : (stays : Stays) (front back : List UnderWay) (c : UnderWay) → StaysIn stays c.phase → AllStay stays (front ++ back) → AllStay stays (front ++ c ∷ back)
stays_join stays [] back c it all = (it, all)
stays_join stays (x ∷ front) back c it all = (all.0, stays_join stays front back c it all.1)

not_both : (a : Bool) → a ≡ true → a ≡ false → ⊥
not_both a t f = let wrong : true ≡ false = sym t ∙ f in cc

one_split : (front back : List UnderWay) (c : UnderWay) → AtMostOne (front ++ c ∷ back) → AtMostOne (front ++ back) × (updates c.phase ≡ true → any_update (front ++ back) ≡ false)
one_split [] back c one = (one.1, one.0)
one_split (x ∷ front) back c one =
    let more = one_split front back c one.1 in
    let whole = any_split front back c in (
      ((λ t. (or_false (updates c.phase) (any_update (front ++ back)) (sym whole ∙ one.0 t)).1), more.0),
      (λ t. elim (cases_Bool (updates x.phase)) [
        | inl both ↦ absurd (not_both (updates c.phase) t (or_false (updates c.phase) (any_update (front ++ back)) (sym whole ∙ one.0 both)).0)
        | inr none ↦ rw none (more.1 t)
      ]),
    )

one_join : (front back : List UnderWay) (c : UnderWay) → AtMostOne (front ++ back) → (updates c.phase ≡ true → any_update (front ++ back) ≡ false) → AtMostOne (front ++ c ∷ back)
one_join [] back c one alone = (alone, one)
one_join (x ∷ front) back c one alone =
    let whole = any_split front back c in (
      (λ t. elim (cases_Bool (updates c.phase)) [
        | inl both ↦ absurd (not_both (updates x.phase) t (or_false (updates x.phase) (any_update (front ++ back)) (alone both)).0)
        | inr none ↦ whole ∙ rw none (one.0 t)
      ]),
      one_join front back c one.1 (λ t. (or_false (updates x.phase) (any_update (front ++ back)) (alone t)).1),
    )

-- a call is taken out from among the others
pub taken_out : (words : Zones) (names weaks : List Named) (store : Store) (front back : List UnderWay) (c : UnderWay) → Open words names weaks store (front ++ c ∷ back) nothing_apart → Open words names weaks store (front ++ back) (On c.phase)
taken_out words names weaks store front back c o =
    let flag = any_split front back c in
    let kept_ones = store_left o.from store (any_update (front ++ c ∷ back)) in
    let all = fits_four words.owners [] (both_uses names weaks) kept_ones (call_uses o.last o.from (stays_of store) (front ++ c ∷ back)) o.in_use.fit in
    let parts = call_fits words.owners o.last o.from (stays_of store) front back c all.3 in
    let one = one_split front back c o.one in
    let olds = stays_split (stays_of store) front back c o.stills in
    let s : InUse words.owners (phase_uses o.last o.from (stays_of store) c.phase ++ rest_uses o.last o.from names weaks store (front ++ back) (any_update (front ++ c ∷ back))) =
    in_use_as words.owners _ (phase_uses o.last o.from (stays_of store) c.phase ++ rest_uses o.last o.from names weaks store (front ++ back) (any_update (front ++ c ∷ back)))
    (fit_four words.owners (phase_uses o.last o.from (stays_of store) c.phase) (both_uses names weaks) kept_ones (call_uses o.last o.from (stays_of store) (front ++ back)) parts.0 all.1 all.2 parts.1)
    (λ i. (
    let a = times_four i (phase_uses o.last o.from (stays_of store) c.phase) (both_uses names weaks) kept_ones (call_uses o.last o.from (stays_of store) (front ++ back)) in
    let b = times_four i [] (both_uses names weaks) kept_ones (call_uses o.last o.from (stays_of store) (front ++ c ∷ back)) in
    let d = call_times i o.last o.from (stays_of store) front back c in
    omega (arith, a, b, d)
    )) o.in_use in
    let swaps = swaps_split front back c in
    record {
      cell = o.cell;
      shows = o.shows;
      last = o.last;
      from = o.from;
      settled = o.settled;
      counted = o.counted;
      swapped = omega (arith, swaps, o.swapped);
      kept_count = o.kept_count;
      kept_from = o.kept_from;
      shut = o.shut;
      alone = one.1;
      one = one.0;
      still = olds.0;
      stills = olds.1;
      in_use = subst (λ b. InUse words.owners (phase_uses o.last o.from (stays_of store) c.phase ++ rest_uses o.last o.from names weaks store (front ++ back) b)) flag s;
      publisher = λ e f. o.publisher refl (publishes_split front back c ∙ rw e f);
      names_once = λ name. (let n = o.names_once name in let r = reserved_split name front back c in omega (arith, n, r));
      weak_once = λ name. (let n = o.weak_once name in let r = weak_reserved_split name front back c in omega (arith, n, r));
      calls_once = λ name. (let n = o.calls_once name in let r = called_split name front back c in omega (arith, n, r));
    }

-- and put back
pub put_back : (words : Zones) (names weaks : List Named) (store : Store) (front back : List UnderWay) (c : UnderWay) → called c.name (front ++ back) ≡ 0 → Open words names weaks store (front ++ back) (On c.phase) → Open words names weaks store (front ++ c ∷ back) nothing_apart
put_back words names weaks store front back c none o =
    let flag = any_split front back c in
    let kept_ones = store_left o.from store (updates c.phase || any_update (front ++ back)) in
    let all = fits_four words.owners (phase_uses o.last o.from (stays_of store) c.phase) (both_uses names weaks) kept_ones (call_uses o.last o.from (stays_of store) (front ++ back)) o.in_use.fit in
    let s : InUse words.owners (rest_uses o.last o.from names weaks store (front ++ c ∷ back) (updates c.phase || any_update (front ++ back))) =
    in_use_as words.owners _ (rest_uses o.last o.from names weaks store (front ++ c ∷ back) (updates c.phase || any_update (front ++ back)))
    (fit_four words.owners [] (both_uses names weaks) kept_ones (call_uses o.last o.from (stays_of store) (front ++ c ∷ back)) tt all.1 all.2 (calls_fit words.owners o.last o.from (stays_of store) front back c all.0 all.3))
    (λ i. (
    let a = times_four i (phase_uses o.last o.from (stays_of store) c.phase) (both_uses names weaks) kept_ones (call_uses o.last o.from (stays_of store) (front ++ back)) in
    let b = times_four i [] (both_uses names weaks) kept_ones (call_uses o.last o.from (stays_of store) (front ++ c ∷ back)) in
    let d = call_times i o.last o.from (stays_of store) front back c in
    omega (arith, a, b, d)
    )) o.in_use in
    let swaps = swaps_split front back c in
    record {
      cell = o.cell;
      shows = o.shows;
      last = o.last;
      from = o.from;
      settled = o.settled;
      counted = o.counted;
      swapped = omega (arith, swaps, o.swapped);
      kept_count = o.kept_count;
      kept_from = o.kept_from;
      shut = o.shut;
      alone = λ e. absurd (let wrong = e in cc);
      one = one_join front back c o.one o.alone;
      still = tt;
      stills = stays_join (stays_of store) front back c o.still o.stills;
      in_use = subst (λ b. InUse words.owners (rest_uses o.last o.from names weaks store (front ++ c ∷ back) b)) (sym flag) s;
      publisher = λ e f. (let parts = or_false (publishes_in c.phase) (any_publishes (front ++ back)) (sym (publishes_split front back c) ∙ f) in o.publisher parts.0 parts.1);
      names_once = λ name. (let n = o.names_once name in let r = reserved_split name front back c in omega (arith, n, r));
      weak_once = λ name. (let n = o.weak_once name in let r = weak_reserved_split name front back c in omega (arith, n, r));
      calls_once = λ name. (
          let n = o.calls_once name in
          let r = called_split name front back c in
          elim (cases_Bool (bytes_eq c.name name)) [
            | inl same ↦ (
                let e : c.name ≡ name = (bytes_eq-Decides c.name name).0 same in
                let f : called name (front ++ back) ≡ 0 = ap (λ n. called n (front ++ back)) (sym e) ∙ none in
                let g : one_if (bytes_eq c.name name) ≡ 1 = rw same refl in
                omega (arith, r, f, g)
                )
            | inr other ↦ (let g : one_if (bytes_eq c.name name) ≡ 0 = rw other refl in omega (arith, n, r, g))
          ]
          );
    }

-- the call under way of a name, among the others
pub record Among (name : List ℕ) (calls : List UnderWay) (c : UnderWay) : Type 0 where
  pub front : List UnderWay
  pub back : List UnderWay
  pub whole : calls ≡ front ++ c ∷ back
  pub rest : without_call name calls ≡ front ++ back
  pub none : called name (front ++ back) ≡ 0

none_called : (name : List ℕ) (calls : List UnderWay) → called name calls ≡ 0 → without_call name calls ≡ calls
none_called name [] e = refl
none_called name (x ∷ calls) e =
    elim (cases_Bool (bytes_eq x.name name)) [
      | inl same ↦ (let g : one_if (bytes_eq x.name name) ≡ 1 = rw same refl in absurd (omega (arith, e, g)))
      | inr other ↦ rw other (ap (λ cs. x ∷ cs) (none_called name calls (omega (arith, e))))
    ]

without_other : (name : List ℕ) (x : UnderWay) (calls rest : List UnderWay) → bytes_eq x.name name ≡ false → without_call name calls ≡ rest → without_call name (x ∷ calls) ≡ x ∷ rest
without_other name x calls rest other e = rw other (ap (λ cs. x ∷ cs) e)

without_this : (name : List ℕ) (x : UnderWay) (calls rest : List UnderWay) → bytes_eq x.name name ≡ true → without_call name calls ≡ rest → without_call name (x ∷ calls) ≡ rest
without_this name x calls rest same e = rw same e

pub among : (name : List ℕ) (calls : List UnderWay) (c : UnderWay) → called name calls ≤ 1 → call_of name calls ≡ Some c → Among name calls c
among name [] c few e = absurd (let wrong = e in cc)
among name (x ∷ calls) c few e =
    elim (cases_Bool (bytes_eq x.name name)) [
      | inl same ↦ (
          let found = rw same at e in
          let it : x ≡ c = (let f = found in cc) in
          let g : one_if (bytes_eq x.name name) ≡ 1 = rw same refl in
          let none : called name calls ≡ 0 = omega (arith, few, g) in
          record { front = []; back = calls; whole = ap (λ y. y ∷ calls) it; rest = without_this name x calls calls same (none_called name calls none); none = none }
          )
      | inr other ↦ (
          let g : one_if (bytes_eq x.name name) ≡ 0 = rw other refl in
          let more = among name calls c (omega (arith, few, g)) (rw other at e) in
          record {
            front = x ∷ more.front;
            back = more.back;
            whole = ap (λ cs. x ∷ cs) more.whole;
            rest = without_other name x calls (more.front ++ more.back) other more.rest;
            none = (let n = more.none in omega (arith, n, g));
          }
          )
    ]
