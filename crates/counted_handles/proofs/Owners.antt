-- Owners that change places, or what they are, without a number gaining or losing one keep what the words show.
use Rattle.std.proofs.Common.{◌≡◌, ◌≢◌, refl, sym, ap, ◌∙◌, subst, ℕ, ◌+◌, inl, inr, List, [], ◌∷◌, ◌++◌, length, arith, Some, None}
use Rattle.std.specs.Prelude.{◌==◌, if◌then◌else◌}
use Rattle.std.specs.List.{slice_get, slice_set}
use Rattle.std.proofs.lemmas.Bool.Decides.{eqb_tells}
use Rattle.std.proofs.lemmas.Option.{slice_get_within}
use Rattle.cell_core.proofs.SeatLemmas.{set_cases, get_set_other, get_push_old, get_push_new, push_cases, held_push, held_set, weaks_push, weaks_set}
use Rattle.cell_core.proofs.FrameLemmas.{charged, table_as, seat_stays, charge_stays, charge_pushed}
use Rattle.cell_core.specs.Cell.{Cell}
use Rattle.cell_core.specs.Words.{State}
use Rattle.cell_core.specs.WordSteps.{with_owner, with_new_owner}
use Rattle.cell_core.specs.Shows.{Rest, Plan, InCharge, HasRest, OwnerIs, Shows, held, holds, weaks, has_weakly, kept_by, kept_by_cell, owned_by}
use Rattle.cell_core.specs.Shows.Rest.{fading, outlived, closing, closed}
use Rattle.cell_core.specs.declared.words.Owner.{Owner}
use Rattle.cell_core.specs.declared.words.Owner.TheVariants.{Holding, Twice, Weakly, Both, Burying, Fading, Resetting, Freeing, Spent}

-- other owners that have each number as often, weakly or not, with those that are to bury or in charge of a slot where they were
pub record SameOwners {T : Type 0} (state : State T) (cell : Cell T) (plan : Plan) (owners : List Owner) : Type 0 where
  pub held_as : (j : ℕ) → held owners j ≡ held state.owners j
  pub weak_as : (j : ℕ) → weaks owners j ≡ weaks state.owners j
  pub burying : (i slot : ℕ) → slice_get state.owners i ≡ Some (Burying slot) → slice_get owners i ≡ Some (Burying slot)
  pub charge : (slot : ℕ) (rest : Rest) → InCharge state.owners slot rest → InCharge owners slot rest
  pub owner_is : (i : ℕ) (how : Owner) → slice_get owners i ≡ Some how → OwnerIs cell plan i how

pub owners_as : {T : Type 0} (state : State T) (cell : Cell T) (owners : List Owner) (s : Shows state cell) → SameOwners state cell s.plan owners → Shows (record state { owners = owners }) cell
owners_as {T} state cell owners s same =
    let new : State T = record state { owners = owners } in
    record {
      plan = s.plan;
      numbers = s.numbers;
      given = record { latest = s.given.latest; given = s.given.given; granted = s.given.granted; noted = s.given.noted };
      counts = record {
        strong = λ j. s.counts.strong j ∙ ap (λ n. n + owned_by state.publisher j) (sym (same.held_as j));
        few = s.counts.few;
        few_of_last = s.counts.few_of_last;
        weak = λ j. s.counts.weak j ∙ sym (same.weak_as j);
        few_weak = s.counts.few_weak;
      };
      table = table_as state new cell cell s.plan s.plan s.numbers s.table refl (λ p. refl)
          (λ p there here. record {
            preparing = λ e. e;
            swapping = λ e. (e, refl);
            burying = λ zero k q. same.burying k p q;
            charge = λ rest c. same.charge p rest c;
            granted = omega arith;
            slot = λ j e l. e;
            buried = λ j e l u. u;
            gone = λ j u. u;
            published = λ j v q. q;
            shares = λ j e l. ap (λ n. n + kept_by_cell s.plan.last s.plan.given j + kept_by state.publisher j) (same.held_as j);
            weak = λ j e l. same.weak_as j;
          });
      owner_is = same.owner_is;
      publisher_is = s.publisher_is;
    }

-- an owner that isn't to bury, and isn't in charge of a slot
pub record Plain (how : Owner) : Type 0 where
  pub unburying : (slot : ℕ) → how ≡ Burying slot → ⊥
  pub uncharged : charged how ≡ None

not_charged : (how : Owner) (slot : ℕ) → charged how ≡ None → charged how ≡ Some slot → ⊥
not_charged how slot none some = let wrong : None ≡ Some slot = sym none ∙ some in cc

-- one owner has what two have
pub record Joint (one two both : Owner) : Type 0 where
  pub held_both : (j : ℕ) → holds j both ≡ holds j one + holds j two
  pub weak_both : (j : ℕ) → has_weakly j both ≡ has_weakly j one + has_weakly j two

-- who is in charge of a slot is no such owner that stands behind the others
charge_before : (owners : List Owner) (new : Owner) (slot : ℕ) (rest : Rest) → charged new ≡ None → InCharge (owners ++ new ∷ []) slot rest → InCharge owners slot rest
charge_before owners new slot (fading k) none c = elim (push_cases owners new (Fading slot) k c) [ inl old ↦ old | inr wrong ↦ absurd (not_charged new slot none (ap charged wrong)) ]
charge_before owners new slot outlived none c = c
charge_before owners new slot (closing k) none c = elim (push_cases owners new (Resetting slot) k c) [ inl old ↦ old | inr wrong ↦ absurd (not_charged new slot none (ap charged wrong)) ]
charge_before owners new slot (closed k) none c = elim (push_cases owners new (Freeing slot) k c) [ inl old ↦ old | inr wrong ↦ absurd (not_charged new slot none (ap charged wrong)) ]

-- an owner that stands behind the others is another's too
pub taken_up : {T : Type 0} (state : State T) (cell : Cell T) (i : ℕ) (one two both : Owner) → slice_get state.owners i ≡ Some one → Plain one → Plain two → Joint one two both → ((plan : Plan) (k : ℕ) → OwnerIs cell plan i one → OwnerIs cell plan k two → OwnerIs cell plan i both) → Shows (with_new_owner two state) cell → Shows (with_owner i both state) cell
taken_up {T} state cell i one two both at plain plain_too joint mine s =
    let more : State T = with_new_owner two state in
    let within = slice_get_within state.owners i one at in
    owners_as more cell (slice_set state.owners i both) s (record {
      held_as = λ j. let a = held_push state.owners two j in let b = held_set state.owners i one both j at in let c = joint.held_both j in omega (arith, a, b, c);
      weak_as = λ j. let a = weaks_push state.owners two j in let b = weaks_set state.owners i one both j at in let c = joint.weak_both j in omega (arith, a, b, c);
      burying = λ k slot q. elim (push_cases state.owners two (Burying slot) k q) [
        | inl old ↦ seat_stays state.owners i one both (Burying slot) at (plain.unburying slot) k old
        | inr wrong ↦ absurd (plain_too.unburying slot wrong)
      ];
      charge = λ slot rest c. charge_stays state.owners i one both slot at (not_charged one slot plain.uncharged) rest (charge_before state.owners two slot rest plain_too.uncharged c);
      owner_is = λ k how q. elim (set_cases state.owners i k both how within q) [
        | inl same ↦ subst (λ x. OwnerIs cell s.plan k x) same.1 (subst (λ x. OwnerIs cell s.plan x both) (sym same.0)
            (mine s.plan (length state.owners) (s.owner_is i one (get_push_old state.owners two one i at)) (s.owner_is (length state.owners) two (get_push_new state.owners two (length state.owners) refl))))
        | inr other ↦ s.owner_is k how (get_push_old state.owners two how k other.1)
      ];
    })

-- it stands at a spent one's place
pub seated : {T : Type 0} (state : State T) (cell : Cell T) (i number place : ℕ) → slice_get state.owners i ≡ Some Spent → Shows (with_new_owner (Holding number place) state) cell → Shows (with_owner i (Holding number place) state) cell
seated state cell i number place at s =
    taken_up state cell i Spent (Holding number place) (Holding number place) at
    (record { unburying = λ slot e. cc; uncharged = refl })
    (record { unburying = λ slot e. cc; uncharged = refl })
    (record { held_both = λ j. omega arith; weak_both = λ j. omega arith })
    (λ plan k before is. is)
    s

-- what an owner is that isn't in charge of a slot doesn't hang on its place
any_place : {T : Type 0} (cell : Cell T) (plan : Plan) (i k : ℕ) (how : Owner) → charged how ≡ None → OwnerIs cell plan i how → OwnerIs cell plan k how
any_place cell plan i k (Holding number place) none is = is
any_place cell plan i k (Twice number place) none is = is
any_place cell plan i k (Weakly number place) none is = is
any_place cell plan i k (Both number place) none is = is
any_place cell plan i k (Burying slot) none is = is
any_place cell plan i k (Fading slot) none is = absurd (let wrong = none in cc)
any_place cell plan i k (Resetting slot) none is = absurd (let wrong = none in cc)
any_place cell plan i k (Freeing slot) none is = absurd (let wrong = none in cc)
any_place cell plan i k Spent none is = is

-- an owner is parted in two, of which one goes to a new place behind the others
pub parted : {T : Type 0} (state : State T) (cell : Cell T) (i : ℕ) (both one two : Owner) → slice_get state.owners i ≡ Some both → Plain both → Joint one two both → ((plan : Plan) → OwnerIs cell plan i both → OwnerIs cell plan i one) → ((plan : Plan) (k : ℕ) → OwnerIs cell plan i both → OwnerIs cell plan k two) → Shows state cell → Shows (record state { owners = slice_set state.owners i one ++ two ∷ [] }) cell
parted {T} state cell i both one two at plain joint mine other_is s =
    let within = slice_get_within state.owners i both at in
    let left : List Owner = slice_set state.owners i one in
    owners_as state cell (left ++ two ∷ []) s (record {
      held_as = λ j. let a = held_push left two j in let b = held_set state.owners i both one j at in let c = joint.held_both j in omega (arith, a, b, c);
      weak_as = λ j. let a = weaks_push left two j in let b = weaks_set state.owners i both one j at in let c = joint.weak_both j in omega (arith, a, b, c);
      burying = λ k slot q. get_push_old left two (Burying slot) k (seat_stays state.owners i both one (Burying slot) at (plain.unburying slot) k q);
      charge = λ slot rest c. charge_pushed left two slot rest (charge_stays state.owners i both one slot at (not_charged both slot plain.uncharged) rest c);
      owner_is = λ k how q. elim (push_cases left two how k q) [
        | inl old ↦ elim (set_cases state.owners i k one how within old) [
          | inl same ↦ subst (λ x. OwnerIs cell s.plan k x) same.1 (subst (λ x. OwnerIs cell s.plan x one) (sym same.0) (mine s.plan (s.owner_is i both at)))
          | inr there ↦ s.owner_is k how there.1
        ]
        | inr new ↦ subst (λ x. OwnerIs cell s.plan k x) new (other_is s.plan k (s.owner_is i both at))
      ];
    })

-- an owner goes to a new place behind the others
pub passed : {T : Type 0} (state : State T) (cell : Cell T) (i : ℕ) (how : Owner) → slice_get state.owners i ≡ Some how → Plain how → Shows state cell → Shows (record state { owners = slice_set state.owners i Spent ++ how ∷ [] }) cell
passed state cell i how at plain s =
    parted state cell i how Spent how at plain (record { held_both = λ j. omega arith; weak_both = λ j. omega arith }) (λ plan is. tt) (λ plan k is. any_place cell plan i k how plain.uncharged is) s

-- the version of a slot that an owner is in charge of is buried
pub charged_rest : {T : Type 0} (cell : Cell T) (plan : Plan) (i slot : ℕ) (how : Owner) → charged how ≡ Some slot → OwnerIs cell plan i how → (rest : Rest) × HasRest plan slot rest
charged_rest cell plan i slot (Fading place) e is = let same : place ≡ slot = cc in (fading i, subst (λ p. HasRest plan p (fading i)) same is)
charged_rest cell plan i slot (Resetting place) e is = let same : place ≡ slot = cc in (closing i, subst (λ p. HasRest plan p (closing i)) same is)
charged_rest cell plan i slot (Freeing place) e is = let same : place ≡ slot = cc in (closed i, subst (λ p. HasRest plan p (closed i)) same is)
charged_rest cell plan i slot (Holding number place) e is = absurd (let wrong = e in cc)
charged_rest cell plan i slot (Twice number place) e is = absurd (let wrong = e in cc)
charged_rest cell plan i slot (Weakly number place) e is = absurd (let wrong = e in cc)
charged_rest cell plan i slot (Both number place) e is = absurd (let wrong = e in cc)
charged_rest cell plan i slot (Burying place) e is = absurd (let wrong = e in cc)
charged_rest cell plan i slot Spent e is = absurd (let wrong = e in cc)

-- what two owners have that one is parted in
pub record Parting (T : Type 0) (both one two : Owner) : Type 0 where
  pub plain : Plain both
  pub joint : Joint one two both
  pub one_is : (cell : Cell T) (plan : Plan) (i : ℕ) → OwnerIs cell plan i both → OwnerIs cell plan i one
  pub two_is : (cell : Cell T) (plan : Plan) (i k : ℕ) → OwnerIs cell plan i both → OwnerIs cell plan k two

-- an owner that goes on whole
pub passing : {T : Type 0} (both one two : Owner) → one ≡ Spent → two ≡ both → Plain both → Parting T both one two
passing {T} both one two spent same plain =
    subst (λ x. Parting T both x two) (sym spent) (subst (λ x. Parting T both Spent x) (sym same) (record {
      plain = plain;
      joint = record { held_both = λ j. omega arith; weak_both = λ j. omega arith };
      one_is = λ cell plan i is. tt;
      two_is = λ cell plan i k is. any_place cell plan i k both plain.uncharged is;
    }))

-- two shares are one and one
twice_held : (j number : ℕ) → (if j == number then 2 else 0) ≡ (if j == number then 1 else 0) + (if j == number then 1 else 0)
twice_held j number = elim (eqb_tells j number) [ inl same ↦ rw same.0 refl | inr other ↦ rw other.0 refl ]

pub joint_twice : (number place : ℕ) → Joint (Holding number place) (Holding number place) (Twice number place)
joint_twice number place = record { held_both = λ j. twice_held j number; weak_both = λ j. refl }

pub joint_both : (number place : ℕ) → Joint (Weakly number place) (Holding number place) (Both number place)
joint_both number place = record { held_both = λ j. omega arith; weak_both = λ j. omega arith }

pub joint_noted : (number place : ℕ) → Joint (Holding number place) (Weakly number place) (Both number place)
joint_noted number place = record { held_both = λ j. omega arith; weak_both = λ j. omega arith }

pub parting_twice : {T : Type 0} (number place : ℕ) → Parting T (Twice number place) (Holding number place) (Holding number place)
parting_twice number place =
    record {
      plain = record { unburying = λ slot e. cc; uncharged = refl };
      joint = joint_twice number place;
      one_is = λ cell plan i is. is;
      two_is = λ cell plan i k is. is;
    }

-- a weak owner and an owner of its version, parted
pub parting_both : {T : Type 0} (number place its where_at : ℕ) → its ≡ number → where_at ≡ place → Parting T (Both number place) (Weakly its where_at) (Holding number place)
parting_both {T} number place its where_at same here =
    subst (λ n. Parting T (Both number place) (Weakly n where_at) (Holding number place)) (sym same)
    (subst (λ p. Parting T (Both number place) (Weakly number p) (Holding number place)) (sym here) (record {
      plain = record { unburying = λ slot e. cc; uncharged = refl };
      joint = joint_both number place;
      one_is = λ cell plan i is. is.1;
      two_is = λ cell plan i k is. is.0;
    }))

pub parting_noted : {T : Type 0} (number place its where_at : ℕ) → its ≡ number → where_at ≡ place → Parting T (Both number place) (Holding number place) (Weakly its where_at)
parting_noted {T} number place its where_at same here =
    subst (λ n. Parting T (Both number place) (Holding number place) (Weakly n where_at)) (sym same)
    (subst (λ p. Parting T (Both number place) (Holding number place) (Weakly number p)) (sym here) (record {
      plain = record { unburying = λ slot e. cc; uncharged = refl };
      joint = joint_noted number place;
      one_is = λ cell plan i is. is.0;
      two_is = λ cell plan i k is. is.1;
    }))

-- an owner goes to a spent one's place, and is spent where it was
pub moved : {T : Type 0} (state : State T) (cell : Cell T) (a b : ℕ) (how : Owner) → slice_get state.owners a ≡ Some Spent → slice_get state.owners b ≡ Some how → b ≢ a → Plain how → Shows state cell → Shows (record state { owners = slice_set (slice_set state.owners a how) b Spent }) cell
moved {T} state cell a b how spent at apart plain s =
    let middle : List Owner = slice_set state.owners a how in
    let there : slice_get middle b ≡ Some how = get_set_other state.owners a b how apart ∙ at in
    owners_as state cell (slice_set middle b Spent) s (record {
      held_as = λ j. let one = held_set state.owners a Spent how j spent in let two = held_set middle b how Spent j there in omega (arith, one, two);
      weak_as = λ j. let one = weaks_set state.owners a Spent how j spent in let two = weaks_set middle b how Spent j there in omega (arith, one, two);
      burying = λ k slot q. seat_stays middle b how Spent (Burying slot) there (plain.unburying slot) k (seat_stays state.owners a Spent how (Burying slot) spent (λ e. cc) k q);
      charge = λ slot rest c. charge_stays middle b how Spent slot there (not_charged how slot plain.uncharged) rest (charge_stays state.owners a Spent how slot spent (λ e. cc) rest c);
      owner_is = λ k other q. elim (set_cases middle b k Spent other (slice_get_within middle b how there) q) [
        | inl same ↦ subst (λ x. OwnerIs cell s.plan k x) same.1 tt
        | inr else_where ↦ elim (set_cases state.owners a k how other (slice_get_within state.owners a Spent spent) else_where.1) [
          | inl here ↦ subst (λ x. OwnerIs cell s.plan k x) here.1 (any_place cell s.plan b k how plain.uncharged (s.owner_is b how at))
          | inr old ↦ s.owner_is k other old.1
        ]
      ];
    })
