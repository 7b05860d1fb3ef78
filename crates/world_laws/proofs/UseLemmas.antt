-- Who has the owners in hand that aren't spent: each is in one place.
use Rattle.std.proofs.Common.{◌≡◌, ◌≢◌, refl, sym, ap, ◌∙◌, subst, ℕ, zero, suc, ◌+◌, ◌<◌, inl, inr, List, [], ◌∷◌, ◌++◌, length, arith, Option, Some, None}
use Rattle.std.specs.Prelude.{◌==◌}
use Rattle.std.specs.List.{slice_get, slice_set}
use Rattle.std.proofs.lemmas.Bool.Decides.{eqb_tells}
use Rattle.std.proofs.lemmas.Option.{slice_get_within}
use Rattle.cell_core.proofs.CountLemmas.{one_if}
use Rattle.cell_core.proofs.SeatLemmas.{get_set_same, get_set_other, get_push_old, get_push_new}
use Rattle.cell_core.specs.declared.words.Owner.{Owner}
use Rattle.cell_core.specs.declared.words.Owner.TheVariants.{Holding, Twice, Weakly, Both, Burying, Fading, Resetting, Freeing, Spent}

-- what an owner in hand is: it holds a version, or that of a number; it has one weakly, or, so many in front of a total, that of the number which is
-- said; it is to bury, to fade, to reset, or to free
pub data UseKind : Type 0 where
  holds : UseKind
  has : ℕ → UseKind
  weakly : UseKind
  notes : ℕ → ℕ → ℕ → UseKind
  buries : UseKind
  fades : UseKind
  resets : UseKind
  frees : UseKind

pub record Use : Type 0 where
  pub owner : ℕ
  pub use_kind : UseKind

abbrev pub IsOfKind : List Owner → ℕ → UseKind → Type 0
IsOfKind owners owner holds = (number : ℕ) × (place : ℕ) × (slice_get owners owner ≡ Some (Holding number place))
IsOfKind owners owner (has number) = (place : ℕ) × (slice_get owners owner ≡ Some (Holding number place))
IsOfKind owners owner buries = (place : ℕ) × (slice_get owners owner ≡ Some (Burying place))
IsOfKind owners owner weakly = (number : ℕ) × (place : ℕ) × (slice_get owners owner ≡ Some (Weakly number place))
IsOfKind owners owner (notes said behind total) = (said + behind ≡ total) × (place : ℕ) × (slice_get owners owner ≡ Some (Weakly said place))
IsOfKind owners owner fades = (place : ℕ) × (slice_get owners owner ≡ Some (Fading place))
IsOfKind owners owner resets = (place : ℕ) × (slice_get owners owner ≡ Some (Resetting place))
IsOfKind owners owner frees = (place : ℕ) × (slice_get owners owner ≡ Some (Freeing place))

abbrev pub AllFit : List Owner → List Use → Type 0
AllFit owners [] = Unit {0}
AllFit owners (s ∷ ss) = IsOfKind owners s.owner s.use_kind × AllFit owners ss

-- how often an owner is in hand
abbrev pub times : ℕ → List Use → ℕ
times i [] = 0
times i (s ∷ ss) = one_if (s.owner == i) + times i ss

-- an owner that isn't spent counts
abbrev pub lives : Option Owner → ℕ
lives None = 0
lives (Some (Holding number place)) = 1
lives (Some (Burying place)) = 1
lives (Some (Twice number place)) = 1
lives (Some (Weakly number place)) = 1
lives (Some (Both number place)) = 1
lives (Some (Fading place)) = 1
lives (Some (Resetting place)) = 1
lives (Some (Freeing place)) = 1
lives (Some Spent) = 0

-- those in hand are what they are said to be, and each owner that isn't spent is in hand once
pub record InUse (owners : List Owner) (ss : List Use) : Type 0 where
  pub fit : AllFit owners ss
  pub exact : (i : ℕ) → times i ss ≡ lives (slice_get owners i)

pub times_append : (i : ℕ) (a b : List Use) → times i (a ++ b) ≡ times i a + times i b
times_append i [] b = omega arith
times_append i (s ∷ a) b = let more = times_append i a b in omega (arith, more)

pub fit_append : (owners : List Owner) (a b : List Use) → AllFit owners a → AllFit owners b → AllFit owners (a ++ b)
fit_append owners [] b f g = g
fit_append owners (s ∷ a) b f g = (f.0, fit_append owners a b f.1 g)

pub fit_front : (owners : List Owner) (a b : List Use) → AllFit owners (a ++ b) → AllFit owners a
fit_front owners [] b f = tt
fit_front owners (s ∷ a) b f = (f.0, fit_front owners a b f.1)

pub fit_back : (owners : List Owner) (a b : List Use) → AllFit owners (a ++ b) → AllFit owners b
fit_back owners [] b f = f
fit_back owners (s ∷ a) b f = fit_back owners a b f.1

-- the same ones in another order
pub in_use_as : (owners : List Owner) (a b : List Use) → AllFit owners b → ((i : ℕ) → times i b ≡ times i a) → InUse owners a → InUse owners b
in_use_as owners a b fit same s = record { fit = fit; exact = λ i. same i ∙ s.exact i }

-- an owner with the same place in the words is the same
kind_still : (old new : List Owner) (owner : ℕ) (use_kind : UseKind) → ((how : Owner) → slice_get old owner ≡ Some how → slice_get new owner ≡ Some how) → IsOfKind old owner use_kind → IsOfKind new owner use_kind
kind_still old new owner holds same h = (h.0, h.1, same (Holding h.0 h.1) h.2)
kind_still old new owner (has number) same h = (h.0, same (Holding number h.0) h.1)
kind_still old new owner buries same h = (h.0, same (Burying h.0) h.1)
kind_still old new owner weakly same h = (h.0, h.1, same (Weakly h.0 h.1) h.2)
kind_still old new owner (notes said behind total) same h = (h.0, h.1, same (Weakly said h.1) h.2)
kind_still old new owner fades same h = (h.0, same (Fading h.0) h.1)
kind_still old new owner resets same h = (h.0, same (Resetting h.0) h.1)
kind_still old new owner frees same h = (h.0, same (Freeing h.0) h.1)

self_equal : (i : ℕ) → one_if (i == i) ≡ 1
self_equal i = elim (eqb_tells i i) [ inl same ↦ rw same.0 refl | inr other ↦ absurd (other.1 refl) ]

pub other_equal : (i j : ℕ) → i ≢ j → one_if (i == j) ≡ 0
other_equal i j apart = elim (eqb_tells i j) [ inl same ↦ absurd (apart same.1) | inr other ↦ rw other.0 refl ]

pub fit_still : (old new : List Owner) (ss : List Use) → ((i : ℕ) (how : Owner) → 0 < times i ss → slice_get old i ≡ Some how → slice_get new i ≡ Some how) → AllFit old ss → AllFit new ss
fit_still old new [] same f = tt
fit_still old new (s ∷ ss) same f =
    let one = self_equal s.owner in
    (kind_still old new s.owner s.use_kind (λ how at. same s.owner how (omega (arith, one)) at) f.0, fit_still old new ss (λ i how some at. same i how (omega (arith, some)) at) f.1)

-- one owner more, which isn't spent
lives_push : (owners : List Owner) (how : Owner) (i : ℕ) → lives (Some how) ≡ 1 → lives (slice_get (owners ++ how ∷ []) i) ≡ one_if (length owners == i) + lives (slice_get owners i)
lives_push [] how zero one = omega (arith, one)
lives_push [] how (suc i) one = let none = other_equal 0 (suc i) (λ e. absurd (omega (arith, e))) in omega (arith, none)
lives_push (o ∷ owners) how zero one = let none = other_equal (length (o ∷ owners)) 0 (λ e. absurd (omega (arith, e))) in omega (arith, none)
lives_push (o ∷ owners) how (suc i) one =
    let more = lives_push owners how i one in
    let same : one_if (length (o ∷ owners) == suc i) ≡ one_if (length owners == i) = elim (eqb_tells (length owners) i) [
      | inl is ↦ (let one = self_equal (suc i) in let e : length (o ∷ owners) ≡ suc i = omega (arith, is.1) in rw (e, is.0) one)
      | inr isnt ↦ (let none = other_equal (length (o ∷ owners)) (suc i) (λ e. isnt.1 (omega (arith, e))) in rw isnt.0 none)
    ] in
    omega (arith, more, same)

pub in_use_with : (old new : List Owner) (more : Owner) (ss : List Use) (use_kind : UseKind) → lives (Some more) ≡ 1 → new ≡ old ++ more ∷ [] → IsOfKind new (length old) use_kind → InUse old ss → InUse new (record { owner = length old; use_kind = use_kind } ∷ ss)
in_use_with old new more ss use_kind one is here s = record {
  fit = (here, fit_still old new ss (λ i how some at. ap (λ (o : List Owner). slice_get o i) is ∙ get_push_old old more how i at) s.fit);
  exact = λ i. (
      let there = lives_push old more i one in
      let before = s.exact i in
      let e : lives (slice_get new i) ≡ lives (slice_get (old ++ more ∷ []) i) = ap (λ (o : List Owner). lives (slice_get o i)) is in
      omega (arith, there, before, e)
      );
}

pub in_use_push : (old new : List Owner) (number place : ℕ) (ss : List Use) (use_kind : UseKind) → new ≡ old ++ Holding number place ∷ [] → IsOfKind new (length old) use_kind → InUse old ss → InUse new (record { owner = length old; use_kind = use_kind } ∷ ss)
in_use_push old new number place ss use_kind is here s = in_use_with old new (Holding number place) ss use_kind refl is here s

pub push_there : (old new : List Owner) (number place : ℕ) → new ≡ old ++ Holding number place ∷ [] → slice_get new (length old) ≡ Some (Holding number place)
push_there old new number place is = ap (λ (o : List Owner). slice_get o (length old)) is ∙ get_push_new old (Holding number place) (length old) refl

-- an owner that has come further: it is in nobody else's hand
rest_apart : (owners : List Owner) (owner : ℕ) (use_kind : UseKind) (ss : List Use) (how : Owner) → lives (Some how) ≡ 1 → slice_get owners owner ≡ Some how → InUse owners (record { owner = owner; use_kind = use_kind } ∷ ss) → times owner ss ≡ 0
rest_apart owners owner use_kind ss how one at s =
    let all = s.exact owner in
    let mine = self_equal owner in
    let e : lives (slice_get owners owner) ≡ 1 = ap lives at ∙ one in
    omega (arith, all, mine, e)

rest_fits : (old new : List Owner) (owner : ℕ) (use_kind : UseKind) (ss : List Use) (how next : Owner) → lives (Some how) ≡ 1 → slice_get old owner ≡ Some how → new ≡ slice_set old owner next → InUse old (record { owner = owner; use_kind = use_kind } ∷ ss) → AllFit new ss
rest_fits old new owner use_kind ss how next one at is s =
    let none = rest_apart old owner use_kind ss how one at s in
    fit_still old new ss (λ i other some there. (
    let apart : i ≢ owner = λ e. (let f : times owner ss ≡ times i ss = ap (λ j. times j ss) (sym e) in absurd (omega (arith, f, none, some))) in
    ap (λ (o : List Owner). slice_get o i) is ∙ (get_set_other old owner i next apart ∙ there)
    )) s.fit.1

-- behind its step it isn't in hand any more
pub in_use_spent : (old new : List Owner) (owner : ℕ) (use_kind : UseKind) (ss : List Use) (how : Owner) → lives (Some how) ≡ 1 → slice_get old owner ≡ Some how → new ≡ slice_set old owner Spent → InUse old (record { owner = owner; use_kind = use_kind } ∷ ss) → InUse new ss
in_use_spent old new owner use_kind ss how one at is s = record {
  fit = rest_fits old new owner use_kind ss how Spent one at is s;
  exact = λ i. elim (eqb_tells owner i) [
    | inl same ↦ (
        let none = rest_apart old owner use_kind ss how one at s in
        let f : times i ss ≡ times owner ss = ap (λ j. times j ss) (sym same.1) in
        let there : slice_get new i ≡ Some Spent = ap (λ (o : List Owner). slice_get o i) is ∙ (ap (slice_get (slice_set old owner Spent)) (sym same.1) ∙ get_set_same old owner Spent (slice_get_within old owner how at)) in
        let e : lives (slice_get new i) ≡ 0 = ap lives there in
        omega (arith, none, f, e)
        )
    | inr other ↦ (
        let all = s.exact i in
        let mine = other_equal owner i other.1 in
        let there : slice_get new i ≡ slice_get old i = ap (λ (o : List Owner). slice_get o i) is ∙ get_set_other old owner i Spent (λ e. other.1 (sym e)) in
        let e : lives (slice_get new i) ≡ lives (slice_get old i) = ap lives there in
        omega (arith, all, mine, e)
        )
  ];
}

-- or it is there as what it is then
pub in_use_next : (old new : List Owner) (owner : ℕ) (use_kind later : UseKind) (ss : List Use) (how next : Owner) → lives (Some how) ≡ 1 → lives (Some next) ≡ 1 → slice_get old owner ≡ Some how → new ≡ slice_set old owner next → (slice_get new owner ≡ Some next → IsOfKind new owner later)
    → InUse old (record { owner = owner; use_kind = use_kind } ∷ ss) → InUse new (record { owner = owner; use_kind = later } ∷ ss)
in_use_next old new owner use_kind later ss how next one two at is then s =
    let here : slice_get new owner ≡ Some next = ap (λ (o : List Owner). slice_get o owner) is ∙ get_set_same old owner next (slice_get_within old owner how at) in
    record {
      fit = (then here, rest_fits old new owner use_kind ss how next one at is s);
      exact = λ i. (
          let all = s.exact i in
          elim (eqb_tells owner i) [
            | inl same ↦ (
                let e : lives (slice_get new i) ≡ 1 = ap (λ j. lives (slice_get new j)) (sym same.1) ∙ (ap lives here ∙ two) in
                let f : lives (slice_get old i) ≡ 1 = ap (λ j. lives (slice_get old j)) (sym same.1) ∙ (ap lives at ∙ one) in
                omega (arith, all, e, f)
                )
            | inr other ↦ (
                let there : slice_get new i ≡ slice_get old i = ap (λ (o : List Owner). slice_get o i) is ∙ get_set_other old owner i next (λ e. other.1 (sym e)) in
                let e : lives (slice_get new i) ≡ lives (slice_get old i) = ap lives there in
                omega (arith, all, e)
                )
          ]
          );
    }

-- the first two of those in hand the other way round
pub in_use_swap : (owners : List Owner) (a b : Use) (ss : List Use) → InUse owners (a ∷ b ∷ ss) → InUse owners (b ∷ a ∷ ss)
in_use_swap owners a b ss s = record { fit = (s.fit.1.0, (s.fit.0, s.fit.1.1)); exact = λ i. (let all = s.exact i in omega (arith, all)) }

-- one of those in hand goes in front of others, and back
moved_times : (i : ℕ) (front : List Use) (x : Use) (back rest : List Use) → times i ((front ++ (x ∷ back)) ++ rest) ≡ times i (((x ∷ front) ++ back) ++ rest)
moved_times i [] x back rest = refl
moved_times i (s ∷ front) x back rest = let more = moved_times i front x back rest in omega (arith, more)

moved_fits : (owners : List Owner) (front : List Use) (x : Use) (back rest : List Use) → AllFit owners ((front ++ (x ∷ back)) ++ rest) → AllFit owners (((x ∷ front) ++ back) ++ rest)
moved_fits owners [] x back rest f = f
moved_fits owners (s ∷ front) x back rest f = let more = moved_fits owners front x back rest f.1 in (more.0, (f.0, more.1))

put_fits : (owners : List Owner) (front : List Use) (x : Use) (back rest : List Use) → AllFit owners (((x ∷ front) ++ back) ++ rest) → AllFit owners ((front ++ (x ∷ back)) ++ rest)
put_fits owners [] x back rest f = f
put_fits owners (s ∷ front) x back rest f = (f.1.0, put_fits owners front x back rest (f.0, f.1.1))

pub in_use_moved : (owners : List Owner) (front : List Use) (x : Use) (back rest : List Use) → InUse owners ((front ++ (x ∷ back)) ++ rest) → InUse owners (((x ∷ front) ++ back) ++ rest)
in_use_moved owners front x back rest s = in_use_as owners ((front ++ (x ∷ back)) ++ rest) (((x ∷ front) ++ back) ++ rest) (moved_fits owners front x back rest s.fit) (λ i. sym (moved_times i front x back rest)) s

pub in_use_put : (owners : List Owner) (front : List Use) (x : Use) (back rest : List Use) → InUse owners (((x ∷ front) ++ back) ++ rest) → InUse owners ((front ++ (x ∷ back)) ++ rest)
in_use_put owners front x back rest s = in_use_as owners (((x ∷ front) ++ back) ++ rest) ((front ++ (x ∷ back)) ++ rest) (put_fits owners front x back rest s.fit) (λ i. moved_times i front x back rest) s

pub in_use_where : (old new : List Owner) (ss : List Use) → new ≡ old → InUse old ss → InUse new ss
in_use_where old new ss is s = subst (λ o. InUse o ss) (sym is) s
