-- How many connections groups have, and which gives its place.
use Rattle.std.proofs.Common.{◌≡◌, ◌↔◌, refl, IsTrue, ℕ, ◌+◌, ◌*◌, ◌/◌, ◌<◌, ◌≤◌, max, Bool, true, false, ◌||◌, ◌&&◌, if◌then◌else◌, cond, List, length, take, get_or, Option, None, Some, sym, ◌∙◌, ap, arith, inl, inr}
use Rattle.std.specs.List.{count_by}
use Rattle.std.proofs.lemmas.Bool.{cases_lt}
use Rattle.std.proofs.lemmas.List.{get_or_past, take_all, length-take}
use Rattle.std.proofs.lemmas.List.Sums.{count_by_more_yes, count_by_more_no, count_by-le-length}
use Rattle.tcp_connections.specs.Group.{is_same, is_group}
use Rattle.tcp_connections.specs.Survey.{IsSurvey}
use Rattle.tcp_connections.specs.declared.group.PeerGroup.{PeerGroup}
use Rattle.tcp_connections.specs.declared.survey.Survey.{Survey}
use Rattle.tcp_connections.proofs.SurveyLemmas.{same_equal}
use Rattle.tcp_connections.specs.Kept.{awaited}
use Rattle.slab.specs.Slab.{Slab, get}
use Rattle.tcp_connections.specs.Deadlines.{IsLeast}
use Rattle.tcp_connections.specs.Places.{waits_by, waits_in, IsLongest}
use Rattle.tcp_connections.specs.declared.connection.Connection.{Connection}

-- one key more is counted, or is beyond the last slot
module _ {L : Type 0} (p : Option L → Bool) (none : p None ≡ false) where
  counted_in : (slots : List (Option L)) (key : ℕ) (test : Bool) → key < length slots → p (get_or slots key None) ≡ test → count_by p (take (key + 1) slots) ≡ count_by p (take key slots) + cond test 1 0
  counted_in slots key true within is = count_by_more_yes p slots key None within is
  counted_in slots key false within is = omega (arith, count_by_more_no p slots key None within is)

  beyond : (slots : List (Option L)) (key : ℕ) → length slots ≤ key → count_by p (take (key + 1) slots) ≡ count_by p (take key slots)
  beyond slots key over = ap (count_by p) (take_all (key + 1) slots (omega (arith, over)) ∙ sym (take_all key slots over))

  pub count_more : (slots : List (Option L)) (key : ℕ) (test : Bool) → p (get_or slots key None) ≡ test → count_by p (take (key + 1) slots) ≡ count_by p (take key slots) + cond test 1 0
  count_more slots key test is = elim (cases_lt key (length slots)) [
    | inl within ↦ counted_in slots key test within is
    | inr over ↦ (let no : test ≡ false = sym is ∙ ap p (get_or_past slots key None over) ∙ none in omega (arith, beyond slots key over, ap {B = ℕ} (λ (b : Bool). cond b 1 0) no))
  ]

  -- no more are counted than keys are looked at
  pub count_few : (slots : List (Option L)) (key : ℕ) → count_by p (take key slots) ≤ key
  count_few slots key = omega (arith, count_by-le-length p (take key slots), length-take key slots)

  -- once all are looked at, all are counted
  pub count_all : (slots : List (Option L)) (key : ℕ) → length slots ≤ key → count_by p (take key slots) ≡ count_by p slots
  count_all slots key over = ap (count_by p) (take_all key slots over)

-- a survey of as many groups
pub survey_as : (total more : ℕ) (count other : PeerGroup → ℕ) (survey : Survey) → more ≡ total → ((group : PeerGroup) → other group ≡ count group) → IsSurvey total count survey → IsSurvey more other survey
survey_as total more count other survey same each so_far = record {
  rounds = so_far.rounds;
  left = omega (arith, so_far.left, same);
  each = λ group. omega (arith, so_far.each group, each group);
}

-- a group is one of those that are left of three exactly where it is one of the three, and passes
module _ (passes : PeerGroup → Bool) (left : Option PeerGroup → Option PeerGroup) (none : left None ≡ None) (some : (group : PeerGroup) → left (Some group) ≡ (if passes group then Some group else None)) where
  passed_by : (own group : PeerGroup) (test same : Bool) → passes own ≡ test → is_same own group ≡ same → is_group group (if test then Some own else None) ≡ same && passes group
  passed_by own group true true is same = same ∙ sym (ap passes (sym (same_equal own group same)) ∙ is)
  passed_by own group true false is same = same
  passed_by own group false true is same = sym (ap passes (sym (same_equal own group same)) ∙ is)
  passed_by own group false false is same = refl

  pub left_one : (group : PeerGroup) (candidate : Option PeerGroup) → is_group group (left candidate) ≡ is_group group candidate && passes group
  left_one group None = ap (is_group group) none
  left_one group (Some own) = ap (is_group group) (some own) ∙ passed_by own group (passes own) (is_same own group) refl refl

or_and : (a b c k : Bool) → ((a && k) || ((b && k) || (c && k))) ≡ ((a || (b || c)) && k)
or_and true b c true = refl
or_and false true c true = refl
or_and false false true true = refl
or_and false false false true = refl
or_and true true true false = refl
or_and true true false false = refl
or_and true false true false = refl
or_and true false false false = refl
or_and false true true false = refl
or_and false true false false = refl
or_and false false true false = refl
or_and false false false false = refl

-- whichever passes is one of the three: so what is left is what passes
pub all_left : (has passes : Bool) → (passes ≡ true → has ≡ true) → has && passes ≡ passes
all_left true passes found = refl
all_left false false found = refl
all_left false true found = cc (found refl)

pub left_three : (first second third : Bool) (a b c passes : Bool) → first ≡ a && passes → second ≡ b && passes → third ≡ c && passes → (passes ≡ true → (a || (b || c)) ≡ true) → (first || (second || third)) ≡ passes
left_three first second third a b c passes x y z found = rw (x, y, z) (or_and a b c passes ∙ all_left (a || (b || c)) passes found)

-- the same numbers have the same least
pub least_as : (numbers others : ℕ → Option ℕ) (found : Option ℕ) → ((key : ℕ) → others key ≡ numbers key) → IsLeast numbers found → IsLeast others found
least_as numbers others None same least = λ key. same key ∙ least key
least_as numbers others (Some key) same least = (least.0, same key ∙ least.1, λ other number is. least.2 other number (sym (same other) ∙ is))

-- a connection waits as long where its peer's group is looked at by either
module _ {S M : Type 0} (p q : PeerGroup → Bool) (same : (group : PeerGroup) → p group ≡ q group) where
  waits_among : (connection : Option (Connection S M)) → waits_in p connection ≡ waits_in q connection
  waits_among None = refl
  waits_among (Some connection) = ap (λ (b : Bool). if b then waits_by (awaited connection.state) connection.begun else None) (same connection.group)

  pub longest_as : (connections : Slab (Connection S M)) (found : Option ℕ) → IsLongest q connections found → IsLongest p connections found
  longest_as connections found least = least_as (λ key. waits_in q (get connections key)) (λ key. waits_in p (get connections key)) found (λ key. waits_among (get connections key)) least

-- more than a quarter, by numbers
pub quarter_less : (length number : ℕ) → max (length / 4) 1 < number → length < 4 * number
quarter_less length number less = omega (arith, less)

-- what a test says that doesn't hold
pub less_than : (test : Bool) (least number : ℕ) → IsTrue test ↔ (least ≤ number) → test ≡ false → number < least
less_than test least number means fails = elim (cases_lt number least) [
  | inl less ↦ less
  | inr over ↦ absurd (let no : false ≡ true = sym fails ∙ means.1 over in cc (no))
]
