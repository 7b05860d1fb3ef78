-- Four different groups are struck out at once.
use Rattle.std.proofs.Common.{◌≡◌, refl, ℕ, ◌+◌, ◌-◌, ◌*◌, ◌<◌, ◌≤◌, Bool, true, false, cond, Option, None, Some, sym, ◌∙◌, ap, subst, arith}
use Rattle.std.proofs.lemmas.Bool.{eqb-true}
use Rattle.tcp_connections.specs.Group.{is_same, is_group}
use Rattle.tcp_connections.specs.Survey.{picked, number_of, IsSurvey, with_one}
use Rattle.tcp_connections.specs.declared.group.PeerGroup.{PeerGroup}
use Rattle.tcp_connections.specs.declared.group.PeerGroup.TheVariants.{V4, V6}
use Rattle.tcp_connections.specs.declared.survey.Survey.{Survey}

-- groups that are the same are equal
pub same_equal : (a b : PeerGroup) → is_same a b ≡ true → a ≡ b
same_equal (V4 a) (V4 b) same = ap (λ (n : ℕ). V4 n) (eqb-true a b same)
same_equal (V6 a) (V6 b) same = ap (λ (n : ℕ). V6 n) (eqb-true a b same)
same_equal (V4 a) (V6 b) same = absurd (let no : false ≡ true = same in cc (no))
same_equal (V6 a) (V4 b) same = absurd (let no : false ≡ true = same in cc (no))

-- whichever is picked, one is struck out of it
struck_one : (first second third : Bool) (a b c : ℕ) → 0 < a → 0 < b → 0 < c → picked first second third a b c ≤ picked first second third (a - 1) (b - 1) (c - 1) + 1
struck_one true second third a b c has_a has_b has_c = omega (arith, has_a)
struck_one false true third a b c has_a has_b has_c = omega (arith, has_b)
struck_one false false true a b c has_a has_b has_c = omega (arith, has_c)
struck_one false false false a b c has_a has_b has_c = omega arith

-- none is picked
none_picked : (first second third : Bool) (a b c : ℕ) → first ≡ false → second ≡ false → third ≡ false → picked first second third a b c ≡ 0
none_picked false false false a b c x y z = refl
none_picked true second third a b c x y z = absurd (cc (x))
none_picked false true third a b c x y z = absurd (cc (y))
none_picked false false true a b c x y z = absurd (cc (z))

-- a group that none of the three candidates has, which all have some
module _ (old new : Survey) (group : PeerGroup) where
  struck_each : (other : PeerGroup) (count rounds : ℕ) (same : Bool) → is_same group other ≡ same → is_group group old.first.group ≡ false → is_group group old.second.group ≡ false → is_group group old.third.group ≡ false → count ≤ number_of old other + rounds
      → number_of old other ≤ number_of new other + 1 → count + cond same 1 0 ≤ number_of new other + (rounds + 1)
  struck_each other count rounds false is first second third fits struck = omega (arith, fits, struck)
  struck_each other count rounds true is first second third fits struck =
      let none : number_of old group ≡ 0 = none_picked (is_group group old.first.group) (is_group group old.second.group) (is_group group old.third.group) old.first.number old.second.number old.third.number first second third in
      let here : number_of old other ≡ 0 = subst (λ (g : PeerGroup). number_of old g ≡ 0) (same_equal group other is) none in
      omega (arith, fits, here)

pub struck : (old new : Survey) (group : PeerGroup) (total : ℕ) (count : PeerGroup → ℕ) → is_group group old.first.group ≡ false → is_group group old.second.group ≡ false → is_group group old.third.group ≡ false → 0 < old.first.number → 0 < old.second.number → 0 < old.third.number
    → new ≡ record { first = record { group = old.first.group; number = old.first.number - 1 }; second = record { group = old.second.group; number = old.second.number - 1 }; third = record { group = old.third.group; number = old.third.number - 1 } }
    → IsSurvey total count old → IsSurvey (total + 1) (with_one group count) new
struck old new group total count first second third has_first has_second has_third is survey =
    subst (λ (s : Survey). IsSurvey (total + 1) (with_one group count) s) (sym is) (record {
      rounds = survey.rounds + 1;
      left = omega (arith, survey.left, has_first, has_second, has_third);
      each = λ other. struck_each old made group other (count other) survey.rounds (is_same group other) refl first second third (survey.each other)
          (struck_one (is_group other old.first.group) (is_group other old.second.group) (is_group other old.third.group) old.first.number old.second.number old.third.number has_first has_second has_third);
    })
  where
    made : Survey
    made = record { first = record { group = old.first.group; number = old.first.number - 1 }; second = record { group = old.second.group; number = old.second.number - 1 }; third = record { group = old.third.group; number = old.third.number - 1 } }
