-- Groups that make up more than a quarter of what was added (own).
use Rattle.std.specs.Prelude.{◌≡◌, ℕ, ◌+◌, ◌*◌, ◌≤◌, Bool, true, false, cond}
use Rattle.tcp_connections.specs.Group.{is_same, is_group}
use Rattle.tcp_connections.specs.declared.group.PeerGroup.{PeerGroup}
use Rattle.tcp_connections.specs.declared.survey.Survey.{Survey}

-- the number of a group among three candidates; 0 if it is none of them
abbrev pub picked : Bool → Bool → Bool → ℕ → ℕ → ℕ → ℕ
picked first second third a b c = cond first a (cond second b (cond third c 0))

abbrev pub number_of : Survey → PeerGroup → ℕ
number_of survey group =
    picked (is_group group survey.first.group) (is_group group survey.second.group) (is_group group survey.third.group) survey.first.number survey.second.number survey.third.number

-- so many groups were added in all, and so many of each: so many rounds of four different ones are struck out, and of each group at most
-- one in each round
pub record IsSurvey (total : ℕ) (count : PeerGroup → ℕ) (survey : Survey) : Type 0 where
  pub rounds : ℕ
  pub left : survey.first.number + survey.second.number + survey.third.number + 4 * rounds ≤ total
  pub each : (group : PeerGroup) → count group ≤ number_of survey group + rounds

-- one more of a group
abbrev pub with_one : PeerGroup → (PeerGroup → ℕ) → PeerGroup → ℕ
with_one group count other = count other + cond (is_same group other) 1 0
