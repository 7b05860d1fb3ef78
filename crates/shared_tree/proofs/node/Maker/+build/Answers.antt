use Rattle.std.proofs.Common.{◌≡◌, ◌+◌, ◌-◌, ◌/◌, ◌<◌, ◌≤◌, vec_len, length, arith, subst, max}
use Rattle.std.proofs.lemmas.Result.{IfOk-weaker}
use Rattle.shared_tree.specs.Fronts.{front_at}
use Rattle.shared_tree.specs.Links.{link_height, IsHalved}
use Rattle.shared_tree.proofs.LinkLemmas.{halves}
use Rattle.shared_tree.proofs.node.Maker.+build.Goals as goal

-- both sides are halves, so that they are level
pub returns-clause-formed : goal.returns-clause-formed
returns-clause-formed g t c some fits =
    let n = c.args.count in
    let right_fits : n - n / 2 ≤ vec_len c.args.pairs.now = omega arith in
    let right_some : 0 < n - n / 2 = omega arith in
    let left_some : 0 < n / 2 = omega arith in
    let right_len = c.in_ok-right.ensures.length right_fits in
    let left_fits : n / 2 ≤ vec_len c.build.new.pairs = omega (arith, right_len) in
    let sides = halves (n / 2) (n - n / 2) _ _ (c.in_ok-left.ensures.height left_some left_fits) (c.in_ok-right.ensures.height right_some right_fits) (omega arith) (omega arith) (omega arith) in
    c.fork.ensures.formed (c.in_ok-left.ensures.formed left_some left_fits) (c.in_ok-right.ensures.formed right_some right_fits) (sides.level_left, sides.level_right)

-- and the whole is a level higher
pub returns-clause-height : goal.returns-clause-height
returns-clause-height g t c some fits =
    let n = c.args.count in
    let right_fits : n - n / 2 ≤ vec_len c.args.pairs.now = omega arith in
    let right_some : 0 < n - n / 2 = omega arith in
    let left_some : 0 < n / 2 = omega arith in
    let right_len = c.in_ok-right.ensures.length right_fits in
    let left_fits : n / 2 ≤ vec_len c.build.new.pairs = omega (arith, right_len) in
    let sides = halves (n / 2) (n - n / 2) _ _ (c.in_ok-left.ensures.height left_some left_fits) (c.in_ok-right.ensures.height right_some right_fits) (omega arith) (omega arith) (omega arith) in
    let all : n / 2 + (n - n / 2) ≡ n = omega arith in
    let top = max (link_height c.in_ok-left.left) (link_height c.in_ok-right.right) + 1 in
    IfOk-weaker c.fork.result (λ link. link_height link ≡ top) (λ link. IsHalved (link_height link) n)
    (λ link e. let is : link_height link ≡ top = e in rw is (subst (IsHalved top) all sides.whole)) c.fork.ensures.height

-- the right side's first pair parts them
pub returns-clause-parted : goal.returns-clause-parted
returns-clause-parted g t c some fits =
    let n = c.args.count in
    let front = front_at g.K.Front.front c.args.base.now in
    let right_fits : n - n / 2 ≤ vec_len c.args.pairs.now = omega arith in
    let right_some : 0 < n - n / 2 = omega arith in
    let left_some : 0 < n / 2 = omega arith in
    let right_len = c.in_ok-right.ensures.length right_fits in
    let left_fits : n / 2 ≤ vec_len c.build.new.pairs = omega (arith, right_len) in
    let right = c.in_ok-right.ensures.parted right_some right_fits in
    c.fork.ensures.parted front (c.in_ok-parting.ensures front right) (c.in_ok-left.ensures.parted left_some left_fits) right

-- a run has its keys' numbers
pub returns-then-count-le-MAX_RUN-clause-parted : goal.returns-then-count-le-MAX_RUN-clause-parted
returns-then-count-le-MAX_RUN-clause-parted g t c some fits =
    let more : 0 < length c.in_ok-entries.entries.items = omega (arith, c.in_ok-entries.ensures.length fits) in
    c.run.ensures.parted (front_at g.K.Front.front c.args.base.now) (more, c.in_ok-entries.ensures.fronted)
