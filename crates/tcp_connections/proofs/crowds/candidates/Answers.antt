-- One connection more is told, or there is none under the key.
use Rattle.std.proofs.Common.{refl, sym, ap, ◌≤◌, ◌<◌, ◌+◌, ◌*◌, length, arith, take, is_some, true, false}
use Rattle.std.specs.List.{count_by}
use Rattle.std.proofs.lemmas.Bool.{ltb-true}
use Rattle.tcp_connections.specs.Group.{is_same}
use Rattle.tcp_connections.specs.Survey.{with_one}
use Rattle.tcp_connections.specs.declared.group.PeerGroup.{PeerGroup}
use Rattle.slab.specs.Slab.{slab_len}
use Rattle.tcp_connections.specs.Places.{is_of, held, quarter}
use Rattle.tcp_connections.proofs.PlaceLemmas.{count_more, count_few, count_all, survey_as, quarter_less}
use Rattle.tcp_connections.proofs.crowds.candidates.Goals as goal
use Rattle.tcp_connections.proofs.crowds.candidates.Goals.{in-Some, in-None}

pub loop-key-preserved : goal.loop-key-preserved
loop-key-preserved g c =
    let slots = c.args.connections.now.slots in
    let key = c.loop-key.key in
    let total = count_by is_some (take key slots) in
    let count = λ (group : PeerGroup). count_by (is_of group) (take key slots) in
    let more = count_by is_some (take (key + 1) slots) in
    let counts = λ (group : PeerGroup). count_by (is_of group) (take (key + 1) slots) in
    elim c.match-get.branch [
      | in-Some w ↦ rw w.survey-is (survey_as (total + 1) more (with_one w.in-Some.connection.now.group count) counts w.add.new.self
          (count_more is_some refl slots key true (ap is_some (sym w.in-Some.ensures)))
          (λ group. count_more (is_of group) refl slots key (is_same w.in-Some.connection.now.group group) (ap (is_of group) (sym w.in-Some.ensures)))
          (w.add.ensures total count (omega (arith, count_few is_some refl slots key, c.loop-key-test.true, c.capacity-key-end.type_inv)) c.loop-key.invariant))
      | in-None w ↦ rw w.survey-is (survey_as total more count counts c.loop-key.survey
          (omega (arith, count_more is_some refl slots key false (ap is_some (sym w.in-None.ensures))))
          (λ group. omega (arith, count_more (is_of group) refl slots key false (ap (is_of group) (sym w.in-None.ensures))))
          c.loop-key.invariant)
    ]

pub returns : goal.returns
returns g c = λ group crowd.
    let connections = c.args.connections.now in
    let key = c.loop-key.key in
    let all : length connections.slots ≤ key = omega (arith, c.capacity-key-end.ensures.slots, c.loop-key-test.false) in
    let less : slab_len connections < 4 * held group connections = quarter_less (slab_len connections) (held group connections) (ltb-true (quarter connections) (held group connections) crowd) in
    c.candidates.ensures (count_by is_some (take key connections.slots)) (λ other. count_by (is_of other) (take key connections.slots)) c.loop-key.invariant group
    (omega (arith, less, count_all is_some refl connections.slots key all, count_all (is_of group) refl connections.slots key all))
