use Rattle.std.proofs.Common.{◌≡◌, ◌<◌, ◌-◌, ◌⊎◌, List, length, subst, sym, arith}
use Rattle.dns_name.specs.Labels.{labels_in}
use Rattle.wire_names.specs.Place.{IsPlace}
use Rattle.wire_names.specs.Table.{Entry, IsChild, HasNoChild}
use Rattle.wire_names.proofs.PlaceLemmas.{in_front, place_child, end_child}
use Rattle.wire_names.proofs.write.NameWriter.climb.Goals.{in-Some, in-None+in-Some-child}
use Rattle.wire_names.proofs.write.NameWriter.climb.Goals as goal

pub newest_child-requires-clause-some : goal.newest_child-requires-clause-some
newest_child-requires-clause-some c = (in_front _ _ _ _ _ _ _ _ c.requires.starts (omega arith) c.loop-k.invariant.place c.loop-k-test.true c.rest-rest.ensures).some

pub newest_child-requires-clause-parent : goal.newest_child-requires-clause-parent
newest_child-requires-clause-parent c =
    subst (λ (xs : List Entry). (c.loop-k.index < length xs) ⊎ (c.loop-k.index ≡ 257)) (sym c.self.view_is)
    (in_front _ _ _ _ _ _ _ _ c.requires.starts (omega arith) c.loop-k.invariant.place c.loop-k-test.true c.rest-rest.ensures).entry

pub child-requires-clause-some : goal.child-requires-clause-some
child-requires-clause-some c = (in_front _ _ _ _ _ _ _ _ c.requires.starts (omega arith) c.loop-k.invariant.place c.loop-k-test.true c.rest-rest.ensures).some

pub child-requires-clause-parent : goal.child-requires-clause-parent
child-requires-clause-parent c =
    subst (λ (xs : List Entry). (c.loop-k.index < length xs) ⊎ (c.loop-k.index ≡ 257)) (sym c.self.view_is)
    (in_front _ _ _ _ _ _ _ _ c.requires.starts (omega arith) c.loop-k.invariant.place c.loop-k-test.true c.rest-rest.ensures).entry

-- there is no child: the table doesn't have the longer name
pub returns-in-None-child-clause-end : goal.returns-in-None-child-clause-end
returns-in-None-child-clause-end c =
    end_child _ _ _ _ _ _ c.requires.table (in_front _ _ _ _ _ _ _ _ c.requires.starts (omega arith) c.loop-k.invariant.place c.loop-k-test.true c.rest-rest.ensures)
    (subst (λ (xs : List Entry). HasNoChild c.args.msg.now xs c.loop-k.index (labels_in c.rest-rest.result.now)) c.self.view_is c.in-None-child.ensures)

next : (c : goal.Joined-newest_child) → IsChild c.args.msg.now c.self.inside.positions c.loop-k.index (labels_in c.rest-rest.result.now) c.match-newest_child.index → IsPlace c.args.msg.now c.args.self.now (labels_in c.args.octets.now) (record { labels = c.loop-k.k - 1; index = c.match-newest_child.index })
next c child =
    place_child _ _ _ _ _ _ _ c.requires.table c.loop-k-test.true c.loop-k.invariant.place.within
    (in_front _ _ _ _ _ _ _ _ c.requires.starts (omega arith) c.loop-k.invariant.place c.loop-k-test.true c.rest-rest.ensures)
    (subst (λ (xs : List Entry). IsChild c.args.msg.now xs c.loop-k.index (labels_in c.rest-rest.result.now) c.match-newest_child.index) c.self.view_is child)

pub loop-k-preserved : goal.loop-k-preserved
loop-k-preserved c =
    let up = c.loop-k.invariant.up in
    record {
      place = elim c.match-newest_child.branch [
        | in-Some w ↦ next c (subst (IsChild c.args.msg.now c.self.inside.positions c.loop-k.index (labels_in c.rest-rest.result.now)) (sym w.index-is) w.in-Some.ensures)
        | in-None+in-Some-child w ↦ next c (subst (IsChild c.args.msg.now c.self.inside.positions c.loop-k.index (labels_in c.rest-rest.result.now)) (sym w.index-is) w.in-Some-child.ensures)
      ];
      up = omega arith;
    }
