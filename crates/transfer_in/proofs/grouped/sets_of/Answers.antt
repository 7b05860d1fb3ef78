use Rattle.std.proofs.Common.{◌++◌, List, sym, ap, ◌∙◌, subst}
use Rattle.std.proofs.lemmas.Map.Iter.{rest_more}
use Rattle.dns_rdata.specs.Record.{Record}
use Rattle.zone_tree.specs.Sets.{records_in}
use Rattle.transfer_in.specs.Grouped.{AreInOrder}
use Rattle.transfer_in.proofs.GroupLemmas.{is_behind, room_at, no_zone, order_none}
use Rattle.transfer_in.proofs.grouped.sets_of.Goals as goal

pub loop-held-init : goal.loop-held-init
loop-held-init c = record {
  all =
      ap (λ (sets : List (List Record)). records_in sets ++ c.into_iter-held-iterator.result) c.new-sets.ensures.items
      ∙ c.into_iter-held-iterator.ensures.into_iter_gives.0 ∙ c.into_records-held-items.ensures;
  rising = subst (λ (sets : List (List Record)). AreInOrder sets) (sym c.new-sets.ensures.items) order_none;
}

pub put-requires-clause-behind : goal.put-requires-clause-behind
put-requires-clause-behind c =
    let more = rest_more (λ (r : Record). r) c.loop-held.held-iterator c.next.new.self c.next.result c.in-Some.held c.in-Some.is c.next.ensures.steps in
    is_behind (records_in c.loop-held.sets.items) c.in-Some.held c.next.new.self c.args.records (ap (λ l. records_in c.loop-held.sets.items ++ l) (sym more) ∙ c.loop-held.invariant.all) c.requires.rises

pub put-requires-clause-room : goal.put-requires-clause-room
put-requires-clause-room c =
    let more = rest_more (λ (r : Record). r) c.loop-held.held-iterator c.next.new.self c.next.result c.in-Some.held c.in-Some.is c.next.ensures.steps in
    room_at (records_in c.loop-held.sets.items) c.in-Some.held c.next.new.self c.args.records (ap (λ l. records_in c.loop-held.sets.items ++ l) (sym more) ∙ c.loop-held.invariant.all) c.requires.small

pub returns-then-not-branch-clause-none : goal.returns-then-not-branch-clause-none
returns-then-not-branch-clause-none c =
    let more = rest_more (λ (r : Record). r) c.loop-held.held-iterator c.next.new.self c.next.result c.in-Some.held c.in-Some.is c.next.ensures.steps in
    no_zone (records_in c.loop-held.sets.items) c.in-Some.held c.next.new.self c.args.records (ap (λ l. records_in c.loop-held.sets.items ++ l) (sym more) ∙ c.loop-held.invariant.all) c.args.apex.now (rw c.if-not-branch.true at c.in_ok-put.ensures.other)
