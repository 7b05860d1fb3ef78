use Rattle.std.proofs.Common.{List, ℕ, ◌+◌, length, sym, subst}
use Rattle.std.proofs.lemmas.List.{take_rest}
use Rattle.wire_names.proofs.FrontLemmas.{IsSame, same_more}
use Rattle.wire_names.proofs.PlainLemmas.{on_true}
use Rattle.wire_names.proofs.table.behind_same.Goals as goal

pub loop-label-preserved : goal.loop-label-preserved
loop-label-preserved c =
    let there = c.loop-label.there.now in
    let own = c.in-Some-first_label.label.now in
    let behind = c.in-Some-first_label.behind.now in
    let more = same_more c.args.msg.now c.args.octets.now c.loop-label.rest.now own behind there c.args.at c.loop-label.invariant.same c.in-Some-first_label.ensures (on_true _ _ c.if-not-begin_alike.false c.begin_alike.ensures) in
    record { same = subst (λ (xs : List ℕ). IsSame c.args.msg.now c.args.octets.now behind xs c.args.at) (sym (take_rest there (1 + length own))) more }
