use Rattle.std.proofs.Common.{◌++◌, ◌+◌, [], ◌∷◌, length, drop, sym, ap, ◌∙◌}
use Rattle.std.specs.List.{list_any}
use Rattle.std.proofs.lemmas.Iterator.Adapters.{YieldsList-from_vec}
use Rattle.std.proofs.lemmas.Iterator.Consumers.{YieldsList-turn, YieldsList-so_far}
use Rattle.master_file.specs.ZoneText.{record_in, in_lower}
use Rattle.master_file.specs.SetOrder.{put_last, is_over}
use Rattle.master_file.proofs.PutLemmas.{sets_append}
use Rattle.master_file.proofs.OverLemmas.{parts_of}
use Rattle.master_file.proofs.sorted.put_all.Goals as goal

pub returns-then-not-branch-clause-over : goal.returns-then-not-branch-clause-over
returns-then-not-branch-clause-over c =
    let all = c.args.records.items in
    let done = c.loop-kept.yielded in
    let road = YieldsList-from_vec all c.into_iter-kept-iterator.ensures.into_iter_gives.0 (c.into_iter-kept-iterator.ensures.into_iter_gives.1 ∙ c.args.records.ok.0) in
    let turn = YieldsList-turn road done _ c.loop-kept.yielded_by _ c.next.new.self c.in-Some.kept c.in-Some.is c.next.ensures.steps in
    let so_far = YieldsList-so_far road done _ c.loop-kept.yielded_by in
    record {
      done = done ++ c.in-Some.kept ∷ [];
      rest = drop (length done + 1) all;
      parts = parts_of all done c.in-Some.kept so_far turn.0 turn.1;
      over = ap (list_any is_over) (sets_append [] done c.in-Some.kept ∙ (λ i. put_last (sym c.loop-kept.invariant i) (in_lower (record_in c.in-Some.kept)))) ∙ (rw c.if-not-branch.true at c.in_ok-put.ensures.full);
    }
