use Rattle.std.proofs.Common.{◌≡◌, ◌<◌, ◌^◌, ◌++◌, ◌∷◌, [], length, arith, rules}
use Rattle.std.proofs.lemmas.Grind.{common_steps}
use Rattle.store_compaction.specs.declared.marked.Compaction.{Compaction}
use Rattle.store_compaction.specs.Marked.{bodies_of}
use Rattle.store_compaction.proofs.MarkedLemmas.{marked_more}
use Rattle.store_compaction.proofs.marked.Compaction.follow.Goals as goal

pub returns-clause-marked : goal.returns-clause-marked
returns-clause-marked c k batches batch marked within short is =
    let old : Compaction = c.args.self.now in
    let new : Compaction = record { number = old.number; bodies = c.push.new.self } in
    let few : length old.bodies.items < 2 ^ 64 = search rules in
    let more : bodies_of new ≡ bodies_of old ++ c.args.body.now ∷ [] = grind (arith, common_steps) in
    marked_more k batches batch c.args.body.now old new marked within short is c.requires few more
