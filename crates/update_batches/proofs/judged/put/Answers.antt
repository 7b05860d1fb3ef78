use Rattle.std.proofs.Common.{rules, ◌≡◌, ◌<◌, ◌∷◌, ◌++◌, [], length, arith}
use Rattle.update_batches.proofs.judged.put.Goals as goal

pub returns-clause-put : goal.returns-clause-put
returns-clause-put c =
    let added : c.push.new.self.items ≡ c.args.updates.now.items ++ c.in-Ok.update ∷ [] = search rules in
    let few : length c.args.updates.now.items < c.args.room = omega (arith, c.if-len-room.false, c.len.ensures, c.args.updates.now.ok.0) in
    (c.in-Ok.update, added, c.in-Ok.ensures.0, c.in-Ok.ensures.1, few)
