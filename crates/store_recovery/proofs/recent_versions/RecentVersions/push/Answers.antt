use Rattle.std.proofs.Common.{◌++◌, ◌∷◌, [], ap, ◌∙◌}
use Rattle.store_recovery.proofs.HeldLemmas.{last_kept}
use Rattle.store_recovery.proofs.recent_versions.RecentVersions.push.Goals as goal

pub returns-clause-older : goal.returns-clause-older
returns-clause-older c =
    last_kept c.args.self.now.older.items c.make_room.new.older.items _ c.args.self.now.last c.make_room.ensures
    (c.in_ok-push.ensures.items ∙ ap (λ v. c.make_room.new.older.items ++ v ∷ []) c.replace-before.ensures.value)
