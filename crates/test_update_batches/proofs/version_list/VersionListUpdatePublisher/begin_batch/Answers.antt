-- The last version, and those before it, are published.
use Rattle.std.proofs.Common.{[], ◌∷◌, length-append, arith}
use Rattle.test_update_batches.proofs.version_list.VersionListUpdatePublisher.begin_batch.Goals as goal

pub returns-clause-begun : goal.returns-clause-begun
returns-clause-begun g c = omega (arith, length-append c.args.self.now.before.items (c.args.self.now.last ∷ []))
