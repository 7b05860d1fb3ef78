-- What becomes of the text is what becomes of the store.
use Rattle.store_compaction.proofs.KeptLemmas.{tended_parts}
use Rattle.store_compaction.proofs.compacted_store.CompactedStore.finish.Goals as goal

pub returns-in-Nothing-clause-tended : goal.returns-in-Nothing-clause-tended
returns-in-Nothing-clause-tended g c =
    tended_parts c.args.self.now c.self.inside.writer c.put_in_place-placed.new.writer (g.T.TextWriter.wanted c.self.inside.texts) (g.T.TextWriter.wanted c.put_in_place-placed.new.texts)
    c.self.view_is c.put_in_place-placed.ensures.recent c.put_in_place-placed.ensures.is_present

pub returns-in-Failed-clause-tended : goal.returns-in-Failed-clause-tended
returns-in-Failed-clause-tended g c =
    tended_parts c.args.self.now c.self.inside.writer c.put_in_place-placed.new.writer (g.T.TextWriter.wanted c.self.inside.texts) (g.T.TextWriter.wanted c.put_in_place-placed.new.texts)
    c.self.view_is c.put_in_place-placed.ensures.recent c.put_in_place-placed.ensures.is_present

pub returns-in-Done-clause-tended : goal.returns-in-Done-clause-tended
returns-in-Done-clause-tended g c =
    tended_parts c.args.self.now c.self.inside.writer c.put_in_place-placed.new.writer (g.T.TextWriter.wanted c.self.inside.texts) (g.T.TextWriter.wanted c.put_in_place-placed.new.texts)
    c.self.view_is c.put_in_place-placed.ensures.recent c.put_in_place-placed.ensures.is_present
