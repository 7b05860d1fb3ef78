-- The versions of a start may be published.
use Rattle.test_replies.proofs.restarts.written_after.Goals as goal

pub written_from-requires-clause-first : goal.written_from-requires-clause-first
written_from-requires-clause-first g c = let is = c.in-Ok.ensures.started in (c.rebased-first.ensures.made is.zone is.messages is.replayed).0

pub written_from-requires-clause-follow : goal.written_from-requires-clause-follow
written_from-requires-clause-follow g c = let is = c.in-Ok.ensures.started in (c.rebased-first.ensures.made is.zone is.messages is.replayed).1
