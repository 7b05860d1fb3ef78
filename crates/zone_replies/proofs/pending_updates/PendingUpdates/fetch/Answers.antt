-- Updates that were taken out are put back, or those that are left of them.
use Rattle.std.proofs.Common.{Some, sym, ◌∙◌}
use Rattle.zone_replies.proofs.PendingLemmas.{none_left, out_none, place_entry, place_within, put_left, set_length}
use Rattle.zone_replies.proofs.pending_updates.PendingUpdates.fetch.Goals as goal

pub unreachable-requires : goal.unreachable-requires
unreachable-requires g c = place_entry c.args.self.now c.args.key c.requires.some.0 c.requires.some.1 (sym c.in_default.ensures.taken)

pub put-requires-clause-room : goal.put-requires-clause-room
put-requires-clause-room g c = set_length c.args.self.now c.take.new.self c.args.key c.take.ensures.rest (place_within c.args.self.now c.args.key c.in-Some.pending (sym c.in-Some.is ∙ c.take.ensures.taken))

pub put-requires-clause-none : goal.put-requires-clause-none
put-requires-clause-none g c = out_none c.args.self.now c.take.new.self c.args.key c.take.ensures.rest

pub returns-in-Some-left-clause-rest : goal.returns-in-Some-left-clause-rest
returns-in-Some-left-clause-rest g c =
    put_left c.args.self.now c.take.new.self c.put.new.self c.args.key c.in-Some.pending (Some c.in-Some-left.left) (sym c.in-Some.is ∙ c.take.ensures.taken) c.take.ensures.rest c.put.ensures
    c.fetch-poll.result.0 (sym c.in-Some-left.is ∙ c.fetch-poll.ensures.left)

pub returns-in-None-clause-rest : goal.returns-in-None-clause-rest
returns-in-None-clause-rest g c =
    none_left c.args.self.now c.take.new.self c.args.key c.in-Some.pending (sym c.in-Some.is ∙ c.take.ensures.taken) c.take.ensures.rest c.fetch-poll.result.0 (sym c.in-None.is ∙ c.fetch-poll.ensures.left)
