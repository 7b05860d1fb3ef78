-- Where none is pending, what is known is what the reader has learned; else it grows by all steps, and a reply by what was known meanwhile is one
-- by what was known before.
use Rattle.std.proofs.Common.{◌≡◌, List, [], ◌∷◌, Option, None, take, ap, ◌∙◌}
use Rattle.tcp_connections.proofs.RequestLemmas.{each_more}
use Rattle.zone_replies.specs.Going.{transfer_left}
use Rattle.zone_replies.specs.State.{PendingState}
use Rattle.zone_replies.specs.PendingUpdates.{known_at, place_in}
use Rattle.zone_replies.proofs.PendingLemmas.{same_grows}
use Rattle.zone_replies.proofs.PendingRepliedLemmas.{none_made, step_made}
use Rattle.zone_replies.proofs.connection_handler.ConnectionHandler.reply_update.Goals as goal

pub returns-in_default-clause-grows : goal.returns-in_default-clause-grows
returns-in_default-clause-grows g c = same_grows c.args.self.now.taken c.reply_served.new.self.taken c.args.self.now.reader c.reply_served.new.self.reader c.reply_served.ensures.taken c.reply_served.ensures.grows

pub returns-in_default-clause-replied : goal.returns-in_default-clause-replied
returns-in_default-clause-replied g c = λ _.
    let none : place_in c.reply_served.new.self.taken c.args.self.now.asker ≡ None = ap (λ (l : List (Option PendingState)). place_in l c.args.self.now.asker) c.reply_served.ensures.taken ∙ c.requires.other c.in_default.ensures in
    none_made g.Z.FirstZone.zone c.args.self.now.peer c.args.self.now.taken c.reply_served.new.self.taken c.args.self.now.reader c.reply_served.new.self.reader c.args.self.now.asker c.args.request.now (take c.reply_served.result c.reply_served.new.out ∷ []) none c.reply_served.ensures.replied

pub returns-in-None-clause-grows : goal.returns-in-None-clause-grows
returns-in-None-clause-grows g c = each_more _ _ _ c.reply_taken.ensures.grows c.take_up.ensures.grows

pub returns-in-None-clause-replied : goal.returns-in-None-clause-replied
returns-in-None-clause-replied g c =
    step_made g.Z.FirstZone.zone transfer_left c.args.request.now c.take_up.new.out c.args.self.now c.reply_taken.new.self (known_at c.take_up.new.self.taken c.take_up.new.self.reader) c.take_up.result c.reply_taken.ensures.peer c.reply_taken.ensures.asker
    c.reply_taken.ensures.grows c.take_up.ensures.replied
