use Rattle.update_messages.proofs.JoinedLemmas.{told_some}
use Rattle.update_messages.proofs.PreparedLemmas.{prepared}
use Rattle.update_messages.proofs.prepared.prepare_change.Goals as goal

pub returns-clause-prepared : goal.returns-clause-prepared
returns-clause-prepared c =
    let zones = c.in_ok-update.ensures.zones in
    let update = told_some _ _ _ _ c.in-Some.is c.in_ok-update.ensures.update in
    let summary = c.summary_of-summary.ensures in
    prepared c.args.served.now c.args.next.now (record { update = c.in-Some.update; messages = c.in_ok-messages.messages; summary = c.summary_of-summary.result }) zones.0 zones.1 zones.2 update.1 update.0
    c.in_ok-messages.ensures.messages c.in_ok-messages.ensures.short summary.from summary.to summary.given summary.deleted summary.added
