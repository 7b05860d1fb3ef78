use Rattle.std.proofs.Common.{Some, sym, ap, ◌∙◌, option_and_then, option_map}
use Rattle.dns_message.specs.Updates.{update_made}
use Rattle.dns_message.specs.declared.query.Parsed.{Parsed}
use Rattle.dns_message.proofs.UpdatesLemmas.{behind_zone, behind_prerequisites, behind_updates, zone_seen, prerequisites_seen, updates_seen, additional_seen, read_with, unread}
use Rattle.dns_message.proofs.update.sections_read.Goals as goal

pub returns-in_default : goal.returns-in_default
returns-in_default c =
    sym (unread _ _ (zone_seen c.args.head c.args.octets.now ∙ ap (option_and_then (behind_zone c.args.head c.args.octets.now)) (sym c.zone_at.ensures ∙ c.in_default.is)))

pub returns-in_default-2 : goal.returns-in_default-2
returns-in_default-2 c =
    let prerequisites = prerequisites_seen c.args.head c.args.octets.now (c.in-Some.zone, c.in-Some.at) _ _ (sym c.zone_at.ensures ∙ c.in-Some.is) c.count_at.ensures c.in_ok-prerequisites.ensures in
    sym (unread _ _ (prerequisites ∙ ap (option_and_then (behind_prerequisites c.args.head c.args.octets.now c.in-Some.zone)) c.in_default-2.is))

pub returns-in_default-3 : goal.returns-in_default-3
returns-in_default-3 c =
    let prerequisites = prerequisites_seen c.args.head c.args.octets.now (c.in-Some.zone, c.in-Some.at) _ _ (sym c.zone_at.ensures ∙ c.in-Some.is) c.count_at.ensures c.in_ok-prerequisites.ensures in
    let read = prerequisites ∙ ap (option_and_then (behind_prerequisites c.args.head c.args.octets.now c.in-Some.zone)) c.in-Some-2.is in
    let updates = updates_seen c.args.head c.args.octets.now c.in-Some.zone (c.in-Some-2.prerequisites, c.in-Some-2.at) _ _ read c.count_at-2.ensures c.in_ok-updates.ensures in
    sym (unread _ _ (updates ∙ ap (option_and_then (behind_updates c.args.head c.args.octets.now c.in-Some.zone c.in-Some-2.prerequisites)) c.in_default-3.is))

pub returns-in_default-opt_at : goal.returns-in_default-opt_at
returns-in_default-opt_at c =
    let prerequisites = prerequisites_seen c.args.head c.args.octets.now (c.in-Some.zone, c.in-Some.at) _ _ (sym c.zone_at.ensures ∙ c.in-Some.is) c.count_at.ensures c.in_ok-prerequisites.ensures in
    let read = prerequisites ∙ ap (option_and_then (behind_prerequisites c.args.head c.args.octets.now c.in-Some.zone)) c.in-Some-2.is in
    let updates = updates_seen c.args.head c.args.octets.now c.in-Some.zone (c.in-Some-2.prerequisites, c.in-Some-2.at) _ _ read c.count_at-2.ensures c.in_ok-updates.ensures in
    let all = updates ∙ ap (option_and_then (behind_updates c.args.head c.args.octets.now c.in-Some.zone c.in-Some-2.prerequisites)) c.in-Some-3.is in
    let additional = additional_seen c.args.head c.args.octets.now c.in-Some.zone c.in-Some-2.prerequisites (c.in-Some-3.updates, c.in-Some-3.at) _ _ all c.count_at-3.ensures c.opt_at.ensures in
    sym (unread _ _ (additional ∙ ap (option_map (update_made c.args.head c.in-Some.zone c.in-Some-2.prerequisites c.in-Some-3.updates)) c.in_default-opt_at.is))

pub returns : goal.returns
returns c =
    let prerequisites = prerequisites_seen c.args.head c.args.octets.now (c.in-Some.zone, c.in-Some.at) _ _ (sym c.zone_at.ensures ∙ c.in-Some.is) c.count_at.ensures c.in_ok-prerequisites.ensures in
    let read = prerequisites ∙ ap (option_and_then (behind_prerequisites c.args.head c.args.octets.now c.in-Some.zone)) c.in-Some-2.is in
    let updates = updates_seen c.args.head c.args.octets.now c.in-Some.zone (c.in-Some-2.prerequisites, c.in-Some-2.at) _ _ read c.count_at-2.ensures c.in_ok-updates.ensures in
    let all = updates ∙ ap (option_and_then (behind_updates c.args.head c.args.octets.now c.in-Some.zone c.in-Some-2.prerequisites)) c.in-Some-3.is in
    let additional = additional_seen c.args.head c.args.octets.now c.in-Some.zone c.in-Some-2.prerequisites (c.in-Some-3.updates, c.in-Some-3.at) _ _ all c.count_at-3.ensures c.opt_at.ensures in
    let made = read_with c.args.head c.args.octets.now c.in-Some.zone c.in-Some-2.prerequisites c.in-Some-3.updates _ _ additional c.in-Some-opt_at.is in
    ap (λ (p : Parsed). Some p) c.update_made.ensures ∙ sym made
