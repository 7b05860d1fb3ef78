use Rattle.std.proofs.Common.{◌≡◌, Bool, None, refl, ap, ◌∙◌}
use Rattle.zone_tree.specs.Version.{Version}
use Rattle.dns_message.specs.declared.update.Update.{Update}
use Rattle.update_core.specs.Verdict.{verdict}
use Rattle.dns_engine.specs.Versions.{Makes}
use Rattle.dns_engine.specs.Outcomes.{Tells}
use Rattle.update_batches.specs.Batch.{newest_of, versions_in}
use Rattle.update_batches.specs.UpdateRequest.{serial_in}
use Rattle.update_batches.specs.Verdict.{told_verdict, made_verdict}
use Rattle.update_batches.proofs.BatchLemmas.{same_three, told_more, starved_more, changed_more}
use Rattle.update_batches.proofs.judged.judge_one.Goals as goal

pub returns-in-Code : goal.returns-in-Code
returns-in-Code c requests verdicts so_far =
    let first = c.args.first.now in
    let updates = c.args.updates.now.items in
    let code = c.in-Code.code in
    let newest = c.newest_of-newest.ensures ∙ ap (λ us. newest_of first (versions_in us)) c.deref.ensures.value in
    told_more first c.args.room requests verdicts updates c.args.one.now code c.with_code.result so_far
    (same_three (λ (v : Version) (u : Update) (m : Bool). Tells v u m code) _ _ _ _ _ _ newest c.update.ensures.update c.may.ensures c.in-Code.ensures)
    (c.with_code.ensures ∙ ap (λ n. told_verdict n code) (c.serial-before.ensures ∙ ap (λ v. serial_in v) (c.get.ensures ∙ newest)))

pub returns-in-Starved : goal.returns-in-Starved
returns-in-Starved c requests verdicts so_far =
    let first = c.args.first.now in
    let updates = c.args.updates.now.items in
    let newest = c.newest_of-newest.ensures ∙ ap (λ us. newest_of first (versions_in us)) c.deref.ensures.value in
    starved_more first c.args.room requests verdicts updates updates c.args.one.now c.failed.result so_far
    (same_three (λ (v : Version) (u : Update) (m : Bool). verdict v.zone u m ≡ None) _ _ _ _ _ _ newest c.update.ensures.update c.may.ensures c.in-Starved.ensures)
    c.failed.ensures refl

pub returns-then-put : goal.returns-then-put
returns-then-put c requests verdicts so_far =
    let first = c.args.first.now in
    let updates = c.args.updates.now.items in
    let next = c.in-Made.next in
    let newest = c.newest_of-newest.ensures ∙ ap (λ us. newest_of first (versions_in us)) c.deref.ensures.value in
    let put = c.if-put.ensures.put in
    changed_more first c.args.room requests verdicts updates c.put.new.updates.items c.args.one.now next c.made-made.result put.0 so_far
    (same_three (λ (v : Version) (u : Update) (m : Bool). verdict v.zone u m ≡ None) _ _ _ _ _ _ newest c.update.ensures.update c.may.ensures c.in-Made.ensures.0)
    (same_three (λ (v : Version) (u : Update) (m : Bool). Makes u v next) _ _ _ _ _ _ newest c.update.ensures.update c.may.ensures c.in-Made.ensures.1)
    (c.made-made.ensures
    ∙ ap (λ n. made_verdict n c.serial.result.0) (c.serial-before.ensures ∙ ap (λ v. serial_in v) (c.get.ensures ∙ newest))
    ∙ ap (λ n. made_verdict (serial_in (newest_of first (versions_in updates))) n) (c.serial.ensures ∙ ap (λ v. serial_in v) c.get-in-Made.ensures))
    put.4 put.1 put.2 (put.3 ∙ c.messages.ensures) c.put.ensures.short

pub returns-else-put : goal.returns-else-put
returns-else-put c requests verdicts so_far =
    let first = c.args.first.now in
    let updates = c.args.updates.now.items in
    let newest = c.newest_of-newest.ensures ∙ ap (λ us. newest_of first (versions_in us)) c.deref.ensures.value in
    starved_more first c.args.room requests verdicts updates c.put.new.updates.items c.args.one.now c.failed-else-put.result so_far
    (same_three (λ (v : Version) (u : Update) (m : Bool). verdict v.zone u m ≡ None) _ _ _ _ _ _ newest c.update.ensures.update c.may.ensures c.in-Made.ensures.0)
    c.failed-else-put.ensures c.if-put.ensures.put
