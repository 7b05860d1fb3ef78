use Rattle.std.proofs.Common.{◌≡◌, List, ℕ, Ok, IfOk, subst}
use Rattle.master_file.specs.ZoneText.{zone_of_text}
use Rattle.commands.specs.Run.{zone_for}
use Rattle.commands.proofs.ApplyLemmas.{tells_by_zone, tells_large, tells_root}
use Rattle.commands.proofs.run.run_with_zone.Goals as goal

pub returns-clause-transfer : goal.returns-clause-transfer
returns-clause-transfer g c =
    tells_by_zone (g.R.Read.remaining c.args.reader.now) c.args.command.now c.read_zone-read.result (zone_for c.args.command.now c.args.text.now) c.run_read-done.result
    (subst (λ (origin : List (List ℕ)). IfOk c.read_zone-read.result (λ zone. zone_of_text origin c.args.text.now ≡ Ok zone)) c.origin.ensures c.read_zone-read.ensures.zone)
    c.run_read-done.ensures.refused c.run_read-done.ensures.transfer

pub returns-clause-at_root : goal.returns-clause-at_root
returns-clause-at_root g c =
    tells_root c.read_zone-read.result (zone_for c.args.command.now c.args.text.now) c.run_read-done.result c.is_at_root-at_root.result
    (subst (λ (origin : List (List ℕ)). IfOk c.read_zone-read.result (λ zone. zone_of_text origin c.args.text.now ≡ Ok zone)) c.origin.ensures c.read_zone-read.ensures.zone)
    c.run_read-done.ensures.refused c.is_at_root-at_root.ensures

pub returns-clause-large : goal.returns-clause-large
returns-clause-large g c =
    tells_large c.args.command.now c.read_zone-read.result (zone_for c.args.command.now c.args.text.now) c.run_read-done.result c.large_of-large.result
    (subst (λ (origin : List (List ℕ)). IfOk c.read_zone-read.result (λ zone. zone_of_text origin c.args.text.now ≡ Ok zone)) c.origin.ensures c.read_zone-read.ensures.zone)
    c.run_read-done.ensures.refused c.large_of-large.ensures
