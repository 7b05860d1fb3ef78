-- By the part.
use Rattle.std.proofs.Common.{sym, subst, drop, List, ◌≡◌, ◌++◌, IfOk, IfErr}
use Rattle.dns_rdata.specs.Record.{Record}
use Rattle.zone_tree.specs.Zone.{soa_of}
use Rattle.transfer_core.specs.Places.{step_left}
use Rattle.transfer_core.proofs.PlaceLemmas.{step_new, new_behind}
use Rattle.transfer_core.proofs.step.pass_step.Goals as goal

pub returns-in-Old-clause-inside : goal.returns-in-Old-clause-inside
returns-in-Old-clause-inside c =
    subst (λ part. IfOk c.pass_both.result (λ at. (rest : List Record) → drop at.sent (step_left at.part at.set (soa_of c.args.version.now.zone) c.args.version.now.changes ++ rest) ≡ drop c.args.sent (step_left part c.args.from (soa_of c.args.version.now.zone) c.args.version.now.changes ++ rest)))
    (sym c.in-Old.is) c.pass_both.ensures.inside

pub returns-in-Old-clause-behind : goal.returns-in-Old-clause-behind
returns-in-Old-clause-behind c =
    subst (λ part. IfErr c.pass_both.result (λ left. (rest : List Record) → drop left rest ≡ drop c.args.sent (step_left part c.args.from (soa_of c.args.version.now.zone) c.args.version.now.changes ++ rest)))
    (sym c.in-Old.is) c.pass_both.ensures.behind

pub returns-in-New-clause-inside : goal.returns-in-New-clause-inside
returns-in-New-clause-inside c = step_new (soa_of c.args.version.now.zone) c.args.version.now.changes c.args.part c.pass_part.result c.args.from c.args.sent c.in-New.is c.pass_part.ensures.part c.pass_part.ensures.inside

pub returns-in-New-clause-behind : goal.returns-in-New-clause-behind
returns-in-New-clause-behind c = new_behind (soa_of c.args.version.now.zone) c.args.version.now.changes c.args.part c.pass_part.result c.args.from c.args.sent c.in-New.is c.pass_part.ensures.behind
