use Rattle.std.proofs.Common.{Bool, Err, rules}
use Rattle.std.specs.Result.{IsErrOf}
use Rattle.dns_rdata.specs.declared.rrset.SetFault.TheVariants.{Limit as set_limit}
use Rattle.update_core.proofs.RowLemmas.{joined_long}
use Rattle.update_core.proofs.one_set.joined.Goals as goal

pub returns-in_err-insert-clause-limit : goal.returns-in_err-insert-clause-limit
returns-in_err-insert-clause-limit c = λ fault.
    let at : IsErrOf {T = Bool} (Err c.in_err-insert.field-0.0) set_limit = search rules in
    let full = c.in_err-insert.ensures.limit.0 at in
    joined_long c.args.own c.set_ttl.new.self c.args.ttl.0 c.args.rdata.octets c.set_ttl.ensures full.0 full.1
