use Rattle.dns_rdata.proofs.FormLemmas.{stands_step}
use Rattle.dns_rdata.proofs.form.has_parts.Goals as goal

pub loop-preserved : goal.loop-preserved
loop-preserved c = stands_step c.loop.rest.now c.args.names c.loop.counter c.args.back c.in-Some.len c.in-Some.field-0-0 _ c.loop.invariant c.loop-test.true c.in-Some.ensures.name c.in-Some.ensures.octets.0
