use Rattle.std.proofs.Common.{ap, ◌∙◌}
use Rattle.dns_rdata.specs.Record.{owner_of}
use Rattle.lookup_core.proofs.walk.match_down.Goals as goal

pub match_sought-requires-clause-top : goal.match_sought-requires-clause-top
match_sought-requires-clause-top g c = c.stored-top.ensures ∙ c.stored_owner.ensures.of ∙ ap owner_of c.soa.ensures.set
