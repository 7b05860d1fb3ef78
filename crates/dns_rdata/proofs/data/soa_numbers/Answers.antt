use Rattle.std.proofs.Common.{◌∙◌, refl, arith}
use Rattle.dns_rdata.proofs.SoaLemmas.{soa_is, number_is}
use Rattle.dns_rdata.proofs.data.soa_numbers.Goals as goal

pub number_before_end-requires-clause-within : goal.number_before_end-requires-clause-within
number_before_end-requires-clause-within c = (soa_is c.args.octets.now c.requires).long

pub number_before_end-requires-2-clause-within : goal.number_before_end-requires-2-clause-within
number_before_end-requires-2-clause-within c = omega (arith, (soa_is c.args.octets.now c.requires).long)

pub number_before_end-requires-3-clause-within : goal.number_before_end-requires-3-clause-within
number_before_end-requires-3-clause-within c = omega (arith, (soa_is c.args.octets.now c.requires).long)

pub number_before_end-requires-4-clause-within : goal.number_before_end-requires-4-clause-within
number_before_end-requires-4-clause-within c = omega (arith, (soa_is c.args.octets.now c.requires).long)

pub number_before_end-requires-5-clause-within : goal.number_before_end-requires-5-clause-within
number_before_end-requires-5-clause-within c = omega (arith, (soa_is c.args.octets.now c.requires).long)

pub returns-clause-serial : goal.returns-clause-serial
returns-clause-serial c = c.number_before_end.ensures ∙ number_is c.args.octets.now 0 20 (soa_is c.args.octets.now c.requires) refl

pub returns-clause-refresh : goal.returns-clause-refresh
returns-clause-refresh c = c.number_before_end-2.ensures ∙ number_is c.args.octets.now 1 16 (soa_is c.args.octets.now c.requires) refl

pub returns-clause-retry : goal.returns-clause-retry
returns-clause-retry c = c.number_before_end-3.ensures ∙ number_is c.args.octets.now 2 12 (soa_is c.args.octets.now c.requires) refl

pub returns-clause-expire : goal.returns-clause-expire
returns-clause-expire c = c.number_before_end-4.ensures ∙ number_is c.args.octets.now 3 8 (soa_is c.args.octets.now c.requires) refl

pub returns-clause-minimum : goal.returns-clause-minimum
returns-clause-minimum c = c.number_before_end-5.ensures ∙ number_is c.args.octets.now 4 4 (soa_is c.args.octets.now c.requires) refl
