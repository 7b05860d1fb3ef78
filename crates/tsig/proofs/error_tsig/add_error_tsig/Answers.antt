use Rattle.std.proofs.Common.{◌∙◌, take}
use Rattle.tsig.proofs.ErrorTsigLemmas.{with_error_tsig_as}
use Rattle.tsig.proofs.error_tsig.add_error_tsig.Goals as goal

pub returns-clause-octets : goal.returns-clause-octets
returns-clause-octets c =
    c.append_record.ensures.octets
    ∙ with_error_tsig_as (take c.args.len c.args.out.now) c.deref-2.result.now c.record_octets-added.result.items c.args.tsig.now c.args.error c.owner.result.now c.algorithm.result.now c.unsigned-fields.result
    c.fields.result.now c.deref-2.ensures.0 c.record_octets-added.ensures.octets c.owner.ensures c.algorithm.ensures c.unsigned-fields.ensures c.fields.ensures.fields
