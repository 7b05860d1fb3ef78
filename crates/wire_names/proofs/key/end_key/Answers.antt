use Rattle.std.proofs.Common.{◌∙◌}
use Rattle.wire_names.proofs.TableLemmas.{key_is}
use Rattle.wire_names.proofs.key.end_key.Goals as goal

pub returns-in-Some : goal.returns-in-Some
returns-in-Some c = c.in-Some.ensures ∙ key_is c.args.octets.now c.octet_at-len.result c.requires.whole c.octet_at-len.ensures.octet

pub returns-in-None : goal.returns-in-None
returns-in-None c = c.key_up_to.ensures ∙ key_is c.args.octets.now c.octet_at-len.result c.requires.whole c.octet_at-len.ensures.octet
