use Rattle.std.proofs.Common.{◌∙◌, ap, inl, inr, arith, Ok, ◌+◌, ◌<◌, length}
use Rattle.dns_name.proofs.GatherLemmas.{named_long, named_crowded, IsJoined-from}
use Rattle.dns_name.proofs.text.Gathered.named.Goals as goal
use Rattle.dns_name.proofs.text.Gathered.named.Goals.{then-self-3-via-then-self-3, then-self-3-via-else-self-3+then-len-rest-gt-MAX_NAME}

pub returns-then-self-2 : goal.returns-then-self-2
returns-then-self-2 c = λ labels is. named_long _ labels _ c.wire-rest.ensures.lawful is c.if-self.false c.if-self-2.true

pub returns-then-self-3 : goal.returns-then-self-3
returns-then-self-3 c = λ labels is. named_crowded _ labels _ _ c.wire-rest.ensures.lawful is c.if-self.false c.if-self-2.false c.wire-rest.ensures.octets
    (elim c.then-self-3.branch [
      | then-self-3-via-then-self-3 w ↦ inl w.if-self-3.true
      | then-self-3-via-else-self-3+then-len-rest-gt-MAX_NAME w ↦ (let past : 255 < length c.args.self.octets.items + length c.wire-rest.result.now = omega arith in inr (w.if-self-3.false, past))
    ])

pub from_octets-requires-clause-whole : goal.from_octets-requires-clause-whole
from_octets-requires-clause-whole c =
    (IsJoined-from c.args.self c.requires.0 _ _ _ c.wire-rest.ensures.lawful c.requires.1 c.if-self.false c.if-self-2.false c.if-self-3.false c.wire-rest.ensures.octets (omega arith) c.append.ensures).whole

pub returns : goal.returns
returns c = λ labels is.
    ap Ok c.from_octets.ensures ∙ (IsJoined-from c.args.self labels _ _ _ c.wire-rest.ensures.lawful is c.if-self.false c.if-self-2.false c.if-self-3.false c.wire-rest.ensures.octets (omega arith) c.append.ensures).lawful_is
