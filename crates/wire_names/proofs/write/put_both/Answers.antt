use Rattle.wire_names.proofs.CutLemmas.{pointer_octets, put_both_is}
use Rattle.wire_names.proofs.write.put_both.Goals as goal

pub returns : goal.returns
returns c =
    put_both_is _ _ _ _ _ _ _ _ _ c.in_ok-behind.ensures c.put-2.ensures (pointer_octets _ _ c.requires.low c.to_be_bytes.ensures) c.requires.within c.if-front-out.false
