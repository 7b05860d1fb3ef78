use Rattle.std.proofs.Common.{sym, ◌∙◌, arith}
use Rattle.dns_name.proofs.ReadLemmas.{len_in, walk_step, walk_past, Reads-from}
use Rattle.dns_name.proofs.octets.name_len.Goals as goal

pub loop-at-preserved : goal.loop-at-preserved
loop-at-preserved c =
    let l = c.in_ok-get.ensures.lookup in
    let read = Reads-from _ _ _ _ l.0 l.1 c.from-len.ensures in
    walk_step _ _ _ c.loop-at.invariant read.within read.is c.if-len-eq0.false (omega arith)

pub returns : goal.returns
returns c = sym (len_in c.args.octets.now ∙ walk_past _ _ c.loop-at.invariant c.loop-at-test.false)
