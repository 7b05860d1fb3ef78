-- One more lawful key, whose name none has.
use Rattle.std.proofs.Common.{ap, arith}
use Rattle.tsig.specs.Keys.{SharedKey}
use Rattle.key_file.proofs.KeyLemmas.{added}
use Rattle.key_file.proofs.keys.KeyFile.add.Goals as goal

pub returns-in-Ok-clause-keys : goal.returns-in-Ok-clause-keys
returns-in-Ok-clause-keys c =
    added _ _ _ _ c.requires (omega (arith, c.if-len-ge-MAX_KEYS.false, c.len.ensures)) c.in_ok-name.ensures.short c.in_ok-name.ensures.folded (cc (c.is_some.ensures, c.index_named.ensures, c.if-is_some.false)) (ap (λ (k : SharedKey). k.name) c.new.ensures)
    c.in-Ok.ensures.ok
