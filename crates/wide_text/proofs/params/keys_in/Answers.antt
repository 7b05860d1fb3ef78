use Rattle.wide_text.proofs.ParamLemmas.{keys_on}
use Rattle.wide_text.proofs.params.keys_in.Goals as goal

pub loop-rest-preserved : goal.loop-rest-preserved
loop-rest-preserved c = keys_on _ _ c.loop-rest.rest.now _ c.in-len2-up.len_at_least c.in_ok-put_key.ensures.put c.loop-rest.invariant
