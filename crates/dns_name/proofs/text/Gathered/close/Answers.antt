use Rattle.std.proofs.Common.{refl}
use Rattle.dns_name.proofs.GatherLemmas.{closed}
use Rattle.dns_name.proofs.text.Gathered.close.Goals as goal

pub returns : goal.returns
returns c = λ labels label is.
    closed c.args.self.now _ c.append_label.result labels label c.as_slice.result.now c.len-len.result is c.as_slice.ensures.value c.len-len.ensures.value c.clear.ensures refl refl refl c.append_label.ensures.room c.append_label.ensures.put
