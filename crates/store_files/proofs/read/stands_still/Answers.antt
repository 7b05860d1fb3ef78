use Rattle.std.proofs.Common.{length, drop}
use Rattle.std.proofs.lemmas.Bool.Decides.{Decides-eqb}
use Rattle.std.proofs.lemmas.Slice.Eq.{starts_is}
use Rattle.store_files.proofs.StillLemmas.{begins_with_less}
use Rattle.store_files.proofs.read.stands_still.Goals as goal

pub returns : goal.returns
returns c =
    let again = c.args.again.now in
    let front = c.in_front_of_zeros.result.now in
    let is = c.in_front_of_zeros.ensures in
    let starts = starts_is Decides-eqb again front c.starts_with.result c.starts_with.ensures.value in (
      λ true_is. (front, is.0, (drop (length front) again, starts.0 true_is)),
      λ still.
          let begins = begins_with_less again still.0 front (is.1 still.0 still.1) still.2 in
          starts.1 begins.0 begins.1,
    )
