use Rattle.transfer_core.proofs.RingLemmas.{all_differ}
use Rattle.transfer_core.proofs.windows.serials_of_a_window_differ.Goals as goal

pub returns : goal.returns
returns c size serial serials rising e = all_differ size serial serials rising e
