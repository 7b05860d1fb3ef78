use Rattle.transfer_core.proofs.RunLongestLemmas.{longest_run}
use Rattle.transfer_core.proofs.windows.windows_are_longest_runs.Goals as goal

pub returns : goal.returns
returns c size newer zones = longest_run size newer zones
