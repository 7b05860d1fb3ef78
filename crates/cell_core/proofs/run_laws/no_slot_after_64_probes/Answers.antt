-- From each probe back to the one before it.
use Rattle.std.proofs.Common.{refl}
use Rattle.cell_core.proofs.ProbeLemmas.{no_slot_seen}
use Rattle.cell_core.specs.Words.{begun}
use Rattle.cell_core.proofs.run_laws.no_slot_after_64_probes.Goals as goal

pub returns : goal.returns
returns g c first after run place r h = no_slot_seen (begun first) after run place refl r h
