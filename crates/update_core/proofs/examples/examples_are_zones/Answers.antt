use Rattle.std.proofs.Common.{refl}
use Rattle.dns_rdata.specs.Data.{data_of}
use Rattle.dns_rdata.specs.Layout.{layout_of}
use Rattle.zone_tree.proofs.ZoneTest.{zone_from_test}
use Rattle.update_core.specs.Examples.{zone_here}
use Rattle.update_core.proofs.examples.examples_are_zones.Goals as goal

pub returns : goal.returns
unfolding data_of layout_of
returns c = zone_from_test zone_here refl
