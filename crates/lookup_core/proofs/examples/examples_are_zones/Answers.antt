use Rattle.std.proofs.Common.{refl}
use Rattle.dns_rdata.specs.Data.{data_of}
use Rattle.dns_rdata.specs.Layout.{layout_of}
use Rattle.zone_tree.proofs.ZoneTest.{zone_from_test}
use Rattle.lookup_core.specs.Examples.{small_zone, wildcard_zone}
use Rattle.lookup_core.proofs.examples.examples_are_zones.Goals as goal

pub returns : goal.returns
unfolding data_of layout_of
returns c = record { small = zone_from_test small_zone refl; wildcards = zone_from_test wildcard_zone refl }
