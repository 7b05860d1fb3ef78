use Rattle.std.proofs.Common.{refl}
use Rattle.dns_rdata.specs.Data.{data_of}
use Rattle.dns_rdata.specs.Layout.{layout_of}
use Rattle.zone_tree.specs.Example.{small_zone}
use Rattle.zone_tree.proofs.ZoneTest.{zone_from_test}
use Rattle.zone_tree.proofs.laws.example_is_a_zone.Goals as goal

pub returns : goal.returns
unfolding data_of layout_of
returns c = zone_from_test small_zone refl
