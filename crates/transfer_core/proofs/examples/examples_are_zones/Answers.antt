use Rattle.std.proofs.Common.{refl}
use Rattle.dns_rdata.specs.Data.{data_of}
use Rattle.dns_rdata.specs.Layout.{layout_of}
use Rattle.zone_tree.proofs.ZoneTest.{zone_from_test}
use Rattle.transfer_core.specs.Examples.{jain_1, jain_2, jain_3, short_zone, long_zone, longer_zone}
use Rattle.transfer_core.proofs.examples.examples_are_zones.Goals as goal

pub returns-clause-first : goal.returns-clause-first
unfolding data_of layout_of
returns-clause-first c = zone_from_test jain_1 refl

pub returns-clause-second : goal.returns-clause-second
unfolding data_of layout_of
returns-clause-second c = zone_from_test jain_2 refl

pub returns-clause-third : goal.returns-clause-third
unfolding data_of layout_of
returns-clause-third c = zone_from_test jain_3 refl

pub returns-clause-short : goal.returns-clause-short
unfolding data_of layout_of
returns-clause-short c = zone_from_test (short_zone 1) refl

pub returns-clause-long : goal.returns-clause-long
unfolding data_of layout_of
returns-clause-long c = zone_from_test (long_zone 1) refl

pub returns-clause-longer : goal.returns-clause-longer
unfolding data_of layout_of
returns-clause-longer c = zone_from_test (longer_zone 2) refl
