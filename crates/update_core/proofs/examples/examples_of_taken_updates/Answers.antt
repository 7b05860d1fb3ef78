use Rattle.std.proofs.Common.{[], refl, lit<}
use Rattle.std.proofs.lemmas.List.Elements.{All-nil, All-cons}
use Rattle.dns_rdata.specs.Numbers.{type_A}
use Rattle.dns_rdata.specs.Data.{data_of}
use Rattle.dns_rdata.specs.Layout.{layout_of}
use Rattle.dns_rdata.specs.Record.{IsLawful}
use Rattle.zone_tree.specs.Example.{hour_record}
use Rattle.zone_tree.proofs.ZoneTest.{zone_from_test}
use Rattle.update_core.specs.Act.{IsSent}
use Rattle.update_core.specs.Examples.{zone_here, web, address, add, delete}
use Rattle.update_core.proofs.examples.examples_of_taken_updates.Goals as goal

-- the host's address stands in the zone, so its name and its octets are such
there : IsLawful (hour_record web type_A (address 1))
unfolding data_of layout_of
there = (zone_from_test zone_here refl).rules.lawful 3 (hour_record web type_A (address 1)) (lit< tt)

deleted : IsSent (delete web type_A (address 1))
deleted = record { name = there.name; owner_octets = there.owner_octets; octets = there.octets }

added : IsSent (add web type_A (address 1))
added = record { name = there.name; owner_octets = there.owner_octets; octets = there.octets }

pub returns : goal.returns
unfolding data_of layout_of
returns c = (All-cons IsSent (delete web type_A (address 1)) [] deleted (All-nil IsSent), refl, (All-cons IsSent (add web type_A (address 1)) [] added (All-nil IsSent), refl, tt))
