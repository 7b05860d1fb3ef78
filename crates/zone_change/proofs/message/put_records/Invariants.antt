use Rattle.std.proofs.Common.{◌≡◌, ◌++◌, flat_map, drop}
use Rattle.zone_change.specs.Message.{record_octets}
use Rattle.zone_change.proofs.message.put_records.Given as goal

-- what was put, with what is left, is all
abbrev pub invariant-loop-raw : goal.invariant-loop-raw
invariant-loop-raw l = l.to.items ++ flat_map (record_octets l.zone) (drop l.raw-index l.raws) ≡ l.initial.to.items ++ flat_map (record_octets l.zone) l.raws
