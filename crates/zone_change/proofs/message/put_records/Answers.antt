use Rattle.std.proofs.Common.{◌≡◌, [], ◌++◌, flat_map, drop, sym, ap, ◌∙◌}
use Rattle.std.proofs.lemmas.List.{append-nil, drop_all}
use Rattle.zone_change.specs.Message.{record_octets}
use Rattle.zone_change.proofs.message.put_records.Goals as goal

pub returns : goal.returns
returns c =
    let all = flat_map (record_octets c.args.zone.now) in
    let left : all (drop c.loop-raw.raw-index c.args.raws.now) ≡ [] = ap all (drop_all c.loop-raw.raw-index c.args.raws.now c.loop-raw-test.false) in
    sym (ap (λ os. c.loop-raw.to.items ++ os) left ∙ append-nil c.loop-raw.to.items) ∙ c.loop-raw.invariant
