use Rattle.std.proofs.Common.{◌++◌, drop, map, sym, ap, ◌∙◌, arith}
use Rattle.std.proofs.lemmas.List.{length-take-le, take-append-le}
use Rattle.std.specs.Option.{option_copied, option_to_list}
use Rattle.transfer_core.specs.Packed.{spelt, listed}
use Rattle.transfer_core.proofs.PackedLemmas.{sends_one, drop_behind}
use Rattle.transfer_core.proofs.packer.Packer.next_message.Goals as goal

pub slice_bounds-room-end-in-Some : goal.slice_bounds-room-end-in-Some
slice_bounds-room-end-in-Some g c = let size = length-take-le c.self.inside.limit c.args.out.now (omega (arith, c.requires, c.self.inside.most)) in omega (arith, size, c.requires)

pub write_datagram-requires : goal.write_datagram-requires
write_datagram-requires g c =
    let p = c.self.inside in
    let size = length-take-le p.limit c.args.out.now (omega (arith, c.requires, p.most)) in
    record { least = omega (arith, size, p.least); most = omega (arith, size, p.most) }

pub returns-in-Some-clause-message : goal.returns-in-Some-clause-message
returns-in-Some-clause-message g c =
    let p = c.self.inside in
    let list = map (spelt p.records.name.now) (option_to_list p.records.next ++ listed p.records.rest) in
    let size = length-take-le c.self.inside.limit c.args.out.now (omega (arith, c.requires, c.self.inside.most)) in
    let octets = take-append-le c.write_datagram.result c.write_datagram.new.out (drop c.self.inside.limit c.args.out.now) (omega (arith, c.write_datagram.ensures.len, c.write_datagram.auto.out)) in (
      sym c.self.view_is
          ∙ sends_one p.head (option_copied p.question) (option_copied c.take.new.self) p.opt p.opt _ p.limit (option_copied p.soa) list _ c.in_ok-question.question.now c.in-Some.soa.now _ size (ap option_copied (sym c.take.ensures.value ∙ c.in_ok-question.was)) (ap option_copied c.in-Some.is) (ap option_copied c.take.ensures.after) (octets ∙ c.write_datagram.ensures.octets),
      omega (arith, c.write_datagram.ensures.len, size, p.most),
    )

pub returns-in-Some-clause-behind : goal.returns-in-Some-clause-behind
returns-in-Some-clause-behind g c =
    let size = length-take-le c.self.inside.limit c.args.out.now (omega (arith, c.requires, c.self.inside.most)) in
    drop_behind c.self.inside.limit 16384 c.write_datagram.new.out c.args.out.now c.self.inside.most (c.write_datagram.auto.out ∙ size)
