use Rattle.std.proofs.Common.{ℕ, [], ◌∷◌, ◌++◌, subst}
use Rattle.std.specs.Int.{to_be_bytes, w16, w32}
use Rattle.dns_name.specs.Name.{wire_of}
use Rattle.dns_rdata.specs.Numbers.{type_OPT}
use Rattle.dns_message.specs.Encoded.{WritesParts}
use Rattle.dns_message.specs.Opt.{max_udp}
use Rattle.dns_message.proofs.EncodedLemmas.{WritesParts-octets, WritesParts-then}
use Rattle.dns_message.proofs.edns.put_one.Goals as goal

pub returns : goal.returns
returns c =
    let rtype = to_be_bytes w16 type_OPT in
    let size = to_be_bytes w16 max_udp in
    let ttl = to_be_bytes w32 c.ttl_of.result in
    let none = to_be_bytes w16 0 in
    let end = c.put_u16-3.new.out in
    let result = c.put_u16-3.result in
    let last = WritesParts-octets c.put_u32.new.out end c.in_ok-at-4.at none result c.put_u16-3.ensures in
    let two = WritesParts-then c.put_u16-2.new.out c.put_u32.new.out end c.in_ok-at-3.at c.in_ok-at-4.at ttl none result c.in_ok-at-4.ensures last in
    let three = WritesParts-then c.put_u16.new.out c.put_u16-2.new.out end c.in_ok-at-2.at c.in_ok-at-3.at size (ttl ++ none) result c.in_ok-at-3.ensures two in
    let four = WritesParts-then c.put.new.out c.put_u16.new.out end c.in_ok-at.at c.in_ok-at-2.at rtype (size ++ ttl ++ none) result c.in_ok-at-2.ensures three in
    let all = WritesParts-then c.args.out.now c.put.new.out end c.args.at c.in_ok-at.at (0 ∷ []) (rtype ++ size ++ ttl ++ none) result c.in_ok-at.ensures four in
    subst (λ (n : ℕ). WritesParts c.args.out.now end c.args.at (wire_of [] ++ rtype ++ size ++ to_be_bytes w32 n ++ none) result) c.ttl_of.ensures all
