-- An SOA's data has no more octets than a record may have.
use Rattle.std.proofs.Common.{◌≡◌, ℕ, zero, suc, ◌+◌, ◌*◌, ◌≤◌, ◌==◌, nat_le, List, length, drop, Some, ◌∙◌, arith}
use Rattle.std.proofs.lemmas.Bool.Decides.{Decides-eqb}
use Rattle.std.proofs.lemmas.List.{length-append}
use Rattle.dns_name.specs.Name.{wire_of, name_in}
use Rattle.dns_name.proofs.LawLemmas.{name_in-is_present}
use Rattle.dns_rdata.specs.Layout.{layout_of}
use Rattle.dns_rdata.specs.Data.{names_then, data_of}
use Rattle.dns_rdata.proofs.NameLemmas.{map_some, and_then_some, cond_some}

names_short : (names back : ℕ) (octets own : List ℕ) → names_then names back octets ≡ Some own → length octets ≤ 255 * names + back
names_short zero back octets own e =
    let test = cond_some (length octets == back) (Some octets) own e in
    let size = (Decides-eqb (length octets) back).0 test.0 in
    omega (arith, size)
names_short (suc names) back octets own e =
    let name = and_then_some _ (name_in octets) own e in
    let rest = map_some _ (names_then names back (drop (length (wire_of name.0)) octets)) own name.2 in
    let more = names_short names back (drop (length (wire_of name.0)) octets) rest.0 rest.1 in
    let is_present = name_in-is_present octets name.0 name.1 in
    let short : length (wire_of name.0) ≤ 255 = is_present.0.short in
    let sum : length octets ≡ length (wire_of name.0) + length (drop (length (wire_of name.0)) octets) = (λ i. length (is_present.1 i)) ∙ length-append (wire_of name.0) (drop (length (wire_of name.0)) octets) in
    omega (arith, more, short, sum)

pub soa_short : (octets : List ℕ) → data_of 6 octets ≡ Some octets → length octets ≤ 4096
unfolding data_of layout_of
soa_short octets e =
    let test = cond_some (nat_le 0 (length octets)) _ octets e in
    let rest = map_some _ (names_then 2 20 (drop 0 octets)) octets test.1 in
    let short = names_short 2 20 (drop 0 octets) rest.0 rest.1 in
    omega (arith, short)
