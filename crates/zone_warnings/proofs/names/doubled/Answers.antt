use Rattle.std.proofs.Common.{ℕ, List, ◌≡◌, ◌-◌, ◌++◌, length, nat_le, Some, None, Option, take, sym, ap, ◌∙◌, if◌then◌else◌}
use Rattle.std.specs.Option.{option_map}
use Rattle.dns_name.specs.Name.{Name, wire_of, name_in}
use Rattle.zone_warnings.proofs.NameLemmas.{wire_twice, twice_read}
use Rattle.zone_warnings.proofs.names.doubled.Goals as goal

pub returns-in_default : goal.returns-in_default
returns-in_default c =
    let name = c.args.name.now in
    let octets = c.wire-octets.result.now in
    let all : c.deref.result.now ≡ wire_of (name ++ name) =
    c.deref.ensures.value ∙ c.in_ok-extend_from_slice-2.ensures.items ∙ ap (λ (os : List ℕ). os ++ octets) (c.in_ok-extend_from_slice.ensures.items ∙ ap (λ (os : List ℕ). os ++ take (length octets - 1) octets) c.new-both.ensures.items)
    ∙ wire_twice name octets c.wire-octets.ensures.octets in
    ap (option_map (λ r. r.0)) (sym c.in_default.is) ∙ c.from_wire.ensures.name ∙ twice_read name c.deref.result.now c.wire-octets.ensures.lawful all

pub returns : goal.returns
returns c =
    let name = c.args.name.now in
    let octets = c.wire-octets.result.now in
    let all : c.deref.result.now ≡ wire_of (name ++ name) =
    c.deref.ensures.value ∙ c.in_ok-extend_from_slice-2.ensures.items ∙ ap (λ (os : List ℕ). os ++ octets) (c.in_ok-extend_from_slice.ensures.items ∙ ap (λ (os : List ℕ). os ++ take (length octets - 1) octets) c.new-both.ensures.items)
    ∙ wire_twice name octets c.wire-octets.ensures.octets in
    ap (option_map (λ r. r.0)) (sym c.in-Some.is) ∙ c.from_wire.ensures.name ∙ twice_read name c.deref.result.now c.wire-octets.ensures.lawful all
