use Rattle.std.proofs.Common.{◌≡◌, ◌∙◌, sym, ap, map}
use Rattle.std.specs.Char.{to_ascii_lowercase}
use Rattle.std.specs.Cmp.Lexicographic.{slice_cmp}
use Rattle.std.specs.Ordering.{nat_cmp, ordering_then}
use Rattle.dns_name.specs.Name.{wire_of, fold_name}
use Rattle.update_core.specs.Ordered.{sought_cmp, record_of}
use Rattle.dns_name.proofs.LabelLemmas.{wire_of-fold}
use Rattle.update_core.proofs.ordered.order.Goals as goal

-- the octets of a name in lower case are those of the name in lower case
pub returns-in-Equal-cmp : goal.returns-in-Equal-cmp
returns-in-Equal-cmp c =
    let own = ap (map to_ascii_lowercase) c.wire.ensures.octets ∙ sym (wire_of-fold _ c.wire.ensures.lawful.labels) in
    let other = ap (map to_ascii_lowercase) c.wire-in-Equal-cmp.ensures.octets ∙ sym (wire_of-fold _ c.wire-in-Equal-cmp.ensures.lawful.labels) in
    let by_wire = c.lower_order.ensures ∙ (λ i. slice_cmp nat_cmp (own i) (other i)) in
    let w = slice_cmp nat_cmp (wire_of (fold_name c.raw.inside.owner)) (wire_of (fold_name c.args.owner.now)) in
    by_wire ∙ ap (λ o. ordering_then o w) (c.in-Equal-cmp.ensures) ∙ ap (λ xs. ordering_then (slice_cmp nat_cmp xs c.args.octets.now) w) c.as_slice.ensures.value
    ∙ ap (λ o. ordering_then o (ordering_then (slice_cmp nat_cmp c.raw.inside.octets.items c.args.octets.now) w)) (c.in-Equal.ensures)
    ∙ ap (λ r. sought_cmp r (record_of c.args.owner.now c.args.rtype.0 c.args.octets.now)) c.raw.view_is
