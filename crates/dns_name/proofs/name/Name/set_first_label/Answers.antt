use Rattle.std.proofs.Common.{◌≡◌, ◌+◌, ◌-◌, ◌∙◌, length, sym, arith}
use Rattle.dns_name.specs.Labels.{labels_in}
use Rattle.dns_name.specs.Stored.{name_stored}
use Rattle.dns_name.proofs.BesideLemmas.{found, label_room, piece_size, set_by}
use Rattle.dns_name.proofs.name.Name.set_first_label.Goals as goal

pub slice_bounds-copy_from_slice-end : goal.slice_bounds-copy_from_slice-end
slice_bounds-copy_from_slice-end c =
    let front = c.in-Some.front.now in
    let own = c.self.inside.octets.items in
    let name : labels_in own ≡ name_stored c.args.before.now = c.self.view_is ∙ c.requires.name in
    let beside =
    found c.args.before.now c.args.octets.now front own c.deref.result.now c.from.result c.in-Some.ensures c.requires.own c.self.invariant.0 name
    c.if-before-octets.false (sym c.if-ne.false ∙ c.ne.ensures) c.deref.ensures.0 c.from.ensures c.if-from-len.false
    in
    label_room c.args.before.now c.args.octets.now front own c.as_mut_slice.result.now c.in-Some.ensures beside c.self.invariant.0 name c.as_mut_slice.ensures.value

pub invariant_of-self : goal.invariant_of-self
invariant_of-self c =
    let front = c.in-Some.front.now in
    let own = c.self.inside.octets.items in
    let name : labels_in own ≡ name_stored c.args.before.now = c.self.view_is ∙ c.requires.name in
    let beside =
    found c.args.before.now c.args.octets.now front own c.deref.result.now c.from.result c.in-Some.ensures c.requires.own c.self.invariant.0 name
    c.if-before-octets.false (sym c.if-ne.false ∙ c.ne.ensures) c.deref.ensures.0 c.from.ensures c.if-from-len.false
    in
    let size = length c.args.octets.now - length front - 1 in
    let piece = piece_size c.args.octets.now front c.in-Some.ensures in
    let wire =
    set_by c.args.before.now c.args.octets.now front own c.as_mut_slice.result.now c.copy_from_slice.new.self (size + 1 - 1) (length front + size - length front)
    c.in-Some.ensures beside c.requires.others c.self.invariant.0 name (omega arith) (omega arith) c.as_mut_slice.ensures.value c.copy_from_slice.ensures.after
    in
    (wire.whole, wire.short)

pub returns-clause-set : goal.returns-clause-set
returns-clause-set c =
    let front = c.in-Some.front.now in
    let own = c.self.inside.octets.items in
    let name : labels_in own ≡ name_stored c.args.before.now = c.self.view_is ∙ c.requires.name in
    let beside =
    found c.args.before.now c.args.octets.now front own c.deref.result.now c.from.result c.in-Some.ensures c.requires.own c.self.invariant.0 name
    c.if-before-octets.false (sym c.if-ne.false ∙ c.ne.ensures) c.deref.ensures.0 c.from.ensures c.if-from-len.false
    in
    let size = length c.args.octets.now - length front - 1 in
    let piece = piece_size c.args.octets.now front c.in-Some.ensures in
    let wire =
    set_by c.args.before.now c.args.octets.now front own c.as_mut_slice.result.now c.copy_from_slice.new.self (size + 1 - 1) (length front + size - length front)
    c.in-Some.ensures beside c.requires.others c.self.invariant.0 name (omega arith) (omega arith) c.as_mut_slice.ensures.value c.copy_from_slice.ensures.after
    in
    wire.named
