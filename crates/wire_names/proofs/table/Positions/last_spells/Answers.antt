use Rattle.std.proofs.Common.{◌-◌, ◌≡◌, List, length, subst, refl, ap, ◌∙◌, arith}
use Rattle.dns_name.specs.Labels.{labels_in}
use Rattle.wire_names.specs.declared.table.Head.{Head}
use Rattle.wire_names.specs.Table.{Entry, IsSpelt}
use Rattle.wire_names.proofs.IndexLemmas.{no_entry, spelt_there, spells_there}
use Rattle.wire_names.proofs.LongLemmas.{entries_many}
use Rattle.wire_names.proofs.table.Positions.last_spells.Goals as goal

pub returns-then-spells-clause-some : goal.returns-then-spells-clause-some
returns-then-spells-clause-some c =
    let size = ap (λ (xs : List Entry). length xs) c.self.view_is in
    let many = entries_many c.self.inside.heads.items c.self.inside.longs in
    let len = c.len.ensures.value in
    let own = c.in_ok-index.ensures in
    spelt_there _ _ c.in_ok-index.index _ _ _ c.requires.table (omega (arith, own.0, own.1)) refl (c.from.ensures ∙ ap (λ (x : Head). x.position) (c.head.ensures no_entry)) (c.spells.ensures.0 c.if-spells.true)

pub returns-clause-none : goal.returns-clause-none
returns-clause-none c = λ e is.
    let size = ap (λ (xs : List Entry). length xs) c.self.view_is in
    let many = entries_many c.self.inside.heads.items c.self.inside.longs in
    let len = c.len.ensures.value in
    let own = c.in_ok-index.ensures in
    let last : length c.args.self.now - 1 ≡ c.in_ok-index.index = omega (arith, own.0, own.1) in
    let here = subst (IsSpelt c.args.msg.now c.args.self.now (labels_in c.args.octets.now)) last is in
    let yes = c.spells.ensures.1 (spells_there _ _ c.in_ok-index.index _ _ _ c.requires.table here.within refl (c.from.ensures ∙ ap (λ (x : Head). x.position) (c.head.ensures no_entry)) here) in
    let no = c.if-spells.false in
    cc
