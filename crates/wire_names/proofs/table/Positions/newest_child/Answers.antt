use Rattle.std.proofs.Common.{inl, inr, List, length, refl, ap, ◌∙◌, arith}
use Rattle.wire_names.specs.declared.table.Head.{Head}
use Rattle.wire_names.specs.Table.{Entry}
use Rattle.wire_names.proofs.IndexLemmas.{no_entry, label_there}
use Rattle.wire_names.proofs.LongLemmas.{entries_many}
use Rattle.wire_names.proofs.table.Positions.newest_child.Goals as goal

pub newest_of-i-requires : goal.newest_of-i-requires
newest_of-i-requires c =
    let few = c.self.invariant.0.few in
    let size = ap (λ (xs : List Entry). length xs) c.self.view_is in
    let many = entries_many c.self.inside.heads.items c.self.inside.longs in
    elim c.requires.parent [ inl a ↦ omega arith | inr b ↦ omega arith ]

pub begins_with-requires-clause-label : goal.begins_with-requires-clause-label
begins_with-requires-clause-label c =
    let size = ap (λ (xs : List Entry). length xs) c.self.view_is in
    let many = entries_many c.self.inside.heads.items c.self.inside.longs in
    let len = c.len.ensures.value in
    let test = c.if-i-len.true in
    label_there _ _ c.newest_of-i.result _ _ c.requires.table (omega arith) refl (c.from.ensures ∙ ap (λ (x : Head). x.position) (c.head.ensures no_entry))
