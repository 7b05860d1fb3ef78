use Rattle.std.proofs.Common.{Bool, true, false, List, length, refl, ap, ◌∙◌, arith}
use Rattle.std.specs.Bool.{OnTrue}
use Rattle.wire_names.specs.declared.table.Head.{Head}
use Rattle.wire_names.specs.Table.{Entry}
use Rattle.wire_names.proofs.IndexLemmas.{no_entry, spelt_there}
use Rattle.wire_names.proofs.LongLemmas.{entries_many}
use Rattle.wire_names.proofs.table.Positions.is_present.Goals as goal

where_there : (b : Bool) (P Q : Type 0) → (P → Q) → OnTrue b P → OnTrue b Q
where_there true P Q f h = f h
where_there false P Q f h = tt

pub returns : goal.returns
returns c =
    let size = ap (λ (xs : List Entry). length xs) c.self.view_is in
    let many = entries_many c.self.inside.heads.items c.self.inside.longs in
    let len = c.len.ensures.value in
    let test = c.if-index-len.false in
    where_there _ _ _ (spelt_there _ _ c.args.index _ _ _ c.requires.table (omega arith) refl (c.from.ensures ∙ ap (λ (x : Head). x.position) (c.head.ensures no_entry))) c.is_there.ensures
