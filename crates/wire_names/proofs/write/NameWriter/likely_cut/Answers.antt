use Rattle.std.proofs.Common.{true, List, length, sym, subst, ap, arith}
use Rattle.dns_name.specs.Labels.{labels_in}
use Rattle.wire_names.specs.Cut.{IsCut}
use Rattle.wire_names.specs.Table.{Entry, IsSpelt, table_of}
use Rattle.wire_names.proofs.CutLemmas.{IsCut-spelt}
use Rattle.wire_names.proofs.write.NameWriter.likely_cut.Goals as goal

pub returns-then-is_present-2 : goal.returns-then-is_present-2
returns-then-is_present-2 c =
    let size = ap length c.in_ok-_label.ensures.labels in
    subst (IsCut true (table_of c.args.msg.now c.args.self.now) c.args.octets.now) (sym c.cut_at.ensures)
    (IsCut-spelt _ _ _ _ c.requires.table c.requires.whole (omega arith)
    (subst (λ (xs : List Entry). IsSpelt c.args.msg.now xs (labels_in c.args.octets.now) c.self.inside.likely.last) c.self.view_is c.if-is_present-2.ensures))

pub returns-then-is_present-3 : goal.returns-then-is_present-3
returns-then-is_present-3 c =
    let size = ap length c.in_ok-_label.ensures.labels in
    subst (IsCut true (table_of c.args.msg.now c.args.self.now) c.args.octets.now) (sym c.cut_at-then-is_present-3.ensures)
    (IsCut-spelt _ _ _ _ c.requires.table c.requires.whole (omega arith)
    (subst (λ (xs : List Entry). IsSpelt c.args.msg.now xs (labels_in c.args.octets.now) 0) c.self.view_is c.if-is_present-3.ensures))
