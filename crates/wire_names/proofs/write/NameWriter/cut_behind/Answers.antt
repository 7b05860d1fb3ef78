use Rattle.std.proofs.Common.{true, List, refl, sym, subst}
use Rattle.dns_name.specs.Labels.{labels_in}
use Rattle.wire_names.specs.Cut.{IsCut}
use Rattle.wire_names.specs.Table.{Entry, IsChild, HasNoChild, table_of}
use Rattle.wire_names.proofs.CutLemmas.{IsCut-child, IsCut-behind}
use Rattle.wire_names.proofs.write.NameWriter.cut_behind.Goals as goal

pub returns-in-Some : goal.returns-in-Some
returns-in-Some c =
    subst (IsCut true (table_of c.args.msg.now c.args.self.now) c.args.octets.now) (sym c.cut_at.ensures)
    (IsCut-child _ _ _ _ _ c.requires.table c.requires.whole c.requires.first c.requires.some c.requires.parent c.in-Some.index
    (subst (λ (xs : List Entry). IsChild c.args.msg.now xs c.args.parent (labels_in c.args.octets.now) c.in-Some.index) c.self.view_is c.in-Some.ensures))

pub returns-in-None : goal.returns-in-None
returns-in-None c =
    subst (IsCut true (table_of c.args.msg.now c.args.self.now) c.args.octets.now) (sym c.cut_at-in-None.ensures)
    (IsCut-behind _ _ _ _ _ c.requires.table c.requires.whole c.requires.first c.requires.some c.requires.parent _
    (subst (λ (xs : List Entry). HasNoChild c.args.msg.now xs c.args.parent (labels_in c.args.octets.now)) c.self.view_is c.in-None.ensures) refl)
