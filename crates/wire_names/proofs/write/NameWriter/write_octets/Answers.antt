use Rattle.std.proofs.Common.{◌≡◌, ◌<◌, ◌⊎◌, ℕ, List, length, take, rules, sym, subst, ap, ◌∙◌, arith}
use Rattle.std.proofs.lemmas.List.{length-take-le}
use Rattle.dns_name.specs.Labels.{labels_in}
use Rattle.dns_name.proofs.LabelLemmas.{wire_of-labels_in}
use Rattle.wire_names.specs.Cut.{cut_octets}
use Rattle.wire_names.specs.Table.{Entry, Table, table_of, entered, keyed}
use Rattle.wire_names.specs.Written.{table_after, IsOverwritten, WritesOctets, CanEnter}
use Rattle.wire_names.proofs.TabledLemmas.{IsTableOf, after_put, can_enter, cut_parent}
use Rattle.wire_names.proofs.write.NameWriter.write_octets.Goals as goal

pub enter-requires-clause-parent : goal.enter-requires-clause-parent
enter-requires-clause-parent c = λ some.
    subst (λ (xs : List Entry). (c.cut-cut.result.parent < length xs) ⊎ (c.cut-cut.result.parent ≡ 257)) (sym (c.self.view_is ∙ c.cut-cut.ensures.unchanged))
    (cut_parent (take c.args.at c.args.out.now) c.args.self.now (labels_in c.args.octets.now) c.cut-cut.result.labels c.cut-cut.result.parent (c.cut-cut.ensures.cut.known some) (c.cut-cut.ensures.cut.parent some))

pub cut-cut-requires-clause-short : goal.cut-cut-requires-clause-short
cut-cut-requires-clause-short c = let size = ap length (wire_of-labels_in c.args.octets.now c.requires.whole) in let short = c.requires.lawful.short in omega arith

pub enter-requires-clause-short : goal.enter-requires-clause-short
enter-requires-clause-short c = let size = ap length (wire_of-labels_in c.args.octets.now c.requires.whole) in let short = c.requires.lawful.short in omega arith

entered_is : (c : goal.After-enter) → c.enter.new.self ≡ keyed (table_after c.args.compress (table_of (take c.args.at c.args.out.now) c.args.self.now) c.args.at (labels_in c.args.octets.now))
entered_is c =
    let msg = take c.args.at c.args.out.now in
    let len : length msg ≡ c.args.at = length-take-le c.args.at c.args.out.now c.requires.within in
    let can = can_enter msg c.args.self.now (labels_in c.args.octets.now) _ c.cut-cut.result.parent c.requires.table c.cut-cut.ensures.cut.new c.cut-cut.ensures.cut.parent in
    let here = subst (λ (n : ℕ). CanEnter c.args.self.now (table_of msg c.args.self.now) n (labels_in c.args.octets.now) c.cut-cut.result.labels c.cut-cut.result.parent) len can in
    let inside = subst (λ (xs : List Entry). CanEnter xs (table_of msg c.args.self.now) c.args.at (labels_in c.args.octets.now) c.cut-cut.result.labels c.cut-cut.result.parent) (sym (c.self.view_is ∙ c.cut-cut.ensures.unchanged)) here in
    c.enter.ensures (table_of msg c.args.self.now) inside
    ∙ ap (λ (xs : Table). keyed (entered (λ named. named.0) (table_of msg c.args.self.now) xs)) (sym (c.cut-cut.ensures.cut.entries c.args.at))

after : (c : goal.After-enter) → IsTableOf (take c.in_ok-next.next c.put_cut.new.out) c.enter.new.self (table_after c.args.compress (table_of (take c.args.at c.args.out.now) c.args.self.now) c.args.at (labels_in c.args.octets.now))
after c =
    after_put c.args.compress _ _ c.args.self.now _ _ c.args.at _ (labels_in c.args.octets.now) c.requires.within c.requires.table c.requires.lawful c.in_ok-next.ensures c.cut-cut.ensures.cut.text (entered_is c)

pub returns-in_err-next-clause-octets : goal.returns-in_err-next-clause-octets
returns-in_err-next-clause-octets c =
    let put : WritesOctets c.args.out.now c.put_cut.new.out c.args.at (cut_octets c.args.octets.now c.cut-cut.result.len c.cut-cut.result.target) c.from_residual.result = search rules in
    subst (λ (x : List ℕ). WritesOctets c.args.out.now c.put_cut.new.out c.args.at x c.from_residual.result) (sym c.cut-cut.ensures.cut.text) put

pub returns-clause-octets : goal.returns-clause-octets
returns-clause-octets c =
    subst (λ (x : List ℕ). IsOverwritten c.args.out.now c.put_cut.new.out c.args.at x c.in_ok-next.next) (sym c.cut-cut.ensures.cut.text) c.in_ok-next.ensures

pub returns-clause-table : goal.returns-clause-table
returns-clause-table c = (after c).all

pub returns-clause-entered : goal.returns-clause-entered
returns-clause-entered c = (after c).is
