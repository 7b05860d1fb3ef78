use Rattle.std.proofs.Common.{◌≡◌, ◌∙◌, List, ℕ, ap, length, reverse, sym, subst, arith}
use Rattle.std.specs.List.{flat_map}
use Rattle.dns_name.specs.Labels.{labels_in, IsWhole}
use Rattle.dns_name.specs.Name.{Name, IsName, wire_of, canonical_cmp, fold_name, is_under}
use Rattle.dns_name.specs.Stored.{stored_label, stored_of, name_stored}
use Rattle.dns_name.proofs.LabelLemmas.{IsWhole-wire_of, labels_in-wire_of, AreOctets-fold}
use Rattle.dns_name.proofs.LawLemmas.{fold-IsName}
use Rattle.dns_name.proofs.StoredLemmas.{name_back, IsStored-of, cmp_folded, under_folded}
use Rattle.dns_name.proofs.stored.SoughtName.new.Goals as goal

-- what the labels of a name's octets make
made_of : (octets wire : List ℕ) (name : Name) → IsName name → wire ≡ wire_of name → octets ≡ flat_map stored_label (reverse (fold_name (labels_in wire))) → octets ≡ stored_of name
made_of octets wire name lawful is e =
    e ∙ ap (λ (n : Name). flat_map stored_label (reverse (fold_name n))) (ap labels_in is ∙ labels_in-wire_of name lawful.labels)

pub put_name-requires-clause-whole : goal.put_name-requires-clause-whole
put_name-requires-clause-whole c = subst IsWhole (sym c.wire.ensures.octets) (IsWhole-wire_of c.args.name.now c.wire.ensures.lawful.labels)

pub put_name-requires-clause-short : goal.put_name-requires-clause-short
put_name-requires-clause-short c =
    let size = ap length c.wire.ensures.octets in
    omega (arith, c.wire.ensures.lawful.short)

pub invariant_of-result : goal.invariant_of-result
invariant_of-result c =
    let name = c.args.name.now in
    let is = made_of _ _ name c.wire.ensures.lawful c.wire.ensures.octets c.put_name.ensures in
    rw is (IsStored-of name (fold-IsName name c.wire.ensures.lawful).0 (AreOctets-fold name c.wire.ensures.bytes))

pub returns-clause-folded : goal.returns-clause-folded
returns-clause-folded c =
    let name = c.args.name.now in
    let is = made_of _ _ name c.wire.ensures.lawful c.wire.ensures.octets c.put_name.ensures in
    ap name_stored is ∙ name_back name

pub returns-clause-order : goal.returns-clause-order
returns-clause-order c = λ other. ap (λ n. canonical_cmp n other) (returns-clause-folded c) ∙ cmp_folded c.args.name.now other

pub returns-clause-above : goal.returns-clause-above
returns-clause-above c = λ other. ap (λ n. is_under other n) (returns-clause-folded c) ∙ under_folded other c.args.name.now
