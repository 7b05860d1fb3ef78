use Rattle.std.proofs.Common.{◌≡◌, ℕ, ◌≤◌, List, [], ◌++◌, length, map, All, ◌<◌, ap, sym, subst, ◌∙◌, arith}
use Rattle.std.specs.Char.{to_ascii_lowercase}
use Rattle.std.specs.List.{refill}
use Rattle.dns_name.specs.Labels.{labels_in, IsWhole}
use Rattle.dns_name.specs.Name.{wire_of, IsName, fold_name}
use Rattle.dns_name.proofs.LabelLemmas.{IsWhole-wire_of, labels_in-wire_of, wire_of-fold, refill_folded, AreOctets-fold}
use Rattle.dns_name.proofs.LawLemmas.{fold-IsName}
use Rattle.dns_name.proofs.name.Name.fold.Goals as goal

-- the name's octets, folded in their place, are those of the folded name
folded : (name : List (List ℕ)) (octets before lent own : List ℕ) → IsName name → before ≡ [] → octets ≡ before ++ wire_of name → lent ≡ octets → own ≡ map to_ascii_lowercase lent → refill (length octets) octets own ≡ wire_of (fold_name name)
folded name octets before lent own lawful none put same e =
    let is : own ≡ map to_ascii_lowercase octets = cc in
    let all = refill_folded octets own is in
    let wire : octets ≡ wire_of name = cc in
    all ∙ ap (map to_ascii_lowercase) wire ∙ sym (wire_of-fold name lawful.labels)

pub append-requires : goal.append-requires
append-requires c =
    let short = c.wire.ensures.lawful.short in
    omega (arith, ap length c.new-octets.ensures, ap length c.wire.ensures.octets)

is_folded : (name : List (List ℕ)) (octets before lent own wire : List ℕ) → IsName name → before ≡ [] → octets ≡ before ++ wire → wire ≡ wire_of name → lent ≡ octets → own ≡ map to_ascii_lowercase lent → let after = refill (length octets) octets own in (IsWhole after × (length after ≤ 255)) × (labels_in after ≡ fold_name name)
is_folded name octets before lent own wire lawful none put is same e =
    let after = folded name octets before lent own lawful none (rw is at put) same e in
    let kept = (fold-IsName name lawful).0 in
    rw after ((IsWhole-wire_of (fold_name name) kept.labels, kept.short), labels_in-wire_of (fold_name name) kept.labels)

pub invariant_of-result : goal.invariant_of-result
invariant_of-result c = (is_folded c.args.self.now _ _ _ _ _ c.wire.ensures.lawful c.new-octets.ensures c.append.ensures c.wire.ensures.octets c.as_mut_slice.ensures.value c.make_ascii_lowercase.ensures.after).0

pub returns-clause-folded : goal.returns-clause-folded
returns-clause-folded c = (is_folded c.args.self.now _ _ _ _ _ c.wire.ensures.lawful c.new-octets.ensures c.append.ensures c.wire.ensures.octets c.as_mut_slice.ensures.value c.make_ascii_lowercase.ensures.after).1

pub returns-clause-lawful : goal.returns-clause-lawful
returns-clause-lawful c = subst IsName (sym (returns-clause-folded c)) (fold-IsName c.args.self.now c.wire.ensures.lawful).0

pub returns-clause-bytes : goal.returns-clause-bytes
returns-clause-bytes c = subst (All (All (λ octet. octet < 256))) (sym (returns-clause-folded c)) (AreOctets-fold c.args.self.now c.wire.ensures.bytes)
