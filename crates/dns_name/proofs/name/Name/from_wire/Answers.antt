use Rattle.std.proofs.Common.{◌≡◌, ℕ, ◌≤◌, ◌+◌, ◌++◌, [], List, Some, length, take, drop, sym, ap, ◌∙◌, arith}
use Rattle.std.proofs.lemmas.List.{take-append-drop, length-take-le}
use Rattle.dns_name.specs.Labels.{labels_in, IsWhole}
use Rattle.dns_name.specs.Name.{wire_of}
use Rattle.dns_name.proofs.LabelLemmas.{IsWhole-wire_of, labels_in-wire_of}
use Rattle.dns_name.proofs.ReadLemmas.{IsBegun, IsBegun-from}
use Rattle.dns_name.proofs.name.Name.from_wire.Goals as goal

-- the octets that are copied are those of the name
copied : (octets own before : List ℕ) (len : ℕ) (b : IsBegun octets len) → before ≡ [] → own ≡ before ++ take len octets → own ≡ wire_of b.name
copied octets own before len b none e = let front = b.front in cc

whole : (octets own before : List ℕ) (len : ℕ) (b : IsBegun octets len) → before ≡ [] → own ≡ before ++ take len octets → IsWhole own × (length own ≤ 255)
whole octets own before len b none e =
    let same = copied octets own before len b none e in
    rw same (IsWhole-wire_of b.name b.lawful.labels, b.lawful.short)

named : (octets own before : List ℕ) (len : ℕ) (b : IsBegun octets len) → before ≡ [] → own ≡ before ++ take len octets → labels_in own ≡ b.name
named octets own before len b none e = ap labels_in (copied octets own before len b none e) ∙ labels_in-wire_of b.name b.lawful.labels

read : (octets own before : List ℕ) (len : ℕ) (b : IsBegun octets len) → before ≡ [] → own ≡ before ++ take len octets → (len ≡ length (wire_of (labels_in own))) × (octets ≡ wire_of (labels_in own) ++ drop len octets)
read octets own before len b none e =
    let is = named octets own before len b none e in
    let join = take-append-drop len octets in
    let front = b.front in
    rw is (sym b.size, cc)

room : (octets before : List ℕ) (len : ℕ) (b : IsBegun octets len) → before ≡ [] → length before + length (take len octets) ≤ 255
room octets before len b none =
    let nothing = ap length none in
    let front = ap length b.front in
    let short = b.lawful.short in
    omega arith

pub slice_bounds-append-end : goal.slice_bounds-append-end
slice_bounds-append-end c = sym (length-take-le _ _ (IsBegun-from _ _ c.in_ok-len.ensures).within)

pub append-requires : goal.append-requires
append-requires c = room _ _ _ (IsBegun-from _ _ c.in_ok-len.ensures) c.new-own.ensures

pub invariant_of-result : goal.invariant_of-result
invariant_of-result c = whole _ _ _ _ (IsBegun-from _ _ c.in_ok-len.ensures) c.new-own.ensures c.append.ensures

pub returns-clause-name : goal.returns-clause-name
returns-clause-name c =
    let b = IsBegun-from _ _ c.in_ok-len.ensures in
    ap Some (named _ _ _ _ b c.new-own.ensures c.append.ensures) ∙ sym b.is

pub returns-clause-octets : goal.returns-clause-octets
returns-clause-octets c = read _ _ _ _ (IsBegun-from _ _ c.in_ok-len.ensures) c.new-own.ensures c.append.ensures
