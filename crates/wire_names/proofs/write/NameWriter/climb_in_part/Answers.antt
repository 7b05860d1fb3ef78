use Rattle.std.proofs.Common.{◌≡◌, ◌-◌, ◌+◌, inl, inr, refl, ℕ, List, None, length, drop, subst, sym, ap, arith}
use Rattle.std.proofs.lemmas.Bool.{cases_lt}
use Rattle.dns_name.specs.Labels.{labels_in}
use Rattle.dns_name.specs.Name.{Name, wire_of}
use Rattle.wire_names.specs.Table.{Entry, IsSpelt, position_in, table_of}
use Rattle.wire_names.proofs.LongestLemmas.{in_part, absent_front, absent_size, longest_by, one_suffix, size_from, rest_labels}
use Rattle.wire_names.proofs.PlaceLemmas.{place_spelt}
use Rattle.wire_names.proofs.write.NameWriter.climb_in_part.Goals as goal

-- the suffix that the last entry spells
pub climb-requires-clause-place : goal.climb-requires-clause-place
climb-requires-clause-place c =
    let up = c.loop-k.invariant.up in
    let within = c.requires.place.within in
    let some = c.loop-k-test.true in
    let all = c.requires.starts.all in
    let inside = subst (λ (xs : List Entry). IsSpelt c.args.msg.now xs (labels_in c.rest-rest.result.now) c.in-Some.index) c.self.view_is c.in-Some.ensures.some in
    let is = subst (λ (n : Name). IsSpelt c.args.msg.now c.args.self.now n c.in-Some.index) (rest_labels _ _ _ _ _ c.requires.starts (omega arith) c.rest-rest.ensures) inside in
    place_spelt _ _ _ (c.loop-k.k - 1 - 1) _ c.requires.table (omega arith) is

pub returns-in-Some-clause-longest : goal.returns-in-Some-clause-longest
returns-in-Some-clause-longest c =
    let k = c.loop-k.k - 1 - 1 in
    let up = c.loop-k.invariant.up in
    let within = c.requires.place.within in
    let some = c.loop-k-test.true in
    let all = c.requires.starts.all in
    let inside = subst (λ (xs : List Entry). IsSpelt c.args.msg.now xs (labels_in c.rest-rest.result.now) c.in-Some.index) c.self.view_is c.in-Some.ensures.some in
    let is = subst (λ (n : Name). IsSpelt c.args.msg.now c.args.self.now n c.in-Some.index) (rest_labels _ _ _ _ _ c.requires.starts (omega arith) c.rest-rest.ensures) inside in
    let none = c.loop-k.invariant.none (k + 1) (omega arith) (omega arith) in
    let part = in_part _ _ (labels_in c.args.octets.now) k c.in-Some.index c.requires.table (omega arith) none is in
    let last = part.last in
    let same : length c.args.self.now - 1 ≡ c.in-Some.index = omega arith in
    let far = c.climb.ensures.up in
    longest_by _ _ _ _ c.requires.table c.climb.ensures.place.within c.climb.ensures.end (λ j h own.
    let one = one_suffix _ _ (labels_in c.args.octets.now) j k _ (omega arith) (omega arith) (subst (IsSpelt c.args.msg.now c.args.self.now (drop j (labels_in c.args.octets.now))) same own) is in
    absurd (omega arith))

-- none is the suffix in front
pub loop-k-preserved-in_default : goal.loop-k-preserved-in_default
loop-k-preserved-in_default c =
    let up = c.loop-k.invariant.up in
    let within = c.requires.place.within in
    let some = c.loop-k-test.true in
    let all = c.requires.starts.all in
    let k = c.loop-k.k - 1 - 1 in
    let none = c.loop-k.invariant.none (k + 1) (omega arith) (omega arith) in
    let labels = rest_labels _ _ _ _ _ c.requires.starts (omega arith) c.rest-rest.ensures in
    let front = absent_front _ c.args.self.now (labels_in c.args.octets.now) k c.requires.table (omega arith) none (λ is.
    c.in_default.ensures.none refl (subst (λ (xs : List Entry). IsSpelt c.args.msg.now xs (labels_in c.rest-rest.result.now) (length xs - 1)) (sym c.self.view_is)
    (subst (λ (n : Name). IsSpelt c.args.msg.now c.args.self.now n (length c.args.self.now - 1)) (sym labels) is))) in
    record {
      up = omega arith;
      none = λ j low high. elim (cases_lt k j) [
        | inl more ↦ c.loop-k.invariant.none j (omega arith) high
        | inr less ↦ (let same : k ≡ j = omega arith in subst (λ (n : ℕ). position_in (table_of c.args.msg.now c.args.self.now) (drop n (labels_in c.args.octets.now)) ≡ None) same front)
      ];
    }

pub loop-k-preserved : goal.loop-k-preserved
loop-k-preserved c =
    let up = c.loop-k.invariant.up in
    let within = c.requires.place.within in
    let some = c.loop-k-test.true in
    let all = c.requires.starts.all in
    let k = c.loop-k.k - 1 - 1 in
    let none = c.loop-k.invariant.none (k + 1) (omega arith) (omega arith) in
    let next : c.loop-k.k - 1 ≡ k + 1 = omega arith in
    let size = size_from _ _ _ (c.loop-k.k - 1) c.requires.whole c.requires.starts (omega arith) in
    let start = c.start.ensures in
    let front = absent_size _ c.args.self.now (labels_in c.args.octets.now) k c.requires.table (omega arith) none (λ is.
    let own = c.requires.part.1 in
    let octets : length (wire_of (drop (c.loop-k.k - 1) (labels_in c.args.octets.now))) ≡ length (wire_of (drop (k + 1) (labels_in c.args.octets.now))) = ap (λ (n : ℕ). length (wire_of (drop n (labels_in c.args.octets.now)))) next in
    c.if-octets-start.false (omega arith)) in
    record {
      up = omega arith;
      none = λ j low high. elim (cases_lt k j) [
        | inl more ↦ c.loop-k.invariant.none j (omega arith) high
        | inr less ↦ (let same : k ≡ j = omega arith in subst (λ (n : ℕ). position_in (table_of c.args.msg.now c.args.self.now) (drop n (labels_in c.args.octets.now)) ≡ None) same front)
      ];
    }
