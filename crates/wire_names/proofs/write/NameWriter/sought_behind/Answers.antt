use Rattle.std.proofs.Common.{◌≤◌, true, refl, ℕ, ◌-◌, ◌<◌, List, length, sym, subst, arith}
use Rattle.dns_name.specs.Labels.{labels_in}
use Rattle.wire_names.specs.Chains.{parent_at}
use Rattle.wire_names.specs.Cut.{IsCut}
use Rattle.wire_names.specs.Place.{IsPlace, IsLongest}
use Rattle.wire_names.specs.Table.{Entry, table_of}
use Rattle.wire_names.specs.declared.write.Place.{Place}
use Rattle.wire_names.proofs.CutLemmas.{IsCut-root, IsCut-found, place_within}
use Rattle.wire_names.proofs.LongestLemmas.{longest_known}
use Rattle.wire_names.proofs.write.NameWriter.sought_behind.Goals.{in-Some, in-None}
use Rattle.wire_names.proofs.write.NameWriter.sought_behind.Goals as goal

record IsBest (msg : List ℕ) (xs : List Entry) (octets : List ℕ) (count : ℕ) (place : Place) : Type 0 where
  is : IsPlace msg xs (labels_in octets) place
  longest : IsLongest msg xs (labels_in octets) place.labels
  up : place.labels ≤ count

root_best : (c : goal.Then-place-eq-ROOT) → IsBest c.args.msg.now c.args.self.now c.args.octets.now c.front.result.0.count c.match-part.place
root_best c = elim c.match-part.branch [
  | in-Some w ↦ subst (IsBest c.args.msg.now c.args.self.now c.args.octets.now c.front.result.0.count) (sym w.place-is) (let far = w.climb_in_part-place.ensures.up in let up = c.climb-place.ensures.up in let all = c.front.ensures.all in record {
    is = w.climb_in_part-place.ensures.place;
    longest = w.climb_in_part-place.ensures.longest;
    up = omega arith;
  })
  | in-None w ↦ subst (IsBest c.args.msg.now c.args.self.now c.args.octets.now c.front.result.0.count) (sym w.place-is) (let up = c.climb-place.ensures.up in let all = c.front.ensures.all in record {
    is = c.climb-place.ensures.place;
    longest = longest_known _ _ _ _ c.requires.table c.climb-place.ensures.place.within c.climb-place.ensures.end
        (subst (λ (xs : List Entry). 0 < length xs → parent_at xs (length xs - 1) < 258) c.self.view_is (w.in-None.ensures.none refl));
    up = omega arith;
  })
]

start_best : (c : goal.After-start) → IsBest c.args.msg.now c.args.self.now c.args.octets.now c.front.result.0.count c.match-part.place
start_best c = elim c.match-part.branch [
  | in-Some w ↦ subst (IsBest c.args.msg.now c.args.self.now c.args.octets.now c.front.result.0.count) (sym w.place-is) (let far = w.climb_in_part-place.ensures.up in let up = c.climb-place.ensures.up in let all = c.front.ensures.all in record {
    is = w.climb_in_part-place.ensures.place;
    longest = w.climb_in_part-place.ensures.longest;
    up = omega arith;
  })
  | in-None w ↦ subst (IsBest c.args.msg.now c.args.self.now c.args.octets.now c.front.result.0.count) (sym w.place-is) (let up = c.climb-place.ensures.up in let all = c.front.ensures.all in record {
    is = c.climb-place.ensures.place;
    longest = longest_known _ _ _ _ c.requires.table c.climb-place.ensures.place.within c.climb-place.ensures.end
        (subst (λ (xs : List Entry). 0 < length xs → parent_at xs (length xs - 1) < 258) c.self.view_is (w.in-None.ensures.none refl));
    up = omega arith;
  })
]

cut_best : (c : goal.After-cut_at) → IsBest c.args.msg.now c.args.self.now c.args.octets.now c.front.result.0.count c.match-part.place
cut_best c = elim c.match-part.branch [
  | in-Some w ↦ subst (IsBest c.args.msg.now c.args.self.now c.args.octets.now c.front.result.0.count) (sym w.place-is) (let far = w.climb_in_part-place.ensures.up in let up = c.climb-place.ensures.up in let all = c.front.ensures.all in record {
    is = w.climb_in_part-place.ensures.place;
    longest = w.climb_in_part-place.ensures.longest;
    up = omega arith;
  })
  | in-None w ↦ subst (IsBest c.args.msg.now c.args.self.now c.args.octets.now c.front.result.0.count) (sym w.place-is) (let up = c.climb-place.ensures.up in let all = c.front.ensures.all in record {
    is = c.climb-place.ensures.place;
    longest = longest_known _ _ _ _ c.requires.table c.climb-place.ensures.place.within c.climb-place.ensures.end
        (subst (λ (xs : List Entry). 0 < length xs → parent_at xs (length xs - 1) < 258) c.self.view_is (w.in-None.ensures.none refl));
    up = omega arith;
  })
]

pub returns-then-place-eq-ROOT : goal.returns-then-place-eq-ROOT
returns-then-place-eq-ROOT c = let b = root_best c in IsCut-root _ _ _ _ c.requires.table c.requires.whole b.is b.longest c.if-place-eq-ROOT.true

pub cut_at-requires : goal.cut_at-requires
cut_at-requires c = let b = start_best c in place_within _ _ c.args.octets.now _ c.requires.table c.requires.whole b.is b.longest c.if-place-eq-ROOT.false

pub returns : goal.returns
returns c =
    let b = cut_best c in
    subst (IsCut true (table_of c.args.msg.now c.args.self.now) c.args.octets.now) (sym c.cut_at.ensures)
    (IsCut-found _ _ _ _ c.requires.table c.requires.whole b.is b.longest _ _ _ c.front.ensures.starts b.up c.if-place-eq-ROOT.false c.start.ensures)
