use Rattle.std.proofs.Common.{◌≡◌, ℕ, ◌+◌, ◌≤◌, List, [], ◌∷◌, length, drop, sym, ap, ◌∙◌, arith}
use Rattle.std.proofs.lemmas.List.{drop-drop, length-drop, drop_all}
use Rattle.dns_name.specs.Labels.{labels_in}
use Rattle.dns_name.proofs.compare.without.Goals as goal

dropped_all : (i n : ℕ) (names rest : List (List ℕ)) → rest ≡ drop i names → rest ≡ [] → i ≤ n → rest ≡ drop n names
dropped_all i n names rest e none le =
    let len = length-drop i names in
    let nothing = ap length none in
    let same = ap length e in
    none ∙ sym (drop_all n names (omega arith))

dropped_one : (i : ℕ) (names rest behind : List (List ℕ)) (label : List ℕ) → rest ≡ drop i names → rest ≡ label ∷ behind → behind ≡ drop (i + 1) names
dropped_one i names rest behind label e first =
    let whole : drop i names ≡ label ∷ behind = cc in
    ap (drop 1) (sym whole) ∙ drop-drop 1 i names

pub returns-in-None-clause-labels : goal.returns-in-None-clause-labels
returns-in-None-clause-labels c = dropped_all c.loop-i._i c.args.count (labels_in c.args.octets.now) _ c.loop-i.invariant.dropped c.in-None.ensures (omega arith)

pub loop-i-preserved : goal.loop-i-preserved
loop-i-preserved c = record {
  whole = c.in-Some.ensures.whole;
  dropped = dropped_one c.loop-i._i (labels_in c.args.octets.now) _ _ _ c.loop-i.invariant.dropped c.in-Some.ensures.labels;
}
