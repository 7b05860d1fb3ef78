-- Labels that differ.
use Rattle.std.proofs.Common.{◌≡◌, ℕ, Bool, true, false, not, List, [], ◌∷◌, length, Ok, refl, sym, ap}
use Rattle.std.specs.Bool.{OnTrue}
use Rattle.std.specs.Str.{bytes_eq}
use Rattle.std.proofs.lemmas.Slice.Eq.{bytes_eq-Decides}
use Rattle.dns_name.specs.Labels.{labels_in, IsFirstLabel}
use Rattle.wire_names.specs.Parts.{part_at, label_at}
use Rattle.wire_names.specs.Spells.{Spells}
use Rattle.wire_names.specs.declared.part.Part.TheVariants.{Label}
use Rattle.wire_names.proofs.TableLemmas.{SpellsAlike, answers_other}

-- what is the same doesn't differ
pub differ_not : (xs ys : List ℕ) → xs ≡ ys → false ≡ not (bytes_eq xs ys)
differ_not xs ys same = ap not (sym ((bytes_eq-Decides xs ys).1 same))

-- nothing is left of both
pub both_empty : (xs ys : List ℕ) → length xs ≡ length ys → length xs ≡ 0 → xs ≡ ys
both_empty [] [] many none = refl
both_empty [] (y ∷ ys) many none = cc
both_empty (x ∷ xs) ys many none = cc

-- another label stands at a position: it doesn't spell the name
pub other_label : (msg rest own behind text : List ℕ) (at n : ℕ) (b : Bool) → part_at msg at ≡ Ok (Label n) → IsFirstLabel rest own behind → text ≡ label_at msg at n → b ≡ not (bytes_eq own text) → OnTrue b ((next : ℕ) → Spells msg at at (labels_in rest) next → ⊥)
other_label msg rest own behind text at n true p first t d =
    λ next s.
    let alike : SpellsAlike msg at at at (labels_in rest) (labels_in rest) = record { there = λ beyond x. (beyond, x); back = λ beyond x. (beyond, x) } in
    let no = (answers_other msg at at at n (labels_in rest) (labels_in rest) (labels_in behind) own text true alike p first.labels t d refl).1 (next, s) in
    cc
other_label msg rest own behind text at n false p first t d = tt
