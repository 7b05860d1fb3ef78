-- Octets that begin alike.
use Rattle.std.proofs.Common.{◌≡◌, ℕ, ◌+◌, ◌-◌, ◌<◌, ◌≤◌, ◌↔◌, Bool, true, false, eqb, List, ◌∷◌, ◌++◌, length, take, drop, Ok, refl, sym, ap, subst, ◌∙◌, arith}
use Rattle.std.specs.Bool.{OnTrue}
use Rattle.std.specs.Cmp.Lexicographic.{pointwise, pointwise_decides}
use Rattle.std.proofs.lemmas.Bool.Decides.{Decides-eqb}
use Rattle.std.proofs.lemmas.List.{length-append, length-drop, take_at, take-append-drop, drop-drop}
use Rattle.dns_name.specs.Labels.{labels_in, IsWhole, IsFirstLabel}
use Rattle.dns_name.specs.Name.{IsLabel}
use Rattle.wire_names.specs.Spells.{Spells, label}
use Rattle.wire_names.specs.Parts.{part_at, part_of, label_at}
use Rattle.wire_names.specs.declared.part.Part.TheVariants.{Label}
use Rattle.wire_names.proofs.TableLemmas.{SpellsIn, SpellsAlike, spells_label}
use Rattle.wire_names.proofs.WrittenLemmas.{part_of-label}

-- what both begin with is the same
pub front_alike : (octets others own same : List ℕ) (n len : ℕ) (b : Bool) → 1 + len ≡ n → n ≤ length others → own ≡ take n octets → same ≡ take n others → b ≡ pointwise eqb own same → OnTrue b ((take (1 + len) octets ≡ take (1 + len) others) × (len < length others))
front_alike octets others own same n len true size many own_is same_is t =
    let e = (pointwise_decides Decides-eqb own same).0 (sym t) in
    let all : take n octets ≡ take n others = sym own_is ∙ e ∙ same_is in
    (subst (λ (m : ℕ). take m octets ≡ take m others) (sym size) all, omega arith)
front_alike octets others own same n len false size many own_is same_is t = tt

-- a label of so many octets stands at a position, the first of the name in some octets, and these are behind it there
pub record IsAhead (msg : List ℕ) (at len : ℕ) (octets behind : List ℕ) : Type 0 where
  pub part : part_at msg at ≡ Ok (Label len)
  pub labels : labels_in octets ≡ label_at msg at len ∷ labels_in behind
  pub whole : IsWhole behind

-- the label that octets begin with stands where others begin alike
pub ahead_alike : (msg octets own behind there : List ℕ) (at : ℕ) → there ≡ drop at msg → IsFirstLabel octets own behind → (take (1 + length own) octets ≡ take (1 + length own) there) × (length own < length there) → IsAhead msg at (length own) octets behind
ahead_alike msg octets own behind there at from first alike =
    let n = length own in
    let size : length (n ∷ own) ≡ 1 + n = omega arith in
    let front_is : take (1 + n) octets ≡ n ∷ own = ap (take (1 + n)) first.octets_are ∙ take_at (n ∷ own) behind (1 + n) size in
    let front : take (1 + n) there ≡ n ∷ own = sym alike.0 ∙ front_is in
    let tail = drop (1 + n) there in
    let all : there ≡ n ∷ own ++ tail = sym (take-append-drop (1 + n) there) ∙ ap (λ (xs : List ℕ). xs ++ tail) front in
    let here : drop at msg ≡ n ∷ own ++ tail = sym from ∙ all in
    let lawful : IsLabel own = record { some = first.some; short = first.short } in
    let next : drop (at + 1) msg ≡ own ++ tail = sym (drop-drop 1 at msg) ∙ ap (drop 1) here in
    let text : label_at msg at n ≡ own = ap (take n) next ∙ take_at own tail n refl in
    record {
      part = ap part_of here ∙ part_of-label own tail lawful;
      labels = first.labels ∙ ap (λ (xs : List ℕ). xs ∷ labels_in behind) (sym text);
      whole = first.whole;
    }

-- what a place spells is what another spells of the rest of a name, behind labels that stand there
pub record IsSame (msg octets rest there : List ℕ) (at : ℕ) : Type 0 where
  pub whole : IsWhole rest
  pub few : length rest ≤ length octets
  pub within : length octets - length rest ≤ length msg - at
  pub there_is : there ≡ drop (at + (length octets - length rest)) msg
  pub same : (run : ℕ) → SpellsIn msg run at (labels_in octets) ↔ SpellsIn msg run (at + (length octets - length rest)) (labels_in rest)

pub same_none : (msg octets there : List ℕ) (at : ℕ) → IsWhole octets → there ≡ drop at msg → IsSame msg octets octets there at
same_none msg octets there at whole from =
    let on : at ≡ at + (length octets - length octets) = omega arith in
    record {
      whole = whole;
      few = omega arith;
      within = omega arith;
      there_is = from ∙ ap (λ (n : ℕ). drop n msg) on;
      same = λ run. (λ s. subst (λ (n : ℕ). SpellsIn msg run n (labels_in octets)) on s, λ s. subst (λ (n : ℕ). SpellsIn msg run n (labels_in octets)) (sym on) s);
    }

pub same_more : (msg octets rest label behind there : List ℕ) (at : ℕ) → IsSame msg octets rest there at → IsFirstLabel rest label behind → (take (1 + length label) rest ≡ take (1 + length label) there) × (length label < length there) → IsSame msg octets behind (drop (1 + length label) there) at
same_more msg octets rest own behind there at so first alike =
    let n = length own in
    let place = at + (length octets - length rest) in
    let few = so.few in
    let in_msg = so.within in
    let room = alike.1 in
    let left = ap length so.there_is ∙ length-drop place msg in
    let size = ap length first.octets_are in
    let both = length-append own behind in
    let less : length behind ≤ length octets = omega arith in
    let on : place + 1 + n ≡ at + (length octets - length behind) = omega arith in
    let to : place + (1 + n) ≡ at + (length octets - length behind) = omega arith in
    let ahead = ahead_alike msg rest own behind there place so.there_is first alike in
    record {
      whole = first.whole;
      few = less;
      within = omega arith;
      there_is = ap (drop (1 + n)) so.there_is ∙ drop-drop (1 + n) place msg ∙ ap (λ (k : ℕ). drop k msg) to;
      same = λ run. (
        λ s.
            let t = (so.same run).0 s in
            let l = spells_label msg run place t.0 n (labels_in rest) ahead.part t.1 in
            let is = l.is in
            let labels = ahead.labels in
            let tail : l.rest ≡ labels_in behind = cc in
            (l.next, subst (λ (x : ℕ). Spells msg run x (labels_in behind) l.next) on (subst (λ (x : List (List ℕ)). Spells msg run (place + 1 + n) x l.next) tail l.spells)),
        λ s.
            let there = subst (λ (x : ℕ). Spells msg run x (labels_in behind) s.0) (sym on) s.1 in
            (so.same run).1 (s.0, subst (λ (x : List (List ℕ)). Spells msg run place x s.0) (sym ahead.labels) (label ahead.part refl there)),
      );
    }

-- what is spelt in a run goes on there
pub alike_same : (msg : List ℕ) (at run place other : ℕ) (name rest behind : List (List ℕ)) → SpellsAlike msg at run place name rest → ((r : ℕ) → SpellsIn msg r place rest ↔ SpellsIn msg r other behind) → SpellsAlike msg at run other name behind
alike_same msg at run place other name rest behind alike same = record {
  there = λ next s. let b = (same run).1 (next, s) in alike.there b.0 b.1;
  back = λ next s. let b = alike.back next s in (same run).0 b;
}
