-- What begins as a later frame does, whether it is one, and what of it is digested.
use Rattle.std.proofs.Common.{◌≡◌, ℕ, ◌+◌, ◌-◌, ◌^◌, ◌<◌, ◌≤◌, List, ◌++◌, length, take, drop, refl, sym, ap, ◌∙◌, subst, append_assoc, append-nil, length-append, arith, [], ◌⊎◌, inl, inr}
use Rattle.std.specs.Int.{w32, w64, to_be_bytes}
use Rattle.std.proofs.lemmas.List.{take_at, take-append-le, drop-append-le, take-append-drop, length-drop}
use Rattle.sha2.specs.Sha256.{sha256}
use Rattle.journal.specs.Frame.{body_limit, text_of, mark_of, framed}
use Rattle.journal.specs.Private.{IsDigested}
use Rattle.journal.specs.Tail.{BeginsLater, BeginsMarked, StandsAgain, IsOutline, ShowsLater}
use Rattle.journal.proofs.PartLemmas.{same_parts, same_number_4}
use Rattle.journal.proofs.FrameLemmas.{framed_long, behind_mark}
use Rattle.journal.proofs.SummedLemmas.{summed_parts}

-- octets that begin with a later frame begin as one does
pub outline_of_later : (salt : List ℕ) (next : ℕ) (octets : List ℕ) (later : BeginsLater salt next octets)
    → IsOutline (mark_of salt) next octets (framed salt later.number later.body) later.left
outline_of_later salt next octets later =
    let sum : List ℕ = sha256 (salt ++ text_of later.number later.body) in
    record {
      size = length later.body;
      number = later.number;
      behind = later.body ++ (sum ++ later.left);
      short = later.frame.short;
      counted = later.frame.counted;
      later = later.later;
      lead = behind_mark salt later.number octets later.body later.left later.frame
          ∙ ap (λ (o : List ℕ). mark_of salt ++ o) (summed_parts salt later.number later.body later.left);
      long = framed_long salt later.number later.body;
      spelt = later.frame.spelt;
    }

-- octets of these parts begin as a later frame does
pub outline_from : (mark next size number : ℕ) (octets behind after rest whole left : List ℕ) → size < body_limit → number < 2 ^ 64 → next < number
    → octets ≡ to_be_bytes w64 mark ++ behind → behind ≡ to_be_bytes w32 size ++ after → after ≡ to_be_bytes w64 number ++ rest
    → length whole ≡ 52 + size → octets ≡ whole ++ left → IsOutline (to_be_bytes w64 mark) next octets whole left
outline_from mark next size number octets behind after rest whole left short counted later first second third long spelt = record {
  size = size;
  number = number;
  behind = rest;
  short = short;
  counted = counted;
  later = later;
  lead = first ∙ ap (λ (o : List ℕ). to_be_bytes w64 mark ++ o) (second ∙ ap (λ (o : List ℕ). to_be_bytes w32 size ++ o) third);
  long = omega (arith, long);
  spelt = spelt;
}

-- in one way
pub one_outline : (mark : List ℕ) (next : ℕ) (octets whole rest other left : List ℕ) → IsOutline mark next octets whole rest → IsOutline mark next octets other left → whole ≡ other
one_outline mark next octets whole rest other left one two =
    let behind = same_parts mark (to_be_bytes w32 one.size ++ (to_be_bytes w64 one.number ++ one.behind)) mark (to_be_bytes w32 two.size ++ (to_be_bytes w64 two.number ++ two.behind)) refl
    (sym one.lead ∙ two.lead) in
    let sizes = same_parts (to_be_bytes w32 one.size) (to_be_bytes w64 one.number ++ one.behind) (to_be_bytes w32 two.size) (to_be_bytes w64 two.number ++ two.behind) refl behind.1 in
    let size : one.size ≡ two.size = same_number_4 one.size two.size (omega (arith, one.short)) (omega (arith, two.short)) sizes.0 in
    let long : length whole ≡ length other = omega (arith, one.long, two.long, size) in
    (same_parts whole rest other left long (sym one.spelt ∙ two.spelt)).0

-- a later frame stands within as many octets as it has
pub later_in : (salt : List ℕ) (next : ℕ) (octets whole rest : List ℕ) → IsOutline (mark_of salt) next octets whole rest → BeginsLater salt next octets → BeginsLater salt next whole
later_in salt next octets whole rest outline later = record {
  number = later.number;
  body = later.body;
  left = [];
  later = later.later;
  frame = record {
    short = later.frame.short;
    counted = later.frame.counted;
    spelt = one_outline (mark_of salt) next octets whole rest (framed salt later.number later.body) later.left outline (outline_of_later salt next octets later)
        ∙ sym (append-nil (framed salt later.number later.body));
  };
}

pub later_out : (salt : List ℕ) (next : ℕ) (octets whole rest : List ℕ) → octets ≡ whole ++ rest → BeginsLater salt next whole → BeginsLater salt next octets
later_out salt next octets whole rest spelt later = record {
  number = later.number;
  body = later.body;
  left = later.left ++ rest;
  later = later.later;
  frame = record {
    short = later.frame.short;
    counted = later.frame.counted;
    spelt = spelt ∙ (ap (λ (o : List ℕ). o ++ rest) later.frame.spelt ∙ append_assoc (framed salt later.number later.body) later.left rest);
  };
}

-- octets that begin as no later frame does show none
pub none_shown : (salt mark : List ℕ) (next : ℕ) (octets : List ℕ) → mark_of salt ≡ mark → ((whole rest : List ℕ) → IsOutline mark next octets whole rest → ⊥)
    → ShowsLater salt next octets → ⊥
none_shown salt mark next octets same none (inl later) =
    none (framed salt later.number later.body) later.left
    (subst (λ (m : List ℕ). IsOutline m next octets (framed salt later.number later.body) later.left) same (outline_of_later salt next octets later))
none_shown salt mark next octets same none (inr overlap) =
    none overlap.whole overlap.rest (subst (λ (m : List ℕ). IsOutline m next octets overlap.whole overlap.rest) same overlap.outline)

-- those in which the mark stands again do
pub overlap_shown : (salt mark : List ℕ) (next : ℕ) (octets whole rest : List ℕ) → mark_of salt ≡ mark → IsOutline mark next octets whole rest → StandsAgain mark whole
    → ShowsLater salt next octets
overlap_shown salt mark next octets whole rest same outline again = inr (record {
  whole = whole;
  rest = rest;
  outline = subst (λ (m : List ℕ). IsOutline m next octets whole rest) (sym same) outline;
  again = subst (λ (m : List ℕ). StandsAgain m whole) (sym same) again;
})

-- and others only if they begin with a later frame
pub alone_shown : (salt mark : List ℕ) (next : ℕ) (octets whole rest : List ℕ) → mark_of salt ≡ mark → IsOutline mark next octets whole rest → (StandsAgain mark whole → ⊥)
    → (BeginsLater salt next whole → ⊥) → ShowsLater salt next octets → ⊥
alone_shown salt mark next octets whole rest same outline alone none (inl later) =
    none (later_in salt next octets whole rest (subst (λ (m : List ℕ). IsOutline m next octets whole rest) (sym same) outline) later)
alone_shown salt mark next octets whole rest same outline alone none (inr overlap) =
    let theirs : IsOutline mark next octets overlap.whole overlap.rest = subst (λ (m : List ℕ). IsOutline m next octets overlap.whole overlap.rest) same overlap.outline in
    let is : overlap.whole ≡ whole = one_outline mark next octets overlap.whole overlap.rest whole rest theirs outline in
    alone (subst (λ (o : List ℕ). StandsAgain mark o) is (subst (λ (m : List ℕ). StandsAgain m overlap.whole) same overlap.again))

-- nothing is digested
pub none_digested : (mark octets : List ℕ) (before : ℕ) → IsDigested mark octets before before
none_digested mark octets before = record {
  many = 0;
  few = omega arith;
  within = omega arith;
  marked = inl refl;
  alone = λ place behind below marked. omega (arith, below);
}

-- octets that begin with others, which are long enough for a mark, begin with it only if these do
marked_in : (mark octets rest : List ℕ) → length mark ≡ 8 → 8 ≤ length octets → BeginsMarked mark (octets ++ rest) → BeginsMarked mark octets
marked_in mark octets rest eight long marked =
    let front : take 8 octets ≡ mark =
    sym (take-append-le 8 octets rest long) ∙ (ap (λ (o : List ℕ). take 8 o) marked.1 ∙ take_at mark marked.0 8 eight) in
    (drop 8 octets, sym (take-append-drop 8 octets) ∙ ap (λ (o : List ℕ). o ++ drop 8 octets) front)

-- the octets of what begins as a later frame, in which no mark stands again, are digested once at most
pub whole_digested : (mark : List ℕ) (next : ℕ) (octets whole rest : List ℕ) (before after : ℕ) → length mark ≡ 8 → IsOutline mark next octets whole rest → (StandsAgain mark whole → ⊥)
    → (after ≡ before) ⊎ (after + 40 ≤ before + length whole) → IsDigested mark octets before after
whole_digested mark next octets whole rest before after eight outline alone (inl none) =
    subst (λ (n : ℕ). IsDigested mark octets before n) (sym none) (none_digested mark octets before)
whole_digested mark next octets whole rest before after eight outline alone (inr some) = record {
  many = length whole - 40;
  few = omega (arith, some, outline.long, eight);
  within = omega (arith, ap length outline.spelt, length-append whole rest);
  marked = inr (to_be_bytes w32 outline.size ++ (to_be_bytes w64 outline.number ++ outline.behind), outline.lead);
  alone = λ place behind below marked. alone (place, behind, within place below marked);
}
  where
    within : (place : ℕ) → place < length whole - 40 → BeginsMarked mark (drop place octets) → BeginsMarked mark (drop place whole)
    within place below marked =
        let parts : drop place octets ≡ drop place whole ++ rest = ap (λ (o : List ℕ). drop place o) outline.spelt ∙ drop-append-le place whole rest (omega (arith, below)) in
        marked_in mark (drop place whole) rest eight (omega (arith, below, length-drop place whole)) (subst (λ (o : List ℕ). BeginsMarked mark o) parts marked)
