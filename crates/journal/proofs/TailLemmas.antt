-- What stands behind the last whole frame.
use Rattle.std.proofs.Common.{◌≡◌, ℕ, ◌+◌, ◌-◌, ◌^◌, ◌<◌, ◌≤◌, List, ◌++◌, length, take, drop, refl, sym, ap, ◌∙◌, subst, length-append, arith, ◌⊎◌, inl, inr}
use Rattle.std.proofs.lemmas.Bool.{cases_lt}
use Rattle.std.proofs.lemmas.List.{drop_all, drop_at, take_rest, drop-drop, length-drop}
use Rattle.journal.specs.declared.tails.Tail.TheVariants.{Torn}
use Rattle.journal.specs.Frame.{body_limit, mark_of, framed}
use Rattle.journal.specs.Private.{IsDigested}
use Rattle.journal.specs.Tail.{BeginsLater, BeginsMarked, ShowsLater, StandsAgain, NoneLater, IsTail}
use Rattle.journal.proofs.FrameLemmas.{frame_shows}

-- no later frame at the places before one
abbrev pub NoneBefore : List ℕ → ℕ → List ℕ → ℕ → Type 0
NoneBefore salt next rest at = (place : ℕ) → place < at → ShowsLater salt next (drop place rest) → ⊥

-- what shows a later frame has 44 octets
pub shown_long : (salt : List ℕ) (next : ℕ) (octets : List ℕ) → ShowsLater salt next octets → 44 ≤ length octets
shown_long salt next octets (inl later) = let shows = frame_shows salt later.number octets later.body later.left later.frame in omega (arith, shows.long)
shown_long salt next octets (inr overlap) =
    omega (arith, overlap.outline.long, ap length overlap.outline.spelt, length-append overlap.whole overlap.rest)

-- so it begins within the octets
pub shown_within : (salt : List ℕ) (next at : ℕ) (rest : List ℕ) → ShowsLater salt next (drop at rest) → at < length rest
shown_within salt next at rest shown = by_place (cases_lt at (length rest))
  where
    by_place : (at < length rest) ⊎ (length rest ≤ at) → at < length rest
    by_place (inl less) = less
    by_place (inr more) = omega (arith, shown_long salt next (drop at rest) shown, ap length (drop_all at rest more))

-- none at the first places, and none at the next one
pub none_more : (salt : List ℕ) (next : ℕ) (rest : List ℕ) (at : ℕ) → NoneBefore salt next rest at → (ShowsLater salt next (drop at rest) → ⊥) → NoneBefore salt next rest (at + 1)
none_more salt next rest at before here place below later = by_place (cases_lt place at)
  where
    by_place : (place < at) ⊎ (at ≤ place) → ⊥
    by_place (inl less) = before place less later
    by_place (inr more) = let same : place ≡ at = omega arith in here (subst (λ (n : ℕ). ShowsLater salt next (drop n rest)) same later)

-- none at any place of the octets is none at all
pub none_at_all : (salt : List ℕ) (next : ℕ) (rest : List ℕ) (end : ℕ) → length rest ≤ end → NoneBefore salt next rest end → NoneLater salt next rest
none_at_all salt next rest end long before at later = before at (omega (arith, long, shown_within salt next at rest later)) later

-- places that are looked at so far: no later frame begins there, so many octets are digested, and in front of where these end no mark is left
pub record Searched (salt : List ℕ) (next : ℕ) (rest : List ℕ) (before digested at : ℕ) : Type 0 where
  pub none : NoneBefore salt next rest at
  pub reach : ℕ
  pub few : digested ≤ before + reach
  pub within : reach ≤ length rest
  pub free : (place : ℕ) → at ≤ place → place < reach → BeginsMarked (mark_of salt) (drop place rest) → ⊥

pub none_searched : (salt : List ℕ) (next : ℕ) (rest : List ℕ) (before : ℕ) → Searched salt next rest before before 0
none_searched salt next rest before = record {
  none = λ place below later. omega (arith, below);
  reach = 0;
  few = omega arith;
  within = omega arith;
  free = λ place from below marked. omega (arith, below);
}

-- where the digested octets end, once those at the next place are, too
record Reaches (salt : List ℕ) (rest : List ℕ) (before digested at : ℕ) : Type 0 where
  reach : ℕ
  few : digested ≤ before + reach
  within : reach ≤ length rest
  free : (place : ℕ) → at < place → place < reach → BeginsMarked (mark_of salt) (drop place rest) → ⊥

reaches : (salt : List ℕ) (next : ℕ) (rest : List ℕ) (before digested after at : ℕ) → at < length rest → Searched salt next rest before digested at
    → IsDigested (mark_of salt) (drop at rest) digested after → Reaches salt rest before after at
reaches salt next rest before digested after at here so_far is = by_mark is.marked
  where
    by_mark : (is.many ≡ 0) ⊎ BeginsMarked (mark_of salt) (drop at rest) → Reaches salt rest before after at
    by_mark (inl none) = record {
      reach = so_far.reach;
      few = omega (arith, so_far.few, is.few, none);
      within = so_far.within;
      free = λ place behind below marked. so_far.free place (omega (arith, behind)) below marked;
    }
    by_mark (inr marked) = by_place (cases_lt at so_far.reach)
      where
        by_place : (at < so_far.reach) ⊎ (so_far.reach ≤ at) → Reaches salt rest before after at
        by_place (inl less) = absurd (so_far.free at (omega arith) less marked)
        by_place (inr more) = record {
          reach = at + is.many;
          few = omega (arith, so_far.few, is.few, more);
          within = omega (arith, is.within, length-drop at rest, here);
          free = λ place behind below found. is.alone (place - at) (omega (arith, behind)) (omega (arith, behind, below))
              (subst (λ (o : List ℕ). BeginsMarked (mark_of salt) o)
              (sym (drop-drop (place - at) at rest ∙ ap (λ (n : ℕ). drop n rest) (there place behind))) found);
        }
          where
            there : (place : ℕ) → at < place → at + (place - at) ≡ place
            there place behind = omega (arith, behind)

-- the next place, at which none begins
pub more_searched : (salt : List ℕ) (next : ℕ) (rest : List ℕ) (before digested after at : ℕ) → at < length rest → Searched salt next rest before digested at
    → (ShowsLater salt next (drop at rest) → ⊥) → IsDigested (mark_of salt) (drop at rest) digested after → Searched salt next rest before after (at + 1)
more_searched salt next rest before digested after at here so_far none is =
    let all = reaches salt next rest before digested after at here so_far is in
    record {
      none = none_more salt next rest at so_far.none none;
      reach = all.reach;
      few = all.few;
      within = all.within;
      free = λ place from below marked. all.free place (omega (arith, from)) below marked;
    }

-- no more are digested than there are
pub few_searched : (salt : List ℕ) (next : ℕ) (rest : List ℕ) (before digested after at : ℕ) → at < length rest → Searched salt next rest before digested at
    → IsDigested (mark_of salt) (drop at rest) digested after → after ≤ before + length rest
few_searched salt next rest before digested after at here so_far is =
    let all = reaches salt next rest before digested after at here so_far is in omega (arith, all.few, all.within)

-- a mark stands at none of the places before one, but maybe the first
abbrev pub NoMarkBefore : List ℕ → List ℕ → ℕ → Type 0
NoMarkBefore mark octets at = (place : ℕ) → 0 < place → place < at → BeginsMarked mark (drop place octets) → ⊥

pub no_mark_more : (mark octets : List ℕ) (at : ℕ) → NoMarkBefore mark octets at → (BeginsMarked mark (drop at octets) → ⊥) → NoMarkBefore mark octets (at + 1)
no_mark_more mark octets at before here place behind below marked = by_place (cases_lt place at)
  where
    by_place : (place < at) ⊎ (at ≤ place) → ⊥
    by_place (inl less) = before place behind less marked
    by_place (inr more) = let same : place ≡ at = omega arith in here (subst (λ (n : ℕ). BeginsMarked mark (drop n octets)) same marked)

-- none at any place of the octets is none at all
pub no_mark_at_all : (mark octets : List ℕ) (end : ℕ) → 0 < length mark → length octets ≤ end → NoMarkBefore mark octets end → StandsAgain mark octets → ⊥
no_mark_at_all mark octets end some long before again = by_place (cases_lt again.0 end)
  where
    by_place : (again.0 < end) ⊎ (end ≤ again.0) → ⊥
    by_place (inl less) = before again.0 again.1 less again.2
    by_place (inr more) =
        omega (arith, some, ap length again.2.1, length-append mark again.2.0, ap length (drop_all again.0 octets (omega (arith, long, more))))

-- the octets from a place on
pub from_place : (P : List ℕ → Type 0) (rest : List ℕ) (at : ℕ) → P (take (length rest - at) (drop at rest)) → P (drop at rest)
from_place P rest at is = subst P (take_rest rest at) is

pub to_place : (P : List ℕ → Type 0) (rest : List ℕ) (at : ℕ) → P (drop at rest) → P (take (length rest - at) (drop at rest))
to_place P rest at is = subst P (sym (take_rest rest at)) is

-- no later frame stands anywhere in a torn end
pub none_torn : (salt : List ℕ) (next at : ℕ) (rest : List ℕ) → IsTail salt next rest Torn → BeginsLater salt next (drop at rest) → ⊥
none_torn salt next at rest torn later = torn.1 at (inl later)

-- so one that was written isn't within one
pub written_torn : (salt : List ℕ) (next number : ℕ) (front body behind : List ℕ) → next < number → number < 2 ^ 64 → length body < body_limit
    → IsTail salt next (front ++ (framed salt number body ++ behind)) Torn → ⊥
written_torn salt next number front body behind later counted short torn =
    none_torn salt next (length front) (front ++ (framed salt number body ++ behind)) torn (record {
      number = number;
      body = body;
      left = behind;
      later = later;
      frame = record { short = short; counted = counted; spelt = drop_at front (framed salt number body ++ behind) (length front) refl };
    })
