-- How low a link is that is formed, and what parts it.
use Rattle.std.proofs.Common.{inl, inr, ◌≡◌, ◌∙◌, sym, subst, refl, ℕ, zero, suc, ◌+◌, ◌*◌, ◌^◌, ◌<◌, ◌≤◌, max, List, [], ◌∷◌, ◌++◌, length, length-append, arith, ap, Option, Some, None, append_assoc, Bool, not}
use Rattle.std.specs.Prelude.{IsTrue}
use Rattle.std.specs.Option.{is_some}
use Rattle.shared_tree.specs.declared.node.Entry.{Entry}
use Rattle.shared_tree.specs.declared.node.Link.{Link, Run, Fork'}
use Rattle.shared_tree.specs.declared.node.Node.{Node}
use Rattle.shared_tree.specs.Links.{run_pairs, link_pairs, link_height, root_pairs, root_height, IsFormed, IsFormedRoot, IsHalved, IsFronted, IsParting, IsParted, IsPartedNode}
use Rattle.std.proofs.lemmas.Bool.{cases_lt}
use Rattle.std.proofs.Math.Pow.{pow_mono}
use Rattle.std.proofs.Math.Nat.{pow-succ'}
use Rattle.shared_tree.specs.Pairs.{IsLow, first_pair}

-- no link is of no height
pub some_height : {K V : Type 0} (link : Link K V) → 0 < link_height link
some_height (Run run) = omega arith
some_height (Fork' p entry left right h) = omega arith

-- a run has as many pairs as entries
pub run_length : {K V : Type 0} (entries : List (Entry K V)) → length (run_pairs entries) ≡ length entries
run_length [] = refl
run_length (entry ∷ rest) = ap suc (run_length rest)

pub no_entries : {K V : Type 0} (entries : List (Entry K V)) → length entries ≡ 0 → run_pairs entries ≡ []
no_entries [] e = refl
no_entries (entry ∷ rest) e = absurd (omega arith)

pub run_append : {K V : Type 0} (entries behind : List (Entry K V)) → run_pairs (entries ++ behind) ≡ run_pairs entries ++ run_pairs behind
run_append [] behind = refl
run_append (entry ∷ rest) behind = ap (λ l. entry.pair.value ∷ l) (run_append rest behind)

-- both sides of a node that is higher by more than 2 (d + 1) are higher by more than 2 d
doubled : (d l r size_l size_r : ℕ) → l ≤ r + 1 → r ≤ l + 1 → 2 * suc d < max l r + 1 → (2 * d < l → 2 ^ d ≤ size_l) → (2 * d < r → 2 ^ d ≤ size_r) → 2 ^ suc d ≤ size_l + size_r
doubled d l r size_l size_r hl hr h left right =
    let a : 2 ^ d ≤ size_l = left (omega arith) in
    let b : 2 ^ d ≤ size_r = right (omega arith) in
    grind (arith)

-- a link higher than 2 d has at least 2^d pairs
pub size_of : {K V : Type 0} (link : Link K V) → IsFormed link → (d : ℕ) → 2 * d < link_height link → 2 ^ d ≤ length (link_pairs link)
size_of (Run run) f zero h = omega (arith, run_length run.value.items, f.0)
size_of (Run run) f (suc d) h = absurd (omega arith)
size_of (Fork' p entry left right s) f zero h = omega (arith, length-append (link_pairs left) (link_pairs right), size_of left f.2 zero (some_height left))
size_of (Fork' p entry left right s) f (suc d) h =
    rw (length-append (link_pairs left) (link_pairs right))
    (doubled d (link_height left) (link_height right) _ _ f.1.0 f.1.1 h (size_of left f.2 d) (size_of right f.3 d))

pub is_low : {K V : Type 0} (root : Option (Link K V)) → IsFormedRoot root → IsLow (root_height root) (length (root_pairs root))
is_low None f digits h = omega arith
is_low (Some link) f digits h = grind (arith, size_of link f digits)

-- a formed link has pairs
pub some_pairs : {K V : Type 0} (link : Link K V) → IsFormed link → 0 < length (link_pairs link)
some_pairs link f = size_of link f zero (some_height link)

none_short : {X : Type 0} (xs : List X) → 0 < length xs → xs ≡ [] → ⊥
none_short xs h e = let n : length xs ≡ 0 = ap length e in omega arith

pub not_none : {K V : Type 0} (link : Link K V) → IsFormed link → link_pairs link ≡ [] → ⊥
not_none link f e = none_short (link_pairs link) (some_pairs link f) e

pub empty_root : {K V : Type 0} (root : Option (Link K V)) (none : Bool) → IsFormedRoot root → is_some root ≡ not none → (IsTrue none → root_pairs root ≡ []) × (root_pairs root ≡ [] → IsTrue none)
empty_root None none f e = (λ _. refl, λ _. grind (arith, e))
empty_root (Some link) none f e = (λ t. absurd (grind (arith, e, t)), λ n. absurd (not_none link f n))

-- two halves: of a and b pairs, where b is a or a + 1
module _ (a b l r : ℕ) (left : IsHalved l a) (right : IsHalved r b) (le : a ≤ b) (ge : b ≤ a + 1) (many : 16 < a + b) where
  left_no_higher : l ≤ r
  left_no_higher = elim (cases_lt r l) [
    | inl lt ↦
        let e : 2 ^ suc r ≤ 2 ^ l = pow_mono lt in
        let f : 2 ^ suc r ≡ 2 * 2 ^ r = pow-succ' 2 r in
        let low : 4 * 2 ^ l < a = left.2 (omega (arith, right.0)) in
        absurd (omega (arith, right.1))
    | inr ge ↦ ge
  ]

  right_at_most_one : r ≤ l + 1
  right_at_most_one = elim (cases_lt (l + 1) r) [
    | inl lt ↦
        let e : 2 ^ suc (suc l) ≤ 2 ^ r = pow_mono (omega arith) in
        let f : 2 ^ suc (suc l) ≡ 2 * 2 ^ suc l = pow-succ' 2 (suc l) in
        let h : 2 ^ suc l ≡ 2 * 2 ^ l = pow-succ' 2 l in
        let low : 4 * 2 ^ r < b = right.2 (omega (arith, left.0)) in
        absurd (omega (arith, left.1))
    | inr ge ↦ ge
  ]

  whole_low : 4 * (2 * 2 ^ r) < a + b
  whole_low = elim (cases_lt 1 r) [
    | inl lt ↦ let low : 4 * 2 ^ r < b = right.2 lt in omega arith
    | inr one ↦
        let e : r ≡ 1 = omega (arith, right.0) in
        rw e (omega arith)
  ]

  pub halves : record { level_left : l ≤ r + 1; level_right : r ≤ l + 1; whole : IsHalved (max l r + 1) (a + b) }
  halves =
      let same : max l r + 1 ≡ suc r = omega (arith, left_no_higher) in
      let f : 2 ^ suc r ≡ 2 * 2 ^ r = pow-succ' 2 r in
      record {
        level_left = omega (arith, left_no_higher);
        level_right = right_at_most_one;
        whole = rw (same, f) (omega arith, omega (arith, right.1), λ _. whole_low);
      }

-- the first of two lists is that of the one in front, where that has one
pub first_append : {K V : Type 0} (xs ys : List (K × V)) (pair : K × V) → first_pair xs ≡ Some pair → first_pair (xs ++ ys) ≡ Some pair
first_append [] ys pair e = cc
first_append (x ∷ xs) ys pair e = e

first_longer : {K V : Type 0} (xs ys : List (K × V)) → 0 < length xs → first_pair (xs ++ ys) ≡ first_pair xs
first_longer [] ys h = absurd (omega arith)
first_longer (x ∷ xs) ys h = refl

pub first_formed : {K V : Type 0} (link : Link K V) → IsFormed link → (ys : List (K × V)) → first_pair (link_pairs link ++ ys) ≡ first_pair (link_pairs link)
first_formed link f ys = first_longer (link_pairs link) ys (some_pairs link f)

module _ {K V : Type 0} (front : K → ℕ) where
  -- a parted link has a first pair
  first_some : (entries : List (Entry K V)) (ys : List (K × V)) → 0 < length entries → first_pair (run_pairs entries ++ ys) ≡ first_pair (run_pairs entries)
  first_some [] ys h = absurd (omega arith)
  first_some (entry ∷ rest) ys h = refl

  pub first_of : (link : Link K V) → IsParted front link → (ys : List (K × V)) → first_pair (link_pairs link ++ ys) ≡ first_pair (link_pairs link)
  first_of (Run run) h ys = first_some run.value.items ys h.0
  first_of (Fork' p entry left right n) h ys =
      ap first_pair (append_assoc (link_pairs left) (link_pairs right) ys) ∙ first_of left h.1 (link_pairs right ++ ys) ∙ sym (first_of left h.1 (link_pairs right))

  -- an entry that is equal to one that parts pairs parts them too
  pub entry_fronted : (new old : Entry K V) → new.front ≡ old.front → new.pair.value ≡ old.pair.value → IsFronted front old → IsFronted front new
  entry_fronted new old number pair h = number ∙ h ∙ ap (λ p. front p.0) (sym pair)

  pub entry_parting : (new old : Entry K V) (pairs behind : List (K × V)) → new.front ≡ old.front → new.pair.value ≡ old.pair.value → behind ≡ pairs → IsParting front old pairs → IsParting front new behind
  entry_parting new old pairs behind number pair same h = (ap first_pair same ∙ h.0 ∙ ap Some (sym pair), entry_fronted new old number pair h.1)

  -- what parts pairs parts more behind them, and what parts a link and more parts the link
  pub parting_more : (entry : Entry K V) (pairs behind : List (K × V)) → IsParting front entry pairs → IsParting front entry (pairs ++ behind)
  parting_more entry pairs behind h = (first_append pairs behind entry.pair.value h.0, h.1)

  pub parting_less : (entry : Entry K V) (link : Link K V) (behind : List (K × V)) → IsParted front link → IsParting front entry (link_pairs link ++ behind) → IsParting front entry (link_pairs link)
  parting_less entry link behind parted h = (sym (first_of link parted behind) ∙ h.0, h.1)

  -- a node that is equal to another is parted where that one is
  pub node_parted : {new old : Node K V} → new ≡ old → IsPartedNode front old → IsPartedNode front new
  node_parted e h = subst (IsPartedNode front) (sym e) h
