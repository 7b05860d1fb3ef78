-- What is left of a way down, as nodes are put on it and taken off it.
use Rattle.std.proofs.Common.{subst, MatchOption, ◌≡◌, sym, ap, ◌∙◌, ℕ, suc, ◌+◌, ◌<◌, ◌≤◌, List, [], ◌∷◌, ◌++◌, length, append_assoc, append-nil, Option, None, Some, arith, refl, Bool, true, false, cond}
use Rattle.std.specs.Option.{option_copied}
use Rattle.std.specs.List.{filter, find}
use Rattle.std.specs.Ordering.{is_lt}
use Rattle.std.specs.declared.cmp.Ordering.{Ordering}
use Rattle.shared_tree.specs.Pairs.{first_pair, pairs_above, pair_after}
use Rattle.std.specs.Borrow.{Bor}
use Rattle.shared_tree.specs.declared.node.Link.{Link, Run, Fork'}
use Rattle.shared_tree.specs.declared.node.Node.{Node}
use Rattle.shared_tree.specs.Links.{link_pairs, link_height, IsFormed, AreOnWay, pairs_on_way, IsTaken}

module _ {K V : Type 0} where
  -- a node put on a way
  pub way_put : (above : ℕ) (way : List (Option (Bor (Node K V)))) (node : Bor (Node K V)) → AreOnWay above way → IsFormed node.now.right → above + length way + link_height node.now.right < 64 → AreOnWay above (way ++ Some node ∷ [])
  way_put above [] node h formed room = (formed, omega arith, tt)
  way_put above (None ∷ way) node h formed room = absurd h
  way_put above (Some other ∷ way) node h formed room = (h.0, h.1, way_put (suc above) way node h.2 formed (omega arith))

  pub pairs_put : (way : List (Option (Bor (Node K V)))) (node : Bor (Node K V)) → pairs_on_way (way ++ Some node ∷ []) ≡ link_pairs node.now.right ++ pairs_on_way way
  pairs_put [] node = sym (append-nil (link_pairs node.now.right))
  pairs_put (None ∷ way) node = pairs_put way node
  pairs_put (Some other ∷ way) node =
      ap (λ (xs : List (K × V)). xs ++ link_pairs other.now.right) (pairs_put way node)
      ∙ append_assoc (link_pairs node.now.right) (pairs_on_way way) (link_pairs other.now.right)

  -- what is taken off a way is a node, and what stood above it is a way
  record IsLowest (above : ℕ) (way : List (Option (Bor (Node K V)))) (node : Bor (Node K V)) : Type 0 where
    rest : AreOnWay above way
    formed : IsFormed node.now.right
    room : above + length way + link_height node.now.right < 64

  lowest : (above : ℕ) (way : List (Option (Bor (Node K V)))) (node : Bor (Node K V)) → AreOnWay above (way ++ Some node ∷ []) → IsLowest above way node
  lowest above [] node h = record { rest = tt; formed = h.0; room = omega (arith, h.1) }
  lowest above (None ∷ way) node h = absurd h
  lowest above (Some other ∷ way) node h =
      let below = lowest (suc above) way node h.2 in
      record { rest = (h.0, h.1, below.rest); formed = below.formed; room = omega (arith, below.room) }

  no_blank : (above : ℕ) (way : List (Option (Bor (Node K V)))) → AreOnWay above (way ++ None ∷ []) → ⊥
  no_blank above [] h = h
  no_blank above (None ∷ way) h = h
  no_blank above (Some other ∷ way) h = no_blank (suc above) way h.2

  pub taken : (old new : List (Option (Bor (Node K V)))) (last : Option (Bor (Node K V))) → AreOnWay 0 old → old ≡ new ++ last ∷ [] → MatchOption last ((old ≡ []) × (new ≡ [])) (λ node. IsTaken old new node)
  taken old new None h e = absurd (no_blank 0 new (subst (AreOnWay 0) e h))
  taken old new (Some node) h e =
      let below = lowest 0 new node (subst (AreOnWay 0) e h) in
      record { is = e; rest = below.rest; formed = below.formed; room = omega (arith, below.room) }

  pub taken_pairs : (old new : List (Option (Bor (Node K V)))) (node : Bor (Node K V)) → IsTaken old new node → pairs_on_way old ≡ link_pairs node.now.right ++ pairs_on_way new
  taken_pairs old new node h = ap pairs_on_way h.is ∙ pairs_put new node

-- a formed link is no higher than a way has room for
pub low_enough : {K V : Type 0} (link : Link K V) → IsFormed link → link_height link ≤ 64
low_enough (Run run) h = omega arith
low_enough (Fork' p entry left right n) h = omega (arith, h.0, h.4)

-- what a test finds is the first that passes
found_first : {K V : Type 0} (p : K × V → Bool) (xs : List (K × V)) → find p xs ≡ first_pair (filter p xs)
found_first p [] = refl
found_first {K} {V} p (x ∷ xs) =
    elim (p x) as (λ b. cond b (Some x) (find p xs) ≡ first_pair (cond b (x ∷ filter p xs) (filter p xs))) [ true ↦ refl | false ↦ found_first p xs ]

-- the first pair that a walk over those above a key yields
pub first_walked : {K V : Type 0} (cmp : K → K → Ordering) (key : K) (xs old new : List (K × V)) (r : Option (Bor (K × V))) → old ≡ pairs_above cmp key xs → MatchOption r ((old ≡ []) × (new ≡ [])) (λ x. old ≡ x.now ∷ new) → option_copied r ≡ pair_after cmp key xs
first_walked cmp key xs old new None is h = ap first_pair (sym h.0 ∙ is) ∙ sym (found_first (λ x. is_lt (cmp key x.0)) xs)
first_walked cmp key xs old new (Some x) is h = ap first_pair (sym h ∙ is) ∙ sym (found_first (λ x. is_lt (cmp key x.0)) xs)
