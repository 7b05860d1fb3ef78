-- What stands below a link: its pairs in order, its height, and that it is level throughout (own).
use Rattle.std.specs.Prelude.{◌≡◌, ℕ, suc, ◌+◌, ◌*◌, ◌^◌, ◌<◌, ◌≤◌, max, List, [], ◌∷◌, ◌++◌, length, Option, None, Some}
use Rattle.std.specs.Borrow.{Bor}
use Rattle.std.specs.declared.cmp.Ordering.{Ordering}
use Rattle.shared_tree.specs.Pairs.{TreeView, IsAscending, first_pair}
use Rattle.shared_tree.specs.declared.node.Entry.{Entry}
use Rattle.std.specs.List.{AllByRecursion}
use Rattle.shared_tree.specs.declared.node.Link.{Link, Run, Fork'}
use Rattle.shared_tree.specs.declared.node.Node.{Node}

-- the pairs of a run's entries (own)
abbrev pub run_pairs : {K V : Type 0} → List (Entry K V) → List (K × V)
run_pairs [] = []
run_pairs (entry ∷ rest) = entry.pair.value ∷ run_pairs rest

-- the pairs below a link, from the left to the right (own)
abbrev pub link_pairs : {K V : Type 0} → Link K V → List (K × V)
link_pairs (Run run) = run_pairs run.value.items
link_pairs (Fork' p entry left right h) = link_pairs left ++ link_pairs right

-- how many links stand on the longest way down (own)
abbrev pub link_height : {K V : Type 0} → Link K V → ℕ
link_height (Run run) = 1
link_height (Fork' p entry left right h) = max (link_height left) (link_height right) + 1

-- neither of two sides is higher than the other by more than one (own)
abbrev pub IsLevel : {K V : Type 0} → Link K V → Link K V → Type 0
IsLevel left right = (link_height left ≤ link_height right + 1) × (link_height right ≤ link_height left + 1)

-- a run has a pair, and at most 16 (own)
abbrev pub IsRun : {K V : Type 0} → List (Entry K V) → Type 0
IsRun entries = (0 < length entries) × (length entries ≤ 16)

-- at each node the two sides are level, and the height that it says is its own and at most 64; each run has 1 to 16 pairs (own)
abbrev pub IsFormed : {K V : Type 0} → Link K V → Type 0
IsFormed (Run run) = IsRun run.value.items
IsFormed (Fork' p entry left right h) =
    (h ≡ max (link_height left) (link_height right) + 1) × IsLevel left right × IsFormed left × IsFormed right × (h ≤ 64)

-- the number that an entry has is its key's (own)
abbrev pub IsFronted : {K V : Type 0} → (K → ℕ) → Entry K V → Type 0
IsFronted front entry = entry.front ≡ front entry.pair.value.0

-- so it is of each of a run's entries (own)
abbrev pub AreFronted : {K V : Type 0} → (K → ℕ) → List (Entry K V) → Type 0
AreFronted front entries = AllByRecursion (IsFronted front) entries

-- a run that has a pair, and its entries' numbers are their keys' (own)
abbrev pub IsRunFronted : {K V : Type 0} → (K → ℕ) → List (Entry K V) → Type 0
IsRunFronted front entries = (0 < length entries) × AreFronted front entries

-- an entry is the first of pairs that stand after others, and so parts the two; its number is its key's (own)
abbrev pub IsParting : {K V : Type 0} → (K → ℕ) → Entry K V → List (K × V) → Type 0
IsParting front entry behind = (first_pair behind ≡ Some entry.pair.value) × IsFronted front entry

-- at each node the entry parts the sides, and each number in a run is its key's (own)
abbrev pub IsParted : {K V : Type 0} → (K → ℕ) → Link K V → Type 0
IsParted front (Run run) = IsRunFronted front run.value.items
IsParted front (Fork' p entry left right h) = IsParting front entry (link_pairs right) × IsParted front left × IsParted front right

-- two formed sides, neither higher than the other by more than two: they can be joined, and are level then (own)
abbrev pub AreJoinable : {K V : Type 0} → Link K V → Link K V → Type 0
AreJoinable left right =
    IsFormed left × IsFormed right × (link_height left ≤ link_height right + 2) × (link_height right ≤ link_height left + 2)

-- how high two sides are once they are joined: as high as a node of both where they are level, and no lower than the
-- higher one else (own)
abbrev pub IsJoined : {K V : Type 0} → Link K V → Link K V → Link K V → Type 0
IsJoined left right link =
    (IsLevel left right → link_height link ≡ max (link_height left) (link_height right) + 1) × (link_height left ≤ link_height link) × (link_height right ≤ link_height link) × (link_height link ≤ max (link_height left) (link_height right) + 1)

-- of a node what these words say of its link (own)
abbrev pub node_pairs : {K V : Type 0} → Node K V → List (K × V)
node_pairs node = link_pairs node.left ++ link_pairs node.right

abbrev pub node_height : {K V : Type 0} → Node K V → ℕ
node_height node = max (link_height node.left) (link_height node.right) + 1

abbrev pub IsFormedNode : {K V : Type 0} → Node K V → Type 0
IsFormedNode node = IsLevel node.left node.right × IsFormed node.left × IsFormed node.right

abbrev pub IsPartedNode : {K V : Type 0} → (K → ℕ) → Node K V → Type 0
IsPartedNode front node = IsParting front node.entry (link_pairs node.right) × IsParted front node.left × IsParted front node.right

-- of a tree's root, where it has one, what they say of a link (own)
abbrev pub root_pairs : {K V : Type 0} → Option (Link K V) → List (K × V)
root_pairs None = []
root_pairs (Some link) = link_pairs link

abbrev pub root_height : {K V : Type 0} → Option (Link K V) → ℕ
root_height None = 0
root_height (Some link) = link_height link

abbrev pub IsFormedRoot : {K V : Type 0} → Option (Link K V) → Type 0
IsFormedRoot None = Unit {0}
IsFormedRoot (Some link) = IsFormed link

abbrev pub IsPartedRoot : {K V : Type 0} → (K → ℕ) → Option (Link K V) → Type 0
IsPartedRoot front None = Unit {0}
IsPartedRoot front (Some link) = IsParted front link

-- a formed node on the left, or on the right, and a formed side that is lower by two (own)
abbrev pub IsHighLeft : {K V : Type 0} → Node K V → Link K V → Type 0
IsHighLeft node right = IsFormedNode node × IsFormed right × (node_height node ≡ link_height right + 2)

abbrev pub IsHighRight : {K V : Type 0} → Link K V → Node K V → Type 0
IsHighRight left node = IsFormedNode node × IsFormed left × (node_height node ≡ link_height left + 2)

-- the same where it is the node's inner side, a node, that is the higher one (own)
abbrev pub IsBentLeft : {K V : Type 0} → Node K V → Node K V → Link K V → Type 0
IsBentLeft node inner right =
    IsFormed node.left × IsFormedNode inner × IsFormed right × (node_height inner ≡ link_height right + 1) × (link_height node.left ≡ link_height right)

abbrev pub IsBentRight : {K V : Type 0} → Link K V → Node K V → Node K V → Type 0
IsBentRight left inner node =
    IsFormed left × IsFormedNode inner × IsFormed node.right × (node_height inner ≡ link_height left + 1) × (link_height node.right ≡ link_height left)

-- a link with a pair more, or in another's place: as high as before, or higher by one (own)
abbrev pub IsGrown : {K V : Type 0} → Link K V → Link K V → Type 0
IsGrown old new = (link_height old ≤ link_height new) × (link_height new ≤ link_height old + 1)

-- a link with a pair less: as high as before, or lower by one (own)
abbrev pub IsShrunk : {K V : Type 0} → Link K V → Option (Link K V) → Type 0
IsShrunk old new = (link_height old ≤ root_height new + 1) × (root_height new ≤ link_height old)

abbrev pub IsShrunkNode : {K V : Type 0} → Node K V → Option (Link K V) → Type 0
IsShrunkNode old new = (node_height old ≤ root_height new + 1) × (root_height new ≤ node_height old)

-- a formed node, and its left side, or its right one, with a pair less (own)
abbrev pub IsCutLeft : {K V : Type 0} → Node K V → Option (Link K V) → Type 0
IsCutLeft node left = IsFormedNode node × IsFormedRoot left × IsShrunk node.left left

abbrev pub IsCutRight : {K V : Type 0} → Node K V → Option (Link K V) → Type 0
IsCutRight node right = IsFormedNode node × IsFormedRoot right × IsShrunk node.right right

-- what keeps a tree: its keys ascend, it is formed, and each node's entry parts it (own)
pub record IsTree {K V : Type 0} (cmp : K → K → Ordering) (front : K → ℕ) (root : Option (Link K V)) : Type 0 where
  pub ascends : IsAscending cmp (root_pairs root)
  pub formed : IsFormedRoot root
  pub parted : IsPartedRoot front root

-- how a tree is seen (own)
abbrev pub view_of : {K V : Type 0} → Option (Link K V) → TreeView K V
view_of root = record { pairs = root_pairs root; height = root_height root }

-- a height is just that of so many pairs that are halved down to runs of at most 16 (own)
abbrev pub IsHalved : ℕ → ℕ → Type 0
IsHalved height count = (0 < height) × (count ≤ 8 * 2 ^ height) × (1 < height → 4 * 2 ^ height < count)

-- the pair of an entry (own)
abbrev pub pair_of : {K V : Type 0} → Entry K V → K × V
pair_of entry = entry.pair.value

-- the pairs that are left of nodes on the way down to a run, the highest node first: of each those on its right, after those of
-- the nodes below it (own)
abbrev pub pairs_on_way : {K V : Type 0} → List (Option (Bor (Node K V))) → List (K × V)
pairs_on_way [] = []
pairs_on_way (None ∷ way) = pairs_on_way way
pairs_on_way (Some node ∷ way) = pairs_on_way way ++ link_pairs node.now.right

-- nodes on a way, of which so many stand above: what stands on the right of each is formed, and no way down from there has
-- more than 64 nodes (own)
abbrev pub AreOnWay : {K V : Type 0} → ℕ → List (Option (Bor (Node K V))) → Type 0
AreOnWay above [] = Unit {0}
AreOnWay above (None ∷ way) = ⊥
AreOnWay above (Some node ∷ way) =
    IsFormed node.now.right × (above + link_height node.now.right < 64) × AreOnWay (suc above) way

-- a node that is taken off a way, the lowest one (own)
pub record IsTaken {K V : Type 0} (old new : List (Option (Bor (Node K V)))) (node : Bor (Node K V)) : Type 0 where
  pub is : old ≡ new ++ Some node ∷ []
  pub rest : AreOnWay 0 new
  pub formed : IsFormed node.now.right
  pub room : length new + link_height node.now.right < 64
