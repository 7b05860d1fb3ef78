-- The canonical order of names, from labels that are level and the surplus in front of them.
use Rattle.std.proofs.Common.{◌≡◌, ℕ, suc, ◌-◌, ◌⊎◌, inl, inr, List, [], ◌∷◌, ◌++◌, length, take, drop, map, reverse, refl, sym, ap, ◌∙◌, arith}
use Rattle.std.specs.Char.{to_ascii_lowercase}
use Rattle.std.specs.Cmp.Lexicographic.{slice_cmp}
use Rattle.std.specs.Ordering.{nat_cmp, ordering_then}
use Rattle.std.specs.declared.cmp.Ordering.{Ordering}
use Rattle.std.specs.declared.cmp.Ordering.TheVariants.{Less, Equal, Greater}
use Rattle.std.proofs.lemmas.Bool.Decides.{nat_tests}
use Rattle.std.proofs.lemmas.List.{length-map, length-reverse, length-take-le, length-drop, reverse-append, map-append, take-append-drop}
use Rattle.dns_name.specs.Name.{canonical_cmp, fold_name}

pub then_assoc : (a b c : Ordering) → ordering_then (ordering_then a b) c ≡ ordering_then a (ordering_then b c)
then_assoc Less b c = refl
then_assoc Equal b c = refl
then_assoc Greater b c = refl

then_equal : (a : Ordering) → ordering_then a Equal ≡ a
then_equal Less = refl
then_equal Equal = refl
then_equal Greater = refl

-- lists that are level in front are compared there first
slice_cmp-level : {X : Type 0} (R : X → X → Ordering) (xs ys zs ws : List X) → length xs ≡ length ys → slice_cmp R (xs ++ zs) (ys ++ ws) ≡ ordering_then (slice_cmp R xs ys) (slice_cmp R zs ws)
slice_cmp-level R [] [] zs ws e = refl
slice_cmp-level R [] (y ∷ ys) zs ws e = absurd (omega arith)
slice_cmp-level R (x ∷ xs) [] zs ws e = absurd (omega arith)
slice_cmp-level R (x ∷ xs) (y ∷ ys) zs ws e =
    ap (ordering_then (R x y)) (slice_cmp-level R xs ys zs ws (omega arith)) ∙ sym (then_assoc (R x y) (slice_cmp R xs ys) (slice_cmp R zs ws))

nothing_first : (n : ℕ) → Less ≡ nat_cmp 0 (suc n)
nothing_first n = grind (arith, nat_tests)

nothing_second : (n : ℕ) → Greater ≡ nat_cmp (suc n) 0
nothing_second n = grind (arith, nat_tests)

reversed : (front rest : List (List ℕ)) → reverse (fold_name (front ++ rest)) ≡ reverse (fold_name rest) ++ reverse (fold_name front)
reversed front rest = ap reverse (map-append (map to_ascii_lowercase) front rest) ∙ reverse-append (fold_name front) (fold_name rest)

length_reversed : (name : List (List ℕ)) → length (reverse (fold_name name)) ≡ length name
length_reversed name = length-reverse (fold_name name) ∙ length-map name (map to_ascii_lowercase)

-- where one list is empty, the longer one is behind
slice_cmp-empty : {X : Type 0} (R : X → X → Ordering) (zs ws : List X) → (length zs ≡ 0) ⊎ (length ws ≡ 0) → slice_cmp R zs ws ≡ nat_cmp (length zs) (length ws)
slice_cmp-empty R [] [] h = refl
slice_cmp-empty R [] (w ∷ ws) h = nothing_first (length ws)
slice_cmp-empty R (z ∷ zs) [] h = nothing_second (length zs)
slice_cmp-empty R (z ∷ zs) (w ∷ ws) h = absurd (omega arith)

-- names in two parts each, of which the second parts are level, and one first part is empty
pub canonical_cmp-surplus : (front rest front_other rest_other : List (List ℕ)) → length rest ≡ length rest_other → (length front ≡ 0) ⊎ (length front_other ≡ 0) → canonical_cmp (front ++ rest) (front_other ++ rest_other) ≡ ordering_then (canonical_cmp rest rest_other) (nat_cmp (length front) (length front_other))
canonical_cmp-surplus front rest front_other rest_other e h =
    let xs = reverse (fold_name rest) in
    let ys = reverse (fold_name rest_other) in
    let zs = reverse (fold_name front) in
    let ws = reverse (fold_name front_other) in
    let whole : reverse (fold_name (front ++ rest)) ≡ xs ++ zs = reversed front rest in
    let whole_other : reverse (fold_name (front_other ++ rest_other)) ≡ ys ++ ws = reversed front_other rest_other in
    let lx = length_reversed rest in
    let ly = length_reversed rest_other in
    let lz = length_reversed front in
    let lw = length_reversed front_other in
    let level = slice_cmp-level (slice_cmp nat_cmp) xs ys zs ws (omega arith) in
    let none : (length zs ≡ 0) ⊎ (length ws ≡ 0) = elim h [ inl e ↦ inl (omega arith) | inr e ↦ inr (omega arith) ] in
    let empty = slice_cmp-empty (slice_cmp nat_cmp) zs ws none in
    cc

-- one label more on each side of level names
pub canonical_cmp-step : (label label_other : List ℕ) (rest rest_other : List (List ℕ)) → length rest ≡ length rest_other → canonical_cmp (label ∷ rest) (label_other ∷ rest_other) ≡ ordering_then (canonical_cmp rest rest_other) (slice_cmp nat_cmp (map to_ascii_lowercase label) (map to_ascii_lowercase label_other))
canonical_cmp-step label label_other rest rest_other e =
    let xs = reverse (fold_name rest) in
    let ys = reverse (fold_name rest_other) in
    let x = map to_ascii_lowercase label in
    let y = map to_ascii_lowercase label_other in
    let whole : reverse (fold_name (label ∷ rest)) ≡ xs ++ x ∷ [] = reversed (label ∷ []) rest in
    let whole_other : reverse (fold_name (label_other ∷ rest_other)) ≡ ys ++ y ∷ [] = reversed (label_other ∷ []) rest_other in
    let lx = length_reversed rest in
    let ly = length_reversed rest_other in
    let level = slice_cmp-level (slice_cmp nat_cmp) xs ys (x ∷ []) (y ∷ []) (omega arith) in
    let last = then_equal (slice_cmp nat_cmp x y) in
    cc

-- a step of the pass over level names: the pair that differs last decides
pub pass_step : (label label_other : List ℕ) (names names_other rest rest_other : List (List ℕ)) (order next : Ordering) → names ≡ label ∷ rest → names_other ≡ label_other ∷ rest_other → length names ≡ length names_other → next ≡ ordering_then (slice_cmp nat_cmp (map to_ascii_lowercase label) (map to_ascii_lowercase label_other)) order → ordering_then (canonical_cmp rest rest_other) next ≡ ordering_then (canonical_cmp names names_other) order
pass_step label label_other names names_other rest rest_other order next is others level e =
    let len = ap length is in
    let len_other = ap length others in
    let step = canonical_cmp-step label label_other rest rest_other (omega arith) in
    let assoc = then_assoc (canonical_cmp rest rest_other) (slice_cmp nat_cmp (map to_ascii_lowercase label) (map to_ascii_lowercase label_other)) order in
    let whole : canonical_cmp names names_other ≡ canonical_cmp (label ∷ rest) (label_other ∷ rest_other) = cc in
    cc

one_empty : (a b n m : ℕ) → a ≡ n - m → b ≡ m - n → (a ≡ 0) ⊎ (b ≡ 0)
one_empty a b n m ea eb = grind arith

nat_cmp-surplus : (n m a b : ℕ) → a ≡ n - m → b ≡ m - n → nat_cmp n m ≡ nat_cmp a b
nat_cmp-surplus n m a b ea eb = grind (arith, nat_tests)

-- the surplus labels of the longer name cut off
pub cut_surplus : (name other : List (List ℕ)) (n m : ℕ) (rest rest_other : List (List ℕ)) → n ≡ length name → m ≡ length other → rest ≡ drop (n - m) name → rest_other ≡ drop (m - n) other → ordering_then (canonical_cmp rest rest_other) (nat_cmp n m) ≡ canonical_cmp name other
cut_surplus name other n m rest rest_other en em er eo =
    let front = take (n - m) name in
    let front_other = take (m - n) other in
    let join = take-append-drop (n - m) name in
    let join_other = take-append-drop (m - n) other in
    let whole : front ++ rest ≡ name = cc in
    let whole_other : front_other ++ rest_other ≡ other = cc in
    let lf : length front ≡ n - m = length-take-le (n - m) name (omega arith) in
    let lo : length front_other ≡ m - n = length-take-le (m - n) other (omega arith) in
    let lr : length rest ≡ length name - (n - m) = ap length er ∙ length-drop (n - m) name in
    let lro : length rest_other ≡ length other - (m - n) = ap length eo ∙ length-drop (m - n) other in
    let none : (length front ≡ 0) ⊎ (length front_other ≡ 0) = one_empty (length front) (length front_other) n m lf lo in
    let cut = canonical_cmp-surplus front rest front_other rest_other (omega arith) none in
    let same = nat_cmp-surplus n m (length front) (length front_other) lf lo in
    cc
