-- What a name and its ancestors have below them, by the owners next to the name: of a name that owns nothing, an ancestor exists exactly
-- where the owner before it or the one behind it is under that ancestor (RFC 4592, 2.2.3 and 3.3.1).
use Rattle.std.proofs.Common.{◌≡◌, refl, sym, ap, subst, ◌∙◌, ℕ, Bool, true, false, ◌&&◌, ◌||◌, cond, List, [], ◌∷◌, length, reverse, Option, Some, None, unwrap_or, true≢false, append-nil, arith}
use Rattle.std.specs.declared.cmp.Ordering.{Ordering}
use Rattle.std.specs.declared.cmp.Ordering.TheVariants.{Less, Equal, Greater}
use Rattle.std.specs.List.{find, list_any, AllByRecursion}
use Rattle.std.specs.Option.{option_or, option_map}
use Rattle.std.specs.Ordering.{is_lt, is_gt, is_eq, ordering_reverse}
use Rattle.std.proofs.lemmas.List.{reverse-append}
use Rattle.std.proofs.lemmas.List.Elements.{recursion_from_All}
use Rattle.std.proofs.lemmas.List.Folds.{find-append}
use Rattle.dns_name.specs.Name.{fold_name, is_under, is_one_under, canonical_cmp, self_and_ancestors}
use Rattle.dns_name.proofs.LawLemmas.{under_each, under_from_ending}
use Rattle.dns_rdata.specs.Record.{Record}
use Rattle.shared_tree.specs.Pairs.{IsAscending, pair_at, pair_before, pair_after, value_at}
use Rattle.shared_tree.proofs.PairLemmas.{each_reverse}
use Rattle.zone_tree.specs.Zone.{exists, soa_of}
use Rattle.zone_tree.specs.Filed.{Filed, sets_under, records_under, AreFiled, items_of}
use Rattle.zone_tree.proofs.NameOrder.{canonical_total, under_between, under_not_before}
use Rattle.zone_tree.proofs.Rising.{each_weaker}
use Rattle.zone_tree.proofs.SetLemmas.{any_by_sets}
use Rattle.zone_tree.proofs.FiledLemmas.{any_under, exists_by, exists_owner}

-- whether an owner that there may be is under a name
abbrev pub one_under : Option Filed → List (List ℕ) → Bool
one_under None a = false
one_under (Some pair) a = is_under pair.0 a

-- what a choice adds to a test
or_same : (b c : Bool) → (c ≡ true → b ≡ true) → (b || c) ≡ b
or_same true c f = refl
or_same false true f = sym (f refl)
or_same false false f = refl

or_rest : (b c : Bool) → (b ≡ true → c ≡ true) → (b || c) ≡ c
or_rest true c f = sym (f refl)
or_rest false c f = refl

or_none : (b c : Bool) → c ≡ false → (b || c) ≡ b
or_none true c e = refl
or_none false c e = e

-- a test that passes nowhere
gives_by : (b rest c : Bool) → (b ≡ true → c ≡ true) → (rest ≡ true → c ≡ true) → (b || rest) ≡ true → c ≡ true
gives_by true rest c f g e = f refl
gives_by false rest c f g e = g e

any_gives : {X : Type 0} (p : X → Bool) (c : Bool) (xs : List X) → AllByRecursion (λ x. p x ≡ true → c ≡ true) xs → list_any p xs ≡ true → c ≡ true
any_gives p c [] h e = absurd (true≢false (sym e))
any_gives p c (x ∷ xs) h e = gives_by (p x) (list_any p xs) c h.0 (any_gives p c xs h.1) e

and_first : (b c : Bool) → (b && c) ≡ true → b ≡ true
and_first true c e = refl
and_first false c e = e

and_second : (b c : Bool) → (b && c) ≡ true → c ≡ true
and_second true c e = e
and_second false c e = absurd (true≢false (sym e))

or_end : (b : Bool) → (b || true) ≡ true
or_end true = refl
or_end false = refl

some_none : {X : Type 0} (x : X) → Some x ≡ None → ⊥
some_none x e = cc

greater_is : (o : Ordering) → is_gt o ≡ true → o ≡ Greater
greater_is Less e = absurd (true≢false (sym e))
greater_is Equal e = absurd (true≢false (sym e))
greater_is Greater e = refl

-- what is found last is among what there is, and passes
module _ {X : Type 0} (P : X → Type 0) (p : X → Bool) where
  found_by : (b : Bool) (x : X) (xs : List X) (y : X) → p x ≡ b → P x → cond b (Some x) (find p xs) ≡ Some y → (find p xs ≡ Some y → P y × (p y ≡ true)) → P y × (p y ≡ true)
  found_by true x xs y e h f rest = let same : x ≡ y = cc in subst (λ z. P z × (p z ≡ true)) same (h, e)
  found_by false x xs y e h f rest = rest f

  found : (xs : List X) (y : X) → AllByRecursion P xs → find p xs ≡ Some y → P y × (p y ≡ true)
  found [] y h e = cc
  found (x ∷ xs) y h e = found_by (p x) x xs y refl h.0 e (found xs y h.1)

-- the last one that passes, by the first of all and those behind it
last_found : {X : Type 0} (p : X → Bool) (x : X) (xs : List X) → find p (reverse (x ∷ xs)) ≡ option_or (find p (reverse xs)) (cond (p x) (Some x) None)
last_found p x xs = ap (find p) (reverse-append (x ∷ []) xs) ∙ find-append p (reverse xs) (x ∷ [])

or_nothing : {X : Type 0} (o : Option X) → option_or o None ≡ o
or_nothing None = refl
or_nothing (Some x) = refl

-- a name that isn't behind another comes before all that are behind that
not_behind_by : (a name x : List (List ℕ)) (r : Ordering) → canonical_cmp a name ≡ r → is_gt r ≡ false → canonical_cmp name x ≡ Less → is_gt (canonical_cmp a x) ≡ false
not_behind_by a name x Less e h less = ap is_gt (canonical_total.trans a name x e less)
not_behind_by a name x Equal e h less = ap is_gt (canonical_total.congr a name x e ∙ less)
not_behind_by a name x Greater e h less = absurd (true≢false h)

not_behind : (a name x : List (List ℕ)) → is_gt (canonical_cmp a name) ≡ false → canonical_cmp name x ≡ Less → is_gt (canonical_cmp a x) ≡ false
not_behind a name x h less = not_behind_by a name x (canonical_cmp a name) refl h less

module _ (name a : List (List ℕ)) (above : is_under name a ≡ true) where
  -- an owner behind the name, and one before it, that is under the ancestor
  abbrev later : Filed → Bool
  later pair = is_lt (canonical_cmp name pair.0) && is_under pair.0 a

  abbrev earlier : Filed → Bool
  earlier pair = is_gt (canonical_cmp name pair.0) && is_under pair.0 a

  -- one behind the name is where the next one is
  later_by : (o : Ordering) (pair : Filed) (pairs : List Filed) → canonical_cmp name pair.0 ≡ o → IsAscending canonical_cmp (pair ∷ pairs) → list_any later pairs ≡ one_under (pair_after canonical_cmp name pairs) a
      → list_any later (pair ∷ pairs) ≡ one_under (pair_after canonical_cmp name (pair ∷ pairs)) a
  later_by Less pair pairs e h rest =
      let low = not_behind a name pair.0 (under_not_before name a above) e in
      rw e
      (or_same (is_under pair.0 a) (list_any later pairs)
      (any_gives later (is_under pair.0 a) pairs
      (each_weaker (λ q. canonical_cmp pair.0 q.0 ≡ Less) (λ q. later q ≡ true → is_under pair.0 a ≡ true)
      (λ q f u. under_between a pair.0 q.0 (and_second (is_lt (canonical_cmp name q.0)) (is_under q.0 a) u) low (ap is_gt f)) pairs h.0)))
  later_by Equal pair pairs e h rest = rw e rest
  later_by Greater pair pairs e h rest = rw e rest

  any_later : (pairs : List Filed) → IsAscending canonical_cmp pairs → list_any later pairs ≡ one_under (pair_after canonical_cmp name pairs) a
  any_later [] h = refl
  any_later (pair ∷ pairs) h = later_by (canonical_cmp name pair.0) pair pairs refl h (any_later pairs h.1)

  -- one before the name is where the last one is
  earlier_by : (b : Bool) (o : Option Filed) (pair : Filed) (pairs : List Filed) → is_gt (canonical_cmp name pair.0) ≡ b → pair_before canonical_cmp name pairs ≡ o
      → AllByRecursion (λ q. canonical_cmp pair.0 q.0 ≡ Less) pairs → list_any earlier pairs ≡ one_under o a
      → ((b && is_under pair.0 a) || list_any earlier pairs) ≡ one_under (option_or o (cond b (Some pair) None)) a
  earlier_by false o pair pairs e f h rest = rest ∙ ap (λ q. one_under q a) (sym (or_nothing o))
  earlier_by true None pair pairs e f h rest = or_none (is_under pair.0 a) (list_any earlier pairs) rest
  earlier_by true (Some last) pair pairs e f h rest =
      let is = found (λ q. canonical_cmp pair.0 q.0 ≡ Less) (λ q. is_gt (canonical_cmp name q.0)) (reverse pairs) last (each_reverse (λ q. canonical_cmp pair.0 q.0 ≡ Less) pairs h) f in
      let back : canonical_cmp last.0 name ≡ Less = canonical_total.antisymm last.0 name ∙ ap ordering_reverse (greater_is (canonical_cmp name last.0) is.1) in
      or_rest (is_under pair.0 a) (list_any earlier pairs)
      (λ u. rest ∙ under_between a last.0 name above (not_behind a pair.0 last.0 (under_not_before pair.0 a u) is.0) (ap is_gt back))
      ∙ rest

  any_earlier : (pairs : List Filed) → IsAscending canonical_cmp pairs → list_any earlier pairs ≡ one_under (pair_before canonical_cmp name pairs) a
  any_earlier [] h = refl
  any_earlier (pair ∷ pairs) h =
      earlier_by (is_gt (canonical_cmp name pair.0)) (pair_before canonical_cmp name pairs) pair pairs refl refl h.0 (any_earlier pairs h.1)
      ∙ ap (λ o. one_under o a) (sym (last_found (λ q. is_gt (canonical_cmp name q.0)) pair pairs))

  -- where the name is no owner, each owner comes before it or behind it
  either_by : (o : Ordering) (b any e l : Bool) (pair : Filed) (q : Option Filed) → cond (is_eq o) (Some pair) q ≡ None → (q ≡ None → any ≡ (e || l)) → (b || any) ≡ (((is_gt o && b) || e) || ((is_lt o && b) || l))
  either_by Less true any e l pair q none rest = sym (or_end e)
  either_by Less false any e l pair q none rest = rest none
  either_by Equal b any e l pair q none rest = absurd (some_none pair none)
  either_by Greater true any e l pair q none rest = refl
  either_by Greater false any e l pair q none rest = rest none

  either_side : (pairs : List Filed) → pair_at canonical_cmp name pairs ≡ None → list_any (λ pair. is_under pair.0 a) pairs ≡ (list_any earlier pairs || list_any later pairs)
  either_side [] none = refl
  either_side (pair ∷ pairs) none =
      either_by (canonical_cmp name pair.0) (is_under pair.0 a) (list_any (λ q. is_under q.0 a) pairs) (list_any earlier pairs) (list_any later pairs) pair (pair_at canonical_cmp name pairs) none (either_side pairs)

  -- so the ancestor exists where one of the two owners next to the name is under it
  pub exists_near : (pairs : List Filed) → AreFiled pairs → pair_at canonical_cmp name pairs ≡ None
      → exists (records_under pairs) a ≡ (one_under (pair_before canonical_cmp name pairs) a || one_under (pair_after canonical_cmp name pairs) a)
  exists_near pairs h none =
      any_by_sets (λ owner _. is_under owner a) (sets_under pairs) h.rising.each ∙ any_under (λ owner. is_under owner a) pairs h.each ∙ either_side pairs none
      ∙ (λ i. any_earlier pairs h.ascends i || any_later pairs h.ascends i)

-- tests that answer alike along a list find the same
pub find_alike : {X : Type 0} (p q : X → Bool) (xs : List X) → AllByRecursion (λ x. p x ≡ q x) xs → find p xs ≡ find q xs
find_alike p q [] h = refl
find_alike p q (x ∷ xs) h = (λ i. cond (h.0 i) (Some x) (find_alike p q xs h.1 i))

-- of a name that owns nothing and its ancestors, the one with most labels that exists (RFC 4592, 3.3.1)
pub closest_near : (name : List (List ℕ)) (pairs : List Filed) → AreFiled pairs → pair_at canonical_cmp name pairs ≡ None
    → find (exists (records_under pairs)) (self_and_ancestors name)
    ≡ find (λ a. one_under (pair_before canonical_cmp name pairs) a || one_under (pair_after canonical_cmp name pairs) a) (self_and_ancestors name)
closest_near name pairs h none =
    find_alike (exists (records_under pairs)) (λ a. one_under (pair_before canonical_cmp name pairs) a || one_under (pair_after canonical_cmp name pairs) a) (self_and_ancestors name)
    (each_weaker (λ a. is_under name a ≡ true) (λ a. exists (records_under pairs) a ≡ (one_under (pair_before canonical_cmp name pairs) a || one_under (pair_after canonical_cmp name pairs) a))
    (λ a above. exists_near name a above pairs h none) (self_and_ancestors name)
    (recursion_from_All (λ a. is_under name a ≡ true) (self_and_ancestors name) (under_each name)))

-- the root exists in a zone, so that one of a name and its ancestors does
under_root : (name : List (List ℕ)) → is_under name [] ≡ true
under_root name = under_from_ending name [] (fold_name name) (sym (append-nil (fold_name name)))

pub root_exists : (zone : List Record) → length (soa_of zone) ≡ 1 → exists zone [] ≡ true
root_exists [] one = absurd (omega (arith, one))
root_exists (r ∷ rs) one = rw (under_root r.owner) refl

some_by : (p : List (List ℕ) → Bool) (name : List (List ℕ)) (names : List (List (List ℕ))) (b : Bool) → find p names ≡ Some (unwrap_or (find p names) [])
    → cond b (Some name) (find p names) ≡ Some (unwrap_or (cond b (Some name) (find p names)) [])
some_by p name names true rest = refl
some_by p name names false rest = rest

root_by : (root : List (List ℕ)) (b : Bool) → b ≡ true → cond b (Some root) None ≡ Some (unwrap_or (cond b (Some root) None) [])
root_by root true e = refl
root_by root false e = absurd (true≢false (sym e))

pub some_closest : (p : List (List ℕ) → Bool) → p [] ≡ true → (name : List (List ℕ)) → find p (self_and_ancestors name) ≡ Some (unwrap_or (find p (self_and_ancestors name)) [])
some_closest p root [] = root_by [] (p []) root
some_closest p root (label ∷ name) = some_by p (label ∷ name) (self_and_ancestors name) (p (label ∷ name)) (some_closest p root name)

-- an owner is the closest to itself
first_found : (p : List (List ℕ) → Bool) (name : List (List ℕ)) → p name ≡ true → find p (self_and_ancestors name) ≡ Some name
first_found p [] is = rw is refl
first_found p (label ∷ name) is = rw is refl

pub closest_at : (name : List (List ℕ)) (pairs : List Filed) (pair : Filed) → AreFiled pairs → pair_at canonical_cmp name pairs ≡ Some pair → find (exists (records_under pairs)) (self_and_ancestors name) ≡ Some name
closest_at name pairs pair h here =
    first_found (exists (records_under pairs)) name
    (exists_owner pairs h name ∙ ap (λ o. exists_by (option_map (λ (p : Filed). p.1) o) (pair_after canonical_cmp name pairs) name) here)

-- the sets of an owner that is found, or of a name that owns nothing
pub items_here : (name : List (List ℕ)) (pairs : List Filed) (o : Option Filed) → o ≡ pair_at canonical_cmp name pairs → items_of (option_map (λ (p : Filed). p.1) o) ≡ items_of (value_at canonical_cmp name pairs)
items_here name pairs o e = ap (λ q. items_of (option_map (λ (p : Filed). p.1) q)) e

-- whether the owner of a pair is under a name
owner_under : (o : Option Filed) (a : List (List ℕ)) → is_one_under (option_map (λ (p : Filed). p.0) o) a ≡ one_under o a
owner_under None a = refl
owner_under (Some pair) a = refl

-- so the closest of a name that owns nothing is told by the owners next to it
pub closest_between : (name : List (List ℕ)) (pairs : List Filed) → AreFiled pairs → length (soa_of (records_under pairs)) ≡ 1 → pair_at canonical_cmp name pairs ≡ None
    → (before behind : Option (List (List ℕ))) → before ≡ option_map (λ (p : Filed). p.0) (pair_before canonical_cmp name pairs) → behind ≡ option_map (λ (p : Filed). p.0) (pair_after canonical_cmp name pairs)
    → (closest : List (List ℕ)) → closest ≡ unwrap_or (find (λ a. is_one_under before a || is_one_under behind a) (self_and_ancestors name)) []
    → find (exists (records_under pairs)) (self_and_ancestors name) ≡ Some closest
closest_between name pairs h one none before behind left right closest is =
    some_closest (exists (records_under pairs)) (root_exists (records_under pairs) one) name
    ∙ ap (λ o. Some (unwrap_or o [])) (closest_near name pairs h none)
    ∙ (λ i. Some (unwrap_or (find (λ a. sym (owner_under (pair_before canonical_cmp name pairs) a) i || sym (owner_under (pair_after canonical_cmp name pairs) a) i) (self_and_ancestors name)) []))
    ∙ (λ i. Some (unwrap_or (find (λ a. is_one_under (sym left i) a || is_one_under (sym right i) a) (self_and_ancestors name)) []))
    ∙ ap Some (sym is)
