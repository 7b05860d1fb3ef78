-- What is found at a name in lower case is what is found at the name itself, and what comes of the ancestors of a name that exist.
use Rattle.std.proofs.Common.{◌≡◌, refl, sym, ap, ◌∙◌, ℕ, Bool, true, false, ◌&&◌, ◌||◌, ◌==◌, not, cond, List, [], ◌∷◌, ◌++◌, map, reverse, filter, Option, None, Some, true≢false}
use Rattle.std.specs.List.{list_any, find}
use Rattle.std.specs.Option.{option_map, option_or}
use Rattle.std.specs.Cmp.Lexicographic.{pointwise}
use Rattle.std.specs.Prelude.{bytes_eq}
use Rattle.std.proofs.lemmas.List.{reverse-append, map-append}
use Rattle.dns_name.specs.Name.{is_same, is_under, fold_name, self_and_ancestors}
use Rattle.dns_name.specs.Order.{is_same_Decides}
use Rattle.dns_name.proofs.LawLemmas.{under_from_ending}
use Rattle.dns_name.proofs.StoredLemmas.{under_folded, fold_name-fold_name}
use Rattle.dns_rdata.specs.Numbers.{type_NS}
use Rattle.dns_rdata.specs.Record.{Record}
use Rattle.zone_tree.specs.Zone.{apex_of, exists, is_of, rrset_of, rrsets_of}
use Rattle.lookup_core.specs.Place.{is_cut, is_none_of, cut_of}
use Rattle.lookup_core.proofs.ApexLemmas.{cut_of-step}

-- names in lower case are the same as the names that names are
same_left : (name other : List (List ℕ)) → is_same (fold_name name) other ≡ is_same name other
same_left name other = ap (λ (n : List (List ℕ)). pointwise bytes_eq n (fold_name other)) (fold_name-fold_name name)

same_right : (other name : List (List ℕ)) → is_same other (fold_name name) ≡ is_same other name
same_right other name = ap (λ (n : List (List ℕ)). pointwise bytes_eq (fold_name other) n) (fold_name-fold_name name)

module _ (zone : List Record) (name : List (List ℕ)) where
  pub exists-fold : exists zone (fold_name name) ≡ exists zone name
  exists-fold = λ i. list_any (λ r. under_folded r.owner name i) zone

  pub rrsets_of-fold : rrsets_of zone (fold_name name) ≡ rrsets_of zone name
  rrsets_of-fold = λ i. filter (λ r. same_right r.owner name i) zone

  pub rrset_of-fold : (t : ℕ) → rrset_of zone (fold_name name) t ≡ rrset_of zone name t
  rrset_of-fold t = λ i. filter (λ r. same_right r.owner name i && r.rtype == t) zone

  pub is_cut-fold : is_cut zone (fold_name name) ≡ is_cut zone name
  is_cut-fold = λ i. not (same_left name (apex_of zone) i) && not (is_none_of (rrset_of-fold type_NS i))

-- the ancestors of a name in lower case are those of the name
pub ancestors-fold : (name : List (List ℕ)) → self_and_ancestors (fold_name name) ≡ map fold_name (self_and_ancestors name)
ancestors-fold [] = refl
ancestors-fold (label ∷ name) = ap (λ (names : List (List (List ℕ))). fold_name (label ∷ name) ∷ names) (ancestors-fold name)

found_by : (p : List (List ℕ) → Bool) (name : List (List ℕ)) (names : List (List (List ℕ))) (b c : Bool) → b ≡ c → find p (map fold_name names) ≡ option_map fold_name (find p names)
    → cond b (Some (fold_name name)) (find p (map fold_name names)) ≡ option_map fold_name (cond c (Some name) (find p names))
found_by p name names true true e rest = refl
found_by p name names true false e rest = absurd (true≢false e)
found_by p name names false true e rest = absurd (true≢false (sym e))
found_by p name names false false e rest = rest

find-fold : (p : List (List ℕ) → Bool) → ((name : List (List ℕ)) → p (fold_name name) ≡ p name) → (names : List (List (List ℕ))) → find p (map fold_name names) ≡ option_map fold_name (find p names)
find-fold p alike [] = refl
find-fold p alike (name ∷ names) = found_by p name names (p (fold_name name)) (p name) (alike name) (find-fold p alike names)

reverse_fold : (names : List (List (List ℕ))) → reverse (map fold_name names) ≡ map fold_name (reverse names)
reverse_fold [] = refl
reverse_fold (name ∷ names) =
    reverse-append (fold_name name ∷ []) (map fold_name names) ∙ ap (λ (ns : List (List (List ℕ))). ns ++ fold_name name ∷ []) (reverse_fold names)
    ∙ sym (map-append fold_name (reverse names) (name ∷ [])) ∙ ap (map fold_name) (sym (reverse-append (name ∷ []) names))

pub cut_of-fold : (zone : List Record) (name : List (List ℕ)) → cut_of zone (fold_name name) ≡ option_map fold_name (cut_of zone name)
cut_of-fold zone name =
    ap (λ (names : List (List (List ℕ))). find (is_cut zone) (reverse names)) (ancestors-fold name)
    ∙ ap (find (is_cut zone)) (reverse_fold (self_and_ancestors name))
    ∙ find-fold (is_cut zone) (is_cut-fold zone) (reverse (self_and_ancestors name))

pub closest-fold : (zone : List Record) (name : List (List ℕ)) → find (exists zone) (self_and_ancestors (fold_name name)) ≡ option_map fold_name (find (exists zone) (self_and_ancestors name))
closest-fold zone name = ap (find (exists zone)) (ancestors-fold name) ∙ find-fold (exists zone) (exists-fold zone) (self_and_ancestors name)

-- a name that doesn't exist owns nothing, and is no zone cut
owner_exists : (owner name : List (List ℕ)) → is_same owner name ≡ true → is_under owner name ≡ true
owner_exists owner name same = under_from_ending owner name [] ((is_same_Decides owner name).0 same)

nothing_by : (t : ℕ) (name : List (List ℕ)) (r : Record) (b : Bool) → is_same r.owner name ≡ b → is_under r.owner name ≡ false → is_of name t r ≡ false
nothing_by t name r true same under = absurd (true≢false (sym (owner_exists r.owner name same) ∙ under))
nothing_by t name r false same under = ap (λ b. b && r.rtype == t) same

owns_by : (t : ℕ) (name : List (List ℕ)) (r : Record) (rs : List Record) (c : Bool) → is_under r.owner name ≡ c → (c || exists rs name) ≡ false → (exists rs name ≡ false → rrset_of rs name t ≡ []) → rrset_of (r ∷ rs) name t ≡ []
owns_by t name r rs true under none rest = absurd (true≢false none)
owns_by t name r rs false under none rest = rw (nothing_by t name r (is_same r.owner name) refl under) (rest none)

pub owns_nothing : (zone : List Record) (name : List (List ℕ)) (t : ℕ) → exists zone name ≡ false → rrset_of zone name t ≡ []
owns_nothing [] name t none = refl
owns_nothing (r ∷ rs) name t none = owns_by t name r rs (is_under r.owner name) refl none (owns_nothing rs name t)

none_of : (rs : List Record) → rs ≡ [] → is_none_of rs ≡ true
none_of rs e = ap is_none_of e

or_false : (b : Bool) → (b && false) ≡ false
or_false true = refl
or_false false = refl

missing_no_cut : (zone : List Record) (name : List (List ℕ)) → exists zone name ≡ false → is_cut zone name ≡ false
missing_no_cut zone name none =
    ap (λ b. not (is_same name (apex_of zone)) && not b) (none_of (rrset_of zone name type_NS) (owns_nothing zone name type_NS none)) ∙ or_false (not (is_same name (apex_of zone)))

or_nothing : {X : Type 0} (o : Option X) → option_or o None ≡ o
or_nothing None = refl
or_nothing (Some x) = refl

-- so the first zone cut on the way down to a name is that on the way down to the longest of it and its ancestors that exists
root_by : (zone : List Record) (closest : List (List ℕ)) (b : Bool) → cond b (Some []) None ≡ Some closest → cut_of zone [] ≡ cut_of zone closest
root_by zone closest true e = let same : [] ≡ closest = cc in ap (cut_of zone) same
root_by zone closest false e = cc

closest_by : (zone : List Record) (label : List ℕ) (name closest : List (List ℕ)) (b : Bool) → exists zone (label ∷ name) ≡ b → cond b (Some (label ∷ name)) (find (exists zone) (self_and_ancestors name)) ≡ Some closest
    → (find (exists zone) (self_and_ancestors name) ≡ Some closest → cut_of zone name ≡ cut_of zone closest) → cut_of zone (label ∷ name) ≡ cut_of zone closest
closest_by zone label name closest true here e rest = let same : label ∷ name ≡ closest = cc in ap (cut_of zone) same
closest_by zone label name closest false here e rest =
    cut_of-step zone (label ∷ name)
    ∙ ap (λ b. option_or (cut_of zone name) (cond b (Some (label ∷ name)) None)) (missing_no_cut zone (label ∷ name) here)
    ∙ or_nothing (cut_of zone name) ∙ rest e

pub cut_of-closest : (zone : List Record) (name closest : List (List ℕ)) → find (exists zone) (self_and_ancestors name) ≡ Some closest → cut_of zone name ≡ cut_of zone closest
cut_of-closest zone [] closest e = root_by zone closest (exists zone []) e
cut_of-closest zone (label ∷ name) closest e = closest_by zone label name closest (exists zone (label ∷ name)) refl e (cut_of-closest zone name closest)
