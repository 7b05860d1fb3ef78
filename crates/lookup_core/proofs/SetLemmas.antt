-- The sets at a name, each in whole: which of them is of a type, and that the name exists where there is one.
use Rattle.std.proofs.Common.{◌≡◌, ℕ, ◌<◌, Bool, true, false, ◌&&◌, ◌||◌, ◌==◌, List, [], ◌∷◌, ◌++◌, length, filter, get_or, Option, None, Some, cond, All, refl, sym, ap, subst, ◌∙◌, arith, eqb-true, length-append, not, Bor}
use Rattle.std.specs.Prelude.{◌↔◌, IsNone, IfSome, is_some}
use Rattle.std.specs.Option.{option_copied}
use Rattle.std.specs.List.{list_any, find, flat_map}
use Rattle.std.proofs.lemmas.List.Elements.{All-tail, All-cons, All-nil, All-head, filter_passes, filter-append}
use Rattle.dns_name.specs.Name.{is_same, is_under}
use Rattle.dns_name.specs.Order.{is_same_Decides, is_same_equiv}
use Rattle.dns_name.proofs.LawLemmas.{under_from_ending}
use Rattle.dns_rdata.specs.Record.{Record, owner_of, rtype_of}
use Rattle.zone_tree.specs.Zone.{exists, is_of, stands_at, rrset_of}
use Rattle.lookup_core.specs.Place.{is_none_of}
use Rattle.lookup_core.specs.Shown.{AreAllAt}
use Rattle.lookup_core.proofs.LawLemmas.{and_right}
use Rattle.lookup_core.proofs.ApexLemmas.{filter_none}

-- what holds of each element of lists in a row
front_of : {X : Type 0} (P : X → Type 0) (xs ys : List X) → All P (xs ++ ys) → All P xs
front_of P [] ys all = All-nil P
front_of P (x ∷ xs) ys all = All-cons P x xs (All-head P x (xs ++ ys) all) (front_of P xs ys (All-tail P x (xs ++ ys) all))

behind_of : {X : Type 0} (P : X → Type 0) (xs ys : List X) → All P (xs ++ ys) → All P ys
behind_of P [] ys all = all
behind_of P (x ∷ xs) ys all = behind_of P xs ys (All-tail P x (xs ++ ys) all)

each_of : {X : Type 0} (P : X → Type 0) (xss : List (List X)) → All P (flat_map (λ xs. xs) xss) → All (All P) xss
each_of P [] all = All-nil (All P)
each_of P (xs ∷ xss) all =
    All-cons (All P) xs xss (front_of P xs (flat_map (λ ys. ys) xss) all) (each_of P xss (behind_of P xs (flat_map (λ ys. ys) xss) all))

-- a set at a name: all records of its type there
pub record IsSetAt (zone : List Record) (at : List (List ℕ)) (set : List Record) : Type 0 where
  pub some : 0 < length set
  pub is : set ≡ rrset_of zone at (rtype_of set)

-- a test that two names pass alike keeps the same
filter_alike : {X : Type 0} (p q : X → Bool) → ((x : X) → p x ≡ q x) → (xs : List X) → filter p xs ≡ filter q xs
filter_alike p q alike [] = refl
filter_alike p q alike (x ∷ xs) =
    ap (λ b. cond b (x ∷ filter p xs) (filter p xs)) (alike x) ∙ ap (λ l. cond (q x) (x ∷ l) l) (filter_alike p q alike xs)

rrset_of-same : (zone : List Record) (name other : List (List ℕ)) (t : ℕ) → is_same name other ≡ true → rrset_of zone name t ≡ rrset_of zone other t
rrset_of-same zone name other t same =
    filter_alike (is_of name t) (is_of other t)
    (λ r. ap (λ b. b && r.rtype == t)
    (is_same_equiv.symm r.owner name ∙ is_same_equiv.congr name other r.owner same ∙ is_same_equiv.symm other r.owner))
    zone

set_at : (zone : List Record) (at : List (List ℕ)) (set : List Record) → 0 < length set → set ≡ rrset_of zone (owner_of set) (rtype_of set) → All (λ r. stands_at at r ≡ true) set → IsSetAt zone at set
set_at zone at [] some whole is_present = absurd (omega arith)
set_at zone at (r ∷ rs) some whole is_present = record {
  some = some;
  is = whole ∙ rrset_of-same zone r.owner at r.rtype (is_present 0 r (omega arith));
}

pub sets_at : (zone : List Record) (at : List (List ℕ)) (sets : List (List Record)) → AreAllAt zone at sets → All (IsSetAt zone at) sets
sets_at zone at sets all =
    let stand : All (All (λ r. stands_at at r ≡ true)) sets =
    each_of (λ r. stands_at at r ≡ true) sets (subst (All (λ r. stands_at at r ≡ true)) (sym all.records) (filter_passes (stands_at at) zone))
    in
    λ k d below. set_at zone at (get_or sets k d) (all.whole.some k d below) (all.whole.whole k d below) (stand k d below)

-- the first element that passes a test, and where none does
found : {X : Type 0} (P : X → Type 0) (p : X → Bool) (xs : List X) (x : X) → All P xs → find p xs ≡ Some x → P x × (p x ≡ true)
found P p [] x all e = absurd (cc)
found P p (y ∷ ys) x all e = by (p y) refl e (found P p ys x (All-tail P y ys all))
  where
    by : (b : Bool) → p y ≡ b → cond b (Some y) (find p ys) ≡ Some x → (find p ys ≡ Some x → P x × (p x ≡ true)) → P x × (p x ≡ true)
    by true here is behind = let same : y ≡ x = cc in (subst P same (All-head P y ys all), subst (λ z. p z ≡ true) same here)
    by false here is behind = behind is

not_found : {X : Type 0} (p : X → Bool) (xs : List X) → find p xs ≡ None → All (λ x. p x ≡ false) xs
not_found p [] e = All-nil (λ x. p x ≡ false)
not_found p (y ∷ ys) e = by (p y) refl e (not_found p ys)
  where
    by : (b : Bool) → p y ≡ b → cond b (Some y) (find p ys) ≡ None → (find p ys ≡ None → All (λ x. p x ≡ false) ys) → All (λ x. p x ≡ false) (y ∷ ys)
    by true here is behind = absurd (cc)
    by false here is behind = All-cons (λ x. p x ≡ false) y ys here (behind is)

-- the set that is found by its type
pub found_set : (zone : List Record) (at : List (List ℕ)) (sets : List (List Record)) (t : ℕ) (set : List Record) → AreAllAt zone at sets → find (λ s. rtype_of s == t) sets ≡ Some set
    → (set ≡ rrset_of zone at t) × (0 < length set)
found_set zone at sets t set all e =
    let is = found (IsSetAt zone at) (λ s. rtype_of s == t) sets set (sets_at zone at sets all) e in
    (is.0.is ∙ ap (rrset_of zone at) (eqb-true (rtype_of set) t is.1), is.0.some)

-- what two tests keep, one behind the other
filter_behind : {X : Type 0} (p q : X → Bool) (xs : List X) → filter (λ x. p x && q x) xs ≡ filter q (filter p xs)
filter_behind p q [] = refl
filter_behind {X} p q (x ∷ xs) = by (p x) (filter_behind p q xs)
  where
    by : (b : Bool) → filter (λ y. p y && q y) xs ≡ filter q (filter p xs) → cond (b && q x) (x ∷ filter (λ y. p y && q y) xs) (filter (λ y. p y && q y) xs) ≡ filter q (cond b (x ∷ filter p xs) (filter p xs))
    by true e = ap (λ l. cond (q x) (x ∷ l) l) e
    by false e = e

-- no record of the sets passes where none does in each
none_in : {X : Type 0} (p : X → Bool) (xss : List (List X)) → All (λ xs. filter p xs ≡ []) xss → filter p (flat_map (λ xs. xs) xss) ≡ []
none_in p [] none = refl
none_in p (xs ∷ xss) none =
    filter-append p xs (flat_map (λ ys. ys) xss) ∙ ap (λ l. l ++ filter p (flat_map (λ ys. ys) xss)) (All-head (λ ys. filter p ys ≡ []) xs xss none)
    ∙ none_in p xss (All-tail (λ ys. filter p ys ≡ []) xs xss none)

-- a set has no record of another type
none_of_type : (zone : List Record) (at : List (List ℕ)) (t : ℕ) (set : List Record) → IsSetAt zone at set → (rtype_of set == t) ≡ false → filter (λ r. r.rtype == t) set ≡ []
none_of_type zone at t set is other =
    filter_none (λ r. r.rtype == t) set
    (λ k d below. ap (λ n. n == t) (eqb-true _ _ (and_right (is_same (get_or set k d).owner at) ((get_or set k d).rtype == rtype_of set) (own k d below))) ∙ other)
  where
    own : All (λ r. is_of at (rtype_of set) r ≡ true) set
    own = subst (All (λ r. is_of at (rtype_of set) r ≡ true)) (sym is.is) (filter_passes (is_of at (rtype_of set)) zone)

-- where no set is found by a type, no record at the name is of it
pub found_none : (zone : List Record) (at : List (List ℕ)) (sets : List (List Record)) (t : ℕ) → AreAllAt zone at sets → find (λ s. rtype_of s == t) sets ≡ None → rrset_of zone at t ≡ []
found_none zone at sets t all e =
    let each = sets_at zone at sets all in
    let others = not_found (λ s. rtype_of s == t) sets e in
    filter_behind (stands_at at) (λ r. r.rtype == t) zone ∙ ap (filter (λ r. r.rtype == t)) (sym all.records)
    ∙ none_in (λ r. r.rtype == t) sets (λ k d below. none_of_type zone at t (get_or sets k d) (each k d below) (others k d below))

-- so the set that is found is all records of the type, and none is found where there is none
not_empty : (rs : List Record) → 0 < length rs → rs ≡ [] → ⊥
not_empty [] some e = omega arith
not_empty (r ∷ rs) some e = cc

pub rrset_by : (zone : List Record) (at : List (List ℕ)) (sets : List (List Record)) (t : ℕ) (r : Option (Bor (List Record))) → AreAllAt zone at sets → option_copied r ≡ find (λ s. rtype_of s == t) sets
    → (IsNone r ↔ (rrset_of zone at t ≡ [])) × IfSome r (λ set. set.now ≡ rrset_of zone at t)
rrset_by zone at sets t None all e = let none = found_none zone at sets t all (sym e) in ((λ _. none, λ _. refl), tt)
rrset_by zone at sets t (Some set) all e =
    let one = found_set zone at sets t set.now all (sym e) in
    ((λ is. cc, λ none. absurd (not_empty set.now one.1 (one.0 ∙ none))), one.0)

-- whether a set is there, by what a search gives
pub is_none_of-found : {X : Type 0} (r : Option X) (rs : List Record) → IsNone r ↔ (rs ≡ []) → is_none_of rs ≡ not (is_some r)
is_none_of-found None rs h = ap is_none_of (h.0 refl)
is_none_of-found (Some x) [] h = absurd (cc (h.1 refl))
is_none_of-found (Some x) (r ∷ rs) h = grind arith

-- a name at which a set stands exists
kept_any : {X : Type 0} (p q : X → Bool) → ((x : X) → p x ≡ true → q x ≡ true) → (xs : List X) → 0 < length (filter p xs) → list_any q xs ≡ true
kept_any p q weaker [] some = absurd (omega arith)
kept_any p q weaker (x ∷ xs) some = by (p x) refl some (kept_any p q weaker xs)
  where
    behind : (b : Bool) → list_any q xs ≡ true → (b || list_any q xs) ≡ true
    behind true e = refl
    behind false e = e

    by : (b : Bool) → p x ≡ b → 0 < length (cond b (x ∷ filter p xs) (filter p xs)) → (0 < length (filter p xs) → list_any q xs ≡ true) → list_any q (x ∷ xs) ≡ true
    by true here l more = rw (weaker x here) refl
    by false here l more = behind (q x) (more l)

some_record : (zone : List Record) (at : List (List ℕ)) (sets : List (List Record)) → All (IsSetAt zone at) sets → 0 < length sets → 0 < length (flat_map (λ set. set) sets)
some_record zone at [] each some = absurd (omega arith)
some_record zone at (set ∷ sets) each some = omega (arith, (each 0 set (omega arith)).some, length-append set (flat_map (λ s. s) sets))

pub exists_at : (zone : List Record) (at : List (List ℕ)) (sets : List (List Record)) → AreAllAt zone at sets → 0 < length sets → exists zone at ≡ true
exists_at zone at sets all some =
    kept_any (stands_at at) (λ r. is_under r.owner at) (λ r same. under_from_ending r.owner at [] ((is_same_Decides r.owner at).0 same)) zone
    (subst (λ rs. 0 < length rs) all.records (some_record zone at sets (sets_at zone at sets all) some))

pub some_by_test : {X : Type 0} (xs : List X) → (length xs == 0) ≡ false → 0 < length xs
some_by_test [] e = absurd (cc)
some_by_test (x ∷ xs) e = omega arith
