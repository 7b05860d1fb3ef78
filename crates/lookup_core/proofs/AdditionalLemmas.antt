-- Sets gathered for the additional section.
use Rattle.std.proofs.Common.{◌≡◌, ℕ, zero, suc, take_all, ◌<◌, ◌≤◌, ◌-◌, ◌+◌, ◌==◌, Bool, true, false, ◌||◌, ◌&&◌, not, List, [], ◌∷◌, ◌++◌, length, map, filter, take, get_or, Option, None, cond, All, refl, sym, ap, ◌∙◌, arith, append_assoc, append-nil, length-append}
use Rattle.std.specs.List.{list_any, flat_map}
use Rattle.std.specs.Option.{option_map}
use Rattle.std.proofs.lemmas.List.{length-map, take_more}
use Rattle.std.proofs.lemmas.List.Folds.{list_any_at, list_any_none, list_any-append, flat_map-map}
use Rattle.std.proofs.lemmas.List.Elements.{All-map, All-tail, filter-append}
use Rattle.std.proofs.lemmas.Grind.{flat_map-append}
use Rattle.dns_name.specs.Name.{is_same}
use Rattle.dns_rdata.specs.Data.{Data}
use Rattle.dns_rdata.specs.declared.shown.Shown.{Shown}
use Rattle.dns_rdata.specs.Record.{Record, shown_as, owner_of, rtype_of, records_with}
use Rattle.dns_rdata.specs.Shown.{records_shown}
use Rattle.zone_tree.specs.Zone.{is_of}
use Rattle.lookup_core.specs.Place.{is_none_of}
use Rattle.lookup_core.specs.Additional.{hosts_in, hosts_of, addresses, is_same_set, is_wanted, wanted_sets, each_once, additional_of}
use Rattle.lookup_core.specs.Shown.{IsStanding, with_more}

-- records of one owner, shown under it
pub shown_standing : (owner : List (List ℕ)) (rs : List Record) → All (λ r. r.owner ≡ owner) rs → map (shown_as owner None) rs ≡ rs
shown_standing owner [] own = refl
shown_standing owner (r ∷ rs) own =
    ap (λ o. record r { owner = o } ∷ map (shown_as owner None) rs) (sym (own 0 r (omega arith)))
    ∙ ap (λ tail. r ∷ tail) (shown_standing owner rs (λ k d below. own (suc k) d (omega arith)))

-- a set alone
pub shown_alone : (set : List Record) (sets : List (List Record)) (owner : List (List ℕ)) → sets ≡ set ∷ [] → All (λ r. r.owner ≡ owner) set → map (shown_as owner None) (flat_map (λ s. s) sets) ≡ set
shown_alone set sets owner alone own = ap (λ all. map (shown_as owner None) (flat_map (λ s. s) all)) alone ∙ ap (map (shown_as owner None)) (append-nil set) ∙ shown_standing owner set own

-- what all elements share, one has
any_same : {X : Type 0} (p : X → Bool) (b : Bool) (xs : List X) → All (λ x. p x ≡ b) xs → 0 < length xs → list_any p xs ≡ b
any_same p true [] all some = absurd (omega arith)
any_same p true (x ∷ xs) all some = list_any_at p (x ∷ xs) 0 x (omega arith) (all 0 x (omega arith))
any_same p false xs all some = list_any_none p xs all

-- each of them has it
same_at : (owner : List (List ℕ)) (rtype ttl t : ℕ) (ds : List Data) → All (λ (r : Record). (r.rtype == t) ≡ (rtype == t)) (records_with owner rtype ttl ds)
same_at owner rtype ttl t ds = All-map (λ (r : Record). (r.rtype == t) ≡ (rtype == t)) _ ds (λ k r below. refl)

-- whether a set is of a type
pub any_of_type : (rs : List Record) (owner : List (List ℕ)) (ttl rtype t : ℕ) (ds : List Data) → rs ≡ records_with owner rtype ttl ds → 0 < length ds → list_any (λ r. r.rtype == t) rs ≡ (rtype == t)
any_of_type rs owner ttl rtype t ds is some =
    ap (list_any (λ r. r.rtype == t)) is
    ∙ any_same (λ r. r.rtype == t) (rtype == t) (records_with owner rtype ttl ds) (same_at owner rtype ttl t ds)
    (omega (arith, length-map {B = Record} ds (λ (d : Data). record { owner = owner; rtype = rtype; ttl = ttl; rdata = d.octets })))

-- a test of the elements of lists, list by list
pub any_flat : {X Y : Type 0} (p : Y → Bool) (f : X → List Y) (xs : List X) → list_any p (flat_map f xs) ≡ list_any (λ x. list_any p (f x)) xs
any_flat p f [] = refl
any_flat p f (x ∷ xs) = list_any-append p (f x) (flat_map f xs) ∙ ap (λ b. list_any p (f x) || b) (any_flat p f xs)

-- a list among lists has an element that passes a test
pub any_flat_at : {X Y : Type 0} (p : Y → Bool) (f : X → List Y) (xs : List X) (i : ℕ) (d : X) → i < length xs → list_any p (f (get_or xs i d)) ≡ true → list_any p (flat_map f xs) ≡ true
any_flat_at p f xs i d below passes = any_flat p f xs ∙ list_any_at (λ x. list_any p (f x)) xs i d below passes

-- none of the lists has one
pub any_flat_none : {X Y : Type 0} (p : Y → Bool) (f : X → List Y) (xs : List X) (i : ℕ) → length xs ≤ i → list_any (λ x. list_any p (f x)) (take i xs) ≡ false → list_any p (flat_map f xs) ≡ false
any_flat_none p f xs i all none = any_flat p f xs ∙ ap (list_any (λ x. list_any p (f x))) (sym (take_all i xs all)) ∙ none

-- whether records of an owner and a type are among those shown
any_shown : (owner name : List (List ℕ)) (ttl : Option ℕ) (rtype : ℕ) (rs : List Record) → list_any (is_of name rtype) (map (shown_as owner ttl) rs) ≡ (is_same owner name && list_any (λ r. r.rtype == rtype) rs)
any_shown owner name ttl rtype [] = elim (is_same owner name) as (λ b. false ≡ (b && false)) [ true ↦ refl | false ↦ refl ]
any_shown owner name ttl rtype (r ∷ rs) =
    ap (λ b. is_same owner name && r.rtype == rtype || b) (any_shown owner name ttl rtype rs)
    ∙ (elim (is_same owner name) as (λ b. (b && r.rtype == rtype || b && list_any (λ x. x.rtype == rtype) rs) ≡ (b && (r.rtype == rtype || list_any (λ x. x.rtype == rtype) rs))) [ true ↦ refl | false ↦ refl ])

-- whether they are among those of one entry
any_entry : (shown : Shown) (name : List (List ℕ)) (rtype : ℕ) → list_any (is_of name rtype) (records_shown shown) ≡ (is_same shown.owner name && list_any (λ r. r.rtype == rtype) (flat_map (λ set. set) shown.sets.now))
any_entry shown name rtype = any_shown shown.owner name (option_map (λ ttl. ttl.0) shown.ttl) rtype (flat_map (λ set. set) shown.sets.now)

-- an entry of the type, and one of other types
pub any_entry-typed : (shown : Shown) (name : List (List ℕ)) (rtype : ℕ) → list_any (λ r. r.rtype == rtype) (flat_map (λ set. set) shown.sets.now) ≡ true → list_any (is_of name rtype) (records_shown shown) ≡ is_same shown.owner name
any_entry-typed shown name rtype typed =
    any_entry shown name rtype ∙ ap (λ b. is_same shown.owner name && b) typed ∙ (elim (is_same shown.owner name) as (λ b. (b && true) ≡ b) [ true ↦ refl | false ↦ refl ])

pub any_entry-other : (shown : Shown) (name : List (List ℕ)) (rtype : ℕ) → list_any (λ r. r.rtype == rtype) (flat_map (λ set. set) shown.sets.now) ≡ false → list_any (is_of name rtype) (records_shown shown) ≡ false
any_entry-other shown name rtype other =
    any_entry shown name rtype ∙ ap (λ b. is_same shown.owner name && b) other ∙ (elim (is_same shown.owner name) as (λ b. (b && false) ≡ false) [ true ↦ refl | false ↦ refl ])

-- sets that are each once don't depend on the order of those before
or_swap : (a b c : Bool) → (a || (b || c)) ≡ (b || (a || c))
or_swap true true c = refl
or_swap true false c = refl
or_swap false b c = refl

each_once_same : (before other : List (List Record)) → ((set : List Record) → list_any (is_same_set set) before ≡ list_any (is_same_set set) other) → (xs : List (List Record)) → each_once before xs ≡ each_once other xs
each_once_same before other same [] = refl
each_once_same before other same (x ∷ xs) =
    ap (λ b. cond b (each_once before xs) (x ∷ each_once (x ∷ before) xs)) (same x)
    ∙ ap (λ l. cond (list_any (is_same_set x) other) l (x ∷ each_once (x ∷ before) xs)) (each_once_same before other same xs)
    ∙ ap (λ l. cond (list_any (is_same_set x) other) (each_once other xs) (x ∷ l)) (each_once_same (x ∷ before) (x ∷ other) (λ set. ap (λ b. is_same_set set x || b) (same set)) xs)

moved : (set x : List Record) (before more : List (List Record)) → list_any (is_same_set set) ((x ∷ before) ++ more) ≡ list_any (is_same_set set) (before ++ x ∷ more)
moved set x before more =
    ap (λ b. is_same_set set x || b) (list_any-append (is_same_set set) before more)
    ∙ or_swap (is_same_set set x) (list_any (is_same_set set) before) (list_any (is_same_set set) more)
    ∙ sym (list_any-append (is_same_set set) before (x ∷ more))

-- more sets behind sets that are each once
each_once-append : (before xs ys : List (List Record)) → each_once before (xs ++ ys) ≡ each_once before xs ++ each_once (before ++ each_once before xs) ys
each_once-append before [] ys = ap (λ b. each_once b ys) (sym (append-nil before))
each_once-append before (x ∷ xs) ys =
    elim (list_any (is_same_set x) before) as (λ b. cond b (each_once before (xs ++ ys)) (x ∷ each_once (x ∷ before) (xs ++ ys))
    ≡ cond b (each_once before xs) (x ∷ each_once (x ∷ before) xs) ++ each_once (before ++ cond b (each_once before xs) (x ∷ each_once (x ∷ before) xs)) ys) [
      | true ↦ each_once-append before xs ys
      | false ↦
          ap (λ l. x ∷ l) (each_once-append (x ∷ before) xs ys
          ∙ ap (λ l. each_once (x ∷ before) xs ++ l)
          (each_once_same ((x ∷ before) ++ each_once (x ∷ before) xs) (before ++ x ∷ each_once (x ∷ before) xs) (λ set. moved set x before (each_once (x ∷ before) xs)) ys))
    ]

-- so many of two lists, one taken behind the other
two_takes : {X : Type 0} (n : ℕ) (es fs gs : List X) → (length es ≤ n → fs ≡ gs) → take n es ++ take (n - length (take n es)) fs ≡ take n (es ++ gs)
two_takes zero es fs gs same = refl
two_takes (suc n) [] fs gs same =
    let whole : suc n - 0 ≡ suc n = omega arith in ap (λ k. take k fs) whole ∙ ap (take (suc n)) (same (omega arith))
two_takes (suc n) (e ∷ es) fs gs same =
    let less : suc n - suc (length (take n es)) ≡ n - length (take n es) = omega arith in
    ap (λ k. e ∷ take n es ++ take k fs) less ∙ ap (λ l. e ∷ l) (two_takes n es fs gs (λ few. same (omega arith)))

-- sets with more behind, and more behind these
pub with_more-more : (sets xs ys : List (List Record)) → with_more (with_more sets xs) ys ≡ with_more sets (xs ++ ys)
with_more-more sets xs ys =
    let n = 32 - length sets in
    let es = each_once sets xs in
    let room : 32 - length (sets ++ take n es) ≡ n - length (take n es) = omega (arith, length-append sets (take n es)) in
    ap (λ k. (sets ++ take n es) ++ take k (each_once (sets ++ take n es) ys)) room
    ∙ append_assoc sets (take n es) (take (n - length (take n es)) (each_once (sets ++ take n es) ys))
    ∙ ap (λ l. sets ++ l)
    (two_takes n es (each_once (sets ++ take n es) ys) (each_once (sets ++ es) ys) (λ few. ap (λ l. each_once (sets ++ l) ys) (take_all n es few))
    ∙ ap (take n) (sym (each_once-append sets xs ys)))

pub with_more-nil : (sets : List (List Record)) → with_more sets [] ≡ sets
with_more-nil sets = ap (λ l. sets ++ l) (take_all (32 - length sets) [] (omega arith)) ∙ append-nil sets

-- one set more, where there is room for it and it isn't among them
pub with_more-new : (sets : List (List Record)) (set : List Record) → length sets < 32 → list_any (is_same_set set) sets ≡ false → with_more sets (set ∷ []) ≡ sets ++ set ∷ []
with_more-new sets set room fresh =
    ap (λ b. sets ++ take (32 - length sets) (cond b [] (set ∷ []))) fresh
    ∙ ap (λ l. sets ++ l) (take_all (32 - length sets) (set ∷ []) (omega arith))

pub with_more-known : (sets : List (List Record)) (set : List Record) → list_any (is_same_set set) sets ≡ true → with_more sets (set ∷ []) ≡ sets
with_more-known sets set known = ap (λ b. sets ++ take (32 - length sets) (cond b [] (set ∷ []))) known ∙ with_more-nil sets

pub with_more-full : (sets more : List (List Record)) → 32 ≤ length sets → with_more sets more ≡ sets
with_more-full sets more full =
    let none : 32 - length sets ≡ 0 = omega arith in ap (λ k. sets ++ take k (each_once sets more)) none ∙ append-nil sets

-- what is wanted of names, and of more names
pub wanted_sets-append : (zone answer : List Record) (xs ys : List (List (List ℕ))) → wanted_sets zone answer (xs ++ ys) ≡ wanted_sets zone answer xs ++ wanted_sets zone answer ys
wanted_sets-append zone answer xs ys = ap (filter (is_wanted answer)) (flat_map-append (addresses zone) xs ys) ∙ filter-append (is_wanted answer) (flat_map (addresses zone) xs) (flat_map (addresses zone) ys)

-- a step of a loop that adds what is wanted of each element's names
pub one_more : {X : Type 0} (zone answer : List Record) (f : X → List (List (List ℕ))) (sets : List (List Record)) (xs : List X) (i : ℕ) (d : X) → i < length xs
    → with_more (with_more sets (wanted_sets zone answer (flat_map f (take i xs)))) (wanted_sets zone answer (f (get_or xs i d))) ≡ with_more sets (wanted_sets zone answer (flat_map f (take (i + 1) xs)))
one_more zone answer f sets xs i d below =
    with_more-more sets (wanted_sets zone answer (flat_map f (take i xs))) (wanted_sets zone answer (f (get_or xs i d)))
    ∙ ap (with_more sets)
    (sym (wanted_sets-append zone answer (flat_map f (take i xs)) (f (get_or xs i d)))
    ∙ ap (wanted_sets zone answer)
    (ap (λ l. flat_map f (take i xs) ++ l) (sym (append-nil (f (get_or xs i d)))) ∙ sym (flat_map-append f (take i xs) (get_or xs i d ∷ [])) ∙ ap (flat_map f) (sym (take_more xs i d below))))

-- the names in the data of records, list by list, under any owner, and by the data of a set
flat_flat : {X Y W : Type 0} (g : Y → List W) (f : X → List Y) (xs : List X) → flat_map g (flat_map f xs) ≡ flat_map (λ x. flat_map g (f x)) xs
flat_flat g f [] = refl
flat_flat g f (x ∷ xs) = flat_map-append g (f x) (flat_map f xs) ∙ ap (λ l. flat_map g (f x) ++ l) (flat_flat g f xs)

pub hosts_of-sets : (sets : List (List Record)) → hosts_of (flat_map (λ set. set) sets) ≡ flat_map hosts_of sets
hosts_of-sets sets = flat_flat (λ r. hosts_in r.rtype r.rdata) (λ set. set) sets

pub hosts_of-shown : (shown : Shown) → hosts_of (records_shown shown) ≡ hosts_of (flat_map (λ set. set) shown.sets.now)
hosts_of-shown shown = flat_map-map (λ r. hosts_in r.rtype r.rdata) (shown_as shown.owner (option_map (λ ttl. ttl.0) shown.ttl)) (flat_map (λ set. set) shown.sets.now)

pub hosts_of-section : (section : List Shown) → hosts_of (flat_map records_shown section) ≡ flat_map (λ shown. hosts_of (flat_map (λ set. set) shown.sets.now)) section
hosts_of-section [] = refl
hosts_of-section (shown ∷ section) =
    flat_map-append (λ r. hosts_in r.rtype r.rdata) (records_shown shown) (flat_map records_shown section)
    ∙ ap (λ l. l ++ hosts_of (flat_map records_shown section)) (hosts_of-shown shown)
    ∙ ap (λ l. hosts_of (flat_map (λ set. set) shown.sets.now) ++ l) (hosts_of-section section)

by_own_type : (rtype : ℕ) (ds : List Data) → All (λ d. d.rtype ≡ rtype) ds → flat_map (λ d. hosts_in rtype d.octets) ds ≡ flat_map (λ d. hosts_in d.rtype d.octets) ds
by_own_type rtype [] typed = refl
by_own_type rtype (d ∷ ds) typed =
    ap (λ t. hosts_in t d.octets ++ flat_map (λ d. hosts_in rtype d.octets) ds) (sym (typed 0 d (omega arith)))
    ∙ ap (λ l. hosts_in d.rtype d.octets ++ l) (by_own_type rtype ds (All-tail (λ d. d.rtype ≡ rtype) d ds typed))

pub hosts_of-data : (set : List Record) (owner : List (List ℕ)) (rtype ttl : ℕ) (ds : List Data) → set ≡ records_with owner rtype ttl ds → All (λ d. d.rtype ≡ rtype) ds → hosts_of set ≡ flat_map (λ d. hosts_in d.rtype d.octets) ds
hosts_of-data set owner rtype ttl ds is typed =
    ap hosts_of is ∙ flat_map-map (λ r. hosts_in r.rtype r.rdata) (λ (d : Data). record { owner = owner; rtype = rtype; ttl = ttl; rdata = d.octets }) ds ∙ by_own_type rtype ds typed

-- a set that isn't there, one that stands in the answer, and one that is wanted
pub wanted_none : (answer set : List Record) → set ≡ [] → filter (is_wanted answer) (set ∷ []) ≡ []
wanted_none answer set none = ap (λ s. filter (is_wanted answer) (s ∷ [])) none

pub wanted_answered : (answer set : List Record) → list_any (is_of (owner_of set) (rtype_of set)) answer ≡ true → filter (is_wanted answer) (set ∷ []) ≡ []
wanted_answered answer set is_present =
    ap (λ b. cond (not (is_none_of set) && not b) (set ∷ []) []) is_present
    ∙ (elim (is_none_of set) as (λ b. cond (not b && false) (set ∷ []) [] ≡ []) [ true ↦ refl | false ↦ refl ])

pub wanted_new : (answer set : List Record) → is_none_of set ≡ false → list_any (is_of (owner_of set) (rtype_of set)) answer ≡ false → filter (is_wanted answer) (set ∷ []) ≡ set ∷ []
wanted_new answer set some free =
    ap (λ b. cond (not (is_none_of set) && not b) (set ∷ []) []) free ∙ ap (λ b. cond (not b && true) (set ∷ []) []) some

-- what the sets gathered show
pub section_of_sets : (section : List Shown) → All IsStanding section → flat_map records_shown section ≡ flat_map (λ set. set) (flat_map (λ shown. shown.sets.now) section)
section_of_sets [] standing = refl
section_of_sets (shown ∷ section) standing =
    ap (λ l. l ++ flat_map records_shown section) ((standing 0 shown (omega arith)).records)
    ∙ ap (λ l. flat_map (λ set. set) shown.sets.now ++ l) (section_of_sets section (All-tail IsStanding shown section standing))
    ∙ sym (flat_map-append (λ set. set) shown.sets.now (flat_map (λ shown. shown.sets.now) section))

pub count_of_sets : (section : List Shown) → All IsStanding section → length (flat_map (λ shown. shown.sets.now) section) ≡ length section
count_of_sets [] standing = refl
count_of_sets (shown ∷ section) standing =
    length-append shown.sets.now (flat_map (λ shown. shown.sets.now) section)
    ∙ ap (λ k. k + length (flat_map (λ shown. shown.sets.now) section)) ((standing 0 shown (omega arith)).one)
    ∙ ap (λ k. 1 + k) (count_of_sets section (All-tail IsStanding shown section standing)) ∙ omega arith

-- a step of such a loop, by what it adds
pub one_step : {X : Type 0} (zone answer : List Record) (f : X → List (List (List ℕ))) (sets : List (List Record)) (xs : List X) (i : ℕ) (d : X) (hosts : List (List (List ℕ))) (before after : List (List Record)) → i < length xs
    → before ≡ with_more sets (wanted_sets zone answer (flat_map f (take i xs))) → hosts ≡ f (get_or xs i d) → after ≡ with_more before (wanted_sets zone answer hosts)
    → after ≡ with_more sets (wanted_sets zone answer (flat_map f (take (i + 1) xs)))
one_step zone answer f sets xs i d hosts before after below so_far is adds =
    adds ∙ ap (λ s. with_more s (wanted_sets zone answer hosts)) so_far ∙ ap (λ hs. with_more (with_more sets (wanted_sets zone answer (flat_map f (take i xs)))) (wanted_sets zone answer hs)) is
    ∙ one_more zone answer f sets xs i d below

-- nothing is added
pub nothing_more : (zone answer : List Record) (sets : List (List Record)) → sets ≡ with_more sets (wanted_sets zone answer [])
nothing_more zone answer sets = sym (with_more-nil sets)

-- the addresses of a name, one type behind the other
pub both_types : (zone answer : List Record) (sets before after : List (List Record)) (host : List (List ℕ)) (first second : List Record) → before ≡ with_more sets (filter (is_wanted answer) (first ∷ []))
    → after ≡ with_more before (filter (is_wanted answer) (second ∷ [])) → first ∷ second ∷ [] ≡ addresses zone host → after ≡ with_more sets (wanted_sets zone answer (host ∷ []))
both_types zone answer sets before after host first second one two both =
    two ∙ ap (λ s. with_more s (filter (is_wanted answer) (second ∷ []))) one
    ∙ with_more-more sets (filter (is_wanted answer) (first ∷ [])) (filter (is_wanted answer) (second ∷ []))
    ∙ ap (with_more sets) (sym (filter-append (is_wanted answer) (first ∷ []) (second ∷ [])) ∙ ap (filter (is_wanted answer)) (both ∙ sym (append-nil (addresses zone host))))

-- what is added for the answer and then for the authority
pub both_sections : (zone answer authority : List Record) (none first second : List (List Record)) → none ≡ [] → first ≡ with_more none (wanted_sets zone answer (hosts_of answer)) → second ≡ with_more first (wanted_sets zone answer (hosts_of authority))
    → flat_map (λ set. set) second ≡ additional_of zone answer authority
both_sections zone answer authority none first second empty one two =
    ap (flat_map (λ set. set))
    (two ∙ ap (λ s. with_more s (wanted_sets zone answer (hosts_of authority))) (one ∙ ap (λ s. with_more s (wanted_sets zone answer (hosts_of answer))) empty)
    ∙ with_more-more [] (wanted_sets zone answer (hosts_of answer)) (wanted_sets zone answer (hosts_of authority))
    ∙ ap (with_more [])
    (sym (wanted_sets-append zone answer (hosts_of answer) (hosts_of authority)) ∙ ap (wanted_sets zone answer) (sym (flat_map-append (λ r. hosts_in r.rtype r.rdata) answer authority))))
