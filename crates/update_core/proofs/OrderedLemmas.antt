-- Sets whose data each lead to the next were sent as a whole.
use Rattle.std.proofs.Common.{◌≡◌, ℕ, ◌<◌, ◌≤◌, ◌+◌, ◌-◌, zero, suc, ltb, Bool, true, false, not, ◌&&◌, ◌||◌, ◌==◌, List, [], ◌∷◌, length, get_or, take, filter, bytes_eq, cond, MatchBool, refl, sym, ap, subst, ◌∙◌, ⊎_elim, arith}
use Rattle.std.specs.List.{list_any, list_all, All, AllPairs, Any}
use Rattle.std.specs.List.Sorted.{IsPermutation}
use Rattle.std.specs.Ordering.{nat_cmp, is_lt}
use Rattle.std.specs.Cmp.Lexicographic.{slice_cmp}
use Rattle.std.proofs.lemmas.Bool.{eqb-true, eq-eqb, ltb-true, lt-ltb, le-ltb, cond_both, cases_order, false≢true, and_from, and_cases}
use Rattle.std.proofs.lemmas.Bool as bool
use Rattle.std.proofs.lemmas.Cmp.{nat_list_cmp_total, tied_itself}
use Rattle.std.proofs.lemmas.List.{length-take-le}
use Rattle.std.proofs.lemmas.List.Elements.{All-weaker}
use Rattle.std.proofs.lemmas.List.Folds.{list_any_at, list_all_at, Any-from_list_any}
use Rattle.std.proofs.lemmas.List.Sorted.{list_any-IsPermutation}
use Rattle.std.proofs.lemmas.List.Sums.{list_all-from_AllPass, length-filter, count_by-le-length}
use Rattle.std.proofs.lemmas.Slice.Eq.{bytes_eq-Decides}
use Rattle.dns_name.specs.Name.{Name, is_same}
use Rattle.dns_name.specs.Order.{is_same_equiv}
use Rattle.dns_rdata.specs.Numbers.{class_IN}
use Rattle.dns_rdata.specs.Record.{Record, has_data}
use Rattle.dns_rdata.specs.Raw.{RawRecord}
use Rattle.zone_tree.specs.Zone.{rrset_of}
use Rattle.update_core.specs.Verdict.{is_gathered, is_met, are_met}
use Rattle.update_core.specs.Ordered.{of_class_IN, is_sought, place_behind, LeadsOn, is_of_whole}
use Rattle.update_core.proofs.ListLemmas.{and_left, and_right, both_true, implied, all_kept, any_kept, all_alike}
use Rattle.update_core.proofs.VerdictLemmas.{rrset_of-same}

-- a list and its permutation pass a test alike
all_not : {X : Type 0} (p : X → Bool) (xs : List X) → list_all p xs ≡ not (list_any (λ x. not (p x)) xs)
all_not p [] = refl
all_not {X} p (x ∷ xs) = ap (λ b. p x && b) (all_not p xs) ∙ by (p x)
  where
    by : (b : Bool) → (b && not (list_any (λ y. not (p y)) xs)) ≡ not (not b || list_any (λ y. not (p y)) xs)
    by true = refl
    by false = refl

all_permuted : {X : Type 0} (p : X → Bool) (xs ys : List X) → IsPermutation xs ys → list_all p xs ≡ list_all p ys
all_permuted p xs ys moved = all_not p xs ∙ ap not (list_any-IsPermutation (λ x. not (p x)) xs ys moved) ∙ sym (all_not p ys)

any_alike : {X : Type 0} (p q : X → Bool) → ((x : X) → p x ≡ q x) → (xs : List X) → list_any p xs ≡ list_any q xs
any_alike p q alike [] = refl
any_alike p q alike (x ∷ xs) = ap (λ b. b || list_any p xs) (alike x) ∙ ap (λ b. q x || b) (any_alike p q alike xs)

-- whether a record has an owner and a type
abbrev pub is_beside : Name → ℕ → RawRecord → Bool
is_beside owner rtype r = is_same r.owner owner && r.rtype == rtype

-- the same question as `is_met`, asked of the records of class IN in any order
abbrev pub is_met_among : List Record → List RawRecord → RawRecord → Bool
is_met_among zone sought r =
    list_all (λ q. not (is_beside r.owner r.rtype q) || has_data (rrset_of zone r.owner r.rtype) q.octets) sought
    && list_all (λ s. list_any (is_sought r.owner r.rtype s.rdata) sought) (rrset_of zone r.owner r.rtype)

kept_or : (c s t h : Bool) → (not (c && s && t) || h) ≡ (not c || (not (s && t) || h))
kept_or true s t h = refl
kept_or false s t h = refl

turned : (c s t b : Bool) → (c && s && t && b) ≡ (c && (t && b && s))
turned false s t b = refl
turned true true true b = sym (both_true b)
turned true true false b = refl
turned true false true true = refl
turned true false true false = refl
turned true false false b = refl

met_among : (zone : List Record) (sent sought : List RawRecord) → IsPermutation (of_class_IN sent) sought → (r : RawRecord) → is_met zone sent r ≡ is_met_among zone sought r
met_among zone sent sought moved r =
    let set = rrset_of zone r.owner r.rtype in
    let gathered = is_gathered r.owner r.rtype in
    let beside = λ (q : RawRecord). not (is_beside r.owner r.rtype q) || has_data set q.octets in
    let all_there : list_all (λ q. has_data set q.octets) (filter gathered sent) ≡ list_all beside sought =
    all_kept (λ q. has_data set q.octets) gathered sent
    ∙ all_alike (λ q. not (gathered q) || has_data set q.octets) (λ q. not (q.class == class_IN) || beside q)
    (λ q. kept_or (q.class == class_IN) (is_same q.owner r.owner) (q.rtype == r.rtype) (has_data set q.octets)) sent
    ∙ sym (all_kept beside (λ q. q.class == class_IN) sent) ∙ all_permuted beside (of_class_IN sent) sought moved
    in
    let one_sent : (s : Record) → list_any (λ q. bytes_eq q.octets s.rdata) (filter gathered sent) ≡ list_any (is_sought r.owner r.rtype s.rdata) sought =
    λ s. any_kept (λ q. bytes_eq q.octets s.rdata) gathered sent
    ∙ any_alike (λ q. gathered q && bytes_eq q.octets s.rdata) (λ q. q.class == class_IN && is_sought r.owner r.rtype s.rdata q)
    (λ q. turned (q.class == class_IN) (is_same q.owner r.owner) (q.rtype == r.rtype) (bytes_eq q.octets s.rdata)) sent
    ∙ sym (any_kept (is_sought r.owner r.rtype s.rdata) (λ q. q.class == class_IN) sent) ∙ list_any-IsPermutation (is_sought r.owner r.rtype s.rdata) (of_class_IN sent) sought moved
    in
    ap (λ b. b && list_all (λ s. list_any (λ q. bytes_eq q.octets s.rdata) (filter gathered sent)) set) all_there
    ∙ ap (λ b. list_all beside sought && b)
    (all_alike (λ s. list_any (λ q. bytes_eq q.octets s.rdata) (filter gathered sent)) (λ s. list_any (is_sought r.owner r.rtype s.rdata) sought) one_sent set)

are_met_among : (zone : List Record) (sent sought : List RawRecord) → IsPermutation (of_class_IN sent) sought → are_met zone sent ≡ list_all (is_met_among zone sought) sought
are_met_among zone sent sought moved =
    sym (all_kept (is_met zone sent) (λ r. r.class == class_IN) sent) ∙ all_permuted (is_met zone sent) (of_class_IN sent) sought moved
    ∙ all_alike (is_met zone sent) (is_met_among zone sought) (met_among zone sent sought moved) sought

-- round so many places, what holds of one and goes from each to the place behind it holds of all
behind_below : (count at : ℕ) → at + 1 < count → place_behind count at ≡ at + 1
behind_below count at below = ap (λ b. cond b (at + 1) 0) (lt-ltb (at + 1) count below)

behind_last : (count at : ℕ) → at + 1 ≡ count → place_behind count at ≡ 0
behind_last count at last = ap (λ b. cond b (at + 1) 0) (le-ltb (at + 1) count (omega (arith, last)))

onward : (P : ℕ → Type 0) (count : ℕ) → ((k : ℕ) → k < count → P k → P (place_behind count k)) → (at more : ℕ) → P at → at + more < count → P (at + more)
onward P count goes at zero holds below = subst P (omega arith) holds
onward P count goes at (suc more) holds below =
    let here = onward P count goes at more holds (omega (arith, below)) in
    let behind = goes (at + more) (omega (arith, below)) here in
    subst P (behind_below count (at + more) (omega (arith, below)) ∙ omega arith) behind

pub round : (P : ℕ → Type 0) (count at : ℕ) → ((k : ℕ) → k < count → P k → P (place_behind count k)) → at < count → P at → (k : ℕ) → k < count → P k
round P count at goes within holds k below =
    let to_last : P (at + (count - 1 - at)) = onward P count goes at (count - 1 - at) holds (omega (arith, within)) in
    let last : P (count - 1) = subst P (omega (arith, within)) to_last in
    let first : P 0 = subst P (behind_last count (count - 1) (omega (arith, within))) (goes (count - 1) (omega (arith, within)) last) in
    subst P (omega arith) (onward P count goes 0 k first (omega (arith, below)))

place_within : (count at : ℕ) → at < count → place_behind count at < count
place_within count at below = cond_both (ltb (at + 1) count) (at + 1) 0 (λ place. place < count) (λ less. ltb-true (at + 1) count less) (λ more. omega (arith, below))

-- data that ascend stand at one place each
not_below : (xs ys : List ℕ) → is_lt (slice_cmp nat_cmp xs ys) ≡ true → xs ≡ ys → ⊥
not_below xs ys less same =
    false≢true (sym (ap is_lt (tied_itself nat_list_cmp_total ys)) ∙ ap (λ zs. is_lt (slice_cmp nat_cmp zs ys)) (sym same) ∙ less)

one_place : (set : List Record) → AllPairs (λ s t. is_lt (slice_cmp nat_cmp s.rdata t.rdata) ≡ true) set → (i j : ℕ) (d : Record) → i < length set → j < length set → (get_or set i d).rdata ≡ (get_or set j d).rdata → i ≡ j
one_place set rises i j d below other same =
    ⊎_elim (λ e. e)
    (⊎_elim (λ less. absurd (not_below (get_or set i d).rdata (get_or set j d).rdata (rises i j d less other) same))
    (λ more. absurd (not_below (get_or set j d).rdata (get_or set i d).rdata (rises j i d more below) (sym same)))) (cases_order i j)

-- records of one owner and type seek the same
is_sought-same : (q r : RawRecord) → is_same q.owner r.owner ≡ true → q.rtype ≡ r.rtype → (octets : List ℕ) (x : RawRecord) → is_sought q.owner q.rtype octets x ≡ is_sought r.owner r.rtype octets x
is_sought-same q r same rtype octets x =
    ap (λ b. x.rtype == q.rtype && bytes_eq x.octets octets && b) (is_same_equiv.symm x.owner q.owner ∙ is_same_equiv.congr q.owner r.owner x.owner same ∙ is_same_equiv.symm r.owner x.owner)
    ∙ ap (λ t. x.rtype == t && bytes_eq x.octets octets && is_same x.owner r.owner) rtype

set_of-same : (zone : List Record) (q r : RawRecord) → is_same q.owner r.owner ≡ true → q.rtype ≡ r.rtype → rrset_of zone q.owner q.rtype ≡ rrset_of zone r.owner r.rtype
set_of-same zone q r same rtype = rrset_of-same zone q.owner r.owner q.rtype same ∙ ap (rrset_of zone r.owner) rtype

-- each record leads to the next of its set
abbrev pub DoAllLeadOn : List Record → List RawRecord → Type 0
DoAllLeadOn zone sought = All (λ r. LeadsOn (rrset_of zone r.owner r.rtype) sought r) sought

abbrev some_record : Record
some_record = record { owner = []; rtype = 0; ttl = 0; rdata = [] }

-- the data of a record that leads on is in its set
is_there : (set : List Record) (sought : List RawRecord) (r : RawRecord) → LeadsOn set sought r → has_data set r.octets ≡ true
is_there set sought r leads =
    list_any_at (λ s. bytes_eq r.octets s.rdata) set leads.at some_record leads.below ((bytes_eq-Decides r.octets (get_or set leads.at some_record).rdata).1 (sym (leads.here some_record)))

-- from data that was sent it goes to the data behind
goes_on : (zone : List Record) (sought : List RawRecord) → DoAllLeadOn zone sought → (r : RawRecord) (d : Record) (k : ℕ) → k < length (rrset_of zone r.owner r.rtype)
    → list_any (is_sought r.owner r.rtype (get_or (rrset_of zone r.owner r.rtype) k d).rdata) sought ≡ true
    → list_any (is_sought r.owner r.rtype (get_or (rrset_of zone r.owner r.rtype) (place_behind (length (rrset_of zone r.owner r.rtype)) k) d).rdata) sought ≡ true
goes_on zone sought all r d k below holds =
    let set = rrset_of zone r.owner r.rtype in
    let octets = (get_or set k d).rdata in
    let any = Any-from_list_any (is_sought r.owner r.rtype octets) sought holds in
    let q = any.1 in
    let front = and_left (q.rtype == r.rtype && bytes_eq q.octets octets) (is_same q.owner r.owner) any.4 in
    let same = and_right (q.rtype == r.rtype && bytes_eq q.octets octets) (is_same q.owner r.owner) any.4 in
    let rtype = eqb-true q.rtype r.rtype (and_left (q.rtype == r.rtype) (bytes_eq q.octets octets) front) in
    let alike : q.octets ≡ octets = (bytes_eq-Decides q.octets octets).0 (and_right (q.rtype == r.rtype) (bytes_eq q.octets octets) front) in
    let own : LeadsOn (rrset_of zone q.owner q.rtype) sought q = subst (λ (x : RawRecord). LeadsOn (rrset_of zone x.owner x.rtype) sought x) any.3 (all any.0 q any.2) in
    let leads : LeadsOn set sought q = subst (λ s. LeadsOn s sought q) (set_of-same zone q r same rtype) own in
    let place : leads.at ≡ k = one_place set leads.ascending leads.at k d leads.below below (leads.here d ∙ alike) in
    sym (any_alike (is_sought q.owner q.rtype (get_or set (place_behind (length set) k) d).rdata) (is_sought r.owner r.rtype (get_or set (place_behind (length set) k) d).rdata)
    (is_sought-same q r same rtype (get_or set (place_behind (length set) k) d).rdata) sought)
    ∙ ap (λ at. list_any (is_sought q.owner q.rtype (get_or set (place_behind (length set) at) d).rdata) sought) (sym place) ∙ leads.behind d

leads_round : (zone : List Record) (sought : List RawRecord) → DoAllLeadOn zone sought → (r : RawRecord) → LeadsOn (rrset_of zone r.owner r.rtype) sought r → is_met_among zone sought r ≡ true
leads_round zone sought all r leads =
    let set = rrset_of zone r.owner r.rtype in
    let there = λ (q : RawRecord) (own : LeadsOn (rrset_of zone q.owner q.rtype) sought q) (beside : is_beside r.owner r.rtype q ≡ true).
    sym (ap (λ s. has_data s q.octets) (set_of-same zone q r (and_left (is_same q.owner r.owner) (q.rtype == r.rtype) beside) (eqb-true q.rtype r.rtype (and_right (is_same q.owner r.owner) (q.rtype == r.rtype) beside))))
    ∙ is_there (rrset_of zone q.owner q.rtype) sought q own
    in
    let all_there : list_all (λ q. not (is_beside r.owner r.rtype q) || has_data set q.octets) sought ≡ true =
    list_all-from_AllPass (λ q. not (is_beside r.owner r.rtype q) || has_data set q.octets) sought
    (All-weaker (λ q. LeadsOn (rrset_of zone q.owner q.rtype) sought q) (λ q. (not (is_beside r.owner r.rtype q) || has_data set q.octets) ≡ true)
    (λ q own. implied (is_beside r.owner r.rtype q) (has_data set q.octets) (there q own)) sought all)
    in
    let all_sent : list_all (λ s. list_any (is_sought r.owner r.rtype s.rdata) sought) set ≡ true =
    list_all-from_AllPass (λ s. list_any (is_sought r.owner r.rtype s.rdata) sought) set
    (λ k d below. round (λ j. list_any (is_sought r.owner r.rtype (get_or set j d).rdata) sought ≡ true) (length set) (place_behind (length set) leads.at)
    (goes_on zone sought all r d) (place_within (length set) leads.at leads.below) (leads.behind d) k below)
    in
    and_from _ _ all_there all_sent

-- where each leads to the next, the sets that were gathered are the zone's
pub all_met : (zone : List Record) (sent sought : List RawRecord) → IsPermutation (of_class_IN sent) sought → DoAllLeadOn zone sought → are_met zone sent ≡ true
all_met zone sent sought moved all =
    are_met_among zone sent sought moved
    ∙ list_all-from_AllPass (is_met_among zone sought) sought (All-weaker (λ r. LeadsOn (rrset_of zone r.owner r.rtype) sought r) (λ r. is_met_among zone sought r ≡ true) (leads_round zone sought all) sought all)

-- where one's data isn't of the set, or not all of the set was sent, one of them isn't
unmet : (zone : List Record) (sought : List RawRecord) (k : ℕ) (r : RawRecord) → k < length sought → get_or sought k r ≡ r → is_of_whole (rrset_of zone r.owner r.rtype) sought r ≡ false → is_met_among zone sought r ≡ false
unmet zone sought k r below is part =
    let set = rrset_of zone r.owner r.rtype in
    let beside = λ (q : RawRecord). not (is_beside r.owner r.rtype q) || has_data set q.octets in
    let itself : is_beside r.owner r.rtype r ≡ true = and_from (is_same r.owner r.owner) (r.rtype == r.rtype) (is_same_equiv.refl r.owner) (eq-eqb r.rtype r.rtype refl) in
    ⊎_elim
    (λ lacks. bool.and_left (list_all beside sought) _ (list_all_at beside sought k r below (ap beside is ∙ ap (λ b. not b || has_data set r.octets) itself ∙ lacks)))
    (λ lacks. bool.and_right (list_all beside sought) _ lacks)
    (and_cases (has_data set r.octets) (list_all (λ s. list_any (is_sought r.owner r.rtype s.rdata) sought) set) part)

pub one_unmet : (zone : List Record) (sent sought : List RawRecord) → IsPermutation (of_class_IN sent) sought → Any (λ r. is_of_whole (rrset_of zone r.owner r.rtype) sought r ≡ false) sought → are_met zone sent ≡ false
one_unmet zone sent sought moved any =
    are_met_among zone sent sought moved
    ∙ list_all_at (is_met_among zone sought) sought any.0 any.1 any.2 (ap (is_met_among zone sought) any.3 ∙ unmet zone sought any.0 any.1 any.2 any.3 any.4)

-- so the answer is told
pub judged : (zone : List Record) (sent sought : List RawRecord) → IsPermutation (of_class_IN sent) sought → (b : Bool)
    → MatchBool b (DoAllLeadOn zone sought) (Any (λ r. is_of_whole (rrset_of zone r.owner r.rtype) sought r ≡ false) sought) → b ≡ are_met zone sent
judged zone sent sought moved true all = sym (all_met zone sent sought moved all)
judged zone sent sought moved false any = sym (one_unmet zone sent sought moved any)

-- a filter of the first so many keeps no more
pub few_kept : (p : RawRecord → Bool) (sent : List RawRecord) (i : ℕ) → i ≤ length sent → length (filter p (take i sent)) ≤ i
few_kept p sent i within =
    let kept = length-filter p (take i sent) in
    let fewer = count_by-le-length p (take i sent) in
    let taken = length-take-le i sent within in
    omega (arith, kept, fewer, taken)
