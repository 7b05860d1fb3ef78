-- What an additional section has.
use Rattle.std.proofs.Common.{◌≡◌, ℕ, true, false, ◌&&◌, ◌||◌, ◌==◌, not, ◌⊎◌, inl, inr, List, [], ◌∷◌, ◌++◌, filter, get_or, take, All, refl, sym, ap, subst, ◌∙◌, arith}
use Rattle.std.specs.List.{list_any, flat_map, Contains}
use Rattle.std.proofs.lemmas.Bool.{eqb-true}
use Rattle.std.proofs.lemmas.List.Elements.{All-nil, All-cons, All-tail, All-append, All-take, All-filter, All-contains_itself, filter_passes}
use Rattle.dns_name.specs.Name.{is_same}
use Rattle.dns_name.specs.Order.{is_same_equiv}
use Rattle.dns_rdata.specs.Numbers.{type_A, type_AAAA}
use Rattle.dns_rdata.specs.Record.{Record, owner_of, rtype_of}
use Rattle.zone_tree.specs.Zone.{is_of, rrset_of}
use Rattle.lookup_core.specs.Place.{is_none_of}
use Rattle.lookup_core.specs.Additional.{addresses, is_same_set, is_wanted, wanted_sets, each_once, hosts_of, additional_of}
use Rattle.lookup_core.specs.Laws.{IsAddition}
use Rattle.lookup_core.proofs.LawLemmas.{by_test, and_not, and_left, and_right}

-- the same owner and type stand in the same answers
same_of : (name other : List (List ℕ)) (t : ℕ) (answer : List Record) → is_same name other ≡ true → list_any (is_of name t) answer ≡ list_any (is_of other t) answer
same_of name other t [] same = refl
same_of name other t (r ∷ rs) same =
    let owner : is_same r.owner name ≡ is_same r.owner other =
    is_same_equiv.symm r.owner name ∙ is_same_equiv.congr name other r.owner same ∙ is_same_equiv.symm other r.owner
    in
    ap (λ b. b && r.rtype == t || list_any (is_of name t) rs) owner ∙ ap (λ b. is_same r.owner other && r.rtype == t || b) (same_of name other t rs same)

-- a record of a set of addresses, whose first record doesn't stand in the answer
one_addition : (zone answer : List Record) (r q : Record) (name : List (List ℕ)) (t : ℕ) → (t ≡ type_A) ⊎ (t ≡ type_AAAA) → Contains zone r → is_of name t r ≡ true → is_of name t q ≡ true → list_any (is_of q.owner q.rtype) answer ≡ false
    → IsAddition zone answer r
one_addition zone answer r q name t address is_present of first apart =
    let rtype : r.rtype ≡ t = eqb-true r.rtype t (and_right (is_same r.owner name) (r.rtype == t) of) in
    let other : q.rtype ≡ t = eqb-true q.rtype t (and_right (is_same q.owner name) (q.rtype == t) first) in
    let same : is_same r.owner q.owner ≡ true =
    is_same_equiv.congr r.owner name q.owner (and_left (is_same r.owner name) (r.rtype == t) of) ∙ is_same_equiv.symm name q.owner ∙ and_left (is_same q.owner name) (q.rtype == t) first
    in
    record {
      is_present = is_present;
      address = subst (λ n. (n ≡ type_A) ⊎ (n ≡ type_AAAA)) (sym rtype) address;
      apart = ap (λ n. list_any (is_of r.owner n) answer) (rtype ∙ sym other) ∙ same_of r.owner q.owner q.rtype answer same ∙ apart;
    }

-- a set of addresses that doesn't stand in the answer
addition_by : (zone answer set : List Record) (name : List (List ℕ)) (t : ℕ) → (t ≡ type_A) ⊎ (t ≡ type_AAAA) → set ≡ rrset_of zone name t → list_any (is_of (owner_of set) (rtype_of set)) answer ≡ false → All (IsAddition zone answer) set
addition_by zone answer [] name t address is apart = All-nil (IsAddition zone answer)
addition_by zone answer (q ∷ qs) name t address is apart =
    let own : All (λ r. is_of name t r ≡ true) (q ∷ qs) = subst (All (λ r. is_of name t r ≡ true)) (sym is) (filter_passes (is_of name t) zone) in
    let kept : All (Contains zone) (q ∷ qs) = subst (All (Contains zone)) (sym is) (All-filter (is_of name t) (Contains zone) zone (All-contains_itself zone)) in
    λ k d below. one_addition zone answer (get_or (q ∷ qs) k d) q name t address (kept k d below) (own k d below) (own 0 q (omega arith)) apart

-- sets of such records
abbrev AreAdditions : List Record → List Record → List (List Record) → Type 0
AreAdditions zone answer sets = All (λ set. All (IsAddition zone answer) set) sets

one_wanted : (zone answer set : List Record) (rest : List (List Record)) (name : List (List ℕ)) (t : ℕ) → (t ≡ type_A) ⊎ (t ≡ type_AAAA) → set ≡ rrset_of zone name t → AreAdditions zone answer (filter (is_wanted answer) rest)
    → AreAdditions zone answer (filter (is_wanted answer) (set ∷ rest))
one_wanted zone answer set rest name t address is behind =
    by_test (AreAdditions zone answer) (is_wanted answer set) (set ∷ filter (is_wanted answer) rest) (filter (is_wanted answer) rest)
    (λ wanted. All-cons (λ s. All (IsAddition zone answer) s) set (filter (is_wanted answer) rest)
    (addition_by zone answer set name t address is (and_not (not (is_none_of set)) (list_any (is_of (owner_of set) (rtype_of set)) answer) wanted)) behind)
    (λ _. behind)

all_wanted : (zone answer : List Record) (hosts : List (List (List ℕ))) → AreAdditions zone answer (wanted_sets zone answer hosts)
all_wanted zone answer [] = All-nil (λ s. All (IsAddition zone answer) s)
all_wanted zone answer (host ∷ hosts) =
    one_wanted zone answer (rrset_of zone host type_A) (rrset_of zone host type_AAAA ∷ flat_map (addresses zone) hosts) host type_A (inl refl) refl
    (one_wanted zone answer (rrset_of zone host type_AAAA) (flat_map (addresses zone) hosts) host type_AAAA (inr refl) refl (all_wanted zone answer hosts))

-- what holds of all holds of each once
all_once : (P : List Record → Type 0) (before sets : List (List Record)) → All P sets → All P (each_once before sets)
all_once P before [] all = All-nil P
all_once P before (set ∷ sets) all =
    by_test (All P) (list_any (is_same_set set) before) (each_once before sets) (set ∷ each_once (set ∷ before) sets) (λ _. all_once P before sets (All-tail P set sets all))
    (λ _. All-cons P set (each_once (set ∷ before) sets) (all 0 set (omega arith)) (all_once P (set ∷ before) sets (All-tail P set sets all)))

-- and of the records of all sets
all_records : (P : Record → Type 0) (sets : List (List Record)) → All (λ set. All P set) sets → All P (flat_map (λ set. set) sets)
all_records P [] all = All-nil P
all_records P (set ∷ sets) all = All-append P set (flat_map (λ s. s) sets) (all 0 set (omega arith)) (all_records P sets (All-tail (λ s. All P s) set sets all))

pub additions : (zone answer authority : List Record) → All (IsAddition zone answer) (additional_of zone answer authority)
additions zone answer authority =
    let wanted = wanted_sets zone answer (hosts_of (answer ++ authority)) in
    all_records (IsAddition zone answer) (take 32 (each_once [] wanted)) (All-take (λ s. All (IsAddition zone answer) s) 32 (each_once [] wanted) (all_once (λ s. All (IsAddition zone answer) s) [] wanted (all_wanted zone answer (hosts_of (answer ++ authority)))))
