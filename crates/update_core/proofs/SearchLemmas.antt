-- What a search by halves finds: among prerequisites in order, and in a set's data.
use Rattle.std.proofs.Common.{◌≡◌, ℕ, ◌<◌, ◌+◌, Bool, false, ◌&&◌, ◌==◌, List, [], ◌∷◌, length, get_or, bytes_eq, Result, Ok, Err, Ordering, MatchOption, refl, sym, ap, ◌∙◌, ⊎_elim, arith}
use Rattle.std.specs.List.{list_any, AllPairs}
use Rattle.std.specs.List.Sorted.{IsSortedBy, IsNonDecreasingBy, IsBinarySearchResult, IsSearchInRange}
use Rattle.std.specs.Ordering.{nat_cmp, ordering_then, ordering_index, is_lt, is_eq}
use Rattle.std.specs.declared.cmp.Ordering.TheVariants.{Less, Equal, Greater}
use Rattle.std.specs.Result.{is_ok, result_ok}
use Rattle.std.specs.Cmp.{IsTotalOrder, tied_then}
use Rattle.std.specs.Cmp.Lexicographic.{slice_cmp}
use Rattle.std.proofs.lemmas.Bool.{cases_lt}
use Rattle.std.proofs.lemmas.Bool.Decides.{same_from_decides}
use Rattle.std.proofs.lemmas.Cmp.{then_total, on_total, nat_cmp_total, nat_list_cmp_total}
use Rattle.std.proofs.lemmas.List.Folds.{list_any_at, list_any_none}
use Rattle.std.proofs.lemmas.List.Sorted.{ranks_by, searchable_from_sorted}
use Rattle.std.proofs.lemmas.Map.Text.{is_eq-slice_cmp}
use Rattle.std.proofs.lemmas.Slice.Eq.{bytes_eq-Decides}
use Rattle.dns_name.specs.Name.{Name, wire_of, fold_name, is_same}
use Rattle.dns_name.specs.Order.{is_same_Decides}
use Rattle.update_core.proofs.WireLemmas.{wire_of_once}
use Rattle.dns_rdata.specs.Data.{Data}
use Rattle.dns_rdata.specs.Record.{IsBefore}
use Rattle.dns_rdata.specs.Raw.{RawRecord}
use Rattle.update_core.specs.Ordered.{wire_cmp, sought_cmp, record_of, is_sought}

-- the order of prerequisites is total
pub sought_total : IsTotalOrder sought_cmp
sought_total =
    then_total (on_total (λ (r : RawRecord). r.rtype) nat_cmp_total)
    (then_total (on_total (λ (r : RawRecord). r.octets) nat_list_cmp_total) (on_total (λ (r : RawRecord). wire_of (fold_name r.owner)) nat_list_cmp_total))

three : (a b c : Ordering) → is_eq (ordering_then a (ordering_then b c)) ≡ (is_eq a && is_eq b && is_eq c)
three Less b c = refl
three Equal b c = sym (tied_then b c)
three Greater b c = refl

is_eq-nat_cmp : (x y : ℕ) → is_eq (nat_cmp x y) ≡ (x == y)
is_eq-nat_cmp x y = grind (arith)

-- names tie by their octets where they are the same
wire_tied : (name other : Name) → is_eq (wire_cmp name other) ≡ is_same name other
wire_tied name other =
    let own = bytes_eq-Decides (wire_of (fold_name name)) (wire_of (fold_name other)) in
    is_eq-slice_cmp (wire_of (fold_name name)) (wire_of (fold_name other))
    ∙ same_from_decides (bytes_eq (wire_of (fold_name name)) (wire_of (fold_name other))) (is_same name other) own
    (λ e. ap wire_of ((is_same_Decides name other).0 e), λ e. (is_same_Decides name other).1 (wire_of_once (fold_name name) (fold_name other) e))

-- it ties records of one type, owner and data
pub sought_tied : (r : RawRecord) (owner : Name) (rtype : ℕ) (octets : List ℕ) → is_eq (sought_cmp r (record_of owner rtype octets)) ≡ is_sought owner rtype octets r
sought_tied r owner rtype octets =
    three (nat_cmp r.rtype rtype) (slice_cmp nat_cmp r.octets octets) (wire_cmp r.owner owner)
    ∙ ap (λ b. b && is_eq (slice_cmp nat_cmp r.octets octets) && is_eq (wire_cmp r.owner owner)) (is_eq-nat_cmp r.rtype rtype)
    ∙ ap (λ b. r.rtype == rtype && b && is_eq (wire_cmp r.owner owner)) (is_eq-slice_cmp r.octets octets)
    ∙ ap (λ b. r.rtype == rtype && bytes_eq r.octets octets && b) (wire_tied r.owner owner)

-- a search by halves finds an element exactly where one passes
is_less : (o : Ordering) → o ≡ Less → is_eq o ≡ false
is_less o e = ap is_eq e

is_greater : (o : Ordering) → o ≡ Greater → is_eq o ≡ false
is_greater o e = ap is_eq e

found : {X : Type 0} (ord : X → Ordering) (p : X → Bool) → ((x : X) → is_eq (ord x) ≡ p x) → (xs : List X) (r : Result ℕ ℕ) → IsSearchInRange r (length xs) → IsBinarySearchResult ord xs r → IsNonDecreasingBy (λ y. ordering_index (ord y)) xs → is_ok r ≡ list_any p xs
found ord p says [] (Ok k) range result rising = absurd (omega (arith, range))
found ord p says (x ∷ xs) (Ok k) range result rising =
    sym (list_any_at p (x ∷ xs) k x range (sym (says (get_or (x ∷ xs) k x)) ∙ ap is_eq (result x)))
found ord p says xs (Err i) range result rising =
    let parts = result rising in
    sym (list_any_none p xs (λ k d below. sym (says (get_or xs k d))
    ∙ ⊎_elim (λ under. is_less (ord (get_or xs k d)) (parts.0 k d (omega arith) under)) (λ over. is_greater (ord (get_or xs k d)) (parts.1 k d over below)) (cases_lt k i)))

bytes_turned : (xs ys : List ℕ) → bytes_eq xs ys ≡ bytes_eq ys xs
bytes_turned xs ys =
    same_from_decides (bytes_eq xs ys) (bytes_eq ys xs) (bytes_eq-Decides xs ys) (λ e. sym ((bytes_eq-Decides ys xs).0 e), λ e. (bytes_eq-Decides ys xs).1 (sym e))

-- data that ascend may be searched by halves
data_rise : (all : List Data) → AllPairs IsBefore all → IsSortedBy (λ c d. is_lt (slice_cmp nat_cmp c.octets d.octets)) all
data_rise all rises =
    λ k d low high. (ranks_by nat_list_cmp_total (λ (c : Data). c.octets)).one_way (get_or all k d) (get_or all (k + 1) d) (rises k (k + 1) d (omega arith) high)

-- and what is found in them
pub placed : (all : List Data) (octets : List ℕ) → AllPairs IsBefore all → (r : Result ℕ ℕ) → IsSearchInRange r (length all) → IsBinarySearchResult (λ d. slice_cmp nat_cmp d.octets octets) all r
    → MatchOption (result_ok r) (list_any (λ d. bytes_eq octets d.octets) all ≡ false) (λ at. (at < length all) × ((d : Data) → (get_or all at d).octets ≡ octets))
placed all octets rises (Ok at) range result =
    (range, λ d. (bytes_eq-Decides (get_or all at d).octets octets).0 (sym (is_eq-slice_cmp (get_or all at d).octets octets) ∙ ap is_eq (result d)))
placed all octets rises (Err at) range result =
    sym (found (λ d. slice_cmp nat_cmp d.octets octets) (λ d. bytes_eq octets d.octets) (λ d. is_eq-slice_cmp d.octets octets ∙ bytes_turned d.octets octets) all (Err at) range result
    (searchable_from_sorted nat_list_cmp_total (λ (d : Data). d.octets) all octets (data_rise all rises)))

-- a record is found among prerequisites in order exactly where one of them has its owner, type and data
pub sought_found : (list : List RawRecord) (owner : Name) (rtype : ℕ) (octets : List ℕ) → IsSortedBy (λ r s. is_lt (sought_cmp r s)) list → (r : Result ℕ ℕ) → IsSearchInRange r (length list)
    → IsBinarySearchResult (λ q. sought_cmp q (record_of owner rtype octets)) list r → is_ok r ≡ list_any (is_sought owner rtype octets) list
sought_found list owner rtype octets sorted r range result =
    found (λ q. sought_cmp q (record_of owner rtype octets)) (is_sought owner rtype octets) (λ q. sought_tied q owner rtype octets) list r range result
    (searchable_from_sorted sought_total (λ (q : RawRecord). q) list (record_of owner rtype octets) sorted)
