-- What a set has that another set, or a zone, hasn't.
use Rattle.std.proofs.Common.{◌≡◌, refl, sym, ap, ◌∙◌, subst, ℕ, zero, suc, ◌+◌, ◌<◌, ◌≤◌, Bool, true, false, ◌&&◌, ◌||◌, cond, List, [], ◌∷◌, length, get_or, drop, map, arith, true≢false, eqb-true, eq-eqb}
use Rattle.std.specs.Prelude.{◌==◌, not, bytes_eq}
use Rattle.std.specs.declared.cmp.Ordering.{Ordering}
use Rattle.std.specs.declared.cmp.Ordering.TheVariants.{Less, Equal, Greater}
use Rattle.std.specs.List.{filter, list_any, dedup, dedup_from, All, AllByRecursion}
use Rattle.std.specs.Ordering.{nat_cmp, is_eq, ordering_then}
use Rattle.std.specs.Cmp.{first_so, second_so}
use Rattle.std.specs.Cmp.Lexicographic.{slice_cmp, pointwise}
use Rattle.std.proofs.lemmas.Cmp.{tied_itself, nat_cmp_total}
use Rattle.std.proofs.lemmas.Map.Text.{is_eq-slice_cmp}
use Rattle.std.proofs.lemmas.Map.Views.{any-filter_same}
use Rattle.std.proofs.lemmas.Slice.Eq.{bytes_eq-Decides}
use Rattle.std.proofs.lemmas.List.Folds.{list_any_none}
use Rattle.std.proofs.lemmas.List.Elements.{recursion_from_All}
use Rattle.dns_name.specs.Name.{is_same, canonical_cmp, fold_name}
use Rattle.dns_name.proofs.StoredLemmas.{fold_name-fold_name}
use Rattle.dns_name.specs.Order.{is_same_equiv}
use Rattle.dns_rdata.specs.Data.{Data}
use Rattle.dns_rdata.specs.Numbers.{type_SOA}
use Rattle.dns_rdata.specs.Record.{Record, record_cmp, records_with, owner_of, rtype_of, ttl_of, without_data}
use Rattle.shared_tree.proofs.PairLemmas.{each_passes, filter_all, filter_none}
use Rattle.zone_tree.specs.Zone.{is_of, rrset_of}
use Rattle.zone_tree.specs.Sets.{IsOf, IsRRset}
use Rattle.zone_tree.specs.Change.{is_same_record, left_out}
use Rattle.zone_tree.specs.Delta.{lacking, some_set}
use Rattle.zone_tree.proofs.NameOrder.{same_from_tie, tie_from_same}
use Rattle.zone_tree.proofs.Rising.{each_weaker}
use Rattle.zone_tree.proofs.ZoneLemmas.{eqb_from_tie}

-- where names that are the same stand once, each still is there
absorbed : (b c : Bool) → b || c ≡ b || (b || c)
absorbed true c = refl
absorbed false c = refl

kept_from : (name k : List (List ℕ)) (xs : List (List (List ℕ))) → list_any (is_same name) (dedup_from is_same k xs) ≡ (is_same name k || list_any (is_same name) xs)
kept_from name k [] = refl
kept_from name k (x ∷ xs) = by (is_same x k) refl (kept_from name k xs) (kept_from name x xs)
  where
    by : (b : Bool) → is_same x k ≡ b → list_any (is_same name) (dedup_from is_same k xs) ≡ (is_same name k || list_any (is_same name) xs) → list_any (is_same name) (dedup_from is_same x xs) ≡ (is_same name x || list_any (is_same name) xs)
        → list_any (is_same name) (cond b (dedup_from is_same k xs) (k ∷ dedup_from is_same x xs)) ≡ (is_same name k || (is_same name x || list_any (is_same name) xs))
    by true e f g =
        let alike : is_same name x ≡ is_same name k = is_same_equiv.symm name x ∙ is_same_equiv.congr x k name e ∙ is_same_equiv.symm k name in
        f ∙ absorbed (is_same name k) (list_any (is_same name) xs) ∙ ap (λ b. is_same name k || (b || list_any (is_same name) xs)) (sym alike)
    by false e f g = ap (λ b. is_same name k || b) g

pub kept_once : (name : List (List ℕ)) (xs : List (List (List ℕ))) → list_any (is_same name) (dedup is_same xs) ≡ list_any (is_same name) xs
kept_once name [] = refl
kept_once name (x ∷ xs) = kept_from name x xs

-- a name is among others where it is among them in lower case
pub any_folded : (name : List (List ℕ)) (names : List (List (List ℕ))) → list_any (is_same name) (map fold_name names) ≡ list_any (is_same name) names
any_folded name [] = refl
any_folded name (other ∷ names) = λ i. pointwise bytes_eq (fold_name name) (fold_name-fold_name other i) || any_folded name names i

-- whether data are told, and records without those told
abbrev pub reported : List Data → Record → Bool
reported ds r = list_any (λ d. bytes_eq d.octets r.rdata) ds

abbrev pub untold : List Data → List Record → List Record
untold ds rs = filter (λ r. not (reported ds r)) rs

untold_more : (d : Data) (ds : List Data) (rs : List Record) → untold (d ∷ ds) rs ≡ untold ds (without_data rs d.octets)
untold_more d ds [] = refl
untold_more d ds (r ∷ rs) = by (bytes_eq d.octets r.rdata) (untold_more d ds rs)
  where
    by : (b : Bool) → untold (d ∷ ds) rs ≡ untold ds (without_data rs d.octets)
        → cond (not (b || reported ds r)) (r ∷ untold (d ∷ ds) rs) (untold (d ∷ ds) rs) ≡ untold ds (cond (not b) (r ∷ without_data rs d.octets) (without_data rs d.octets))
    by true e = e
    by false e = ap (λ l. cond (not (reported ds r)) (r ∷ l) l) e

pub untold_next : (ds : List Data) (i : ℕ) (d : Data) (left next : List Record) → i < length ds → d ≡ get_or ds i d → next ≡ without_data left d.octets → untold (drop i ds) left ≡ untold (drop (i + 1) ds) next
untold_next [] i d left next l e f = absurd (omega arith)
untold_next (c ∷ ds) zero d left next l e f = ap (λ x. untold (x ∷ ds) left) (sym e) ∙ untold_more d ds left ∙ ap (untold ds) (sym f)
untold_next (c ∷ ds) (suc i) d left next l e f =
    let more : suc i + 1 ≡ suc (i + 1) = omega arith in
    rw more (untold_next ds i d left next (omega arith) e f)

untold_none : (rs : List Record) → untold [] rs ≡ rs
untold_none [] = refl
untold_none (r ∷ rs) = ap (λ l. r ∷ l) (untold_none rs)

pub untold_end : (ds : List Data) (i : ℕ) (rs : List Record) → length ds ≤ i → untold (drop i ds) rs ≡ rs
untold_end [] zero rs l = untold_none rs
untold_end [] (suc i) rs l = untold_none rs
untold_end (d ∷ ds) zero rs l = absurd (omega arith)
untold_end (d ∷ ds) (suc i) rs l = untold_end ds i rs (omega arith)

pub some_is : (set : List Record) → 0 < length set → some_set set ≡ set ∷ []
some_is [] l = absurd (omega arith)
some_is (r ∷ rs) l = refl

pub some_from : (set : List Record) → (set ≡ [] → ⊥) → 0 < length set
some_from [] f = absurd (f refl)
some_from (r ∷ rs) f = omega arith

-- when records are equal
flip_by : (b c : Bool) → (b ≡ true → c ≡ true) → (c ≡ true → b ≡ true) → b ≡ c
flip_by true c f g = sym (f refl)
flip_by false true f g = g refl
flip_by false false f g = refl

flip : (xs ys : List ℕ) → bytes_eq xs ys ≡ bytes_eq ys xs
flip xs ys =
    flip_by (bytes_eq xs ys) (bytes_eq ys xs) (λ e. (bytes_eq-Decides ys xs).1 (sym ((bytes_eq-Decides xs ys).0 e))) (λ e. (bytes_eq-Decides xs ys).1 (sym ((bytes_eq-Decides ys xs).0 e)))

pub and_true : (b : Bool) → b && true ≡ b
and_true true = refl
and_true false = refl

and_false : (b : Bool) → b && false ≡ false
and_false true = refl
and_false false = refl

same_data : (r s : Record) → canonical_cmp r.owner s.owner ≡ Equal → r.rtype ≡ s.rtype → r.ttl ≡ s.ttl → is_same_record r s ≡ bytes_eq s.rdata r.rdata
same_data r s o t l =
    let tie : nat_cmp r.rtype s.rtype ≡ Equal = ap (λ u. nat_cmp u s.rtype) t ∙ tied_itself nat_cmp_total s.rtype in
    rw (o, tie, eq-eqb r.ttl s.ttl l) (and_true (is_eq (slice_cmp nat_cmp r.rdata s.rdata)) ∙ is_eq-slice_cmp r.rdata s.rdata ∙ flip r.rdata s.rdata)

any_told : (r : Record) (o : List (List ℕ)) (t l : ℕ) → canonical_cmp r.owner o ≡ Equal → r.rtype ≡ t → r.ttl ≡ l → (ds : List Data) → list_any (is_same_record r) (records_with o t l ds) ≡ reported ds r
any_told r o t l e f g [] = refl
any_told r o t l e f g (d ∷ ds) = λ i. same_data r (record { owner = o; rtype = t; ttl = l; rdata = d.octets }) e f g i || any_told r o t l e f g ds i

pub filter_same : {X : Type 0} (p q : X → Bool) (xs : List X) → AllByRecursion (λ x. p x ≡ q x) xs → filter p xs ≡ filter q xs
filter_same p q [] h = refl
filter_same p q (x ∷ xs) h = λ i. cond (h.0 i) (x ∷ filter_same p q xs h.1 i) (filter_same p q xs h.1 i)

-- of one owner, type and TTL: the records whose data aren't told
pub lacking_told : (set other : List Record) (ds : List Data) → IsRRset set → other ≡ records_with (owner_of other) (rtype_of other) (ttl_of other) ds → is_same (owner_of set) (owner_of other) ≡ true → rtype_of set ≡ rtype_of other → ttl_of set ≡ ttl_of other → lacking set other ≡ untold ds set
lacking_told set other ds h e names types ttls =
    let tie = tie_from_same (owner_of set) (owner_of other) names in
    filter_same (λ r. not (list_any (is_same_record r) other)) (λ r. not (reported ds r)) set
    (each_weaker (IsOf set) (λ r. not (list_any (is_same_record r) other) ≡ not (reported ds r))
    (λ r m. ap (λ l. not (list_any (is_same_record r) l)) e ∙ ap not (any_told r (owner_of other) (rtype_of other) (ttl_of other) (ap (λ n. canonical_cmp n (owner_of other)) m.owner ∙ tie) (m.rtype ∙ types) (m.ttl ∙ ttls) ds))
    set (recursion_from_All (IsOf set) set h.shared))

-- where the TTLs differ: all
pub lacking_all : (set other : List Record) (ttl : ℕ) → IsRRset set → All (λ s. s.ttl ≡ ttl) other → (ttl_of set == ttl) ≡ false → lacking set other ≡ set
lacking_all set other ttl h e apart =
    filter_all (λ r. not (list_any (is_same_record r) other)) set
    (each_weaker (IsOf set) (λ r. not (list_any (is_same_record r) other) ≡ true)
    (λ r m. ap not (list_any_none (is_same_record r) other (λ k d l. let s = get_or other k d in (λ i. is_eq (record_cmp r s) && (m.ttl i == e k d l i)) ∙ ap (λ b. is_eq (record_cmp r s) && b) apart ∙ and_false (is_eq (record_cmp r s)))))
    set (recursion_from_All (IsOf set) set h.shared))

-- equal records are of one owner and type
pub tied_parts : (o p q : Ordering) → is_eq (ordering_then o (ordering_then p q)) ≡ true → (o ≡ Equal) × (p ≡ Equal) × (q ≡ Equal)
tied_parts Less p q e = absurd (true≢false (sym e))
tied_parts Greater p q e = absurd (true≢false (sym e))
tied_parts Equal Less q e = absurd (true≢false (sym e))
tied_parts Equal Greater q e = absurd (true≢false (sym e))
tied_parts Equal Equal Less e = absurd (true≢false (sym e))
tied_parts Equal Equal Greater e = absurd (true≢false (sym e))
tied_parts Equal Equal Equal e = (refl, refl, refl)

pub is_of_same : (r s : Record) (owner : List (List ℕ)) (rtype : ℕ) → r.owner ≡ owner → r.rtype ≡ rtype → is_same_record r s ≡ true → is_of owner rtype s ≡ true
is_of_same r s owner rtype o t e =
    let parts = tied_parts (canonical_cmp r.owner s.owner) (nat_cmp r.rtype s.rtype) (slice_cmp nat_cmp r.rdata s.rdata) (first_so (is_eq (record_cmp r s)) (r.ttl == s.ttl) e) in
    let name : is_same s.owner owner ≡ true = is_same_equiv.symm s.owner owner ∙ ap (λ n. is_same n s.owner) (sym o) ∙ same_from_tie r.owner s.owner parts.0 in
    let number : (s.rtype == rtype) ≡ true = eq-eqb s.rtype rtype (sym (eqb-true r.rtype s.rtype (eqb_from_tie r.rtype s.rtype parts.1)) ∙ t) in
    rw (name, number) refl

-- what a set has that a zone hasn't, by the zone's set of its owner and type
pub left_out_lacking : (set other : List Record) → IsRRset set → (rtype_of set == type_SOA) ≡ false → left_out set other ≡ lacking set (rrset_of other (owner_of set) (rtype_of set))
left_out_lacking set other h e =
    filter_same (λ r. not (r.rtype == type_SOA) && not (list_any (is_same_record r) other)) (λ r. not (list_any (is_same_record r) (rrset_of other (owner_of set) (rtype_of set)))) set
    (each_weaker (IsOf set) (λ r. not (r.rtype == type_SOA) && not (list_any (is_same_record r) other) ≡ not (list_any (is_same_record r) (rrset_of other (owner_of set) (rtype_of set))))
    (λ r m. ap (λ b. not b && not (list_any (is_same_record r) other)) (ap (λ t. t == type_SOA) m.rtype ∙ e) ∙ ap not (sym (any-filter_same (is_same_record r) (is_of (owner_of set) (rtype_of set)) true (λ s k. is_of_same r s (owner_of set) (rtype_of set) m.owner m.rtype k) other)))
    set (recursion_from_All (IsOf set) set h.shared))

pub left_out_soa : (set other : List Record) → IsRRset set → (rtype_of set == type_SOA) ≡ true → left_out set other ≡ []
left_out_soa set other h e =
    filter_none (λ r. not (r.rtype == type_SOA) && not (list_any (is_same_record r) other)) set
    (each_weaker (IsOf set) (λ r. not (r.rtype == type_SOA) && not (list_any (is_same_record r) other) ≡ false)
    (λ r m. ap (λ b. not b && not (list_any (is_same_record r) other)) (ap (λ t. t == type_SOA) m.rtype ∙ e))
    set (recursion_from_All (IsOf set) set h.shared))

pub lacking_none : (set : List Record) → lacking set [] ≡ set
lacking_none [] = refl
lacking_none (r ∷ rs) = ap (λ l. r ∷ l) (lacking_none rs)

-- a zone's set of an owner and a type has them
first_passes : (owner : List (List ℕ)) (rtype : ℕ) (rs : List Record) → 0 < length rs → AllByRecursion (λ r. is_of owner rtype r ≡ true) rs → (is_same owner (owner_of rs) ≡ true) × (rtype ≡ rtype_of rs)
first_passes owner rtype [] l h = absurd (omega arith)
first_passes owner rtype (r ∷ rs) l h = (
  is_same_equiv.symm owner r.owner ∙ first_so (is_same r.owner owner) (r.rtype == rtype) h.0,
  sym (eqb-true r.rtype rtype (second_so (is_same r.owner owner) (r.rtype == rtype) h.0)),
)

pub rrset_has : (zone set : List Record) (owner : List (List ℕ)) (rtype : ℕ) → set ≡ rrset_of zone owner rtype → 0 < length set → (is_same owner (owner_of set) ≡ true) × (rtype ≡ rtype_of set)
rrset_has zone set owner rtype e l = first_passes owner rtype set l (subst (AllByRecursion (λ r. is_of owner rtype r ≡ true)) (sym e) (each_passes (is_of owner rtype) zone))
