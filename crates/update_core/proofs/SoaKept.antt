-- An update leaves a zone its SOA.
use Rattle.std.proofs.Common.{◌≡◌, ℕ, ◌<◌, ◌≤◌, Bool, true, false, not, ◌&&◌, ◌||◌, ◌==◌, cond, if◌then◌else◌, nat_lt, List, [], ◌∷◌, length, filter, All, Option, None, Some, unwrap_or, bytes_eq, refl, sym, ap, ◌∙◌, arith}
use Rattle.std.specs.Option.{is_some, IfSome, option_and_then}
use Rattle.std.specs.Ordering.{is_lt, is_eq, nat_cmp, ordering_then, MatchOrdering}
use Rattle.std.specs.declared.cmp.Ordering.{Ordering}
use Rattle.std.specs.declared.cmp.Ordering.TheVariants.{Less, Equal, Greater}
use Rattle.std.specs.Cmp.Lexicographic.{slice_cmp}
use Rattle.std.proofs.lemmas.Bool.{eqb-true}
use Rattle.std.proofs.lemmas.Cmp.{ranked}
use Rattle.std.proofs.lemmas.Bool.Decides.{nat_tests}
use Rattle.std.proofs.lemmas.List.Elements.{All-cons, All-head, All-tail, All-map, All-filter, All-weaker}
use Rattle.dns_name.specs.Name.{Name, is_same, canonical_cmp}
use Rattle.dns_name.specs.Order.{is_same_equiv}
use Rattle.dns_rdata.specs.Numbers.{type_CNAME, type_SOA, type_ANY, class_IN, class_NONE, class_ANY}
use Rattle.dns_rdata.specs.Data.{data_of}
use Rattle.dns_rdata.proofs.DataLemmas.{IsRead-data}
use Rattle.dns_rdata.specs.Record.{Record, record_cmp, owner_of}
use Rattle.dns_rdata.specs.Raw.{RawRecord, ttl_in_zone}
use Rattle.zone_tree.specs.Zone.{is_of, stands_at, rrset_of, soa_of, apex_of}
use Rattle.update_core.specs.Verdict.{has_rrset}
use Rattle.zone_tree.specs.Change.{without_rrset}
use Rattle.update_core.specs.Act.{entered, with_one, record_with_ttl, with_ttl, has_other_than_alias, has_lesser_soa, within_limits, is_apex_set, is_last_apex_record, effect, effects}
use Rattle.update_core.proofs.ListLemmas.{by_test, and_left, either_right}

abbrev pub is_soa : Record → Bool
is_soa s = s.rtype == type_SOA

-- a record that is an SOA has data of that form
abbrev pub HasForm : Record → Type 0
HasForm s = is_soa s ≡ true → data_of type_SOA s.rdata ≡ Some s.rdata

-- an SOA stands, and each has its form
pub record HasSoa (zone : List Record) : Type 0 where
  pub some : 0 < length (soa_of zone)
  pub form : All HasForm zone

-- one record more in front of what a filter keeps
pub grows : (b : Bool) (x : Record) (kept : List Record) → length kept ≤ length (cond b (x ∷ kept) kept)
grows true x kept = omega arith
grows false x kept = omega arith

-- a filter that keeps an SOA at the apex leaves one
kept_by : (apex : Name) (p : Record → Bool) (z : Record) (zs : List Record) (b c : Bool) → is_soa z ≡ b → p z ≡ c → ((s : Record) → is_soa s ≡ true → s.owner ≡ apex → p s ≡ true)
    → owner_of (cond b (z ∷ soa_of zs) (soa_of zs)) ≡ apex → 0 < length (cond b (z ∷ soa_of zs) (soa_of zs))
    → (owner_of (soa_of zs) ≡ apex → 0 < length (soa_of zs) → 0 < length (soa_of (filter p zs))) → 0 < length (soa_of (cond c (z ∷ filter p zs) (filter p zs)))
kept_by apex p z zs true true is keeps stays at some behind = let first = ap (λ b. length (cond b (z ∷ soa_of (filter p zs)) (soa_of (filter p zs)))) is in omega arith
kept_by apex p z zs true false is keeps stays at some behind = let kept = stays z is at in absurd (cc)
kept_by apex p z zs false true is keeps stays at some behind = let more = behind at some in let grown = grows (is_soa z) z (soa_of (filter p zs)) in omega arith
kept_by apex p z zs false false is keeps stays at some behind = behind at some

kept_some : (apex : Name) (p : Record → Bool) (zs : List Record) → ((s : Record) → is_soa s ≡ true → s.owner ≡ apex → p s ≡ true) → owner_of (soa_of zs) ≡ apex → 0 < length (soa_of zs) → 0 < length (soa_of (filter p zs))
kept_some apex p [] stays at some = absurd (omega arith)
kept_some apex p (z ∷ zs) stays at some = kept_by apex p z zs (is_soa z) (p z) refl refl stays at some (kept_some apex p zs stays)

-- a zone of which a filter keeps the SOA at the apex
pub filter_keeps : (zone : List Record) (p : Record → Bool) → HasSoa zone → ((s : Record) → is_soa s ≡ true → s.owner ≡ apex_of zone → p s ≡ true) → HasSoa (filter p zone)
filter_keeps zone p h stays = record { some = kept_some (apex_of zone) p zone stays refl h.some; form = All-filter p HasForm zone h.form }

-- what the deletions keep
pub apex_soa : (zone : List Record) (s : Record) → is_soa s ≡ true → s.owner ≡ apex_of zone → is_apex_set zone s.owner s.rtype ≡ true
apex_soa zone s is at = rw (at, is_same_equiv.refl (apex_of zone), is) refl

pub last_soa : (zone : List Record) (s : Record) → is_soa s ≡ true → s.owner ≡ apex_of zone → is_last_apex_record zone s.owner s.rtype ≡ true
last_soa zone s is at = rw (at, is_same_equiv.refl (apex_of zone), is) refl

-- one record more
with_one_grows : (r : Record) (zs : List Record) → length (soa_of zs) ≤ length (soa_of (with_one r zs))
with_one_grows r [] = omega arith
with_one_grows r (z ∷ zs) =
    by_test (λ (rs : List Record). length (soa_of (z ∷ zs)) ≤ length (soa_of rs)) (is_lt (record_cmp r z)) (r ∷ z ∷ zs) (if is_eq (record_cmp r z) then z ∷ zs else z ∷ with_one r zs)
    (λ _. grows (is_soa r) r (soa_of (z ∷ zs)))
    (λ _. by_test (λ (rs : List Record). length (soa_of (z ∷ zs)) ≤ length (soa_of rs)) (is_eq (record_cmp r z)) (z ∷ zs) (z ∷ with_one r zs)
    (λ _. omega arith) (λ _. in_front (is_soa z) (with_one_grows r zs)))
  where
    in_front : (b : Bool) → length (soa_of zs) ≤ length (soa_of (with_one r zs)) → length (cond b (z ∷ soa_of zs) (soa_of zs)) ≤ length (cond b (z ∷ soa_of (with_one r zs)) (soa_of (with_one r zs)))
    in_front true more = omega arith
    in_front false more = more

pub All-with_one : (P : Record → Type 0) (r : Record) (zs : List Record) → P r → All P zs → All P (with_one r zs)
All-with_one P r [] one all = All-cons P r [] one all
All-with_one P r (z ∷ zs) one all =
    by_test (All P) (is_lt (record_cmp r z)) (r ∷ z ∷ zs) (if is_eq (record_cmp r z) then z ∷ zs else z ∷ with_one r zs)
    (λ _. All-cons P r (z ∷ zs) one all)
    (λ _. by_test (All P) (is_eq (record_cmp r z)) (z ∷ zs) (z ∷ with_one r zs) (λ _. all)
    (λ _. All-cons P z (with_one r zs) (All-head P z zs all) (All-with_one P r zs one (All-tail P z zs all))))

-- equal in the order of records are of one type
tied_type : (a b c : Ordering) → is_eq (ordering_then a (ordering_then b c)) ≡ true → b ≡ Equal
tied_type Equal Equal c e = refl
tied_type Equal Less c e = absurd (cc)
tied_type Equal Greater c e = absurd (cc)
tied_type Less b c e = absurd (cc)
tied_type Greater b c e = absurd (cc)

pub tied_numbers : (m n : ℕ) (o : Ordering) → o ≡ Equal → MatchOrdering o (m < n) (m ≡ n) (n < m) → m ≡ n
tied_numbers m n Equal e is = is
tied_numbers m n Less e is = absurd (cc)
tied_numbers m n Greater e is = absurd (cc)

tied_soa : (r z : Record) → is_soa r ≡ true → is_eq (record_cmp r z) ≡ true → is_soa z ≡ true
tied_soa r z is tied =
    let same = tied_type (canonical_cmp r.owner z.owner) (nat_cmp r.rtype z.rtype) (slice_cmp nat_cmp r.rdata z.rdata) tied in
    let types : r.rtype ≡ z.rtype = tied_numbers r.rtype z.rtype (nat_cmp r.rtype z.rtype) same (ranked r.rtype z.rtype (nat_cmp r.rtype z.rtype) refl) in
    ap (λ t. t == type_SOA) (sym types) ∙ is

-- an SOA that is put in stands
with_one_stands : (r : Record) (zs : List Record) → is_soa r ≡ true → 0 < length (soa_of (with_one r zs))
with_one_stands r [] is = rw is (omega arith)
with_one_stands r (z ∷ zs) is =
    by_test (λ (rs : List Record). 0 < length (soa_of rs)) (is_lt (record_cmp r z)) (r ∷ z ∷ zs) (if is_eq (record_cmp r z) then z ∷ zs else z ∷ with_one r zs)
    (λ _. rw is (omega arith))
    (λ _. by_test (λ (rs : List Record). 0 < length (soa_of rs)) (is_eq (record_cmp r z)) (z ∷ zs) (z ∷ with_one r zs)
    (λ tied. let same = tied_soa r z is tied in rw same (omega arith))
    (λ _. let more = with_one_stands r zs is in let grown = grows (is_soa z) z (soa_of (with_one r zs)) in omega arith))

-- another TTL changes neither type nor data
record_keeps : (b : Bool) (ttl : ℕ) (s : Record) → (P : Record → Type 0) → P s → P (record s { ttl = ttl }) → P (cond b (record s { ttl = ttl }) s)
record_keeps true ttl s P same other = other
record_keeps false ttl s P same other = same

ttl_keeps_soa : (owner : Name) (rtype ttl : ℕ) (zs : List Record) → length (soa_of (with_ttl zs owner rtype ttl)) ≡ length (soa_of zs)
ttl_keeps_soa owner rtype ttl [] = refl
ttl_keeps_soa owner rtype ttl (z ∷ zs) =
    let first : is_soa (record_with_ttl owner rtype ttl z) ≡ is_soa z = record_keeps (is_of owner rtype z) ttl z (λ s. is_soa s ≡ is_soa z) refl refl in
    rw first (by (is_soa z) (ttl_keeps_soa owner rtype ttl zs))
  where
    by : (b : Bool) → length (soa_of (with_ttl zs owner rtype ttl)) ≡ length (soa_of zs)
        → length (cond b (record_with_ttl owner rtype ttl z ∷ soa_of (with_ttl zs owner rtype ttl)) (soa_of (with_ttl zs owner rtype ttl))) ≡ length (cond b (z ∷ soa_of zs) (soa_of zs))
    by true more = omega arith
    by false more = more

pub with_ttl_keeps : (zone : List Record) (owner : Name) (rtype ttl : ℕ) → HasSoa zone → HasSoa (with_ttl zone owner rtype ttl)
with_ttl_keeps zone owner rtype ttl h =
    record {
      some = let same = ttl_keeps_soa owner rtype ttl zone in let some = h.some in omega arith;
      form = All-map HasForm (record_with_ttl owner rtype ttl) zone (All-weaker HasForm (λ s. HasForm (record_with_ttl owner rtype ttl s)) (λ s k. record_keeps (is_of owner rtype s) ttl s HasForm k k) zone h.form);
    }

some_of : (o : Option (List ℕ)) → is_some o ≡ true → (x : List ℕ) × (o ≡ Some x)
some_of None h = absurd (cc)
some_of (Some x) h = (x, refl)

-- what an added record needs: an SOA has its form
entered_form : (r : RawRecord) → is_some (data_of r.rtype r.octets) ≡ true → HasForm (entered r)
entered_form r form is =
    let rtype = eqb-true r.rtype type_SOA is in
    let own = some_of (data_of r.rtype r.octets) form in
    let here : unwrap_or (data_of r.rtype r.octets) r.octets ≡ own.0 = ap (λ o. unwrap_or o r.octets) own.1 in
    let again = (IsRead-data r.rtype r.octets own.0 own.1).again in
    ap (λ t. data_of t (unwrap_or (data_of r.rtype r.octets) r.octets)) (sym rtype) ∙ ap (data_of r.rtype) here ∙ again ∙ ap Some (sym here)

-- one record more, in a zone that has its SOA, or is given one
one_more_keeps : (r : Record) (zone : List Record) → HasForm r → HasSoa zone → HasSoa (with_one r zone)
one_more_keeps r zone one h = record { some = let grown = with_one_grows r zone in let some = h.some in omega arith; form = All-with_one HasForm r zone one h.form }

none_of : (b : Bool) → not (b && false) ≡ true
none_of true = refl
none_of false = refl

replaced_keeps : (r : Record) (zone : List Record) (owner : Name) (rtype : ℕ) (b : Bool) → (rtype == type_SOA) ≡ b → r.rtype ≡ rtype → HasForm r → HasSoa zone → HasSoa (with_one r (without_rrset zone owner rtype))
replaced_keeps r zone owner rtype true e own one h =
    record {
      some = with_one_stands r (without_rrset zone owner rtype) (ap (λ t. t == type_SOA) own ∙ e);
      form = All-with_one HasForm r (without_rrset zone owner rtype) one (All-filter (λ s. not (is_of owner rtype s)) HasForm zone h.form);
    }
replaced_keeps r zone owner rtype false e own one h =
    one_more_keeps r (without_rrset zone owner rtype) one (filter_keeps zone (λ s. not (is_of owner rtype s)) h (λ s is at. other_type s is))
  where
    other_type : (s : Record) → is_soa s ≡ true → not (is_of owner rtype s) ≡ true
    other_type s is =
        let own = eqb-true s.rtype type_SOA is in
        let other : (s.rtype == rtype) ≡ false = grind (arith, nat_tests) in
        ap (λ b. not (is_same s.owner owner && b)) other ∙ none_of (is_same s.owner owner)

-- a limit lets a zone through, or nothing
within_keeps : (r : RawRecord) (zone : List Record) → HasSoa zone → IfSome (within_limits r zone) HasSoa
within_keeps r zone h =
    by_test (λ (o : Option (List Record)). IfSome o HasSoa) (nat_lt 4096 (length r.octets) || nat_lt 256 (length (rrset_of zone r.owner r.rtype)) || nat_lt 1000000 (length zone)) None (Some zone) (λ _. tt) (λ _. h)

abbrev pub Keeps : Option (List Record) → Type 0
Keeps o = IfSome o HasSoa

-- a record of class IN has data of its type's form
abbrev pub IsFormed : RawRecord → Type 0
IsFormed r = r.class == class_IN ≡ true → is_some (data_of r.rtype r.octets) ≡ true

-- each effect leaves the SOA
effect_keeps : (zone : List Record) (r : RawRecord) → IsFormed r → HasSoa zone → Keeps (effect zone r)
effect_keeps zone r formed h =
    let owner = r.owner in
    let del_one = filter (λ s. not (is_of r.owner r.rtype s && bytes_eq r.octets s.rdata) || is_last_apex_record zone s.owner s.rtype) zone in
    let del_set = filter (λ s. not (is_of r.owner r.rtype s) || is_apex_set zone s.owner s.rtype) zone in
    let del_all = filter (λ s. not (stands_at r.owner s) || is_apex_set zone s.owner s.rtype) zone in
    let joined = within_limits r (with_one (entered r) (with_ttl zone r.owner r.rtype (ttl_in_zone r.ttl))) in
    let replaced = within_limits r (with_one (entered r) (without_rrset zone r.owner r.rtype)) in
    let e8 : Option (List Record) = if r.class == class_NONE then Some del_one else Some zone in
    let e7 : Option (List Record) = if r.class == class_ANY then Some del_set else e8 in
    let e6 : Option (List Record) = if r.class == class_ANY && r.rtype == type_ANY then Some del_all else e7 in
    let e5 : Option (List Record) = if r.class == class_IN then joined else e6 in
    let e4 : Option (List Record) = if r.class == class_IN && (r.rtype == type_CNAME || r.rtype == type_SOA) then replaced else e5 in
    let e3 : Option (List Record) = if r.class == class_IN && r.rtype == type_SOA && not (has_lesser_soa zone r) then Some zone else e4 in
    let e2 : Option (List Record) = if r.class == class_IN && not (r.rtype == type_CNAME) && has_rrset zone r.owner type_CNAME then Some zone else e3 in
    by_test Keeps (r.class == class_IN && r.rtype == type_CNAME && has_other_than_alias zone r.owner) (Some zone) e2 (λ _. h)
    (λ _. by_test Keeps (r.class == class_IN && not (r.rtype == type_CNAME) && has_rrset zone r.owner type_CNAME) (Some zone) e3 (λ _. h)
    (λ _. by_test Keeps (r.class == class_IN && r.rtype == type_SOA && not (has_lesser_soa zone r)) (Some zone) e4 (λ _. h)
    (λ _. by_test Keeps (r.class == class_IN && (r.rtype == type_CNAME || r.rtype == type_SOA)) replaced e5
    (λ is. within_keeps r _ (replaced_keeps (entered r) zone r.owner r.rtype (r.rtype == type_SOA) refl refl (entered_form r (formed (and_left (r.class == class_IN) (r.rtype == type_CNAME || r.rtype == type_SOA) is))) h))
    (λ _. by_test Keeps (r.class == class_IN) joined e6
    (λ is. within_keeps r _ (one_more_keeps (entered r) (with_ttl zone r.owner r.rtype (ttl_in_zone r.ttl)) (entered_form r (formed is)) (with_ttl_keeps zone r.owner r.rtype (ttl_in_zone r.ttl) h)))
    (λ _. by_test Keeps (r.class == class_ANY && r.rtype == type_ANY) (Some del_all) e7
    (λ _. filter_keeps zone (λ s. not (stands_at r.owner s) || is_apex_set zone s.owner s.rtype) h (λ s is at. either_right (not (stands_at r.owner s)) (is_apex_set zone s.owner s.rtype) (apex_soa zone s is at)))
    (λ _. by_test Keeps (r.class == class_ANY) (Some del_set) e8
    (λ _. filter_keeps zone (λ s. not (is_of r.owner r.rtype s) || is_apex_set zone s.owner s.rtype) h (λ s is at. either_right (not (is_of r.owner r.rtype s)) (is_apex_set zone s.owner s.rtype) (apex_soa zone s is at)))
    (λ _. by_test Keeps (r.class == class_NONE) (Some del_one) (Some zone)
    (λ _. filter_keeps zone (λ s. not (is_of r.owner r.rtype s && bytes_eq r.octets s.rdata) || is_last_apex_record zone s.owner s.rtype) h
    (λ s is at. either_right (not (is_of r.owner r.rtype s && bytes_eq r.octets s.rdata)) (is_last_apex_record zone s.owner s.rtype) (last_soa zone s is at)))
    (λ _. h))))))))

-- and so do all of an update's
then_keeps : (o : Option (List Record)) (rs : List RawRecord) → Keeps o → ((next : List Record) → HasSoa next → Keeps (effects next rs)) → Keeps (option_and_then (λ next. effects next rs) o)
then_keeps None rs h more = h
then_keeps (Some next) rs h more = more next h

pub effects_keep : (zone : List Record) (rs : List RawRecord) → All IsFormed rs → HasSoa zone → Keeps (effects zone rs)
effects_keep zone [] formed h = h
effects_keep zone (r ∷ rs) formed h =
    then_keeps (effect zone r) rs (effect_keeps zone r (All-head IsFormed r rs formed) h) (λ next k. effects_keep next rs (All-tail IsFormed r rs formed) k)
