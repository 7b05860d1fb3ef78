-- A zone's own records, read in any order, are the zone.
use Rattle.std.proofs.Common.{◌≡◌, refl, sym, ap, ◌∙◌, subst, ℕ, zero, suc, ◌+◌, Bool, true, false, cond, not, ◌||◌, ◌==◌, List, [], ◌∷◌, ◌++◌, map, All, arith, true≢false, ⊎_elim, ◌⊎◌, inl, inr, Option, None, Ok}
use Rattle.std.specs.Prelude.{Contains}
use Rattle.std.specs.declared.cmp.Ordering.{Ordering}
use Rattle.std.specs.declared.cmp.Ordering.TheVariants.{Less, Equal, Greater}
use Rattle.std.specs.List.{filter, AllByRecursion}
use Rattle.std.specs.Ordering.{is_lt, match_ordering, ordering_reverse}
use Rattle.std.specs.BTreeSet.{insert_key}
use Rattle.std.proofs.lemmas.Bool.Decides.{Decides-eqb}
use Rattle.std.proofs.lemmas.List.Elements.{recursion_from_All}
use Rattle.dns_rdata.specs.Record.{Record, record_cmp, IsLawful}
use Rattle.dns_rdata.specs.Numbers.{type_SOA}
use Rattle.zone_tree.specs.Zone.{is_of, share_ttl, soa_of, IsBefore, IsZone}
use Rattle.zone_tree.proofs.LawLemmas.{same_lists}
use Rattle.zone_tree.proofs.Rising.{rises_from_pairs, each_weaker}
use Rattle.zone_tree.proofs.SetLemmas.{record_total}
use Rattle.master_file.specs.declared.record_entry.RecordEntry.{RecordEntry}
use Rattle.master_file.specs.ZoneText.{record_in, with_one, with_all, timed, in_lower, zone_records, zone_of_all, zone_of_read, reported}
use Rattle.record_text.specs.declared.cause.Cause.TheVariants.{Limit}
use Rattle.master_file.specs.WrittenZone.{is_other, soa_first, rr_at, rrs_from}
use Rattle.master_file.proofs.InsertLemmas.{each_inserted}
use Rattle.master_file.proofs.JudgeLemmas.{Ascends, ascends_all}
use Rattle.master_file.proofs.ShownLemmas.{shown, each_of_all}
use Rattle.master_file.proofs.IsZoneLemmas.{ok_zone, of_is_zone}

pub first_or_behind : {X : Type 0} (x : X) (xs : List X) (y : X) → Contains (x ∷ xs) y → (x ≡ y) ⊎ Contains xs y
first_or_behind x xs y (zero, l, e) = inl e
first_or_behind x xs y (suc k, l, e) = inr (k, omega arith, e)

pub is_first : {X : Type 0} (x : X) (xs : List X) → Contains (x ∷ xs) x
is_first x xs = (0, omega arith, refl)

pub is_behind : {X : Type 0} (x : X) (xs : List X) (y : X) → Contains xs y → Contains (x ∷ xs) y
is_behind x xs y h = (suc h.0, omega (arith, h.1), h.2)

pub each_contained : {X : Type 0} (P : X → Type 0) (xs : List X) (y : X) → AllByRecursion P xs → Contains xs y → P y
each_contained P [] y h k = absurd (omega (arith, k.1))
each_contained P (x ∷ xs) y h k = ⊎_elim (λ e. subst P e h.0) (λ m. each_contained P xs y h.1 m) (first_or_behind x xs y k)

pub each_in : {X : Type 0} (xs : List X) → AllByRecursion (λ x. Contains xs x) xs
each_in [] = tt
each_in (x ∷ xs) = (is_first x xs, each_weaker (λ y. Contains xs y) (λ y. Contains (x ∷ xs) y) (λ y h. is_behind x xs y h) xs (each_in xs))

-- records of an ascending list that tie are one
not_tied : (r s : Record) → IsBefore r s → record_cmp r s ≡ Equal → ⊥
not_tied r s h e = true≢false (sym h ∙ ap is_lt e)

turn_equal : (r s : Record) → record_cmp r s ≡ Equal → record_cmp s r ≡ Equal
turn_equal r s e = record_total.antisymm s r ∙ ap ordering_reverse e

one_of_tied : (rs : List Record) (a b : Record) → Ascends rs → Contains rs a → Contains rs b → record_cmp a b ≡ Equal → b ≡ a
one_of_tied [] a b h k m e = absurd (omega (arith, k.1))
one_of_tied (r ∷ rs) a b h k m e =
    ⊎_elim
    (λ first. ⊎_elim (λ also. sym also ∙ first) (λ behind. absurd (not_tied a b (subst (λ (x : Record). IsBefore x b) first (each_contained (IsBefore r) rs b h.0 behind)) e)) (first_or_behind r rs b m))
    (λ behind. ⊎_elim (λ also. absurd (not_tied b a (subst (λ (x : Record). IsBefore x a) also (each_contained (IsBefore r) rs a h.0 behind)) (turn_equal a b e))) (λ far. one_of_tied rs a b h.1 behind far e) (first_or_behind r rs b m))
    (first_or_behind r rs a k)

-- what is there stays, and one more is there
stays_placed : (k x : Record) (xs more : List Record) (o : Ordering) (y : Record) → Contains (x ∷ xs) y → (Contains xs y → Contains more y) → Contains (match_ordering o (k ∷ x ∷ xs) (x ∷ xs) (x ∷ more)) y
stays_placed k x xs more Less y h m = is_behind k (x ∷ xs) y h
stays_placed k x xs more Equal y h m = h
stays_placed k x xs more Greater y h m = ⊎_elim (λ e. subst (λ (z : Record). Contains (x ∷ more) z) e (is_first x more)) (λ behind. is_behind x more y (m behind)) (first_or_behind x xs y h)

stays : (k : Record) (xs : List Record) (y : Record) → Contains xs y → Contains (insert_key record_cmp xs k) y
stays k [] y h = absurd (omega (arith, h.1))
stays k (x ∷ xs) y h = stays_placed k x xs (insert_key record_cmp xs k) (record_cmp k x) y h (stays k xs y)

there_placed : (k x : Record) (xs more : List Record) (o : Ordering) → record_cmp k x ≡ o → (record_cmp k x ≡ Equal → x ≡ k) → Contains more k → Contains (match_ordering o (k ∷ x ∷ xs) (x ∷ xs) (x ∷ more)) k
there_placed k x xs more Less e same h = is_first k (x ∷ xs)
there_placed k x xs more Equal e same h = subst (λ (z : Record). Contains (x ∷ xs) z) (same e) (is_first x xs)
there_placed k x xs more Greater e same h = is_behind x more k h

there : (k : Record) (xs : List Record) → AllByRecursion (λ x. record_cmp k x ≡ Equal → x ≡ k) xs → Contains (insert_key record_cmp xs k) k
there k [] h = is_first k []
there k (x ∷ xs) h = there_placed k x xs (insert_key record_cmp xs k) (record_cmp k x) refl h.0 (there k xs h.1)

stays_all : (kept : List Record) (ps : List RecordEntry) (y : Record) → Contains kept y → Contains (with_all kept ps) y
stays_all kept [] y h = h
stays_all kept (p ∷ ps) y h = stays_all (with_one kept p) ps y (stays (record_in p) kept y h)

all_there : (zone kept : List Record) (line : ℕ) (rs : List Record) → Ascends zone → AllByRecursion (λ r. Contains zone r) kept → AllByRecursion (λ r. Contains zone r) rs → AllByRecursion (λ r. Contains (with_all kept (rrs_from line rs)) r) rs
all_there zone kept line [] h k m = tt
all_there zone kept line (r ∷ rs) h k m =
    let now = with_one kept (rr_at line r) in
    let tied = each_weaker (λ x. Contains zone x) (λ x. record_cmp r x ≡ Equal → x ≡ r) (λ x c e. one_of_tied zone r x h m.0 c e) kept k in (
      stays_all now (rrs_from (line + 1) rs) r (there r kept tied),
      all_there zone now (line + 1) rs h (each_inserted record_total (λ x. Contains zone x) r kept m.0 k) m.1,
    )

placed_each : (P : Record → Type 0) (line : ℕ) (rs : List Record) → AllByRecursion P rs → AllByRecursion (λ p. P (record_in p)) (rrs_from line rs)
placed_each P line [] h = tt
placed_each P line (r ∷ rs) h = (h.0, placed_each P (line + 1) rs h.1)

-- the SOA, and the others, are all of a zone's records
filter_in : (q : Record → Bool) (P : Record → Type 0) (rs : List Record) → AllByRecursion P rs → AllByRecursion P (filter q rs)
filter_in q P [] h = tt
filter_in q P (r ∷ rs) h = by (q r) (filter_in q P rs h.1)
  where
    by : (b : Bool) → AllByRecursion P (filter q rs) → AllByRecursion P (cond b (r ∷ filter q rs) (filter q rs))
    by true m = (h.0, m)
    by false m = m

append_in : (P : Record → Type 0) (xs ys : List Record) → AllByRecursion P xs → AllByRecursion P ys → AllByRecursion P (xs ++ ys)
append_in P [] ys h k = k
append_in P (x ∷ xs) ys h k = (h.0, append_in P xs ys h.1 k)

each_first : (P : Record → Type 0) (zone : List Record) → AllByRecursion P zone → AllByRecursion P (soa_first zone)
each_first P zone h = append_in P (soa_of zone) (filter is_other zone) (filter_in (λ (r : Record). r.rtype == type_SOA) P zone h) (filter_in is_other P zone h)

in_front : (xs ys : List Record) (y : Record) → Contains xs y → Contains (xs ++ ys) y
in_front [] ys y h = absurd (omega (arith, h.1))
in_front (x ∷ xs) ys y h = ⊎_elim (λ e. subst (λ (z : Record). Contains (x ∷ (xs ++ ys)) z) e (is_first x (xs ++ ys))) (λ m. is_behind x (xs ++ ys) y (in_front xs ys y m)) (first_or_behind x xs y h)

at_back : (xs ys : List Record) (y : Record) → Contains ys y → Contains (xs ++ ys) y
at_back [] ys y h = h
at_back (x ∷ xs) ys y h = is_behind x (xs ++ ys) y (at_back xs ys y h)

passes : (q : Record → Bool) (rs : List Record) → AllByRecursion (λ r. q r ≡ true → Contains (filter q rs) r) rs
passes q [] = tt
passes q (r ∷ rs) = by (q r) refl
    (passes q rs)
  where
    by : (b : Bool) → q r ≡ b → AllByRecursion (λ s. q s ≡ true → Contains (filter q rs) s) rs → (q r ≡ true → Contains (cond b (r ∷ filter q rs) (filter q rs)) r) × AllByRecursion (λ s. q s ≡ true → Contains (cond b (r ∷ filter q rs) (filter q rs)) s) rs
    by true e m = (λ _. is_first r (filter q rs), each_weaker (λ s. q s ≡ true → Contains (filter q rs) s) (λ s. q s ≡ true → Contains (r ∷ filter q rs) s) (λ s f k. is_behind r (filter q rs) s (f k)) rs m)
    by false e m = (λ k. absurd (true≢false (sym k ∙ e)), m)

either_part : (b : Bool) (P : Type 0) → (b ≡ true → P) → (not b ≡ true → P) → P
either_part true P f g = f refl
either_part false P f g = g refl

both_in : {X : Type 0} (P Q : X → Type 0) (xs : List X) → AllByRecursion P xs → AllByRecursion Q xs → AllByRecursion (λ x. P x × Q x) xs
both_in P Q [] h k = tt
both_in P Q (x ∷ xs) h k = ((h.0, k.0), both_in P Q xs h.1 k.1)

all_first : (zone : List Record) → AllByRecursion (λ r. Contains (soa_first zone) r) zone
all_first zone =
    each_weaker
    (λ r. ((r.rtype == type_SOA) ≡ true → Contains (soa_of zone) r) × (is_other r ≡ true → Contains (filter is_other zone) r)) (λ r. Contains (soa_first zone) r)
    (λ r h. either_part (r.rtype == type_SOA) (Contains (soa_first zone) r) (λ e. in_front (soa_of zone) (filter is_other zone) r (h.0 e)) (λ e. at_back (soa_of zone) (filter is_other zone) r (h.1 e)))
    zone (both_in (λ r. (r.rtype == type_SOA) ≡ true → Contains (soa_of zone) r) (λ r. is_other r ≡ true → Contains (filter is_other zone) r) zone (passes (λ (r : Record). r.rtype == type_SOA) zone) (passes is_other zone))

-- kept, they are the zone
kept_again : (zone : List Record) → Ascends zone → with_all [] (rrs_from 1 (soa_first zone)) ≡ zone
kept_again zone h =
    let ps = rrs_from 1 (soa_first zone) in
    let all = each_first (λ r. Contains zone r) zone (each_in zone) in
    let only = each_of_all (λ r. Contains zone r) [] ps tt (placed_each (λ r. Contains zone r) 1 (soa_first zone) all) in
    let each = all_there zone [] 1 (soa_first zone) h tt all in
    same_lists (with_all [] ps) zone (ascends_all [] ps tt) h
    (λ r. (
      λ m. each_contained (λ s. Contains zone s) (with_all [] ps) r only m,
      λ m. each_contained (λ s. Contains (with_all [] ps) s) (soa_first zone) r each (each_contained (λ s. Contains (soa_first zone) s) zone r (all_first zone) m),
    ))

-- and shown, each is itself
aged_same : (b : Bool) (ttl : ℕ) (r : Record) → (b ≡ true → ttl ≡ r.ttl) → cond b (record r { ttl = ttl }) r ≡ r
aged_same true ttl r same = ap (λ (n : ℕ). record r { ttl = n }) (same refl)
aged_same false ttl r same = refl

timed_same : (ps : List RecordEntry) (r : Record) → AllByRecursion (λ p. is_of r.owner r.rtype (record_in p) ≡ true → p.ttl.0 ≡ r.ttl) ps → timed ps r ≡ r
timed_same [] r h = refl
timed_same (p ∷ ps) r h = ap (timed ps) (aged_same (is_of r.owner r.rtype (record_in p)) p.ttl.0 r h.0) ∙ timed_same ps r h.1

shared : (a b : Bool) → (not a || b) ≡ true → a ≡ true → b ≡ true
shared true b h e = h
shared false b h e = absurd (true≢false (sym e))

map_itself : (f : Record → Record) (rs : List Record) → AllByRecursion (λ r. f r ≡ r) rs → map f rs ≡ rs
map_itself f [] h = refl
map_itself f (r ∷ rs) h = ap (λ (s : Record). s ∷ map f rs) h.0 ∙ ap (λ (ss : List Record). r ∷ ss) (map_itself f rs h.1)

shown_again : (zone : List Record) → IsZone zone → AllByRecursion (λ r. shown (rrs_from 1 (soa_first zone)) r ≡ r) zone
shown_again zone is =
    let ps = rrs_from 1 (soa_first zone) in
    let ttls = recursion_from_All (λ (s : Record). All (λ r. share_ttl s r ≡ true) zone) zone is.rules.one_ttl in
    let lawful = recursion_from_All IsLawful zone is.rules.lawful in
    each_weaker (λ (r : Record). IsLawful r × Contains zone r) (λ (r : Record). shown ps r ≡ r)
    (λ r h.
    let same = placed_each (λ (s : Record). is_of r.owner r.rtype s ≡ true → s.ttl ≡ r.ttl) 1 (soa_first zone) (each_first (λ (s : Record). is_of r.owner r.rtype s ≡ true → s.ttl ≡ r.ttl) zone
    (each_weaker (λ (s : Record). All (λ t. share_ttl s t ≡ true) zone) (λ (s : Record). is_of r.owner r.rtype s ≡ true → s.ttl ≡ r.ttl)
    (λ s each e. (Decides-eqb s.ttl r.ttl).0 (shared (is_of r.owner r.rtype s) (s.ttl == r.ttl) (each_contained (λ t. share_ttl s t ≡ true) zone r (recursion_from_All (λ (t : Record). share_ttl s t ≡ true) zone each) h.1) e)) zone ttls)) in
    ap in_lower (timed_same ps r same) ∙ ap (λ (o : List (List ℕ)). record r { owner = o }) (sym h.0.folded))
    zone (both_in IsLawful (λ r. Contains zone r) zone lawful (each_in zone))

-- the zone of its own records is the zone
records_again : (zone : List Record) → IsZone zone → zone_records (rrs_from 1 (soa_first zone)) ≡ zone
records_again zone is =
    let ps = rrs_from 1 (soa_first zone) in
    ap (map (shown ps)) (kept_again zone (rises_from_pairs IsBefore zone is.rules.ascending)) ∙ map_itself (shown ps) zone (shown_again zone is)

pub zone_again : (zone : List Record) → IsZone zone → zone_of_read (record { rrs = rrs_from 1 (soa_first zone); fault = None }) ≡ Ok zone
zone_again zone is =
    let ps = rrs_from 1 (soa_first zone) in
    let same = records_again zone is in
    let ok = ok_zone ps (of_is_zone ps (subst (λ (z : List Record). IsZone z) (sym same) is)) in
    ap (λ (o : Option ℕ). reported Limit o (zone_of_all ps)) ok.0 ∙ ok.1 ∙ ap (λ (z : List Record). Ok z) same
