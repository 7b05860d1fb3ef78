-- The records read, each with the TTL of its set and its owner in lower case.
use Rattle.std.proofs.Common.{◌≡◌, refl, sym, ap, ◌∙◌, subst, ℕ, ◌+◌, ◌<◌, ◌^◌, Bool, true, false, cond, not, ◌&&◌, ◌||◌, ◌==◌, List, [], ◌∷◌, ◌++◌, map, length, All, true≢false, Some}
use Rattle.std.specs.Prelude.{bytes_eq, reverse}
use Rattle.std.specs.Cmp.Lexicographic.{pointwise, slice_cmp}
use Rattle.std.specs.List.{filter, list_any, AllByRecursion}
use Rattle.std.specs.Ordering.{is_lt, nat_cmp, ordering_then}
use Rattle.std.proofs.lemmas.Bool.Decides.{Decides-eqb}
use Rattle.dns_name.specs.Name.{IsName, is_same, is_under, fold_name, canonical_cmp}
use Rattle.dns_name.specs.Order.{is_same_Decides}
use Rattle.dns_name.proofs.LawLemmas.{ending_from_under, under_from_ending}
use Rattle.dns_rdata.proofs.NameLemmas.{fold_name-fold_name}
use Rattle.dns_rdata.specs.Data.{data_of}
use Rattle.dns_rdata.specs.Numbers.{type_NS, type_SOA}
use Rattle.dns_rdata.specs.Record.{Record, record_cmp, owner_of, IsLawful}
use Rattle.zone_tree.specs.Zone.{stands_at, is_of, soa_of, apex_of, is_wild, share_ttl}
use Rattle.zone_tree.proofs.Rising.{each_weaker, Rises-map, rises_weaker}
use Rattle.zone_tree.proofs.SetLemmas.{record_total}
use Rattle.master_file.specs.declared.record_entry.RecordEntry.{RecordEntry}
use Rattle.master_file.specs.ZoneText.{record_in, with_one, with_all, timed, in_lower}
use Rattle.master_file.proofs.InsertLemmas.{each_inserted}
use Rattle.master_file.proofs.KeptLemmas.{one, count_cons}
use Rattle.master_file.proofs.JudgeLemmas.{Ascends}
use Rattle.master_file.proofs.RuleLemmas.{is_outside, is_wild_cut, under_folded, wild_folded}

-- a record as a zone has it
abbrev pub shown : List RecordEntry → Record → Record
shown ps r = in_lower (timed ps r)

-- another TTL or not
abbrev aged : Bool → ℕ → Record → Record
aged b ttl r = cond b (record r { ttl = ttl }) r

aged_owner : (b : Bool) (ttl : ℕ) (r : Record) → (aged b ttl r).owner ≡ r.owner
aged_owner true ttl r = refl
aged_owner false ttl r = refl

aged_rtype : (b : Bool) (ttl : ℕ) (r : Record) → (aged b ttl r).rtype ≡ r.rtype
aged_rtype true ttl r = refl
aged_rtype false ttl r = refl

aged_rdata : (b : Bool) (ttl : ℕ) (r : Record) → (aged b ttl r).rdata ≡ r.rdata
aged_rdata true ttl r = refl
aged_rdata false ttl r = refl

abbrev of_first : RecordEntry → Record → Bool
of_first p r = is_of r.owner r.rtype (record_in p)

pub timed_owner : (ps : List RecordEntry) (r : Record) → (timed ps r).owner ≡ r.owner
timed_owner [] r = refl
timed_owner (p ∷ ps) r = timed_owner ps (aged (of_first p r) p.ttl.0 r) ∙ aged_owner (of_first p r) p.ttl.0 r

pub timed_rtype : (ps : List RecordEntry) (r : Record) → (timed ps r).rtype ≡ r.rtype
timed_rtype [] r = refl
timed_rtype (p ∷ ps) r = timed_rtype ps (aged (of_first p r) p.ttl.0 r) ∙ aged_rtype (of_first p r) p.ttl.0 r

pub timed_rdata : (ps : List RecordEntry) (r : Record) → (timed ps r).rdata ≡ r.rdata
timed_rdata [] r = refl
timed_rdata (p ∷ ps) r = timed_rdata ps (aged (of_first p r) p.ttl.0 r) ∙ aged_rdata (of_first p r) p.ttl.0 r

aged_lasts : (b : Bool) (ttl : ℕ) (r : Record) → ttl < 2 ^ 31 → r.ttl < 2 ^ 31 → (aged b ttl r).ttl < 2 ^ 31
aged_lasts true ttl r h k = h
aged_lasts false ttl r h k = k

pub timed_lasts : (ps : List RecordEntry) (r : Record) → AllByRecursion (λ p. p.ttl.0 < 2 ^ 31) ps → r.ttl < 2 ^ 31 → (timed ps r).ttl < 2 ^ 31
timed_lasts [] r h k = k
timed_lasts (p ∷ ps) r h k = timed_lasts ps (aged (of_first p r) p.ttl.0 r) h.1 (aged_lasts (of_first p r) p.ttl.0 r h.0 k)

-- records of one set have the TTL of the last that is read of it
pub record AreOfOneSet (r s : Record) : Type 0 where
  pub owner : fold_name r.owner ≡ fold_name s.owner
  pub rtype : r.rtype ≡ s.rtype

of_both : (p : RecordEntry) (r s : Record) → AreOfOneSet r s → of_first p r ≡ of_first p s
of_both p r s h =
    ap (λ (f : List (List ℕ)). pointwise bytes_eq (fold_name p.owner) f && p.rdata.rtype == r.rtype) h.owner
    ∙ ap (λ (t : ℕ). is_same p.owner s.owner && p.rdata.rtype == t) h.rtype

aged_both : (b c : Bool) (ttl : ℕ) (r s : Record) → AreOfOneSet r s → AreOfOneSet (aged b ttl r) (aged c ttl s)
aged_both true true ttl r s h = record { owner = h.owner; rtype = h.rtype }
aged_both true false ttl r s h = record { owner = h.owner; rtype = h.rtype }
aged_both false true ttl r s h = record { owner = h.owner; rtype = h.rtype }
aged_both false false ttl r s h = h

aged_equal : (b c : Bool) (ttl : ℕ) (r s : Record) → b ≡ c → r.ttl ≡ s.ttl → (aged b ttl r).ttl ≡ (aged c ttl s).ttl
aged_equal true true ttl r s e same = refl
aged_equal true false ttl r s e same = absurd (true≢false e)
aged_equal false true ttl r s e same = absurd (true≢false (sym e))
aged_equal false false ttl r s e same = same

equal_ttl : (ps : List RecordEntry) (r s : Record) → AreOfOneSet r s → r.ttl ≡ s.ttl → (timed ps r).ttl ≡ (timed ps s).ttl
equal_ttl [] r s h e = e
equal_ttl (p ∷ ps) r s h e =
    equal_ttl ps (aged (of_first p r) p.ttl.0 r) (aged (of_first p s) p.ttl.0 s) (aged_both (of_first p r) (of_first p s) p.ttl.0 r s h) (aged_equal (of_first p r) (of_first p s) p.ttl.0 r s (of_both p r s h) e)

-- whether a record of its set is read
abbrev pub is_read : List RecordEntry → Record → Bool
is_read ps r = list_any (λ p. of_first p r) ps

aged_read : (b c : Bool) (ps : List RecordEntry) (ttl : ℕ) (r s : Record) → b ≡ c → AreOfOneSet r s → (b || is_read ps r) ≡ true → (is_read ps r ≡ true → (timed ps r).ttl ≡ (timed ps s).ttl) → (timed ps (aged b ttl r)).ttl ≡ (timed ps (aged c ttl s)).ttl
aged_read true true ps ttl r s e h read more = equal_ttl ps (record r { ttl = ttl }) (record s { ttl = ttl }) (record { owner = h.owner; rtype = h.rtype }) refl
aged_read true false ps ttl r s e h read more = absurd (true≢false e)
aged_read false true ps ttl r s e h read more = absurd (true≢false (sym e))
aged_read false false ps ttl r s e h read more = more read

pub one_ttl : (ps : List RecordEntry) (r s : Record) → AreOfOneSet r s → is_read ps r ≡ true → (timed ps r).ttl ≡ (timed ps s).ttl
one_ttl [] r s h read = absurd (true≢false (sym read))
one_ttl (p ∷ ps) r s h read = aged_read (of_first p r) (of_first p s) ps p.ttl.0 r s (of_both p r s h) h read (one_ttl ps r s h)

-- what holds of each record that is read holds of all that are kept
pub each_of_all : (P : Record → Type 0) (kept : List Record) (ps : List RecordEntry) → AllByRecursion P kept → AllByRecursion (λ p. P (record_in p)) ps → AllByRecursion P (with_all kept ps)
each_of_all P kept [] h k = h
each_of_all P kept (p ∷ ps) h k = each_of_all P (with_one kept p) ps (each_inserted record_total P (record_in p) kept k.0 h) k.1

or_right : (a b : Bool) → b ≡ true → (a || b) ≡ true
or_right true b e = refl
or_right false b e = e

or_left : (a b : Bool) → a ≡ true → (a || b) ≡ true
or_left true b e = refl
or_left false b e = absurd (true≢false (sym e))

pub each_any : {X : Type 0} (g : X → X → Bool) → ((x : X) → g x x ≡ true) → (xs : List X) → AllByRecursion (λ x. list_any (g x) xs ≡ true) xs
each_any g own [] = tt
each_any g own (x ∷ xs) =
    (or_left (g x x) (list_any (g x) xs) (own x), each_weaker (λ y. list_any (g y) xs ≡ true) (λ y. (g y x || list_any (g y) xs) ≡ true) (λ y e. or_right (g y x) (list_any (g y) xs) e) xs (each_any g own xs))

pub own_set : (r : Record) → is_of r.owner r.rtype r ≡ true
own_set r = let o = (is_same_Decides r.owner r.owner).1 refl in let t = (Decides-eqb r.rtype r.rtype).1 refl in rw (o, t) refl

pub each_read : (ps : List RecordEntry) → AllByRecursion (λ r. is_read ps r ≡ true) (with_all [] ps)
each_read ps = each_of_all (λ r. is_read ps r ≡ true) [] ps tt (each_any (λ (p q : RecordEntry). of_first q (record_in p)) (λ (p : RecordEntry). own_set (record_in p)) ps)

-- tests that don't rest on case or TTL
pub count_map : (q : Record → Bool) (f : Record → Record) → ((r : Record) → q (f r) ≡ q r) → (rs : List Record) → length (filter q (map f rs)) ≡ length (filter q rs)
count_map q f same [] = refl
count_map q f same (r ∷ rs) =
    count_cons q (f r) (map f rs) ∙ ap (λ (b : Bool). one b + length (filter q (map f rs))) (same r) ∙ ap (λ (n : ℕ). one (q r) + n) (count_map q f same rs) ∙ sym (count_cons q r rs)

pub shown_owner : (ps : List RecordEntry) (r : Record) → (shown ps r).owner ≡ fold_name r.owner
shown_owner ps r = ap fold_name (timed_owner ps r)

pub shown_folds : (ps : List RecordEntry) (r : Record) → fold_name (shown ps r).owner ≡ fold_name r.owner
shown_folds ps r = ap fold_name (shown_owner ps r) ∙ fold_name-fold_name r.owner

pub shown_at : (ps : List RecordEntry) (owner : List (List ℕ)) (r : Record) → stands_at owner (shown ps r) ≡ stands_at owner r
shown_at ps owner r = ap (λ (f : List (List ℕ)). pointwise bytes_eq f (fold_name owner)) (shown_folds ps r)

pub shown_of : (ps : List RecordEntry) (owner : List (List ℕ)) (rtype : ℕ) (r : Record) → is_of owner rtype (shown ps r) ≡ is_of owner rtype r
shown_of ps owner rtype r = ap (λ (b : Bool). b && (timed ps r).rtype == rtype) (shown_at ps owner r) ∙ ap (λ (t : ℕ). is_same r.owner owner && t == rtype) (timed_rtype ps r)

pub shown_soa : (ps : List RecordEntry) (r : Record) → ((shown ps r).rtype == type_SOA) ≡ (r.rtype == type_SOA)
shown_soa ps r = ap (λ (t : ℕ). t == type_SOA) (timed_rtype ps r)

pub shown_cut : (ps : List RecordEntry) (r : Record) → is_wild_cut (shown ps r) ≡ is_wild_cut r
shown_cut ps r = ap (λ (b : Bool). b && (timed ps r).rtype == type_NS) (wild_folded (shown ps r).owner r.owner (shown_folds ps r)) ∙ ap (λ (t : ℕ). is_wild r.owner && t == type_NS) (timed_rtype ps r)

pub shown_outside : (ps : List RecordEntry) (apex : List (List ℕ)) (r : Record) → is_outside apex (shown ps r) ≡ is_outside apex r
shown_outside ps apex r = ap not (under_folded (shown ps r).owner r.owner apex (shown_folds ps r))

same_bool : (a b : Bool) → (a ≡ true → b ≡ true) → (b ≡ true → a ≡ true) → a ≡ b
same_bool true b f g = sym (f refl)
same_bool false true f g = g refl
same_bool false false f g = refl

pub apex_folded : (name apex : List (List ℕ)) → is_under name (fold_name apex) ≡ is_under name apex
apex_folded name apex = same_bool (is_under name (fold_name apex)) (is_under name apex)
    (λ h. let front = ending_from_under name (fold_name apex) h in under_from_ending name apex front.0 (front.1 ∙ ap (λ (f : List (List ℕ)). front.0 ++ f) (fold_name-fold_name apex)))
    (λ h. let front = ending_from_under name apex h in under_from_ending name (fold_name apex) front.0 (front.1 ∙ ap (λ (f : List (List ℕ)). front.0 ++ f) (sym (fold_name-fold_name apex))))

owner_of_shown : (ps : List RecordEntry) (rs : List Record) → owner_of (map (shown ps) rs) ≡ fold_name (owner_of rs)
owner_of_shown ps [] = refl
owner_of_shown ps (r ∷ rs) = shown_owner ps r

pub filter_shown : (q : Record → Bool) (f : Record → Record) → ((r : Record) → q (f r) ≡ q r) → (rs : List Record) → filter q (map f rs) ≡ map f (filter q rs)
filter_shown q f same [] = refl
filter_shown q f same (r ∷ rs) = by (q (f r)) (q r) (same r) (filter_shown q f same rs)
  where
    by : (b c : Bool) → b ≡ c → filter q (map f rs) ≡ map f (filter q rs) → cond b (f r ∷ filter q (map f rs)) (filter q (map f rs)) ≡ map f (cond c (r ∷ filter q rs) (filter q rs))
    by true true e more = ap (λ (ss : List Record). f r ∷ ss) more
    by true false e more = absurd (true≢false e)
    by false true e more = absurd (true≢false (sym e))
    by false false e more = more

-- the apex
pub apex_shown : (ps : List RecordEntry) (rs : List Record) → apex_of (map (shown ps) rs) ≡ fold_name (apex_of rs)
apex_shown ps rs = ap owner_of (filter_shown (λ (r : Record). r.rtype == type_SOA) (shown ps) (shown_soa ps) rs) ∙ owner_of_shown ps (soa_of rs)

-- the order
pub order_shown : (ps : List RecordEntry) (r s : Record) → record_cmp (shown ps r) (shown ps s) ≡ record_cmp r s
order_shown ps r s =
    ap (λ (f : List (List ℕ)). ordering_then (slice_cmp (slice_cmp nat_cmp) (reverse f) (reverse (fold_name (shown ps s).owner))) (ordering_then (nat_cmp (timed ps r).rtype (timed ps s).rtype) (slice_cmp nat_cmp (timed ps r).rdata (timed ps s).rdata))) (shown_folds ps r)
    ∙ ap (λ (f : List (List ℕ)). ordering_then (slice_cmp (slice_cmp nat_cmp) (reverse (fold_name r.owner)) (reverse f)) (ordering_then (nat_cmp (timed ps r).rtype (timed ps s).rtype) (slice_cmp nat_cmp (timed ps r).rdata (timed ps s).rdata))) (shown_folds ps s)
    ∙ ap (λ (t : ℕ). ordering_then (canonical_cmp r.owner s.owner) (ordering_then (nat_cmp t (timed ps s).rtype) (slice_cmp nat_cmp (timed ps r).rdata (timed ps s).rdata))) (timed_rtype ps r)
    ∙ ap (λ (t : ℕ). ordering_then (canonical_cmp r.owner s.owner) (ordering_then (nat_cmp r.rtype t) (slice_cmp nat_cmp (timed ps r).rdata (timed ps s).rdata))) (timed_rtype ps s)
    ∙ ap (λ (os : List ℕ). ordering_then (canonical_cmp r.owner s.owner) (ordering_then (nat_cmp r.rtype s.rtype) (slice_cmp nat_cmp os (timed ps s).rdata))) (timed_rdata ps r)
    ∙ ap (λ (os : List ℕ). ordering_then (canonical_cmp r.owner s.owner) (ordering_then (nat_cmp r.rtype s.rtype) (slice_cmp nat_cmp r.rdata os))) (timed_rdata ps s)

pub ascends_shown : (ps : List RecordEntry) (rs : List Record) → Ascends rs → Ascends (map (shown ps) rs)
ascends_shown ps rs h =
    Rises-map (λ r s. is_lt (record_cmp r s) ≡ true) (shown ps) rs
    (rises_weaker (λ r s. is_lt (record_cmp r s) ≡ true) (λ r s. is_lt (record_cmp (shown ps r) (shown ps s)) ≡ true) (λ r s e. ap is_lt (order_shown ps r s) ∙ e) rs h)

both_true : (a b : Bool) → (a && b) ≡ true → (a ≡ true) × (b ≡ true)
both_true true b e = (refl, e)
both_true false b e = absurd (true≢false (sym e))

-- records of one set have one TTL
share_by : (b c : Bool) → (b ≡ true → c ≡ true) → (not b || c) ≡ true
share_by true c f = f refl
share_by false c f = refl

pub share_shown : (ps : List RecordEntry) (r s : Record) → is_read ps r ≡ true → share_ttl (shown ps r) (shown ps s) ≡ true
share_shown ps r s read =
    share_by (is_of (shown ps s).owner (shown ps s).rtype (shown ps r)) ((timed ps r).ttl == (timed ps s).ttl) (λ e.
    let parts = both_true (is_same (shown ps r).owner (shown ps s).owner) ((timed ps r).rtype == (timed ps s).rtype) e in
    let owners = sym (shown_folds ps r) ∙ (is_same_Decides (shown ps r).owner (shown ps s).owner).0 parts.0 ∙ shown_folds ps s in
    let types = sym (timed_rtype ps r) ∙ (Decides-eqb (timed ps r).rtype (timed ps s).rtype).0 parts.1 ∙ timed_rtype ps s in
    (Decides-eqb (timed ps r).ttl (timed ps s).ttl).1 (one_ttl ps r s (record { owner = owners; rtype = types }) read))

-- a record in lower case stays, but for its TTL
pub lawful_shown : (ps : List RecordEntry) (r : Record) → AllByRecursion (λ p. p.ttl.0 < 2 ^ 31) ps → IsLawful r → IsLawful (shown ps r)
lawful_shown ps r lasts h =
    let owner : (shown ps r).owner ≡ r.owner = shown_owner ps r ∙ sym h.folded in
    let rtype = timed_rtype ps r in
    let rdata = timed_rdata ps r in
    record {
      name = subst (λ (o : List (List ℕ)). IsName o) (sym owner) h.name;
      owner_octets = subst (λ (o : List (List ℕ)). All (All (λ octet. octet < 256)) o) (sym owner) h.owner_octets;
      folded = sym (fold_name-fold_name (timed ps r).owner);
      lasts = timed_lasts ps r lasts h.lasts;
      form = ap (λ (t : ℕ). data_of t (timed ps r).rdata) rtype ∙ ap (λ (os : List ℕ). data_of r.rtype os) rdata ∙ h.form ∙ ap (λ (os : List ℕ). Some os) (sym rdata);
      octets = subst (λ (os : List ℕ). All (λ octet. octet < 256) os) (sym rdata) h.octets;
    }
