-- Which rule is the first that gives a code, and which sets are compared.
use Rattle.std.proofs.Common.{◌≡◌, ℕ, ◌<◌, ◌+◌, Bool, true, false, not, ◌&&◌, ◌||◌, ◌==◌, List, [], ◌∷◌, length, take, get_or, filter, bytes_eq, refl, sym, ap, ◌∙◌}
use Rattle.std.specs.List.{list_any, list_all}
use Rattle.std.proofs.lemmas.List.Folds.{list_all-map, list_all_more, list_all_at}
use Rattle.std.proofs.lemmas.Bool.{eqb-true}
use Rattle.dns_name.specs.Name.{Name, is_same}
use Rattle.dns_name.specs.Order.{is_same_equiv}
use Rattle.dns_rdata.specs.Numbers.{class_IN}
use Rattle.dns_rdata.specs.Data.{Data}
use Rattle.dns_rdata.specs.Record.{Record, records_with, has_data}
use Rattle.dns_rdata.specs.Raw.{RawRecord}
use Rattle.zone_tree.specs.Zone.{is_of, rrset_of}
use Rattle.update_core.specs.Verdict.{is_gathered, have_same_data, is_met}
use Rattle.update_core.proofs.ListLemmas.{and_left, and_right, both_true, filter_alike, all_kept, any_kept, all_alike, any_mapped, none_kept}

-- sets of names that are the same, and of one type
pub rrset_of-same : (zone : List Record) (name other : Name) (rtype : ℕ) → is_same name other ≡ true → rrset_of zone name rtype ≡ rrset_of zone other rtype
rrset_of-same zone name other rtype same =
    filter_alike (is_of name rtype) (is_of other rtype)
    (λ r. ap (λ b. b && r.rtype == rtype) (is_same_equiv.symm r.owner name ∙ is_same_equiv.congr name other r.owner same ∙ is_same_equiv.symm other r.owner)) zone

gathered-same : (sent : List RawRecord) (name other : Name) (rtype : ℕ) → is_same name other ≡ true → filter (is_gathered name rtype) sent ≡ filter (is_gathered other rtype) sent
gathered-same sent name other rtype same =
    filter_alike (is_gathered name rtype) (is_gathered other rtype)
    (λ r. ap (λ b. r.class == class_IN && b && r.rtype == rtype) (is_same_equiv.symm r.owner name ∙ is_same_equiv.congr name other r.owner same ∙ is_same_equiv.symm other r.owner)) sent

-- records of one owner and type gather the same set
is_met-same : (zone : List Record) (sent : List RawRecord) (r s : RawRecord) → is_same r.owner s.owner ≡ true → r.rtype ≡ s.rtype → is_met zone sent r ≡ is_met zone sent s
is_met-same zone sent r s same rtype =
    ap (λ t. have_same_data (filter (is_gathered r.owner t) sent) (rrset_of zone r.owner t)) rtype
    ∙ ap (λ g. have_same_data g (rrset_of zone r.owner s.rtype)) (gathered-same sent r.owner s.owner s.rtype same)
    ∙ ap (have_same_data (filter (is_gathered s.owner s.rtype) sent)) (rrset_of-same zone r.owner s.owner s.rtype same)

-- the test of one record, as the whole asks it
abbrev pub compared : List Record → List RawRecord → RawRecord → Bool
compared zone sent r = not (r.class == class_IN) || is_met zone sent r

-- a record whose owner and type came before is compared already
one_before : (zone : List Record) (sent : List RawRecord) (r b : RawRecord) → compared zone sent b ≡ true → is_gathered r.owner r.rtype b ≡ true → is_met zone sent r ≡ true
one_before zone sent r b met gathered =
    let front = and_left (b.class == class_IN && is_same b.owner r.owner) (b.rtype == r.rtype) gathered in
    let class = and_left (b.class == class_IN) (is_same b.owner r.owner) front in
    let same = and_right (b.class == class_IN) (is_same b.owner r.owner) front in
    let rtype = eqb-true b.rtype r.rtype (and_right (b.class == class_IN && is_same b.owner r.owner) (b.rtype == r.rtype) gathered) in
    sym (is_met-same zone sent b r same rtype) ∙ ap (λ c. not c || is_met zone sent b) (sym class) ∙ met

pub met_before : (zone : List Record) (sent before : List RawRecord) (r : RawRecord) → list_all (compared zone sent) before ≡ true → list_any (is_gathered r.owner r.rtype) before ≡ true → is_met zone sent r ≡ true
met_before zone sent [] r met any = absurd (cc)
met_before zone sent (b ∷ bs) r met any =
    by_first (is_gathered r.owner r.rtype b) refl (λ behind. met_before zone sent bs r (and_right (compared zone sent b) (list_all (compared zone sent) bs) met) behind)
  where
    by_first : (g : Bool) → is_gathered r.owner r.rtype b ≡ g → (list_any (is_gathered r.owner r.rtype) bs ≡ true → is_met zone sent r ≡ true) → is_met zone sent r ≡ true
    by_first true e behind = one_before zone sent r b (and_left (compared zone sent b) (list_all (compared zone sent) bs) met) e
    by_first false e behind = behind (ap (λ g. g || list_any (is_gathered r.owner r.rtype) bs) (sym e) ∙ any)

-- what is gathered beside records with these data is compared with the data
pub is_met-data : (zone : List Record) (sent : List RawRecord) (r : RawRecord) (owner : Name) (rtype ttl : ℕ) (ds : List Data) → rrset_of zone r.owner r.rtype ≡ records_with owner rtype ttl ds
    → is_met zone sent r
    ≡ (list_all (λ s. not (is_gathered r.owner r.rtype s) || list_any (λ d. bytes_eq s.octets d.octets) ds) sent
    && list_all (λ d. list_any (λ s. is_gathered r.owner r.rtype s && bytes_eq s.octets d.octets) sent) ds)
is_met-data zone sent r owner rtype ttl ds set =
    let kept = filter (is_gathered r.owner r.rtype) sent in
    let as_record = λ (d : Data). let made : Record = record { owner = owner; rtype = rtype; ttl = ttl; rdata = d.octets } in made in
    ap (have_same_data kept) set
    ∙ ap (λ b. b && list_all (λ s. list_any (λ q. bytes_eq q.octets s.rdata) kept) (records_with owner rtype ttl ds))
    (all_kept (λ q. has_data (records_with owner rtype ttl ds) q.octets) (is_gathered r.owner r.rtype) sent
    ∙ all_alike (λ q. not (is_gathered r.owner r.rtype q) || has_data (records_with owner rtype ttl ds) q.octets) (λ q. not (is_gathered r.owner r.rtype q) || list_any (λ d. bytes_eq q.octets d.octets) ds)
    (λ q. ap (λ b. not (is_gathered r.owner r.rtype q) || b) (any_mapped (λ s. bytes_eq q.octets s.rdata) as_record ds)) sent)
    ∙ ap (λ b. list_all (λ s. not (is_gathered r.owner r.rtype s) || list_any (λ d. bytes_eq s.octets d.octets) ds) sent && b)
    (list_all-map (λ s. list_any (λ q. bytes_eq q.octets s.rdata) kept) as_record ds
    ∙ all_alike (λ d. list_any (λ q. bytes_eq q.octets d.octets) kept) (λ d. list_any (λ s. is_gathered r.owner r.rtype s && bytes_eq s.octets d.octets) sent)
    (λ d. any_kept (λ q. bytes_eq q.octets d.octets) (is_gathered r.owner r.rtype) sent) ds)

-- beside no records nothing may be gathered
pub is_met-none : (zone : List Record) (sent : List RawRecord) (r : RawRecord) → rrset_of zone r.owner r.rtype ≡ [] → is_met zone sent r ≡ not (list_any (is_gathered r.owner r.rtype) sent)
is_met-none zone sent r set =
    ap (have_same_data (filter (is_gathered r.owner r.rtype) sent)) set ∙ both_true (list_all (λ s. false) (filter (is_gathered r.owner r.rtype) sent)) ∙ none_kept (is_gathered r.owner r.rtype) sent

-- one more record is compared
pub one_more_met : (zone : List Record) (sent : List RawRecord) (i : ℕ) (r d : RawRecord) → i < length sent → r ≡ get_or sent i d → list_all (compared zone sent) (take i sent) ≡ true → compared zone sent r ≡ true
    → list_all (compared zone sent) (take (i + 1) sent) ≡ true
one_more_met zone sent i r d below is before met =
    list_all_more (compared zone sent) sent i d below ∙ ap (λ b. b && compared zone sent (get_or sent i d)) before ∙ ap (compared zone sent) (sym is) ∙ met

-- one record that isn't settles the answer
pub one_not_met : (zone : List Record) (sent : List RawRecord) (i : ℕ) (r d : RawRecord) → i < length sent → r ≡ get_or sent i d → r.class == class_IN ≡ true → is_met zone sent r ≡ false → list_all (compared zone sent) sent ≡ false
one_not_met zone sent i r d below is class unmet =
    list_all_at (compared zone sent) sent i d below (ap (compared zone sent) (sym is) ∙ ap (λ c. not c || is_met zone sent r) class ∙ unmet)
