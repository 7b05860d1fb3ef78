-- Which records are held where others were read.
use Rattle.std.proofs.Common.{◌≡◌, ◌≢◌, refl, sym, ap, ◌∙◌, subst, Bool, true, false, ◌&&◌, ◌||◌, not, ◌==◌, List, [], ◌∷◌, length, filter, inl, inr, arith}
use Rattle.std.specs.List.{AllByRecursion}
use Rattle.std.proofs.lemmas.Bool.{eqb-true}
use Rattle.dns_rdata.specs.Numbers.{type_NS, type_SOA}
use Rattle.dns_rdata.specs.Record.{Record, IsLawful}
use Rattle.zone_tree.specs.Zone.{IsZone, IsBefore, soa_of, apex_of, rrset_of, is_of}
use Rattle.zone_tree.specs.Change.{is_same_record, left_out}
use Rattle.zone_tree.proofs.Rising.{Rises-filter, filter_alike}
use Rattle.zone_tree.proofs.LawLemmas.{same_lists}
use Rattle.transfer_core.specs.Lists.{beside_soa}
use Rattle.transfer_core.specs.Take.{is_soa, is_among}
use Rattle.transfer_core.proofs.RecordLemmas.{IsIn, each_in, each_from_in, both, is_not, either_right, same_itself, same_is, kept_in, in_kept, among_from_in, in_from_among, in_from_contains, contains_from_in}
use Rattle.transfer_core.proofs.InsertLemmas.{filter_same}
use Rattle.transfer_core.proofs.ZoneLemmas.{rises, each_lawful}
use Rattle.transfer_core.proofs.RunLemmas.{AreOf, with_read, without_read}

-- what is told stays so, and what is read is told
pub stays : (p : Record → Bool) (rs : List Record) (x : Record) → p x ≡ true → with_read p rs x ≡ true
stays p [] x e = e
stays p (r ∷ rs) x e = stays (λ z. p z || is_same_record r z) rs x (rw e refl)

pub is_read : (p : Record → Bool) (rs : List Record) (x : Record) → IsIn x rs → with_read p rs x ≡ true
is_read p [] x h = absurd h
is_read p (r ∷ rs) x (inl e) = stays (λ z. p z || is_same_record r z) rs x (either_right (p x) (is_same_record r x) (subst (λ z. is_same_record r z ≡ true) e (same_itself r)))
is_read p (r ∷ rs) x (inr h) = is_read (λ z. p z || is_same_record r z) rs x h

-- what isn't told stays so; what is read isn't told; what isn't read is told as before
pub stays_out : (p : Record → Bool) (rs : List Record) (x : Record) → p x ≡ false → without_read p rs x ≡ false
stays_out p [] x e = e
stays_out p (r ∷ rs) x e = stays_out (λ z. p z && not (is_same_record r z)) rs x (rw e refl)

none_both : (b : Bool) → (b && false) ≡ false
none_both true = refl
none_both false = refl

pub read_out : (p : Record → Bool) (rs : List Record) (x : Record) → IsIn x rs → without_read p rs x ≡ false
read_out p [] x h = absurd h
read_out p (r ∷ rs) x (inl e) =
    let same : is_same_record r x ≡ true = subst (λ z. is_same_record r z ≡ true) e (same_itself r) in
    stays_out (λ z. p z && not (is_same_record r z)) rs x (ap (λ b. p x && not b) same ∙ none_both (p x))
read_out p (r ∷ rs) x (inr h) = read_out (λ z. p z && not (is_same_record r z)) rs x h

pub not_read : (p : Record → Bool) (rs : List Record) (x : Record) → p x ≡ true → AllByRecursion (λ r. is_same_record r x ≡ false) rs → without_read p rs x ≡ true
not_read p [] x e h = e
not_read p (r ∷ rs) x e h = not_read (λ z. p z && not (is_same_record r z)) rs x (rw (e, h.0) refl) h.1

-- a zone's SOA and its other records
pub all_kept : (p : Record → Bool) (zs : List Record) → AllByRecursion (λ z. p z ≡ true) zs → filter p zs ≡ zs
all_kept p zs h = filter_alike p true zs h

pub one_of : (xs : List Record) → length xs ≡ 1 → (x : Record) × (xs ≡ x ∷ [])
one_of [] e = absurd (omega (arith, e))
one_of (x ∷ []) e = (x, refl)
one_of (x ∷ y ∷ xs) e = absurd (omega (arith, e))

module _ (zone : List Record) (is : IsZone zone) where
  -- the one SOA
  pub soa : (s : Record) × (soa_of zone ≡ s ∷ [])
  soa = one_of (soa_of zone) is.rules.one_soa

  pub soa_in : IsIn soa.0 zone × (is_soa soa.0 ≡ true)
  soa_in = in_kept is_soa zone soa.0 (subst (IsIn soa.0) (sym soa.1) (inl refl))

  pub only_soa : (r : Record) → IsIn r zone → is_soa r ≡ true → r ≡ soa.0
  only_soa r k e = one (subst (IsIn r) soa.1 (kept_in is_soa zone r k e))
    where
      one : IsIn r (soa.0 ∷ []) → r ≡ soa.0
      one (inl same) = sym same
      one (inr none) = absurd none

  no : (b : Bool) → b ≡ false → not b ≡ true
  no b e = rw e refl

  -- the records of a part of the zone's, none an SOA
  pub part : (q : Record → Bool) (p : Record → Bool) (b : Bool) → ((r : Record) → q r ≡ true → is_soa r ≡ false) → ((r : Record) → q r ≡ true → p r ≡ b) → AreOf zone p b (filter q zone)
  part q p b plain reported = record {
    inside = each_from_in (λ r. IsIn r zone) (filter q zone) (λ r k. (in_kept q zone r k).0);
    plain = each_from_in (λ r. is_soa r ≡ false) (filter q zone) (λ r k. plain r (in_kept q zone r k).1);
    reported = each_from_in (λ r. p r ≡ b) (filter q zone) (λ r k. reported r (in_kept q zone r k).1);
    rising = Rises-filter q IsBefore zone (rises zone is);
  }

  -- a name server stands beside the SOA
  pub some_beside : (xs : List Record) → rrset_of zone (apex_of zone) type_NS ≡ xs → beside_soa zone ≢ []
  some_beside [] e none = absurd (is.rules.name_servers e)
  some_beside (r ∷ rs) e none =
      let kept = in_kept (is_of (apex_of zone) type_NS) zone r (subst (IsIn r) (sym e) (inl refl)) in
      let rtype : r.rtype ≡ type_NS = eqb-true r.rtype type_NS (both _ (r.rtype == type_NS) kept.1).1 in
      subst (IsIn r) none (kept_in (λ s. not (s.rtype == type_SOA)) zone r kept.0 (rw rtype refl))

-- two zones: what stays of the one is what the other had
module _ (zone : List Record) (is : IsZone zone) (next : List Record) (also : IsZone next) where
  -- a record that is left out isn't an SOA, nor in the other zone
  left : (r : Record) → (not (r.rtype == type_SOA) && not (is_among next r)) ≡ true → (is_soa r ≡ false) × (is_among next r ≡ false)
  left r e = let parts = both (not (r.rtype == type_SOA)) (not (is_among next r)) e in (is_not (r.rtype == type_SOA) parts.0, is_not (is_among next r) parts.1)

  pub left_part : (p : Record → Bool) (b : Bool) → ((r : Record) → is_soa r ≡ false → is_among next r ≡ false → p r ≡ b) → AreOf zone p b (left_out zone next)
  left_part p b reported = part zone is (λ r. not (r.rtype == type_SOA) && not (is_among next r)) p b (λ r e. (left r e).0) (λ r e. let parts = left r e in reported r parts.0 parts.1)

  -- what is held where the deletions were read
  remains : (x : Record) → IsIn x zone → without_read (λ r. not (r.rtype == type_SOA)) (left_out zone next) x ≡ (not (is_soa x) && is_among next x)
  remains x k = by (is_soa x) (is_among next x) refl refl
    where
      other : is_among next x ≡ true → (r : Record) → IsIn r (left_out zone next) → is_same_record r x ≡ false
      other there r m = apart (is_same_record r x) refl
        where
          kept : IsIn r zone × ((not (r.rtype == type_SOA) && not (is_among next r)) ≡ true)
          kept = in_kept (λ s. not (s.rtype == type_SOA) && not (is_among next s)) zone r m

          apart : (b : Bool) → is_same_record r x ≡ b → b ≡ false
          apart false e = refl
          apart true e =
              let same : r ≡ x = same_is r x (each_in IsLawful zone r (each_lawful zone is) kept.0) (each_in IsLawful zone x (each_lawful zone is) k) e in
              let gone : is_among next x ≡ false = subst (λ s. is_among next s ≡ false) same (left r kept.1).1 in
              sym there ∙ gone

      by : (b c : Bool) → is_soa x ≡ b → is_among next x ≡ c → without_read (λ r. not (r.rtype == type_SOA)) (left_out zone next) x ≡ (not b && c)
      by true c e m = stays_out (λ r. not (r.rtype == type_SOA)) (left_out zone next) x (rw e refl)
      by false true e m = not_read (λ r. not (r.rtype == type_SOA)) (left_out zone next) x (rw e refl) (each_from_in (λ r. is_same_record r x ≡ false) (left_out zone next) (other m))
      by false false e m = read_out (λ r. not (r.rtype == type_SOA)) (left_out zone next) x (kept_in (λ r. not (r.rtype == type_SOA) && not (is_among next r)) zone x k (rw (e, m) refl))

  abbrev pub common : Record → Bool
  common r = not (is_soa r) && is_among zone r

  of_next : (r : Record) → IsIn r (filter (λ s. not (is_soa s) && is_among next s) zone) → IsIn r (filter common next)
  of_next r k =
      let kept = in_kept (λ s. not (is_soa s) && is_among next s) zone r k in
      let parts = both (not (is_soa r)) (is_among next r) kept.1 in
      kept_in common next r (in_from_among next r (each_lawful next also) (each_in IsLawful zone r (each_lawful zone is) kept.0) parts.1) (rw (parts.0) (among_from_in zone r kept.0))

  of_zone : (r : Record) → IsIn r (filter common next) → IsIn r (filter (λ s. not (is_soa s) && is_among next s) zone)
  of_zone r k =
      let kept = in_kept common next r k in
      let parts = both (not (is_soa r)) (is_among zone r) kept.1 in
      kept_in (λ s. not (is_soa s) && is_among next s) zone r (in_from_among zone r (each_lawful zone is) (each_in IsLawful next r (each_lawful next also) kept.0) parts.1) (rw (parts.0) (among_from_in next r kept.0))

  pub remaining : filter (without_read (λ r. not (r.rtype == type_SOA)) (left_out zone next)) zone ≡ filter common next
  remaining =
      filter_same (without_read (λ r. not (r.rtype == type_SOA)) (left_out zone next)) (λ s. not (is_soa s) && is_among next s) zone
      (each_from_in (λ x. without_read (λ r. not (r.rtype == type_SOA)) (left_out zone next) x ≡ (not (is_soa x) && is_among next x)) zone remains)
      ∙ same_lists (filter (λ s. not (is_soa s) && is_among next s) zone) (filter common next)
      (Rises-filter (λ s. not (is_soa s) && is_among next s) IsBefore zone (rises zone is)) (Rises-filter common IsBefore next (rises next also))
      (λ r. (
        λ m. contains_from_in (filter common next) r (of_next r (in_from_contains (filter (λ s. not (is_soa s) && is_among next s) zone) r m)),
        λ m. contains_from_in (filter (λ s. not (is_soa s) && is_among next s) zone) r (of_zone r (in_from_contains (filter common next) r m)),
      ))
