-- What is held behind the last record, and whether it is a zone.
use Rattle.std.proofs.Common.{◌≡◌, ◌≢◌, refl, sym, ap, ◌∙◌, subst, ℕ, Bool, true, false, ◌&&◌, ◌||◌, not, ◌==◌, List, [], ◌∷◌, length, true≢false, inl, inr}
use Rattle.std.specs.List.{AllByRecursion, list_all}
use Rattle.std.specs.List.Sorted.{IsStrictlySortedBy}
use Rattle.std.specs.Ordering.{nat_cmp, ordering_then, is_eq, is_lt}
use Rattle.std.specs.declared.cmp.Ordering.{Ordering}
use Rattle.std.specs.declared.cmp.Ordering.TheVariants.{Less, Equal, Greater}
use Rattle.std.specs.Cmp.Lexicographic.{slice_cmp}
use Rattle.std.proofs.lemmas.Bool.{eqb-true}
use Rattle.std.proofs.lemmas.Cmp.{tied_itself, nat_cmp_total}
use Rattle.std.proofs.lemmas.List.Elements.{All-from_recursion}
use Rattle.dns_name.specs.Name.{Name, fold_name, canonical_cmp, is_same, is_under}
use Rattle.dns_name.specs.Order.{is_same_Decides}
use Rattle.dns_rdata.specs.Numbers.{type_NS, type_SOA}
use Rattle.dns_rdata.specs.Record.{Record, IsLawful, record_cmp, owner_of}
use Rattle.zone_tree.specs.Zone.{IsZone, IsBefore, apex_of, soa_of, rrset_of, is_of, share_ttl, is_alone, is_wild}
use Rattle.zone_tree.proofs.Rising.{Rises, each_weaker, pairs_from_rises}
use Rattle.transfer_core.specs.Take.{held_cmp, is_soa, is_zone}
use Rattle.transfer_core.proofs.RecordLemmas.{IsIn, both, is_not, each_in, each_from_in, in_kept, kept_in}
use Rattle.transfer_core.proofs.ReadLemmas.{one_of}
use Rattle.transfer_core.proofs.ZoneLemmas.{each_lawful, passes}
use Rattle.transfer_in.specs.Held.{SetKey}
use Rattle.transfer_in.specs.ListState.{AreHeld}
use Rattle.transfer_in.proofs.HoldingLemmas.{keyed}
use Rattle.transfer_in.proofs.GroupLemmas.{ZoneParts, zone_parts}

-- the one SOA of records that pass, which stands at the apex
pub record IsApexSoa (apex : Name) (records : List Record) (s : Record) : Type 0 where
  pub one : soa_of records ≡ s ∷ []
  pub inside : IsIn s records
  pub same : is_same s.owner apex ≡ true

one_only : (s x : Record) → IsIn x (s ∷ []) → s ≡ x
one_only s x (inl e) = e
one_only s x (inr n) = absurd n

pub soa_at : (apex : Name) (records : List Record) → ZoneParts apex records → (s : Record) × IsApexSoa apex records s
soa_at apex records z =
    let all = one_of (soa_of records) (eqb-true (length (soa_of records)) 1 z.one) in
    let here = one_of (rrset_of records apex type_SOA) (eqb-true (length (rrset_of records apex type_SOA)) 1 z.at_apex) in
    let found = in_kept (is_of apex type_SOA) records here.0 (subst (IsIn here.0) (sym here.1) (inl refl)) in
    let parts = both (is_same here.0.owner apex) (here.0.rtype == type_SOA) found.1 in
    let is : all.0 ≡ here.0 = one_only all.0 here.0 (subst (IsIn here.0) all.1 (kept_in is_soa records here.0 found.0 parts.1)) in (
      all.0,
      record {
        one = all.1;
        inside = subst (λ (r : Record). IsIn r records) (sym is) found.0;
        same = subst (λ (r : Record). is_same r.owner apex ≡ true) (sym is) parts.0;
      },
    )

-- names in lower case that are the same
pub folded_same : (name other : Name) → name ≡ fold_name name → other ≡ fold_name other → is_same name other ≡ true → name ≡ other
folded_same name other folded other_folded same = folded ∙ (is_same_Decides name other).0 same ∙ sym other_folded

module _ (zone : List Record) (is : IsZone zone) where
  -- a zone's apex is in lower case
  pub apex_folded : apex_of zone ≡ fold_name (apex_of zone)
  apex_folded =
      let s = soa_at (apex_of zone) zone (zone_parts (apex_of zone) zone (passes zone is)) in
      let owner : apex_of zone ≡ s.0.owner = ap owner_of s.1.one in
      owner ∙ (each_in IsLawful zone s.0 (each_lawful zone is) s.1.inside).folded ∙ ap fold_name (sym owner)

  module _ (apex : Name) where
    -- it passes at its apex, and at no other
    pub passes_at : apex ≡ fold_name apex → is_same (apex_of zone) apex ≡ true → is_zone apex zone ≡ true
    passes_at folded same = subst (λ (name : Name). is_zone name zone ≡ true) (folded_same (apex_of zone) apex apex_folded folded same) (passes zone is)

    pub fails_at : is_same (apex_of zone) apex ≡ false → is_zone apex zone ≡ false
    fails_at other = by (is_zone apex zone) refl
      where
        by : (b : Bool) → is_zone apex zone ≡ b → b ≡ false
        by false e = refl
        by true e =
            let s = soa_at apex zone (zone_parts apex zone e) in
            absurd (true≢false (sym s.1.same ∙ ap (λ (name : Name). is_same name apex) (sym (ap owner_of s.1.one)) ∙ other))

-- what passes along a list
pass_each : (p : Record → Bool) (zs : List Record) → list_all p zs ≡ true → AllByRecursion (λ z. p z ≡ true) zs
pass_each p [] e = tt
pass_each p (z ∷ zs) e = let parts = both (p z) (list_all p zs) e in (parts.0, pass_each p zs parts.1)

-- records of one TTL a set that stand in order stand in canonical order
front_tied : (o p q : Ordering) → ordering_then o (ordering_then p q) ≡ Equal → ordering_then o p ≡ Equal
front_tied Equal Equal q e = refl
front_tied Equal Less q e = absurd (cc)
front_tied Equal Greater q e = absurd (cc)
front_tied Less p q e = absurd (cc)
front_tied Greater p q e = absurd (cc)

before : (r s : Record) → held_cmp r s ≡ Less → share_ttl r s ≡ true → IsBefore r s
before r s h e = by (record_cmp r s) refl h
  where
    by : (o : Ordering) → record_cmp r s ≡ o → ordering_then o (nat_cmp r.ttl s.ttl) ≡ Less → is_lt o ≡ true
    by Less f k = refl
    by Equal f k =
        let own : SetKey = record { owner = r.owner; rtype = r.rtype } in
        let key : SetKey = record { owner = s.owner; rtype = s.rtype } in
        let one : is_of s.owner s.rtype r ≡ true = keyed r key ∙ ap is_eq (front_tied (canonical_cmp r.owner s.owner) (nat_cmp r.rtype s.rtype) (slice_cmp nat_cmp r.rdata s.rdata) f) in
        let same : r.ttl ≡ s.ttl = eqb-true r.ttl s.ttl (ap (λ b. not b || r.ttl == s.ttl) (sym one) ∙ e) in
        let tied : nat_cmp r.ttl s.ttl ≡ Equal = subst (λ (n : ℕ). nat_cmp r.ttl n ≡ Equal) same (tied_itself nat_cmp_total r.ttl) in
        absurd (cc)
    by Greater f k = absurd (cc)

module _ (apex : Name) (records : List Record) (held : AreHeld apex records) (folded : apex ≡ fold_name apex) (e : is_zone apex records ≡ true) where
  z : ZoneParts apex records
  z = zone_parts apex records e

  shares : AllByRecursion (λ r. AllByRecursion (λ s. share_ttl r s ≡ true) records) records
  shares = each_weaker (λ r. list_all (share_ttl r) records ≡ true) (λ r. AllByRecursion (λ s. share_ttl r s ≡ true) records) (λ r f. pass_each (share_ttl r) records f) records (pass_each (λ r. list_all (share_ttl r) records) records z.shared)

  rising : (zs : List Record) → ((x : Record) → IsIn x zs → IsIn x records) → IsStrictlySortedBy held_cmp zs → Rises IsBefore zs
  unfolding IsStrictlySortedBy
  rising [] inside h = tt
  rising (r ∷ zs) inside h = (
    each_from_in (IsBefore r) zs (λ s k. before r s (each_in (λ y. held_cmp r y ≡ Less) zs s h.0 k) (each_in (λ y. share_ttl r y ≡ true) records s (each_in (λ x. AllByRecursion (λ y. share_ttl x y ≡ true) records) records r shares (inside r (inl refl))) (inside s (inr k)))),
    rising zs (λ x k. inside x (inr k)) h.1,
  )

  at : apex_of records ≡ apex
  at =
      let s = soa_at apex records z in
      ap owner_of s.1.one ∙ folded_same s.0.owner apex (each_in IsLawful records s.0 held.lawful s.1.inside).folded folded s.1.same

  some : (xs : List Record) → not (length xs == 0) ≡ true → xs ≢ []
  some xs f none = true≢false (sym f ∙ ap (λ (l : List Record). not (length l == 0)) none)

  -- held records that pass are a zone
  pub held_zone : IsZone records
  held_zone = record {
    rules = record {
      lawful = All-from_recursion IsLawful records held.lawful;
      ascending = pairs_from_rises IsBefore records (rising records (λ x k. k) held.rises);
      one_ttl = All-from_recursion _ records (each_weaker _ _ (λ r f. All-from_recursion (λ s. share_ttl r s ≡ true) records f) records shares);
      one_soa = eqb-true (length (soa_of records)) 1 z.one;
      under_apex = All-from_recursion _ records (subst (λ (name : Name). AllByRecursion (λ r. is_under r.owner name ≡ true) records) (sym at) held.under);
      name_servers = some (rrset_of records (apex_of records) type_NS) (subst (λ (name : Name). not (length (rrset_of records name type_NS) == 0) ≡ true) (sym at) z.served);
      aliases_alone = All-from_recursion _ records (pass_each (is_alone records) records z.alone);
      no_wild_cuts = All-from_recursion _ records (each_weaker _ _ (λ r f. is_not (is_wild r.owner && r.rtype == type_NS) f) records (pass_each (λ r. not (is_wild r.owner && r.rtype == type_NS)) records z.cuts));
    };
    limits = record {
      few = held.few;
      small_sets = All-from_recursion _ records held.small;
      short = All-from_recursion _ records held.short;
    };
  }

pub held_no_zone : (apex : Name) (records : List Record) → AreHeld apex records → apex ≡ fold_name apex → (IsZone records → ⊥) → is_zone apex records ≡ false
held_no_zone apex records held folded none = by (is_zone apex records) refl
  where
    by : (b : Bool) → is_zone apex records ≡ b → b ≡ false
    by false e = refl
    by true e = absurd (none (held_zone apex records held folded e))
