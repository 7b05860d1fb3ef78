-- The rules of a zone beside the one of its SOA, kept by filters, by changes of TTLs and by one record more.
use Rattle.std.proofs.Common.{◌≡◌, ◌≢◌, ℕ, zero, suc, ◌<◌, ◌≤◌, Bool, true, false, not, ◌&&◌, ◌||◌, ◌==◌, cond, List, [], ◌∷◌, length, filter, All, refl, sym, ap, subst, ◌∙◌, arith, eq-eqb}
use Rattle.std.specs.Prelude.{Contains}
use Rattle.std.specs.List.{AllPairs}
use Rattle.std.proofs.lemmas.Bool.{eqb-true}
use Rattle.std.proofs.lemmas.List.Elements.{All-filter, All-weaker, All-contains_itself}
use Rattle.std.proofs.lemmas.List.Kept.{AllPairs-filter}
use Rattle.dns_name.specs.Name.{Name, is_under}
use Rattle.dns_name.specs.Order.{is_same_equiv}
use Rattle.dns_rdata.specs.Numbers.{type_NS, type_CNAME}
use Rattle.dns_rdata.specs.Record.{Record, IsLawful}
use Rattle.zone_tree.specs.Zone.{KeepsRules, IsBefore, stands_at, rrset_of, rrsets_of, soa_of, apex_of, is_wild, share_ttl, is_alone}
use Rattle.update_core.proofs.SoaKept.{grows}

-- the rules of a zone of an apex, beside that of the SOA
pub record KeepsBeside (apex : Name) (zone : List Record) : Type 0 where
  pub lawful : All IsLawful zone
  pub ascending : AllPairs IsBefore zone
  pub one_ttl : All (λ r. All (λ s. share_ttl r s ≡ true) zone) zone
  pub under_apex : All (λ r. is_under r.owner apex ≡ true) zone
  pub name_servers : 0 < length (rrset_of zone apex type_NS)
  pub aliases_alone : All (λ r. is_alone zone r ≡ true) zone
  pub no_wild_cuts : All (λ r. is_wild r.owner && r.rtype == type_NS ≡ false) zone

some_from : (rs : List Record) → rs ≢ [] → 0 < length rs
some_from [] h = absurd (h refl)
some_from (r ∷ rs) h = omega arith

pub not_empty : (rs : List Record) → 0 < length rs → rs ≢ []
not_empty rs some none = omega (arith, ap length none)

pub beside_from : (zone : List Record) → KeepsRules zone → KeepsBeside (apex_of zone) zone
beside_from zone h = record {
  lawful = h.lawful;
  ascending = h.ascending;
  one_ttl = h.one_ttl;
  under_apex = h.under_apex;
  name_servers = some_from (rrset_of zone (apex_of zone) type_NS) h.name_servers;
  aliases_alone = h.aliases_alone;
  no_wild_cuts = h.no_wild_cuts;
}

pub rules_from : (apex : Name) (zone : List Record) → KeepsBeside apex zone → length (soa_of zone) ≡ 1 → apex_of zone ≡ apex → KeepsRules zone
rules_from apex zone h one is = record {
  lawful = h.lawful;
  ascending = h.ascending;
  one_ttl = h.one_ttl;
  one_soa = one;
  under_apex = subst (λ a. All (λ r. is_under r.owner a ≡ true) zone) (sym is) h.under_apex;
  name_servers = subst (λ a. rrset_of zone a type_NS ≢ []) (sym is) (not_empty (rrset_of zone apex type_NS) h.name_servers);
  aliases_alone = h.aliases_alone;
  no_wild_cuts = h.no_wild_cuts;
}

-- a list in which a record is that passes keeps one
counted : (p : Record → Bool) (rs : List Record) (r : Record) → Contains rs r → p r ≡ true → 0 < length (filter p rs)
counted p [] r (k, l, e) is = absurd (omega arith)
counted p (s ∷ rs) r (zero, l, e) is = rw (ap p e ∙ is) (omega arith)
counted p (s ∷ rs) r (suc k, l, e) is =
    let rest = counted p rs r (k, omega arith, e) is in
    let longer = grows (p s) s (filter p rs) in
    omega arith

-- an alias is alone where its owner gets no more records
alone_by : (alias : Bool) (m n : ℕ) → not alias || m == 1 ≡ true → (alias ≡ true → n ≤ m) → 0 < n → not alias || n == 1 ≡ true
alone_by false m n h few some = refl
alone_by true m n h few some =
    let less = few refl in
    let one : m ≡ 1 = eqb-true m 1 h in
    eq-eqb n 1 (omega arith)

pub still_alone : (zone next : List Record) (r : Record) → is_alone zone r ≡ true → Contains next r → (r.rtype == type_CNAME ≡ true → length (rrsets_of next r.owner) ≤ length (rrsets_of zone r.owner)) → is_alone next r ≡ true
still_alone zone next r h there few =
    alone_by (r.rtype == type_CNAME) (length (rrsets_of zone r.owner)) (length (rrsets_of next r.owner)) h few
    (counted (stands_at r.owner) next r there (is_same_equiv.refl r.owner))

-- what is left by a filter
pub fewer : (p q : Record → Bool) (rs : List Record) → length (filter p (filter q rs)) ≤ length (filter p rs)
fewer p q [] = omega arith
fewer p q (r ∷ rs) = by (q r) (p r) (fewer p q rs) (grows (p r) r (filter p rs))
  where
    by : (b c : Bool) → length (filter p (filter q rs)) ≤ length (filter p rs) → length (filter p rs) ≤ length (cond c (r ∷ filter p rs) (filter p rs))
        → length (filter p (cond b (r ∷ filter q rs) (filter q rs))) ≤ length (cond (p r) (r ∷ filter p rs) (filter p rs))
    by true c rest longer = both (p r) rest
      where
        both : (d : Bool) → length (filter p (filter q rs)) ≤ length (filter p rs) → length (cond d (r ∷ filter p (filter q rs)) (filter p (filter q rs))) ≤ length (cond d (r ∷ filter p rs) (filter p rs))
        both true less = omega arith
        both false less = less
    by false c rest longer = let grown = grows (p r) r (filter p rs) in omega arith

pub filter_beside : (apex : Name) (p : Record → Bool) (zone : List Record) → KeepsBeside apex zone → 0 < length (rrset_of (filter p zone) apex type_NS) → KeepsBeside apex (filter p zone)
filter_beside apex p zone h servers =
    let next = filter p zone in
    record {
      lawful = All-filter p IsLawful zone h.lawful;
      ascending = AllPairs-filter IsBefore p zone h.ascending;
      one_ttl = All-weaker (λ r. All (λ s. share_ttl r s ≡ true) zone) (λ r. All (λ s. share_ttl r s ≡ true) next) (λ r k. All-filter p (λ s. share_ttl r s ≡ true) zone k) next
          (All-filter p (λ r. All (λ s. share_ttl r s ≡ true) zone) zone h.one_ttl);
      under_apex = All-filter p (λ r. is_under r.owner apex ≡ true) zone h.under_apex;
      name_servers = servers;
      aliases_alone = λ k d l.
          still_alone zone next _ (All-filter p (λ r. is_alone zone r ≡ true) zone h.aliases_alone k d l) (All-contains_itself next k d l) (λ _. fewer (stands_at _) p zone);
      no_wild_cuts = All-filter p (λ r. is_wild r.owner && r.rtype == type_NS ≡ false) zone h.no_wild_cuts;
    }
