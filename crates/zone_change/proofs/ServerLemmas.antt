-- The NS that two zones have at their apex, and whether they share one.
use Rattle.std.proofs.Common.{◌≡◌, ◌≢◌, refl, sym, ap, ◌∙◌, subst, ℕ, Bool, true, false, ◌&&◌, ◌||◌, ◌==◌, List, [], ◌∷◌, inl, eqb-true, bytes_eq}
use Rattle.std.specs.List.{list_any}
use Rattle.std.specs.Ordering.{nat_cmp}
use Rattle.std.specs.declared.cmp.Ordering.TheVariants.{Equal}
use Rattle.std.proofs.lemmas.Cmp.{tied_itself, nat_cmp_total}
use Rattle.std.proofs.lemmas.Map.Text.{is_eq-slice_cmp}
use Rattle.dns_name.specs.Name.{Name, is_same}
use Rattle.dns_name.specs.Order.{is_same_equiv}
use Rattle.dns_rdata.specs.Numbers.{type_NS}
use Rattle.dns_rdata.specs.Data.{Data}
use Rattle.dns_rdata.specs.Record.{Record, records_with, owner_of, rtype_of, ttl_of}
use Rattle.zone_tree.specs.Zone.{IsZone, is_of, rrset_of, apex_of}
use Rattle.zone_tree.specs.Change.{is_same_record}
use Rattle.zone_tree.specs.Patch.{is_among}
use Rattle.zone_tree.proofs.NameOrder.{tie_from_same}
use Rattle.zone_change.specs.Change.{servers_of}
use Rattle.zone_change.proofs.Lists.{IsIn, both, in_kept}
use Rattle.zone_change.proofs.Steps.{turned}
use Rattle.zone_change.proofs.First.{some_of}

-- a set of an owner and a type has them
pub set_of : (zone : List Record) (owner : Name) (rtype : ℕ) → rrset_of zone owner rtype ≢ [] → (is_same (owner_of (rrset_of zone owner rtype)) owner ≡ true) × (rtype_of (rrset_of zone owner rtype) ≡ rtype)
set_of zone owner rtype h =
    let some = some_of (rrset_of zone owner rtype) h in
    let r = some.0 in
    let here = in_kept (is_of owner rtype) zone r (subst (IsIn r) (sym some.2) (inl refl)) in
    let parts = both (is_same r.owner owner) (r.rtype == rtype) here.1 in
    (ap (λ rs. is_same (owner_of rs) owner) some.2 ∙ parts.0, ap rtype_of some.2 ∙ eqb-true r.rtype rtype parts.1)

-- the NS of one apex have owners that are the same, and one type
pub servers_alike : (old next : List Record) → IsZone old → IsZone next → apex_of old ≡ apex_of next → (is_same (owner_of (servers_of old)) (owner_of (servers_of next)) ≡ true) × (rtype_of (servers_of old) ≡ rtype_of (servers_of next))
servers_alike old next h k apex =
    let own = set_of old (apex_of old) type_NS h.rules.name_servers in
    let other = set_of next (apex_of next) type_NS k.rules.name_servers in
    let a = owner_of (servers_of old) in
    let b = owner_of (servers_of next) in
    let here : is_same a (apex_of next) ≡ true = ap (is_same a) (sym apex) ∙ own.0 in
    (is_same_equiv.congr a (apex_of next) b here ∙ turned b (apex_of next) other.0, own.1 ∙ sym other.1)

-- tests
spread : (a b c : Bool) → ((a && c) || (b && c)) ≡ ((a || b) && c)
spread true true true = refl
spread true true false = refl
spread true false true = refl
spread true false false = refl
spread false true true = refl
spread false true false = refl
spread false false true = refl
spread false false false = refl

-- records of two sets of one owner and type are the same where their TTLs and data are
module _ (o p : Name) (t u l m : ℕ) (tie : is_same o p ≡ true) (types : t ≡ u) where
  same_datum : (e d : Data) → is_same_record (record { owner = o; rtype = t; ttl = m; rdata = e.octets }) (record { owner = p; rtype = u; ttl = l; rdata = d.octets }) ≡ (bytes_eq e.octets d.octets && m == l)
  same_datum e d =
      let number : nat_cmp t u ≡ Equal = ap (λ n. nat_cmp n u) types ∙ tied_itself nat_cmp_total u in
      rw (tie_from_same o p tie, number) (ap (λ b. b && m == l) (is_eq-slice_cmp e.octets d.octets))

  any_datum : (e : Data) (ds : List Data) → list_any (is_same_record (record { owner = o; rtype = t; ttl = m; rdata = e.octets })) (records_with p u l ds) ≡ (list_any (λ d. bytes_eq e.octets d.octets) ds && m == l)
  any_datum e [] = refl
  any_datum e (d ∷ ds) = (λ i. same_datum e d i || any_datum e ds i) ∙ spread (bytes_eq e.octets d.octets) (list_any (λ c. bytes_eq e.octets c.octets) ds) (m == l)

  any_any : (es ds : List Data) → list_any (is_among (records_with p u l ds)) (records_with o t m es) ≡ (list_any (λ e. list_any (λ d. bytes_eq e.octets d.octets) ds) es && m == l)
  any_any [] ds = refl
  any_any (e ∷ es) ds =
      (λ i. any_datum e ds i || any_any es ds i) ∙ spread (list_any (λ d. bytes_eq e.octets d.octets) ds) (list_any (λ c. list_any (λ d. bytes_eq c.octets d.octets) ds) es) (m == l)

pub shared : (own other : List Record) (ds es : List Data) → own ≡ records_with (owner_of own) (rtype_of own) (ttl_of own) ds → other ≡ records_with (owner_of other) (rtype_of other) (ttl_of other) es
    → is_same (owner_of own) (owner_of other) ≡ true → rtype_of own ≡ rtype_of other → (list_any (λ e. list_any (λ d. bytes_eq e.octets d.octets) ds) es && ttl_of other == ttl_of own) ≡ list_any (is_among own) other
shared own other ds es is are names types =
    sym (any_any (owner_of other) (owner_of own) (rtype_of other) (rtype_of own) (ttl_of own) (ttl_of other) (turned (owner_of own) (owner_of other) names) (sym types) es ds)
    ∙ (λ i. list_any (is_among (sym is i)) (sym are i))
