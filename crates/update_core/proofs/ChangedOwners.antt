-- An update changes a zone only at its records' owners, SOA apart.
use Rattle.std.proofs.Common.{◌≡◌, ℕ, Bool, true, false, not, ◌||◌, ◌==◌, cond, List, [], ◌∷◌, map, filter, Some, refl, sym, ap, ◌∙◌, true≢false}
use Rattle.std.specs.List.{list_any}
use Rattle.dns_name.specs.Name.{Name, is_same}
use Rattle.dns_name.specs.Order.{is_same_equiv}
use Rattle.dns_rdata.specs.Numbers.{type_SOA}
use Rattle.dns_rdata.specs.Record.{Record}
use Rattle.dns_rdata.specs.Raw.{RawRecord}
use Rattle.dns_rdata.specs.SerialOrder.{serial_less, serial_next}
use Rattle.zone_tree.specs.Zone.{stands_at, rrsets_of}
use Rattle.zone_tree.specs.Delta.{DifferOnlyAt, other_than_soa}
use Rattle.zone_tree.specs.Version.{zone_serial}
use Rattle.update_core.specs.Act.{effects, record_at_serial, at_serial}
use Rattle.update_core.proofs.ListLemmas.{by_test}
use Rattle.update_core.proofs.BesideLemmas.{is_beside, kept_inside}
use Rattle.update_core.proofs.AfterLemmas.{beside_of, finished}

-- owners are the same for names that are
same_owners : (rs : List RawRecord) (a b : Name) → is_same a b ≡ true → list_any (λ r. is_same r.owner a) rs ≡ list_any (λ r. is_same r.owner b) rs
same_owners [] a b e = refl
same_owners (r ∷ rs) a b e = λ i. (is_same_equiv.symm r.owner a ∙ is_same_equiv.congr a b r.owner e ∙ is_same_equiv.symm b r.owner) i || same_owners rs a b e i

among_owners : (rs : List RawRecord) (name : Name) → list_any (is_same name) (map (λ (r : RawRecord). r.owner) rs) ≡ list_any (λ r. is_same r.owner name) rs
among_owners [] name = refl
among_owners (r ∷ rs) name = λ i. is_same_equiv.symm name r.owner i || among_owners rs name i

-- at another name the records have no effect
module _ (rs : List RawRecord) (name : Name) (away : is_beside rs name ≡ true) where
  apart : (s : Record) → is_beside rs s.owner ≡ false → stands_at name s ≡ false
  apart s e = by (is_same s.owner name) refl
    where
      by : (b : Bool) → is_same s.owner name ≡ b → b ≡ false
      by true same = absurd (true≢false (sym away ∙ ap not (sym (same_owners rs s.owner name same)) ∙ e))
      by false same = refl

  stay : (zone after : List Record) → effects zone rs ≡ Some after → rrsets_of zone name ≡ rrsets_of after name
  stay zone after does =
      sym (kept_inside (stands_at name) (λ s. is_beside rs s.owner) apart zone)
      ∙ ap (filter (stands_at name)) (sym (beside_of zone after rs does))
      ∙ kept_inside (stands_at name) (λ s. is_beside rs s.owner) apart after

-- another serial changes the SOA alone
serial_first : (n : ℕ) (z : Record) (xs ys : List Record) (b c : Bool) → (z.rtype == type_SOA) ≡ b → other_than_soa xs ≡ other_than_soa ys → other_than_soa (cond c (record_at_serial n z ∷ xs) xs) ≡ other_than_soa (cond c (z ∷ ys) ys)
serial_first n z xs ys b false e more = more
serial_first n z xs ys true true e more = rw (e, e) more
serial_first n z xs ys false true e more = rw (e, e) (ap (λ l. z ∷ l) more)

stands_alike : (n : ℕ) (z : Record) (name : Name) → stands_at name (record_at_serial n z) ≡ stands_at name z
stands_alike n z name = by (z.rtype == type_SOA) refl
  where
    by : (b : Bool) → (z.rtype == type_SOA) ≡ b → stands_at name (record_at_serial n z) ≡ stands_at name z
    by true e = rw e refl
    by false e = rw e refl

serial_apart : (n : ℕ) (name : Name) (zs : List Record) → other_than_soa (rrsets_of (at_serial n zs) name) ≡ other_than_soa (rrsets_of zs name)
serial_apart n name [] = refl
serial_apart n name (z ∷ zs) =
    let xs = rrsets_of (at_serial n zs) name in
    ap (λ b. other_than_soa (cond b (record_at_serial n z ∷ xs) xs)) (stands_alike n z name)
    ∙ serial_first n z xs (rrsets_of zs name) (z.rtype == type_SOA) (stands_at name z) refl (serial_apart n name zs)

finished_apart : (zone after : List Record) (name : Name) → other_than_soa (rrsets_of (finished zone after) name) ≡ other_than_soa (rrsets_of after name)
finished_apart zone after name =
    by_test (λ (z : List Record). other_than_soa (rrsets_of z name) ≡ other_than_soa (rrsets_of after name)) (serial_less (zone_serial zone) (zone_serial after)) after (at_serial (serial_next (zone_serial zone)) after)
    (λ _. refl)
    (λ _. serial_apart (serial_next (zone_serial zone)) name after)

pub differ_only : (zone after next : List Record) (rs : List RawRecord) (owners : List Name) → owners ≡ map (λ (r : RawRecord). r.owner) rs → effects zone rs ≡ Some after → next ≡ finished zone after → DifferOnlyAt owners zone next
differ_only zone after next rs owners is does gives name out =
    let away : is_beside rs name ≡ true = ap not (sym (among_owners rs name) ∙ ap (list_any (is_same name)) (sym is) ∙ out) in
    ap other_than_soa (stay rs name away zone after does) ∙ sym (finished_apart zone after name) ∙ ap (λ z. other_than_soa (rrsets_of z name)) (sym gives)
