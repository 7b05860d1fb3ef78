-- What a set with one more record has, and the order of records.
use Rattle.std.proofs.Common.{◌≡◌, ℕ, Bool, true, false, cond, ◌||◌, List, [], ◌∷◌, refl, sym, ap, ◌∙◌}
use Rattle.std.specs.Prelude.{bytes_eq}
use Rattle.std.specs.Cmp.{IsTotalOrder}
use Rattle.std.specs.Cmp.Lexicographic.{slice_cmp}
use Rattle.std.specs.Ordering.{nat_cmp, is_lt, is_eq}
use Rattle.std.specs.declared.cmp.Ordering.{Ordering}
use Rattle.std.specs.declared.cmp.Ordering.TheVariants.{Less, Equal, Greater}
use Rattle.std.proofs.lemmas.Cmp.{then_total, on_total, nat_cmp_total, nat_list_cmp_total}
use Rattle.std.proofs.lemmas.Map.Text.{is_eq-slice_cmp}
use Rattle.std.proofs.lemmas.Slice.Eq.{bytes_eq-Decides}
use Rattle.dns_name.specs.Order.{canonical_total}
use Rattle.dns_rdata.specs.Record.{Record, record_cmp, with_record, has_data}

-- which of two tests comes first makes no difference, nor does one that comes twice
or_swap : (a b c : Bool) → (a || (b || c)) ≡ (b || (a || c))
or_swap true true c = refl
or_swap true false c = refl
or_swap false true c = refl
or_swap false false c = refl

or_twice : (a c : Bool) → (a || c) ≡ (a || (a || c))
or_twice true c = refl
or_twice false c = refl

one_more-at : (r s : Record) (ss : List Record) (octets : List ℕ) (o : Ordering) → (o ≡ Equal → r.rdata ≡ s.rdata) → has_data (with_record r ss) octets ≡ (bytes_eq octets r.rdata || has_data ss octets) → has_data (cond (is_lt o) (r ∷ s ∷ ss) (cond (is_eq o) (s ∷ ss) (s ∷ with_record r ss))) octets ≡ (bytes_eq octets r.rdata || has_data (s ∷ ss) octets)
one_more-at r s ss octets Less equal rest = refl
one_more-at r s ss octets Equal equal rest = let same = equal refl in rw same (or_twice (bytes_eq octets s.rdata) (has_data ss octets))
one_more-at r s ss octets Greater equal rest = ap (λ (b : Bool). bytes_eq octets s.rdata || b) rest ∙ or_swap (bytes_eq octets s.rdata) (bytes_eq octets r.rdata) (has_data ss octets)

pub has_data-with_record : (r : Record) (rs : List Record) (octets : List ℕ) → has_data (with_record r rs) octets ≡ (bytes_eq octets r.rdata || has_data rs octets)
has_data-with_record r [] octets = refl
has_data-with_record r (s ∷ ss) octets =
    one_more-at r s ss octets (slice_cmp nat_cmp r.rdata s.rdata)
    (λ tied. (bytes_eq-Decides r.rdata s.rdata).0 (sym (is_eq-slice_cmp r.rdata s.rdata) ∙ ap is_eq tied))
    (has_data-with_record r ss octets)

-- the order of records is that of their parts in turn
pub record_cmp_total : IsTotalOrder record_cmp
record_cmp_total = then_total (on_total (λ (r : Record). r.owner) canonical_total) (then_total (on_total (λ (r : Record). r.rtype) nat_cmp_total) (on_total (λ (r : Record). r.rdata) nat_list_cmp_total))
