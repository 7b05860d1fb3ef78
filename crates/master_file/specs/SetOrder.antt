-- Records of a text in the order of their sets, and the sets put together from them (RFC 2181, 5 and 5.2).
use Rattle.std.specs.Prelude.{◌≡◌, Bool, true, ◌&&◌, ◌==◌, nat_lt, List, [], ◌∷◌, ◌++◌, map, length, if◌then◌else◌}
use Rattle.std.specs.List.{list_any}
use Rattle.std.specs.Cmp.{IsTotalOrder, IsEquivalence, eq_by_cmp_equiv}
use Rattle.std.specs.Ordering.{nat_cmp, ordering_then, eq_by_cmp}
use Rattle.std.specs.declared.cmp.Ordering.{Ordering}
use Rattle.std.proofs.lemmas.Cmp.{on_total, then_total, nat_cmp_total}
use Rattle.dns_rdata.specs.Limits.{max_set}
use Rattle.dns_name.specs.Name.{is_same, canonical_cmp}
use Rattle.dns_name.specs.Order.{canonical_total}
use Rattle.dns_rdata.specs.Record.{Record, owner_of, rtype_of, with_record}
use Rattle.master_file.specs.declared.record_entry.RecordEntry.{RecordEntry}
use Rattle.master_file.specs.ZoneText.{record_in, in_lower}

-- the order of records by owner and type, whatever their data and TTLs are (RFC 4034, 6.1)
abbrev pub set_order : RecordEntry → RecordEntry → Ordering
set_order rr other = ordering_then (canonical_cmp rr.owner other.owner) (nat_cmp rr.rdata.rtype other.rdata.rtype)

-- it is total
pub set_order_total : IsTotalOrder set_order
set_order_total = then_total (on_total (λ (rr : RecordEntry). rr.owner) canonical_total) (on_total (λ (rr : RecordEntry). rr.rdata.rtype) nat_cmp_total)

-- to be of one owner and type is an equivalence
pub set_order_equiv : IsEquivalence (eq_by_cmp set_order)
set_order_equiv = eq_by_cmp_equiv set_order_total

-- whether a set is of a record's owner and type
abbrev pub is_set_of : Record → List Record → Bool
is_set_of r set = is_same (owner_of set) r.owner && rtype_of set == r.rtype

-- a set with one more record of it, whose TTL it has from then on; equal records are one (RFC 2181, 5 and 5.2)
abbrev pub joined : List Record → Record → List Record
joined set r = map (λ (s : Record). record s { ttl = r.ttl }) (with_record r set)

-- sets with one more record: in the last one where that is of its owner and type, and else a set of its own after them
abbrev pub put_last : List (List Record) → Record → List (List Record)
put_last [] r = (r ∷ []) ∷ []
put_last (set ∷ []) r = if is_set_of r set then joined set r ∷ [] else set ∷ (r ∷ []) ∷ []
put_last (set ∷ next ∷ sets) r = set ∷ put_last (next ∷ sets) r

-- sets with the records of a text, put one after another
abbrev pub sets_with : List (List Record) → List RecordEntry → List (List Record)
sets_with sets [] = sets
sets_with sets (rr ∷ rest) = sets_with (put_last sets (in_lower (record_in rr))) rest

-- whether a set has more records than a set may have (own)
abbrev pub is_over : List Record → Bool
is_over set = nat_lt max_set (length set)

-- the first of the records, put one after another, make a set of too many
pub record HasOver (all : List RecordEntry) : Type 0 where
  pub done : List RecordEntry
  pub rest : List RecordEntry
  pub parts : all ≡ done ++ rest
  pub over : list_any is_over (sets_with [] done) ≡ true
