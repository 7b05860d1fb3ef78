-- The part of a zone from an owner and a type on, in canonical order (RFC 4034, 6.1).
use Rattle.std.specs.Prelude.{◌≡◌, ℕ, Bool, true, List, filter}
use Rattle.std.specs.List.{AllPairs}
use Rattle.std.specs.Ordering.{nat_cmp, ordering_then, is_lt, is_le}
use Rattle.dns_name.specs.Name.{Name, canonical_cmp}
use Rattle.dns_rdata.specs.Record.{Record, rtype_of}

-- whether an owner and a type stand at a record's or before them (RFC 4034, 6.1)
abbrev pub is_upto : Name → ℕ → Record → Bool
is_upto owner rtype r = is_le (ordering_then (canonical_cmp owner r.owner) (nat_cmp rtype r.rtype))

-- the records of a zone from an owner and a type on
abbrev pub records_from : List Record → Name → ℕ → List Record
records_from zone owner rtype = filter (is_upto owner rtype) zone

-- sets whose types ascend, as those of one owner
abbrev pub DoTypesAscend : List (List Record) → Type 0
DoTypesAscend sets = AllPairs (λ set other. is_lt (nat_cmp (rtype_of set) (rtype_of other)) ≡ true) sets
