-- Sets in place of others, as changes of a zone put them (own).
use Rattle.std.specs.Prelude.{◌≡◌, ℕ, List, [], ◌∷◌, ◌++◌, length, filter}
use Rattle.std.specs.List.{AllByRecursion}
use Rattle.std.specs.Ordering.{nat_cmp, ordering_then, is_lt, is_gt}
use Rattle.std.specs.declared.cmp.Ordering.{Ordering}
use Rattle.dns_name.specs.Name.{Name, canonical_cmp, fold_name}
use Rattle.dns_rdata.specs.Record.{Record, owner_of, rtype_of}
use Rattle.zone_tree.specs.Sets.{records_in, AreAscending}
use Rattle.zone_tree.specs.Filed.{Filed, Owned, AreFiled, records_under}

-- a list with others in place of what stands at one place: what comes before that place, the others, and what comes after it
abbrev pub put_at : {X : Type 0} → (X → Ordering) → List X → List X → List X
put_at beside others xs = filter (λ x. is_lt (beside x)) xs ++ others ++ filter (λ x. is_gt (beside x)) xs

-- where a set stands beside an owner and a type (RFC 4034, 6.1)
abbrev pub set_beside : Name → ℕ → List Record → Ordering
set_beside owner rtype set = ordering_then (canonical_cmp (owner_of set) owner) (nat_cmp (rtype_of set) rtype)

-- a set has an owner, in lower case, and a type
abbrev pub IsFor : Name → ℕ → List Record → Type 0
IsFor owner rtype set = (owner_of set ≡ fold_name owner) × (rtype_of set ≡ rtype)

-- where a record stands beside an owner (RFC 4034, 6.1)
abbrev pub owner_beside : Name → Record → Ordering
owner_beside owner r = canonical_cmp r.owner owner

-- a zone with other records in place of those of an owner, and of several owners one after the other
abbrev pub with_owner : Name → List Record → List Record → List Record
with_owner owner records zone = put_at (owner_beside owner) records zone

abbrev pub with_owners : List Record → List Owned → List Record
with_owners zone [] = zone
with_owners zone (own ∷ owns) = with_owners (with_owner own.0 (records_in own.1.items) zone) owns

-- sets are an owner's: in strictly ascending order, each with that owner in lower case
pub record AreOwn (owner : Name) (sets : List (List Record)) : Type 0 where
  pub rising : AreAscending sets
  pub own : AllByRecursion (λ set. owner_of set ≡ fold_name owner) sets

-- owners with their sets, which needn't be a zone, and how many records they have
pub record IsDraft (pairs : List Filed) (count : ℕ) : Type 0 where
  pub filed : AreFiled pairs
  pub counted : count ≡ length (records_under pairs)
