-- What of a zone BIND takes as a secondary only where it is configured so (`max-records-per-type`, `max-types-per-name`).
use Rattle.std.specs.Prelude.{◌≡◌, ℕ, ◌<◌, ◌≤◌, List, Option, Some, None, length, All, Contains}
use Rattle.dns_name.specs.Name.{Name}
use Rattle.dns_rdata.specs.Record.{Record, owner_of, rtype_of}
use Rattle.zone_tree.specs.Zone.{rrset_of, rrsets_of}
use Rattle.zone_tree.specs.Sets.{sets_in}
use Rattle.notify.specs.declared.large.Many.{Many}
use Rattle.notify.specs.declared.large.Many.TheVariants.{Records, Types}
use Rattle.notify.specs.declared.large.Large.{Large}

-- how many records of a set, and how many types of an owner, it takes where nothing else is configured
abbrev pub most : ℕ
most = 100

-- the set of an owner and a type has more records; an owner has more types
abbrev pub HasMany : List Record → Name → ℕ → Many → Type 0
HasMany zone owner rtype Records = most < length (rrset_of zone owner rtype)
HasMany zone owner rtype Types = most < length (sets_in (rrsets_of zone owner))

-- a zone has more of it, and the one before hadn't
abbrev pub HasPassed : List Record → List Record → Name → ℕ → Many → Type 0
HasPassed before after owner rtype many = HasMany after owner rtype many × (HasMany before owner rtype many → ⊥)

-- what is told of a set of an owner and a type: none of these is so, or this one
abbrev pub IsTold : (Many → Type 0) → Option Many → Type 0
IsTold Is None = (many : Many) → Is many → ⊥
IsTold Is (Some many) = Is many

-- what is told of a zone, set by set: of none of them such a thing is so; or of one of this owner it is
abbrev pub IsFound : List (List Record) → (List Record → Many → Type 0) → Option Large → Type 0
IsFound sets Is None = All (λ set. (many : Many) → Is set many → ⊥) sets
IsFound sets Is (Some large) = (set : List Record) × Contains sets set × (large.owner ≡ owner_of set) × Is set large.many

-- a set, or its owner, has more than a secondary by BIND takes. Of an owner the sets of types up to 99 aren't asked: types have distinct
-- numbers, so that more than 100 of them have one of 100 at least
abbrev pub IsLarge : List Record → List Record → Many → Type 0
IsLarge zone set Records = HasMany zone (owner_of set) (rtype_of set) Records
IsLarge zone set Types = (most ≤ rtype_of set) × HasMany zone (owner_of set) (rtype_of set) Types
