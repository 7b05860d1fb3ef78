-- What a record's data is: which octets have the form of their type, with names written in full (RFC 1035, 3.3 and
-- 3.4.1; RFC 2782; RFC 3596, 2.2; RFC 3597, 3), and what stands in them.
use Rattle.std.specs.Prelude.{◌≡◌, ℕ, zero, suc, ◌*◌, ◌-◌, ◌<◌, ◌≤◌, Bool, true, false, ◌&&◌, ◌==◌, List, [], ◌∷◌, ◌++◌, length, take, drop, nat_lt, nat_le, if◌then◌else◌, Option, Some, None, All}
use Rattle.std.specs.Option.{option_map, option_and_then}
use Rattle.std.specs.Int.{from_be_bytes, to_be_bytes, w32}
use Rattle.dns_rdata.specs.Limits.{max_data}
use Rattle.dns_name.specs.Name.{Name, wire_of, fold_name, name_in}
use Rattle.dns_rdata.specs.declared.layout.Layout.{Layout}
use Rattle.dns_rdata.specs.declared.layout.Layout.TheVariants.{Fields, Strings, Opaque}
use Rattle.dns_rdata.specs.Layout.{layout_of}

-- so many names in full and after them so many octets: the same octets with the names in lower case; none of any others
abbrev pub names_then : ℕ → ℕ → List ℕ → Option (List ℕ)
names_then zero back octets = if length octets == back then Some octets else None
names_then (suc names) back octets =
    option_and_then (λ name. option_map (λ rest. wire_of (fold_name name) ++ rest) (names_then names back (drop (length (wire_of name)) octets))) (name_in octets)

-- so many octets in front, so many names, so many octets after
abbrev pub parts : ℕ → ℕ → ℕ → List ℕ → Option (List ℕ)
parts front names back octets =
    if nat_le front (length octets) then option_map (λ rest. take front octets ++ rest) (names_then names back (drop front octets)) else None

-- whether octets are strings: nothing, or a length octet, so many octets, and strings after. Each string takes an octet or
-- more, so there are no more of them than octets: that many steps are enough (RFC 1035, 3.3)
abbrev pub are_strings_by : ℕ → List ℕ → Bool
are_strings_by steps [] = true
are_strings_by zero (n ∷ octets) = false
are_strings_by (suc steps) (n ∷ octets) = nat_le n (length octets) && are_strings_by steps (drop n octets)

abbrev pub are_strings : List ℕ → Bool
are_strings octets = are_strings_by (length octets) octets

-- a string on the wire: a length octet, and so many octets (RFC 1035, 3.3)
abbrev pub counted : List ℕ → List ℕ
counted string = length string ∷ string

-- the octets that lie by a layout: themselves, with the names in them in lower case; none where they don't lie so
-- (RFC 1035, 3.3; RFC 4034, 6.2)
abbrev pub data_by : Layout → List ℕ → Option (List ℕ)
data_by (Fields front names back compressed) octets = parts front names back octets
data_by Strings octets = if nat_lt 0 (length octets) && are_strings octets then Some octets else None
data_by Opaque octets = Some octets

-- the data octets of a type that these octets spell; none where they haven't the type's form, or no record of a zone has
-- the type (RFC 1035, 3.3 and 3.4.1; RFC 2782; RFC 3596, 2.2; RFC 3597, 3)
unfoldable pub data_of : ℕ → List ℕ → Option (List ℕ)
data_of rtype octets = option_and_then (λ layout. data_by layout octets) (layout_of rtype)

-- a record's data as contracts see it: its type's number and its octets
pub record Data : Type 0 where
  pub rtype : ℕ
  pub octets : List ℕ

-- what a record's data keeps: the form of its type, names in lower case, and at most 4,096 octets (RFC 1035, 3.3; own)
pub record IsData (d : Data) : Type 0 where
  pub form : data_of d.rtype d.octets ≡ Some d.octets
  pub short : length d.octets ≤ max_data
  pub bytes : All (λ octet. octet < 256) d.octets

-- the name that an alias stands for (RFC 1035, 3.3.1)
abbrev pub target_of : List ℕ → Option Name
target_of octets = name_in octets

-- the octets after so many names; nothing where they don't stand there
abbrev pub behind_names : ℕ → List ℕ → List ℕ
behind_names zero octets = octets
behind_names (suc names) octets =
    elim (name_in octets) [ None ↦ [] | Some name ↦ behind_names names (drop (length (wire_of name)) octets) ]

-- of the five numbers of four octets after an SOA's two names, the one that so many stand before (RFC 1035, 3.3.13)
abbrev pub soa_number : ℕ → List ℕ → ℕ
soa_number before octets = from_be_bytes w32 (take 4 (drop (4 * before) (behind_names 2 octets)))

abbrev pub serial_of : List ℕ → ℕ
serial_of octets = soa_number 0 octets

abbrev pub refresh_of : List ℕ → ℕ
refresh_of octets = soa_number 1 octets

abbrev pub retry_of : List ℕ → ℕ
retry_of octets = soa_number 2 octets

abbrev pub expire_of : List ℕ → ℕ
expire_of octets = soa_number 3 octets

abbrev pub minimum_of : List ℕ → ℕ
minimum_of octets = soa_number 4 octets

-- an SOA's data with another serial: the first of the five numbers of four octets that end it (RFC 1035, 3.3.13)
abbrev pub with_serial : ℕ → List ℕ → List ℕ
with_serial serial octets = take (length octets - 20) octets ++ to_be_bytes w32 serial ++ drop (length octets - 16) octets
