-- A small zone, for worked examples.
use Rattle.std.specs.Prelude.{ℕ, List, [], ◌∷◌, codes}
use Rattle.dns_name.specs.Name.{Name}
use Rattle.dns_rdata.specs.Numbers.{type_A, type_NS, type_SOA, type_TXT}
use Rattle.dns_rdata.specs.Record.{Record}

-- `example`, and names below it
abbrev pub example : Name
example = codes "example" ∷ []

abbrev pub in_example : List ℕ → Name
in_example label = label ∷ example

-- a record that lasts an hour
abbrev pub hour_record : Name → ℕ → List ℕ → Record
hour_record owner rtype octets = record { owner = owner; rtype = rtype; ttl = 3600; rdata = octets }

-- an SOA and an NS at `example`, a text at `*.example`, and an address at `a.b.example`
abbrev pub small_zone : List Record
small_zone =
    hour_record example type_NS (2 ∷ 110 ∷ 115 ∷ 0 ∷ []) ∷
    hour_record example type_SOA (0 ∷ 0 ∷ 0 ∷ 0 ∷ 0 ∷ 1 ∷ 0 ∷ 0 ∷ 0 ∷ 1 ∷ 0 ∷ 0 ∷ 0 ∷ 1 ∷ 0 ∷ 0 ∷ 0 ∷ 1 ∷ 0 ∷ 0 ∷ 0 ∷ 1 ∷ []) ∷
    hour_record (in_example (codes "*")) type_TXT (2 ∷ 104 ∷ 105 ∷ []) ∷
    hour_record (codes "a" ∷ in_example (codes "b")) type_A (192 ∷ 0 ∷ 2 ∷ 1 ∷ []) ∷ []
