-- How a zone keeps octets (own).
use Rattle.std.specs.Prelude.{ℕ, List, take}
use Rattle.dns_name.specs.declared.kept.Place.{Place}
use Rattle.dns_name.specs.declared.kept.Place.TheVariants.{Here, Heap}

-- the octets at a place
abbrev pub octets_at : Place → List ℕ
octets_at (Here len octets) = take len octets
octets_at (Heap octets) = octets.items
