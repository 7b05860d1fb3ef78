-- Families of addresses.
use Rattle.std.specs.Prelude.{ℕ, List, [], ◌∷◌, codes}
use Rattle.counters.specs.declared.address_family.AddressFamily.{AddressFamily}
use Rattle.counters.specs.declared.address_family.AddressFamily.TheVariants.{V4, V6}

-- all, in the order of their places
abbrev pub all_address_families : List AddressFamily
all_address_families = V4 ∷ (V6 ∷ [])

-- the place of each
abbrev pub address_family_index : AddressFamily → ℕ
address_family_index V4 = 0
address_family_index V6 = 1

-- the word of each in a label
abbrev pub address_family_word : AddressFamily → List ℕ
address_family_word V4 = codes "4"
address_family_word V6 = codes "6"
