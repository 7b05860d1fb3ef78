-- Text in a page (HTML Living Standard, 13.1.4).
use Rattle.std.specs.Prelude.{ℕ, ◌==◌, List, [], ◌∷◌, codes, flat_map, if◌then◌else◌}

-- an octet of a text, so that it shows as it is
abbrev pub escaped_octet : ℕ → List ℕ
escaped_octet o =
    if o == 38 then codes "&amp;"
    else if o == 60 then codes "&lt;"
    else if o == 62 then codes "&gt;"
    else if o == 34 then codes "&quot;"
    else o ∷ []

-- a text
abbrev pub escaped : List ℕ → List ℕ
escaped octets = flat_map escaped_octet octets
