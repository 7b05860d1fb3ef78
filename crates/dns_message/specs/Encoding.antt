-- How the parts of a message are written one after another, with pointers to names before them (RFC 1035, 4.1.4).
use Rattle.std.specs.Prelude.{ℕ, ◌+◌, Bool, List, [], ◌∷◌, ◌++◌, length}
use Rattle.std.specs.Int.{to_be_bytes, w16}
use Rattle.dns_name.specs.Name.{Name}
use Rattle.wire_names.specs.Table.{Table}
use Rattle.wire_names.specs.Written.{written, table_after}

-- how something is written at a position of a message that has this table of names: its octets, and the table after it
abbrev pub Encoding : Type 0
Encoding = Table → ℕ → List ℕ × Table

-- octets as they are
unfoldable pub these : List ℕ → Encoding
these octets table at = (octets, table)

-- a name, with pointers (RFC 1035, 4.1.4) or in full (RFC 2782)
unfoldable pub named : Bool → Name → Encoding
named compress name table at = (written compress table name, table_after compress table at name)

-- one thing, and another after it
unfoldable pub before : Encoding → Encoding → Encoding
before p q table at =
    let front = p table at in
    let back = q front.1 (at + length front.0) in
    (front.0 ++ back.0, back.1)

-- something after the number of its octets as they are written, of 16 bits (RFC 1035, 4.1.3)
unfoldable pub measured : Encoding → Encoding
measured p table at = let rest = p table (at + 2) in (to_be_bytes w16 (length rest.0) ++ rest.0, rest.1)

-- one after another
unfoldable pub each : {A : Type 0} → (A → Encoding) → List A → Encoding
each put [] = these []
each put (x ∷ xs) = before (put x) (each put xs)
