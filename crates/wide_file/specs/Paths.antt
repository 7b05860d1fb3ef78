-- Paths of files that a zone file includes (RFC 1035, 5.1).
use Rattle.std.specs.Prelude.{ℕ, ◌-◌, Bool, true, false, ◌&&◌, ◌||◌, ◌==◌, List, [], ◌∷◌, ◌++◌, length, take, if◌then◌else◌, Option, Some, None}

-- the octets of a path after its last slash; those after the last one so far are given
abbrev pub last_name : List ℕ → List ℕ → List ℕ
last_name name [] = name
last_name name (octet ∷ path) = last_name (if octet == 47 then path else name) path

-- the directory of a path, with the slash after it: nothing where it has no slash
abbrev pub directory : List ℕ → List ℕ
directory path = take (length path - length (last_name path path)) path

-- whether the first name of a path is `..`
abbrev pub is_parent : List ℕ → Bool
is_parent (a ∷ b ∷ []) = a == 46 && b == 46
is_parent (a ∷ b ∷ c ∷ path) = a == 46 && (b == 46 && c == 47)
is_parent path = false

-- whether `..` is among the names of a path; whether a name begins here
abbrev pub climbs : Bool → List ℕ → Bool
climbs begins [] = false
climbs begins (octet ∷ path) = (begins && is_parent (octet ∷ path)) || climbs (octet == 47) path

-- whether a path leads out of a directory, or is none: it has no octet, begins with a slash, or has `..` among its names (own)
abbrev pub leads_out : List ℕ → Bool
leads_out [] = true
leads_out (octet ∷ path) = octet == 47 || climbs true (octet ∷ path)

-- the path of the file that a file names, from the zone file's directory on: it is relative to the directory of the file that names it; none where it
-- leads out of that (own)
abbrev pub resolved : List ℕ → List ℕ → Option (List ℕ)
resolved file path = if leads_out path then None else Some (directory file ++ path)
