-- Keys, and which one a TSIG names (RFC 8945, 4.2, 5.2.1 and 6).
use Rattle.std.specs.Prelude.{ℕ, Bool, ◌&&◌, List, [], ◌∷◌, codes, position, slice_get, Option, option_map, option_and_then}
use Rattle.dns_name.specs.Name.{Name, is_same}
use Rattle.hmac.specs.Hmac.{Keyed}
use Rattle.hmac.specs.declared.algorithm.Algorithm.{Algorithm}
use Rattle.hmac.specs.declared.algorithm.Algorithm.TheVariants.{Sha256, Sha384, Sha512}

-- a key: its name, and its secret with its algorithm
pub record SharedKey : Type 0 where
  pub name : Name
  pub secret : Keyed

-- the name of an algorithm (RFC 8945, 6)
abbrev pub algorithm_name : Algorithm → Name
algorithm_name Sha256 = codes "hmac-sha256" ∷ []
algorithm_name Sha384 = codes "hmac-sha384" ∷ []
algorithm_name Sha512 = codes "hmac-sha512" ∷ []

-- whether a key has this name and this algorithm, each but for case (RFC 8945, 5.2.1)
abbrev pub is_named : Name → Name → SharedKey → Bool
is_named name algorithm key = is_same key.name name && is_same (algorithm_name key.secret.algorithm) algorithm

-- the index of the first key of this name and this algorithm; none where there is none
abbrev pub index_of : Name → Name → List SharedKey → Option ℕ
index_of name algorithm keys = position (is_named name algorithm) keys

-- the index of the first key of this name; none where there is none
abbrev pub index_named : Name → List SharedKey → Option ℕ
index_named name keys = position (λ key. is_same key.name name) keys

-- that key, behind its index
abbrev pub key_of : Name → Name → List SharedKey → Option (ℕ × SharedKey)
key_of name algorithm keys =
    option_and_then (λ index. option_map (λ key. (index, key)) (slice_get keys index)) (index_of name algorithm keys)
