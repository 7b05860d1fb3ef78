-- HMAC (RFC 2104, 2; FIPS 198-1, 4) over the hash functions of SHA-2 (FIPS 180-4).
use Rattle.std.specs.Prelude.{ℕ, ◌-◌, ◌++◌, List, length, map, replicate, nat_lt, bit_xor, if◌then◌else◌}
use Rattle.sha2.specs.Sha256.{sha256}
use Rattle.sha2.specs.Sha512.{sha384, sha512}
use Rattle.hmac.specs.declared.algorithm.Algorithm.{Algorithm}
use Rattle.hmac.specs.declared.algorithm.Algorithm.TheVariants.{Sha256, Sha384, Sha512}

-- the digest of a text (H)
abbrev pub hash : Algorithm → List ℕ → List ℕ
hash Sha256 text = sha256 text
hash Sha384 text = sha384 text
hash Sha512 text = sha512 text

-- how many octets a block has (B; FIPS 180-4, 1)
abbrev pub block_size : Algorithm → ℕ
block_size Sha256 = 64
block_size Sha384 = 128
block_size Sha512 = 128

-- how many octets a digest has, and so a MAC (L; FIPS 180-4, 1)
abbrev pub mac_size : Algorithm → ℕ
mac_size Sha256 = 32
mac_size Sha384 = 48
mac_size Sha512 = 64

-- octets, filled up to a block by zeros (RFC 2104, 2, step 1)
abbrev pub filled : Algorithm → List ℕ → List ℕ
filled algorithm octets = octets ++ replicate (block_size algorithm - length octets) 0

-- a secret as a block: its digest where it is longer than a block (RFC 2104, 2)
abbrev pub block_of : Algorithm → List ℕ → List ℕ
block_of algorithm secret = if nat_lt (block_size algorithm) (length secret) then filled algorithm (hash algorithm secret) else filled algorithm secret

-- octets, each of them under the exclusive or with a pad (RFC 2104, 2)
abbrev pub under_pad : ℕ → List ℕ → List ℕ
under_pad pad octets = map (λ octet. bit_xor octet pad) octets

-- ipad and opad (RFC 2104, 2)
abbrev pub ipad : ℕ
ipad = 0x36

abbrev pub opad : ℕ
opad = 0x5C

-- a key: its hash function, and its secret as a block (K)
pub record Keyed : Type 0 where
  pub algorithm : Algorithm
  pub block : List ℕ

-- the key of a secret
abbrev pub keyed : Algorithm → List ℕ → Keyed
keyed algorithm secret = record { algorithm = algorithm; block = block_of algorithm secret }

-- the MAC of a text under a key: H(K XOR opad, H(K XOR ipad, text)) (RFC 2104, 2)
unfoldable pub hmac_by : Keyed → List ℕ → List ℕ
hmac_by key text = hash key.algorithm (under_pad opad key.block ++ hash key.algorithm (under_pad ipad key.block ++ text))

-- the MAC of a text under a secret (RFC 2104, 2)
abbrev pub hmac_of : Algorithm → List ℕ → List ℕ → List ℕ
hmac_of algorithm secret text = hmac_by (keyed algorithm secret) text
