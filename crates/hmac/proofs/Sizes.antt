-- How many octets digests and MACs have.
use Rattle.std.proofs.Common.{◌≡◌, ℕ, List, ◌++◌, length}
use Rattle.sha2.proofs.Facts256.{length-sha256}
use Rattle.sha2.proofs.Facts512.{length-sha384, length-sha512}
use Rattle.hmac.specs.Hmac.{Keyed, hash, mac_size, under_pad, ipad, opad, hmac_by}
use Rattle.hmac.specs.declared.algorithm.Algorithm.{Algorithm}
use Rattle.hmac.specs.declared.algorithm.Algorithm.TheVariants.{Sha256, Sha384, Sha512}

-- a digest has as many octets as a MAC
pub length-hash : (algorithm : Algorithm) (text : List ℕ) → length (hash algorithm text) ≡ mac_size algorithm
length-hash Sha256 text = length-sha256 text
length-hash Sha384 text = length-sha384 text
length-hash Sha512 text = length-sha512 text

-- a MAC has as many as its hash function's digest
pub length-hmac_by : (key : Keyed) (text : List ℕ) → length (hmac_by key text) ≡ mac_size key.algorithm
unfolding hmac_by
length-hmac_by key text = length-hash key.algorithm (under_pad opad key.block ++ hash key.algorithm (under_pad ipad key.block ++ text))
