-- What a hasher is of.
use Rattle.std.specs.Prelude.{ℕ, List}
use Rattle.sha2.specs.Hashers.{Holds256, Holds384, Holds512}
use Rattle.hmac.specs.declared.algorithm.Algorithm.{Algorithm}
use Rattle.hmac.specs.declared.algorithm.Algorithm.TheVariants.{Sha256, Sha384, Sha512}
use Rattle.hmac.specs.declared.hasher.Hasher.{Hasher}
use Rattle.hmac.specs.declared.hasher.Hasher.TheVariants.{Of256, Of384, Of512}

-- a hasher's hash function
abbrev pub algorithm_of : Hasher → Algorithm
algorithm_of (Of256 hasher) = Sha256
algorithm_of (Of384 hasher) = Sha384
algorithm_of (Of512 hasher) = Sha512

-- a hasher has this text so far
abbrev pub Holds : Hasher → List ℕ → Type 0
Holds (Of256 hasher) text = Holds256 hasher text
Holds (Of384 hasher) text = Holds384 hasher text
Holds (Of512 hasher) text = Holds512 hasher text
