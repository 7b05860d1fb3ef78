-- What a MAC under way is of.
use Rattle.std.specs.Prelude.{◌≡◌, ℕ, ◌++◌, List}
use Rattle.hmac.specs.Hmac.{Keyed, under_pad, ipad, opad}
use Rattle.hmac.specs.Hashers.{algorithm_of, Holds}
use Rattle.hmac.specs.declared.key.Mac.{Mac}

-- a MAC under way is of this key, and of this text so far
unfoldable pub IsMac : Mac → Keyed → List ℕ → Type 0
IsMac mac key text =
    (algorithm_of mac.inner ≡ key.algorithm) × (algorithm_of mac.outer ≡ key.algorithm) × Holds mac.inner (under_pad ipad key.block ++ text)
    × Holds mac.outer (under_pad opad key.block)
