-- What is known of values that are published one after another (own).
use Rattle.std.specs.Prelude.{◌≡◌, ℕ, List, ◌++◌}

-- a list begins with another one
abbrev pub BeginsWith : {T : Type 0} → List T → List T → Type 0
BeginsWith {T} longer shorter = (more : List T) × (longer ≡ shorter ++ more)

-- a list ends with another one
abbrev pub EndsWith : {T : Type 0} → List T → List T → Type 0
EndsWith {T} longer shorter = (more : List T) × (longer ≡ more ++ shorter)

-- what is known of values that are published one after another and buried later: those that are published, the first one first, and the
-- numbers of those that are buried, the last known one first (own)
pub record Learned (T : Type 0) : Type 0 where
  pub published : List T
  pub buried : List ℕ

-- nothing that was known is forgotten (own)
pub record Grows {T : Type 0} (later before : Learned T) : Type 0 where
  pub published : BeginsWith later.published before.published
  pub buried : EndsWith later.buried before.buried
