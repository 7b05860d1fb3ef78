-- What the holder of a key may do.
use Rattle.std.specs.Prelude.{ℕ, List, [], get_or}
use Rattle.rights.specs.declared.rule.Rule.{Rule}

-- the rules of the holder of a key, by the key's place; none where there are none of it
abbrev pub rules_of : List (List Rule) → ℕ → List Rule
rules_of rights key = get_or rights key []
