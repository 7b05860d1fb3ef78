-- What the holders of keys may do, by the rules that name their keys.
use Rattle.std.specs.Prelude.{List, map, take}
use Rattle.command_line.specs.Keys.{rules_by}
use Rattle.command_line.specs.declared.key_rules.KeyRules.{KeyRules}
use Rattle.rights.specs.declared.rule.Rule.{Rule}
use Rattle.tsig.specs.Keys.{SharedKey}

-- the rules that name each of a server's keys, in the order of the keys, of which it has at most 256 (own)
abbrev pub rights_of : List KeyRules → List SharedKey → List (List Rule)
rights_of all keys = map (λ key. rules_by key.name all) (take 256 keys)
