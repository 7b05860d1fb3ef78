-- Rules by the keys that they name (RFC 8945, 4.2).
use Rattle.std.specs.Prelude.{Bool, true, false, List, [], ◌∷◌, Option, Some, None, if◌then◌else◌}
use Rattle.dns_name.specs.Name.{Name, is_same}
use Rattle.command_line.specs.declared.key_rules.KeyRules.{KeyRules}
use Rattle.rights.specs.declared.rule.Rule.{Rule}

-- whether there is no key
abbrev pub is_no_key : Option Name → Bool
is_no_key None = true
is_no_key (Some own) = false

-- whether there is a key, and it is this one
abbrev pub is_key : Name → Option Name → Bool
is_key key None = false
is_key key (Some own) = is_same own key

-- whether a rule names no key
abbrev pub is_unsigned : Rule → Bool
is_unsigned rule = is_no_key rule.key

-- whether a rule names this key
abbrev pub names_key : Name → Rule → Bool
names_key key rule = is_key key rule.key

-- the rules of a key among rules by keys: those of the first that is the same; none where none is
abbrev pub rules_by : Name → List KeyRules → List Rule
rules_by key [] = []
rules_by key (own ∷ more) = if is_same own.key key then own.rules.items else rules_by key more
