-- They are those of the first key that is the same.
use Rattle.std.proofs.Common.{◌≡◌, [], find, Some, None, ap, sym, ◌∙◌, rules, Option}
use Rattle.std.specs.Option.{option_map_or}
use Rattle.dns_name.specs.Name.{is_same}
use Rattle.command_line.specs.declared.key_rules.KeyRules.{KeyRules}
use Rattle.dnsd.proofs.RightsLemmas.{rules_found}
use Rattle.dnsd.proofs.key_rights.rules_of.Goals as goal

pub returns-in-Some : goal.returns-in-Some
returns-in-Some c =
    let found : Some c.in-Some.own.now ≡ find (λ own. is_same own.key c.args.name.now) c.args.key_rules.now = search rules in
    c.as_slice.ensures.value ∙ sym (rules_found c.args.name.now c.args.key_rules.now ∙ ap (λ (o : Option KeyRules). option_map_or (λ (own : KeyRules). own.rules.items) o []) (sym found))

pub returns-in-None : goal.returns-in-None
returns-in-None c =
    let none : None ≡ find (λ own. is_same own.key c.args.name.now) c.args.key_rules.now = search rules in
    sym (rules_found c.args.name.now c.args.key_rules.now ∙ ap (λ (o : Option KeyRules). option_map_or (λ (own : KeyRules). own.rules.items) o []) (sym none))
