-- A rule is added at the place of its key, or with a key that had no place.
use Rattle.std.proofs.Common.{rules, ◌≡◌, ◌∷◌, [], refl, position, Some, None}
use Rattle.dns_name.specs.Name.{is_same}
use Rattle.command_line.proofs.KeyLemmas.{set_at, push_at}
use Rattle.command_line.proofs.key_rules.put.Goals as goal

pub returns-in_ok-push-in-Some : goal.returns-in_ok-push-in-Some
returns-in_ok-push-in-Some c =
    let at : position (λ own. is_same own.key c.args.key) c.args.signed.now.items ≡ Some c.in-Some.place = search rules in
    λ own. set_at own c.args.key c.args.signed.now.items c.in-Some.place c.index_mut.result.now (record { key = c.index_mut.result.now.key; rules = c.push.new.self }) c.args.rule at c.index_mut.ensures.value refl c.in_ok-push-in-Some.ensures.items

pub returns-in_ok-push-in-None-2 : goal.returns-in_ok-push-in-None-2
returns-in_ok-push-in-None-2 c =
    let none : position (λ own. is_same own.key c.args.key) c.args.signed.now.items ≡ None = search rules in
    let one : c.push-in-None.new.self.items ≡ c.args.rule ∷ [] = search rules in
    λ own. push_at own c.args.signed.now.items c.push-in-None-2.new.self.items (record { key = c.args.key; rules = c.push-in-None.new.self }) c.args.rule none one c.in_ok-push-in-None-2.ensures.items
