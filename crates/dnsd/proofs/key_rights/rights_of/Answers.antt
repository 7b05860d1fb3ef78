-- One key more has its rules, and where there is none more all have.
use Rattle.std.proofs.Common.{rules, ◌≡◌, ℕ, List, [], ◌∷◌, ◌++◌, Some, None, map, take, slice_get, sym, ap, ◌∙◌, arith}
use Rattle.std.proofs.lemmas.List.{map-append}
use Rattle.command_line.specs.Keys.{rules_by}
use Rattle.rights.specs.declared.rule.Rule.{Rule}
use Rattle.signed_replies.specs.declared.key_ring.KeyRights.{KeyRights}
use Rattle.tsig.specs.Keys.{SharedKey}
use Rattle.dnsd.proofs.RightsLemmas.{rights_more, all_taken}
use Rattle.dnsd.proofs.key_rights.rights_of.Goals as goal
use Rattle.dnsd.proofs.key_rights.rights_of.Goals.{else-loop-index-test, then-loop-index-test+in_default}

pub loop-index-preserved : goal.loop-index-preserved
loop-index-preserved c =
    let rules_for : SharedKey → List Rule = λ key. rules_by key.name c.args.key_rules.now in
    let front : List (List Rule) = map rules_for (take c.loop-index.index c.args.keys.now) in
    let pushed : c.push.new.self.items ≡ c.loop-index.rights.items ++ record { rules = c.rules_of-rules.result } ∷ [] = search rules in
    let key : slice_get c.args.keys.now c.loop-index.index ≡ Some c.in-Some.key.now = search rules in
    let own : c.rules_of-rules.result.now ≡ rules_for c.in-Some.key.now = c.rules_of-rules.ensures ∙ ap (λ name. rules_by name c.args.key_rules.now) c.name.ensures.name in
    ap (map (λ (own : KeyRights). own.rules.now)) pushed
    ∙ (map-append (λ (own : KeyRights). own.rules.now) c.loop-index.rights.items (record { rules = c.rules_of-rules.result } ∷ [])
    ∙ (ap (λ (l : List (List Rule)). l ++ c.rules_of-rules.result.now ∷ []) c.loop-index.invariant
    ∙ (ap (λ (r : List Rule). front ++ r ∷ []) own ∙ sym (rights_more c.args.key_rules.now c.args.keys.now c.loop-index.index c.in-Some.key.now key))))

pub returns : goal.returns
returns c =
    let rules_for : SharedKey → List Rule = λ key. rules_by key.name c.args.key_rules.now in
    elim c.loop-index-test.branch [
      | else-loop-index-test w ↦ let all : c.loop-index.index ≡ 256 = omega (arith, w.loop-index-test.false, c.loop-index.auto.index-end) in
          c.loop-index.invariant ∙ ap (λ (n : ℕ). map rules_for (take n c.args.keys.now)) all
      | then-loop-index-test+in_default w ↦ let none : slice_get c.args.keys.now c.loop-index.index ≡ None = search rules in
          c.loop-index.invariant ∙ ap (map rules_for) (all_taken c.loop-index.index 256 c.args.keys.now (omega (arith, c.loop-index.auto.index-end)) none)
    ]
