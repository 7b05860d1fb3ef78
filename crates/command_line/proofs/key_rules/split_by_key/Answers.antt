-- One more rule, which names a key.
use Rattle.std.proofs.Common.{rules, ◌≡◌, ◌∙◌, ◌++◌, ◌∷◌, [], ap, sym, Some, append_assoc, List}
use Rattle.std.specs.Vec.Iter.{into_iter_items}
use Rattle.rights.specs.declared.rule.Rule.{Rule}
use Rattle.dns_name.specs.Name.{is_same}
use Rattle.command_line.proofs.KeyLemmas.{put_by, unsigned_same, signed_more}
use Rattle.command_line.proofs.key_rules.split_by_key.Goals as goal

pub loop-rule-preserved : goal.loop-rule-preserved
loop-rule-preserved c =
    let named : Some c.in-Some-key_of.key ≡ c.in-Some.rule.key = search rules in record {
      left = append_assoc c.loop-rule.yielded (c.in-Some.rule ∷ []) (into_iter_items c.next.new.self) ∙ ap (λ rest. c.loop-rule.yielded ++ rest) (sym c.in-Some.ensures.steps.0) ∙ c.loop-rule.invariant.left;
      unsigned = c.loop-rule.invariant.unsigned ∙ sym (unsigned_same c.loop-rule.yielded c.in-Some.rule c.in-Some-key_of.key named);
      signed = λ key. c.in_ok-put-in-Some-key_of.ensures key ∙ ap (λ (own : List Rule). own ++ put_by (is_same c.in-Some-key_of.key key) c.in-Some.rule) (c.loop-rule.invariant.signed key) ∙ sym (signed_more key c.loop-rule.yielded c.in-Some.rule c.in-Some-key_of.key named);
    }
