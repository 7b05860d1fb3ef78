use Rattle.std.proofs.Common.{◌≡◌, List, [], ◌∷◌, ◌++◌, sym, ap, ◌∙◌, append_assoc, rules}
use Rattle.std.proofs.lemmas.List.Elements.{All-push}
use Rattle.notify.specs.declared.large.Many.{Many}
use Rattle.notify.specs.Large.{IsLarge}
use Rattle.notify.proofs.large.large_in.Goals as goal

pub loop-set-preserved : goal.loop-set-preserved
loop-set-preserved c =
    let set = c.in-Some.set.now in
    let passed = c.loop-set.invariant.0 in
    let modest : (many : Many) → IsLarge c.args.zone.now set many → ⊥ = search rules in (
      passed ++ set ∷ [],
      c.loop-set.invariant.1 ∙ ap (λ l. passed ++ l) c.in-Some.ensures.steps ∙ sym (append_assoc passed (set ∷ []) c.next.new.self),
      All-push (λ set. (many : Many) → IsLarge c.args.zone.now set many → ⊥) passed set c.loop-set.invariant.2 modest,
    )
