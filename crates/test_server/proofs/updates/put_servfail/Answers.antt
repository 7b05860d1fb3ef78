-- SERVFAIL may be the result of an update in the version that was published last, and there is room for it.
use Rattle.std.proofs.Common.{rules, ◌≡◌, ◌++◌, ◌∷◌, ◌∙◌, List, [], ap, sym, subst, arith}
use Rattle.zone_server.specs.declared.update_result.QueuedResult.{QueuedResult}
use Rattle.zone_server.specs.UpdateResult.{AreResults}
use Rattle.test_server.proofs.updates.put_servfail.Goals as goal

pub put_results-requires : goal.put_results-requires
put_results-requires g c =
    let one : QueuedResult = record { done = c.servfail-done.result; reply_to = c.to_ticket-reply_to.result } in
    let items : c.push_reserved.new.self.items ≡ one ∷ [] = c.push_reserved.ensures.items ∙ ap (λ (rs : List QueuedResult). rs ++ one ∷ []) c.in-Ok.ensures.items in (
      search rules,
      (
        subst (λ (rs : List QueuedResult). AreResults g.Z.FirstZone.zone c.args.state.now.held.published rs) (sym items) (c.servfail-done.ensures, tt),
        omega (arith, c.in-Ok.ensures.len, c.in-Ok-with_capacity.ensures.len, c.in-Ok-with_capacity.ensures.capacity, c.push_reserved.ensures.len),
      ),
    )
