-- Each version is made of the one published before it.
use Rattle.std.proofs.Common.{rules, ◌≡◌, ◌<◌, ◌+◌, List, ◌∷◌, length, sym, ap, ◌∙◌, subst, length-append, arith}
use native.Mathlib.Numerals.{unary_clauses}
use Rattle.std.specs.Vec.Iter.{into_iter_items}
use Rattle.zone_tree.specs.Version.{Version}
use Rattle.update_batches.specs.declared.version_update.VersionUpdate.{VersionUpdate}
use Rattle.update_batches.specs.Engine.{AreMade}
use Rattle.update_batches.specs.Batch.{versions_in}
use Rattle.update_batches.specs.UpdateRequest.{makes}
use Rattle.zone_server.proofs.server_state.ServerState.publish_all.Goals as goal

pub publish-requires : goal.publish-requires
publish-requires g c =
    let is = c.loop-update.invariant in
    let first = is.made.0 in
    let steps : into_iter_items c.loop-update.update-iterator ≡ c.in-Some.update ∷ into_iter_items c.next.new.self = c.in-Some.ensures.steps.0 in
    let made = subst (λ (us : List VersionUpdate). AreMade first (versions_in us)) steps is.made.2 in
    let all : length c.loop-update.yielded + length (into_iter_items c.loop-update.update-iterator) ≡ length c.args.updates.items = sym (length-append c.loop-update.yielded (into_iter_items c.loop-update.update-iterator)) ∙ ap length is.left in
    let left : length (into_iter_items c.loop-update.update-iterator) ≡ length (into_iter_items c.next.new.self) + 1 = simp unary_clauses (ap length steps) in
    let room : 0 < c.loop-update.right.reserved.amount = omega (arith, all, left, is.reserved, c.requires.room) in
    (search rules, (room, (first, made.0.0, is.made.1, subst (λ (v : Version). makes first made.0.0 v) (sym c.into_version.ensures) made.0.1)))
