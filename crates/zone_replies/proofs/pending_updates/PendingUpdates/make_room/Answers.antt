-- Each entry that is added is blank.
use Rattle.std.proofs.Common.{◌≡◌, ◌++◌, ℕ, suc, ◌+◌, List, [], ◌∷◌, Option, None, length, ap, ◌∙◌}
use Rattle.std.proofs.lemmas.List.{length_push}
use Rattle.zone_replies.specs.State.{PendingState}
use Rattle.zone_replies.proofs.PendingLemmas.{room_more}
use Rattle.zone_replies.proofs.pending_updates.PendingUpdates.make_room.Goals as goal

pub loop-entry-preserved : goal.loop-entry-preserved
loop-entry-preserved g c =
    let blank = c.loop-entry.invariant.0 in
    let pushed : c.push_reserved.new.self.items ≡ c.loop-entry.self-inside.entries.items ++ None ∷ [] = c.push_reserved.ensures.items ∙ ap (λ (l : List (Option PendingState)). l ++ None ∷ []) c.in-Ok.ensures.items in (
      (suc blank.0, room_more c.self.inside.entries.items c.loop-entry.self-inside.entries.items c.push_reserved.new.self.items blank.0 blank.1 pushed),
      ap length pushed ∙ length_push c.loop-entry.self-inside.entries.items None ∙ ap (λ (n : ℕ). n + 1) c.loop-entry.invariant.1,
    )
