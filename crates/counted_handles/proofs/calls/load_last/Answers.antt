use Rattle.std.proofs.Common.{◌∙◌, subst, ◌<◌}
use Rattle.cell_core.specs.Words.{slots}
use Rattle.counted_handles.proofs.calls.load_last.Goals as goal

pub hold-requires-clause-has : goal.hold-requires-clause-has
hold-requires-clause-has g c =
    let can = c.requires.can in
    let drawn = c.draw-found.ensures.drawn can.0 can.1 in
    (drawn.mark, drawn.share_is, drawn.last.slot, drawn.last.name_is ∙ can.2, subst (λ k. k < slots) drawn.last.slot drawn.last.within)

pub returns-clause-loaded : goal.returns-clause-loaded
returns-clause-loaded g c reading can =
    let drawn = c.draw-found.ensures.drawn reading can in
    let held = c.hold.ensures.held drawn.mark drawn.share_is in
    record {
      published = drawn.published;
      mark = drawn.mark;
      begun = drawn.begun;
      history = drawn.last.history;
      last = drawn.last.last;
      value_is = drawn.last.value;
      views_are = drawn.views_are;
      stake_is = held.0;
      held_is = held.1;
      slot_is = drawn.last.slot;
      within = subst (λ k. k < slots) drawn.last.slot drawn.last.within;
      name_is = drawn.last.name_is;
    }
