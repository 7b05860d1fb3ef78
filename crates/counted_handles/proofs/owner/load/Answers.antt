use Rattle.std.proofs.Common.{sym, ap, ◌∙◌, ◌+◌, Some}
use Rattle.std.specs.List.{slice_get}
use Rattle.counted_handles.specs.Ruled.{version_of}
use Rattle.counted_handles.proofs.owner.load.Goals as goal

pub keep-requires-clause-has : goal.keep-requires-clause-has
keep-requires-clause-has g c =
    let can = c.requires.can in
    let is = c.load_last-held.ensures.loaded can.0 can.1 in
    (is.mark, is.stake_is, is.held_is, is.slot_is, is.name_is ∙ can.2, is.within)

pub returns-clause-table : goal.returns-clause-table
returns-clause-table g c =
    let can = c.requires.can in
    let is = c.load_last-held.ensures.loaded can.0 can.1 in
    ap (λ o. o.table) (c.keep.ensures (version_of is.mark) is.held_is)

pub returns-clause-loaded : goal.returns-clause-loaded
returns-clause-loaded g c reading can =
    let is = c.load_last-held.ensures.loaded reading can in
    let same = sym (ap (λ o. o.version) (c.keep.ensures (version_of is.mark) is.held_is)) in
    record {
      published = is.published;
      begun = is.begun;
      history = is.history;
      last = is.last ∙ ap (λ v. v.number + 1) same;
      value_is = ap (λ v. slice_get is.published v.number) (sym same) ∙ is.value_is ∙ ap (λ v. Some v.value) same;
      views_are = is.views_are;
    }
