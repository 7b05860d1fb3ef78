-- The entry in the place.
use Rattle.std.proofs.Common.{rules, ◌≤◌, length, ap, sym, ◌∙◌, Some}
use Rattle.std.specs.List.{slice_get}
use Rattle.std.proofs.lemmas.Option.{slice_get-get_or, slice_get_past}
use Rattle.weak_history.specs.History.{HistoryState}
use Rattle.weak_history.proofs.PlaceLemmas.{shown, placed_get}
use Rattle.weak_history.proofs.history.History.entry.Goals as goal

pub returns-in-Some-Some : goal.returns-in-Some-Some
returns-in-Some-Some g c =
    let looked = c.in-Some-Some.ensures.lookup in
    let found = slice_get-get_or c.deref.result.now c.args.at c.in-Some-Some.field-0.now looked.3.0 ∙ ap Some (sym looked.1 ∙ c.in-Some-Some.field-0-is) in
    ap shown (sym found ∙ ap (λ l. slice_get l c.args.at) c.deref.ensures.0)
    ∙ sym (placed_get c.self.inside.places.items c.args.at c.self.invariant.0)
    ∙ ap (λ (h : HistoryState _). slice_get h.entries c.args.at) c.self.view_is

pub returns-in-Some-None : goal.returns-in-Some-None
returns-in-Some-None g c =
    let looked = c.in-Some-None.ensures.lookup in
    let found = slice_get-get_or c.deref.result.now c.args.at c.in-Some-None.field-0.now looked.3.0 ∙ ap Some (sym looked.1 ∙ c.in-Some-None.field-0-is) in
    ap shown (sym found ∙ ap (λ l. slice_get l c.args.at) c.deref.ensures.0) ∙ sym (placed_get c.self.inside.places.items c.args.at c.self.invariant.0) ∙ ap (λ (h : HistoryState _). slice_get h.entries c.args.at) c.self.view_is

pub returns-in-None : goal.returns-in-None
returns-in-None g c =
    let past : length c.deref.result.now ≤ c.args.at = search rules in
    let found = slice_get_past c.deref.result.now c.args.at past in
    ap shown (sym found ∙ ap (λ l. slice_get l c.args.at) c.deref.ensures.0) ∙ sym (placed_get c.self.inside.places.items c.args.at c.self.invariant.0) ∙ ap (λ (h : HistoryState _). slice_get h.entries c.args.at) c.self.view_is
