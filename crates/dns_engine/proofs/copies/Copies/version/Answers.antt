-- The version in the place.
use Rattle.std.proofs.Common.{rules, ◌≤◌, length, ap, sym, ◌∙◌, Some}
use Rattle.std.specs.List.{slice_get}
use Rattle.std.proofs.lemmas.Option.{slice_get-get_or, slice_get_past}
use Rattle.weak_history.proofs.PlaceLemmas.{shown, placed_get}
use Rattle.dns_engine.proofs.copies.Copies.version.Goals as goal

pub returns-in-Some-Some : goal.returns-in-Some-Some
returns-in-Some-Some c =
    let looked = c.in-Some-Some.ensures.lookup in
    let found = slice_get-get_or c.deref.result.now c.args.at c.in-Some-Some.field-0.now looked.3.0 ∙ ap Some (sym looked.1 ∙ c.in-Some-Some.field-0-is) in
    ap Some c.get-in-Some-Some.ensures
    ∙ ap shown (sym found ∙ ap (λ l. slice_get l c.args.at) c.deref.ensures.0)
    ∙ sym (placed_get c.self.inside.places.items c.args.at c.self.invariant)
    ∙ ap (λ l. slice_get l c.args.at) c.self.view_is

pub returns-in-Some-None : goal.returns-in-Some-None
returns-in-Some-None c =
    let looked = c.in-Some-None.ensures.lookup in
    let found = slice_get-get_or c.deref.result.now c.args.at c.in-Some-None.field-0.now looked.3.0 ∙ ap Some (sym looked.1 ∙ c.in-Some-None.field-0-is) in
    ap shown (sym found ∙ ap (λ l. slice_get l c.args.at) c.deref.ensures.0) ∙ sym (placed_get c.self.inside.places.items c.args.at c.self.invariant) ∙ ap (λ l. slice_get l c.args.at) c.self.view_is

pub returns-in-None : goal.returns-in-None
returns-in-None c =
    let past : length c.deref.result.now ≤ c.args.at = search rules in
    let found = slice_get_past c.deref.result.now c.args.at past in
    ap shown (sym found ∙ ap (λ l. slice_get l c.args.at) c.deref.ensures.0) ∙ sym (placed_get c.self.inside.places.items c.args.at c.self.invariant) ∙ ap (λ l. slice_get l c.args.at) c.self.view_is
