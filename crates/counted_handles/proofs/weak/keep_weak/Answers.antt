use Rattle.std.proofs.Common.{sym, ap, ◌∙◌, [], ◌∷◌}
use Rattle.counted_handles.proofs.weak.keep_weak.Goals as goal

pub of-requires : goal.of-requires
of-requires g c = λ i. (c.requires.has.1 i).1

pub invariant_of-result : goal.invariant_of-result
invariant_of-result g c =
    let has = c.requires.has in
    record {
      tie = has.0;
      views_are = c.of.ensures.1 ∙ ap (λ m. m.0 ∷ []) has.1;
      version_is = has.4 ∙ sym c.of-version.ensures;
      number_is = ap (λ v. v.number) has.4;
      slot_is = has.2;
      name_is = has.3;
      table_is = c.of.ensures.0 ∙ c.requires.fits.0;
      within = c.requires.fits.1;
      spots_are = c.requires.spots;
    }
