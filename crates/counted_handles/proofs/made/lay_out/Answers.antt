use Rattle.std.proofs.Common.{◌≡◌, refl, sym, subst, length, vec_len, arith}
use Rattle.cell_core.specs.Words.{slots}
use Rattle.raw_slots.specs.Chains.{AreAt}
use Rattle.counted_handles.proofs.MadeLemmas.{laid_of}
use Rattle.counted_handles.proofs.made.lay_out.Goals as goal

pub returns-in-Ok-lay_places : goal.returns-in-Ok-lay_places
returns-in-Ok-lay_places g c =
    let laid = c.in-Ok-lay_places.ensures.laid in
    let places = c.lay_places.new.spots in
    let rooms = c.lay_places.new.places.items in
    let is = laid_of c.args.first (record { number = 0; value = c.args.first }) c.in_ok-values.values.items places.items rooms c.in_ok-values.ensures refl laid.1 laid.2 laid.3 in
    let size : length rooms ≡ slots = is.size in
    let count : vec_len places ≡ slots = omega (arith, places.ok.0, laid.1.size, size) in
    (is, c.of-seen.ensures, subst (λ s. AreAt s rooms) (sym laid.0) laid.1, laid.0, count, c.of-version.ensures)
