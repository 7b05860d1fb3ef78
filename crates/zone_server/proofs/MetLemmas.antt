-- What a reader has met.
use Rattle.std.proofs.Common.{◌≡◌, List, ap, ◌∙◌}
use Rattle.zone_tree.specs.Version.{Version}
use Rattle.snapshot_cell.specs.Tokens.{ReaderState}

-- a reader that meets what is published, and then what is published after it
pub met_twice : (old met new : ReaderState Version) (one two three : List Version) → met ≡ record { cell = old.cell; seen = one; left = old.left; gone = old.gone } → new ≡ record { cell = met.cell; seen = two; left = met.left; gone = met.gone }
    → two ≡ three → new ≡ record { cell = old.cell; seen = three; left = old.left; gone = old.gone }
met_twice old met new one two three is again same =
    let shows : ReaderState Version → ReaderState Version = λ r. record { cell = r.cell; seen = two; left = r.left; gone = r.gone } in
    let sees : List Version → ReaderState Version = λ l. record { cell = old.cell; seen = l; left = old.left; gone = old.gone } in again ∙ (ap shows is ∙ ap sees same)
