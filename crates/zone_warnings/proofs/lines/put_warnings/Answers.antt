use Rattle.std.proofs.Common.{◌≡◌, ◌++◌, List, ℕ, string_bytes, sym, ap, ◌∙◌}
use Rattle.zone_warnings.specs.Warnings.{line_shown}
use Rattle.zone_warnings.specs.declared.shown.Warning.TheVariants.{NoAddress, NoGlue, Alias, NameTwice, OwnerTwice, OtherTtl}
use Rattle.zone_warnings.proofs.LineLemmas.{six_parts}
use Rattle.zone_warnings.proofs.lines.put_warnings.Goals as goal

pub returns : goal.returns
returns c =
    let line = line_shown c.args.zone.now c.args.rr.now in
    c.in_ok-put_shown-6.ensures
    ∙ ap (λ (os : List ℕ). os ++ line OtherTtl) (c.in_ok-put_shown-5.ensures
    ∙ ap (λ (os : List ℕ). os ++ line OwnerTwice) (c.in_ok-put_shown-4.ensures
    ∙ ap (λ (os : List ℕ). os ++ line NameTwice) (c.in_ok-put_shown-3.ensures
    ∙ ap (λ (os : List ℕ). os ++ line Alias) (c.in_ok-put_shown-2.ensures
    ∙ ap (λ (os : List ℕ). os ++ line NoGlue) c.in_ok-put_shown.ensures))))
    ∙ six_parts (string_bytes c.args.lines.now) (line NoAddress) (line NoGlue) (line Alias) (line NameTwice) (line OwnerTwice) (line OtherTtl)
