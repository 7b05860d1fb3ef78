-- The sets of a version's changes are the sets of their records.
use Rattle.std.proofs.Common.{◌∷◌, sym, ap, ◌∙◌}
use Rattle.std.specs.Option.{option_copied}
use Rattle.zone_tree.specs.Zone.{soa_of}
use Rattle.transfer_core.specs.Places.{sets_of_part}
use Rattle.transfer_core.proofs.PlaceLemmas.{sets_are}
use Rattle.transfer_core.proofs.step.part_of.Goals as goal

pub returns-in-Old-Some : goal.returns-in-Old-Some
returns-in-Old-Some c =
    let changes = sym c.delta.ensures ∙ ap option_copied c.in-Old-Some.is-1 in
    let old = sym c.old_soa.ensures.set in
    let sets = sets_are c.deletions.result.now _ c.deletions.ensures.ascending c.deletions.ensures.records in
    (λ i. sets_of_part (c.in-Old-Some.is-0 i) (soa_of c.args.version.now.zone) (changes i)) ∙ (λ i. old i ∷ sets i)

pub returns-in-New-Some : goal.returns-in-New-Some
returns-in-New-Some c =
    let changes = sym c.delta.ensures ∙ ap option_copied c.in-New-Some.is-1 in
    let soa = sym (c.soa-soa.ensures.set ∙ ap soa_of c.zone.ensures) in
    let sets = sets_are c.additions.result.now _ c.additions.ensures.ascending c.additions.ensures.records in
    (λ i. sets_of_part (c.in-New-Some.is-0 i) (soa_of c.args.version.now.zone) (changes i)) ∙ (λ i. soa i ∷ sets i)
