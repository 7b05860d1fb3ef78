use Rattle.std.proofs.Common.{◌≡◌, false, [], sym, ap, refl, ◌∙◌, rules}
use Rattle.dns_rdata.specs.Raw.{RawRecord}
use Rattle.update_core.specs.Act.{is_apex_set}
use Rattle.update_core.proofs.RowEffects.{set_kept}
use Rattle.update_core.proofs.NoEffects.{set_absent}
use Rattle.update_core.proofs.OneSetRows.{nothing_from, set_row}
use Rattle.update_core.proofs.deletions.row_of_set.Goals as goal

pub returns-then-is_apex_set : goal.returns-then-is_apex_set
returns-then-is_apex_set c =
    let zone = c.args.zone.now.made in
    let view = ap (λ (r : RawRecord). is_apex_set zone r.owner r.rtype) c.raw.view_is in
    nothing_from zone c.args.raw.now c.requires.lawful (set_kept zone c.args.raw.now c.requires.lawful c.requires.class c.requires.rtype (sym view ∙ sym c.is_apex_set.ensures ∙ c.if-is_apex_set.true) [] refl)

pub returns-then-not-has_set : goal.returns-then-not-has_set
returns-then-not-has_set c =
    let zone = c.args.zone.now.made in
    let view = ap (λ (r : RawRecord). is_apex_set zone r.owner r.rtype) c.raw.view_is in
    let lacks : c.has_set.result ≡ false = search rules in
    nothing_from zone c.args.raw.now c.requires.lawful
    (set_absent zone c.args.raw.now c.requires.lawful c.requires.class c.requires.rtype (sym view ∙ sym c.is_apex_set.ensures ∙ c.if-is_apex_set.false) (sym c.has_set.ensures ∙ lacks) [] refl)

pub returns : goal.returns
returns c =
    let zone = c.args.zone.now.made in
    let view = ap (λ (r : RawRecord). is_apex_set zone r.owner r.rtype) c.raw.view_is in
    set_row zone c.args.raw.now c.requires.lawful c.requires.class c.requires.rtype (sym view ∙ sym c.is_apex_set.ensures ∙ c.if-is_apex_set.false)
