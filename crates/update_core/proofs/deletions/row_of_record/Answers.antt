use Rattle.std.proofs.Common.{◌≡◌, false, [], sym, ap, refl, ◌∙◌, rules}
use Rattle.dns_rdata.specs.Raw.{RawRecord}
use Rattle.update_core.specs.Act.{is_last_apex_record}
use Rattle.update_core.proofs.RowEffects.{record_kept}
use Rattle.update_core.proofs.NoEffects.{record_missing}
use Rattle.update_core.proofs.OneSetRows.{nothing_from, record_row}
use Rattle.update_core.proofs.deletions.row_of_record.Goals as goal

pub returns-then-is_last_apex_record : goal.returns-then-is_last_apex_record
returns-then-is_last_apex_record c =
    let zone = c.args.zone.now.made in
    let view = ap (λ (r : RawRecord). is_last_apex_record zone r.owner r.rtype) c.raw.view_is in
    nothing_from zone c.args.raw.now c.requires.lawful (record_kept zone c.args.raw.now c.requires.lawful c.requires.class (sym view ∙ sym c.is_last_apex_record.ensures ∙ c.if-is_last_apex_record.true) [] refl)

pub returns-then-not-has_record : goal.returns-then-not-has_record
returns-then-not-has_record c =
    let zone = c.args.zone.now.made in
    let lacks : c.has_record.result ≡ false = search rules in
    nothing_from zone c.args.raw.now c.requires.lawful (record_missing zone c.args.raw.now c.requires.lawful c.requires.class (sym c.has_record.ensures ∙ lacks) [] refl)

pub returns : goal.returns
returns c =
    let zone = c.args.zone.now.made in
    let view = ap (λ (r : RawRecord). is_last_apex_record zone r.owner r.rtype) c.raw.view_is in
    record_row zone c.args.raw.now c.requires.lawful c.requires.class (sym view ∙ sym c.is_last_apex_record.ensures ∙ c.if-is_last_apex_record.false)
