use Rattle.std.proofs.Common.{◌<◌, [], length, sym, refl, ◌∙◌, rules}
use Rattle.update_core.proofs.RowEffects.{effect_beside, effect_lesser, addition_too_long}
use Rattle.update_core.proofs.NoEffects.{stands_of}
use Rattle.update_core.proofs.OneSetRows.{nothing_from, addition_row}
use Rattle.update_core.proofs.additions.row_of_addition.Goals as goal

pub returns-then-is_beside_alias-clause-row : goal.returns-then-is_beside_alias-clause-row
returns-then-is_beside_alias-clause-row c = effect_beside c.args.zone.now.made c.args.raw.now c.requires.class (sym c.is_beside_alias.ensures ∙ c.if-is_beside_alias.true)

pub returns-in_err-rdata-clause-limit : goal.returns-in_err-rdata-clause-limit
returns-in_err-rdata-clause-limit c = λ fault.
    let long : 4096 < length c.args.raw.now.octets = search rules in
    addition_too_long c.args.zone.now.made c.args.raw.now c.requires.lawful.rules c.requires.passed c.requires.class (sym c.is_beside_alias.ensures ∙ c.if-is_beside_alias.false) long

pub returns-then-is_lesser_soa-clause-row : goal.returns-then-is_lesser_soa-clause-row
returns-then-is_lesser_soa-clause-row c =
    effect_lesser c.args.zone.now.made c.args.raw.now c.requires.class (sym c.is_beside_alias.ensures ∙ c.if-is_beside_alias.false) (sym c.is_lesser_soa.ensures ∙ c.if-is_lesser_soa.true)

pub returns-then-is_present-clause-row : goal.returns-then-is_present-clause-row
returns-then-is_present-clause-row c =
    nothing_from c.args.zone.now.made c.args.raw.now c.requires.lawful
    (stands_of c.args.zone.now.made c.args.raw.now c.requires.lawful c.requires.class (sym c.is_beside_alias.ensures ∙ c.if-is_beside_alias.false) (sym c.is_lesser_soa.ensures ∙ c.if-is_lesser_soa.false)
    c.in_ok-rdata.ensures.short c.if-is_present.ensures.some c.if-is_present.ensures.same c.if-is_present.ensures.few [] refl)

pub returns-clause-row : goal.returns-clause-row
returns-clause-row c =
    addition_row c.args.zone.now.made c.args.raw.now c.requires.lawful c.data_in_zone.ensures.sent c.requires.passed c.requires.class (sym c.is_beside_alias.ensures ∙ c.if-is_beside_alias.false) (sym c.is_lesser_soa.ensures ∙ c.if-is_lesser_soa.false)
    c.in_ok-rdata.ensures.short c.in_ok-rdata.rdata c.in_ok-rdata.ensures.data.0 c.in_ok-rdata.ensures.data.1
