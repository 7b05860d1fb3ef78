use Rattle.std.proofs.Common.{◌≡◌, ◌<◌, List, All, Ok, sym, ap, ◌∙◌, subst, arith}
use Rattle.std.proofs.lemmas.Grind.{get_or_default_zero}
use Rattle.dns_rdata.specs.Record.{Record}
use Rattle.zone_tree.specs.Zone.{IsZone}
use Rattle.zone_tree.specs.Sets.{records_in, AreUnsplit}
use Rattle.master_file.specs.ZoneText.{zone_records}
use Rattle.master_file.specs.Records.{records_of}
use Rattle.master_file.proofs.IsZoneLemmas.{zone_is_read, read_is_zone, read_records}
use Rattle.master_file.proofs.FaultyLemmas.{none_left}
use Rattle.master_file.proofs.ReadableLemmas.{records_readable}
use Rattle.master_file.proofs.zone.zone_in.Goals as goal

pub returns-in-Ok-clause-zone : goal.returns-in-Ok-clause-zone
returns-in-Ok-clause-zone c =
    let read = records_of c.args.origin.now c.args.text.now in
    let kept = c.in_ok-records.ensures.records in
    let whole = none_left c.in_ok-records.fault read.fault c.in_ok-records.ensures.fault (sym c.is_some.ensures ∙ c.if-is_some.false) in
    let sets = rw c.in-Some.is at c.in_ok-sets.ensures.sets in
    let is : c.in-Ok.zone ≡ zone_records read.rrs = c.in-Ok.ensures.zone.0 ∙ sets ∙ ap zone_records kept in
    zone_is_read read whole (subst (λ (zone : List Record). IsZone zone) is c.in-Ok.ensures.zone.1) ∙ ap (λ (zone : List Record). Ok zone) (sym is)

pub returns-in-Err-Broken-clause-refused : goal.returns-in-Err-Broken-clause-refused
returns-in-Err-Broken-clause-refused c = λ zone e.
    let text = c.args.text.now in
    let read = records_of c.args.origin.now text in
    let kept = c.in_ok-records.ensures.records in
    let sets = rw c.in-Some.is at c.in_ok-sets.ensures.sets in
    let unsplit = rw c.in-Some.is at c.in_ok-sets.ensures.unsplit in
    let small : All (λ octet. octet < 256) text = λ k d within. omega (arith, c.type_inv.text k, get_or_default_zero text k d within) in
    let is = read_is_zone read zone (records_readable c.args.origin.now text c.wire-wire.ensures.lawful c.wire-wire.ensures.bytes small) e in
    let same = read_records read zone e ∙ ap zone_records (sym kept) ∙ sym sets in
    let reported : AreUnsplit c.in-Some.sets.items → IsZone (records_in c.in-Some.sets.items) → ⊥ = rw c.in-Err-Broken.field-0-is at c.in-Err-Broken.ensures.refused in
    reported unsplit (subst (λ (all : List Record). IsZone all) same is)
