use Rattle.std.proofs.Common.{◌≢◌, ◌≤◌, [], length, sym, subst, ap, ◌∙◌, true≢false}
use Rattle.dns_rdata.specs.Raw.{RawRecord, ttl_in_zone}
use Rattle.zone_tree.specs.Zone.{rrset_of}
use Rattle.update_core.proofs.NoEffects.{if_true, if_both}
use Rattle.update_core.proofs.RowEffects.{own_rtype, joined_is}
use Rattle.update_core.proofs.additions.is_present.Goals as goal

pub has_record-requires : goal.has_record-requires
has_record-requires c =
    let zone = c.args.zone.now.made in
    let is = c.in-Some.ensures.set ∙ (λ i. rrset_of zone (c.requires.at i) (c.raw.view_is i).rtype) in
    let some : c.in-Some.own.now ≢ [] = λ e. true≢false (c.in-Some.ensures.none.1 (sym c.in-Some.ensures.set ∙ e)) in
    c.requires.rtype ∙ sym (own_rtype zone c.args.raw.now c.in-Some.own.now is some)

pub returns-in-Some-clause-same : goal.returns-in-Some-clause-same
returns-in-Some-clause-same c =
    let zone = c.args.zone.now.made in
    let is = c.in-Some.ensures.set ∙ (λ i. rrset_of zone (c.requires.at i) (c.raw.view_is i).rtype) in
    let some : c.in-Some.own.now ≢ [] = λ e. true≢false (c.in-Some.ensures.none.1 (sym c.in-Some.ensures.set ∙ e)) in
    let rtype = ap (λ (r : RawRecord). r.rtype) c.raw.view_is in
    let whole = joined_is zone c.args.raw.now c.in-Some.own.now c.received.result.0 c.args.rdata.now.octets c.requires.lawful.rules.lawful is some (sym c.if-ne.true ∙ rw rtype at c.ne.ensures) (sym c.if-ne-2.true ∙ rw rtype at c.ne-then-ne.ensures)
    (c.received.ensures.ttl ∙ ap (λ (r : RawRecord). ttl_in_zone r.ttl) c.raw.view_is) c.requires.data in
    if_true c.has_record.result (λ same. sym whole ∙ same ∙ is) c.has_record.ensures.same

pub returns-in-Some-clause-few : goal.returns-in-Some-clause-few
returns-in-Some-clause-few c =
    let zone = c.args.zone.now.made in
    let is = c.in-Some.ensures.set ∙ (λ i. rrset_of zone (c.requires.at i) (c.raw.view_is i).rtype) in
    let some : c.in-Some.own.now ≢ [] = λ e. true≢false (c.in-Some.ensures.none.1 (sym c.in-Some.ensures.set ∙ e)) in
    let rtype = ap (λ (r : RawRecord). r.rtype) c.raw.view_is in
    let whole = joined_is zone c.args.raw.now c.in-Some.own.now c.received.result.0 c.args.rdata.now.octets c.requires.lawful.rules.lawful is some (sym c.if-ne.true ∙ rw rtype at c.ne.ensures) (sym c.if-ne-2.true ∙ rw rtype at c.ne-then-ne.ensures)
    (c.received.ensures.ttl ∙ ap (λ (r : RawRecord). ttl_in_zone r.ttl) c.raw.view_is) c.requires.data in
    if_both c.has_record.result (λ same few. subst (λ rs. length rs ≤ 256) (sym same ∙ whole) few) c.has_record.ensures.same c.has_record.ensures.few
