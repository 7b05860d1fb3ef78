use Rattle.std.proofs.Common.{◌≡◌, ◌≢◌, ◌<◌, List, Option, [], length, sym, subst, ap, ◌∙◌}
use Rattle.std.specs.Option.{IfSome}
use Rattle.dns_rdata.specs.Record.{Record, rtype_of}
use Rattle.dns_rdata.specs.Raw.{RawRecord, ttl_in_zone}
use Rattle.zone_tree.specs.Zone.{rrset_of}
use Rattle.update_core.specs.Applied.{set_behind}
use Rattle.update_core.specs.Overlay.{set_or_none}
use Rattle.update_core.proofs.RowLemmas.{if_ok_is}
use Rattle.update_core.proofs.RowEffects.{joined_is}
use Rattle.update_core.proofs.one_set.set_with.Goals as goal

pub returns-in-Some-clause-set : goal.returns-in-Some-clause-set
returns-in-Some-clause-set c = λ zone lawful same.
    let own = c.in-Some.own in
    let old = subst (λ (o : Option (List Record)). IfSome o (λ set. (set ≢ []) × (rtype_of set ≡ c.args.raw.now.rtype))) c.in-Some.is c.requires.old in
    let is : own ≡ rrset_of zone c.args.raw.now.owner c.args.raw.now.rtype = ap set_or_none (sym c.in-Some.is) ∙ same in
    let rtype = ap (λ (r : RawRecord). r.rtype) c.raw.view_is in
    let whole = joined_is zone c.args.raw.now own c.received-ttl.result.0 c.args.rdata.octets lawful.rules.lawful is old.0 (sym c.if-ne.true ∙ rw rtype at c.ne.ensures) (sym c.if-ne-2.true ∙ rw rtype at c.ne-then-ne.ensures)
    (c.received-ttl.ensures.ttl ∙ ap (λ (r : RawRecord). ttl_in_zone r.ttl) c.raw.view_is) c.requires.data in
    if_ok_is c.joined.result _ (set_behind zone c.args.raw.now) whole c.joined.ensures.set

pub returns-in-Some-clause-limit : goal.returns-in-Some-clause-limit
returns-in-Some-clause-limit c = λ zone lawful same.
    let own = c.in-Some.own in
    let old = subst (λ (o : Option (List Record)). IfSome o (λ set. (set ≢ []) × (rtype_of set ≡ c.args.raw.now.rtype))) c.in-Some.is c.requires.old in
    let is : own ≡ rrset_of zone c.args.raw.now.owner c.args.raw.now.rtype = ap set_or_none (sym c.in-Some.is) ∙ same in
    let rtype = ap (λ (r : RawRecord). r.rtype) c.raw.view_is in
    let whole = joined_is zone c.args.raw.now own c.received-ttl.result.0 c.args.rdata.octets lawful.rules.lawful is old.0 (sym c.if-ne.true ∙ rw rtype at c.ne.ensures) (sym c.if-ne-2.true ∙ rw rtype at c.ne-then-ne.ensures)
    (c.received-ttl.ensures.ttl ∙ ap (λ (r : RawRecord). ttl_in_zone r.ttl) c.raw.view_is) c.requires.data in
    λ fault. subst (λ rs. 256 < length rs) whole (c.joined.ensures.limit fault)
