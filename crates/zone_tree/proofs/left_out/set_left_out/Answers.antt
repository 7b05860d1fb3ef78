use Rattle.std.proofs.Common.{◌≡◌, refl, sym, ap, ◌∙◌, subst, false, true≢false, List, [], ◌∷◌}
use Rattle.std.specs.Prelude.{◌==◌, IfOk}
use Rattle.std.specs.Option.{option_to_list}
use Rattle.dns_name.specs.Name.{is_same}
use Rattle.dns_rdata.specs.Numbers.{type_SOA}
use Rattle.dns_rdata.specs.Record.{Record, owner_of, rtype_of}
use Rattle.zone_tree.specs.Zone.{rrset_of}
use Rattle.zone_tree.specs.Delta.{lacking, some_set}
use Rattle.zone_tree.proofs.LackingLemmas.{left_out_lacking, left_out_soa, lacking_none, rrset_has, some_from, some_is}
use Rattle.zone_tree.proofs.left_out.set_left_out.Goals as goal

pub returns-then-eq : goal.returns-then-eq
returns-then-eq c =
    ap some_set (sym (left_out_soa c.args.set.now c.args.other.now c.requires (ap (λ t. t == type_SOA) (sym c.rtype.ensures.of) ∙ sym c.eq.ensures ∙ c.if-eq.true)))

-- the zone's set has the owner and the type
pub set_lacking-requires-clause-owner : goal.set_lacking-requires-clause-owner
set_lacking-requires-clause-owner c =
    let set = c.in-Some.ensures.set in
    let some = some_from c.in-Some.there.now (λ e. true≢false (c.in-Some.ensures.none.1 (sym set ∙ e))) in
    ap (λ n. is_same n (owner_of c.in-Some.there.now)) (sym c.owner.ensures.of) ∙ (rrset_has c.args.other.now c.in-Some.there.now c.owner.result c.rtype-2.result.0 set some).0

pub set_lacking-requires-clause-rtype : goal.set_lacking-requires-clause-rtype
set_lacking-requires-clause-rtype c =
    let set = c.in-Some.ensures.set in
    let some = some_from c.in-Some.there.now (λ e. true≢false (c.in-Some.ensures.none.1 (sym set ∙ e))) in
    sym c.rtype-2.ensures.of ∙ (rrset_has c.args.other.now c.in-Some.there.now c.owner.result c.rtype-2.result.0 set some).1

pub returns-in-Some : goal.returns-in-Some
returns-in-Some c =
    let apart : (rtype_of c.args.set.now == type_SOA) ≡ false = ap (λ t. t == type_SOA) (sym c.rtype.ensures.of) ∙ sym c.eq.ensures ∙ c.if-eq.false in
    let is : c.in-Some.there.now ≡ rrset_of c.args.other.now (owner_of c.args.set.now) (rtype_of c.args.set.now) = c.in-Some.ensures.set ∙ (λ i. rrset_of c.args.other.now (c.owner.ensures.of i) (c.rtype-2.ensures.of i)) in
    subst (λ (l : List Record). IfOk c.set_lacking.result (λ left. option_to_list left ≡ some_set l))
    (ap (lacking c.args.set.now) is ∙ sym (left_out_lacking c.args.set.now c.args.other.now c.requires apart)) c.set_lacking.ensures

pub returns-in_ok-copy-in-None : goal.returns-in_ok-copy-in-None
returns-in_ok-copy-in-None c =
    let apart : (rtype_of c.args.set.now == type_SOA) ≡ false = ap (λ t. t == type_SOA) (sym c.rtype.ensures.of) ∙ sym c.eq.ensures ∙ c.if-eq.false in
    let none : rrset_of c.args.other.now (owner_of c.args.set.now) (rtype_of c.args.set.now) ≡ [] = (λ i. rrset_of c.args.other.now (sym c.owner.ensures.of i) (sym c.rtype-2.ensures.of i)) ∙ c.in-None.ensures.none.0 refl in
    ap (λ (s : List Record). s ∷ []) c.in_ok-copy-in-None.ensures ∙ sym (some_is c.args.set.now c.requires.some)
    ∙ ap some_set (sym (left_out_lacking c.args.set.now c.args.other.now c.requires apart ∙ ap (lacking c.args.set.now) none ∙ lacking_none c.args.set.now))
