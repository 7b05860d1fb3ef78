use Rattle.std.proofs.Common.{◌≡◌, List, Option, sym, ap, subst, ◌∙◌}
use Rattle.std.specs.Prelude.{IfOk}
use Rattle.std.specs.Global.{Vec}
use Rattle.dns_rdata.specs.Record.{Record}
use Rattle.zone_tree.specs.Zone.{rrsets_of}
use Rattle.zone_tree.specs.Sets.{records_in}
use Rattle.zone_tree.specs.Filed.{Owned}
use Rattle.update_core.specs.Overlay.{at_owner, own_of, IsLastOwn}
use Rattle.update_core.proofs.OverlayLemmas.{last_own, last_found, last_apart, put_found, on_ok}
use Rattle.update_core.proofs.overlay.taken.Goals as goal

pub returns-then-eq-clause-own : goal.returns-then-eq-clause-own
returns-then-eq-clause-own c = last_own c.args.owner.now (c.in-Some.name, c.in-Some.own) (subst IsLastOwn c.in-Some.is c.requires.last) (sym c.eq.ensures ∙ c.if-eq.true)

pub returns-then-eq-clause-records : goal.returns-then-eq-clause-records
returns-then-eq-clause-records c =
    let owner = c.args.owner.now in
    let others = c.args.others.now.entries in
    ap (at_owner (rrsets_of c.args.zone.now owner))
    (sym (ap (λ (l : Option Owned). own_of owner l others) c.in-Some.is ∙ last_found owner (c.in-Some.name, c.in-Some.own) others (sym c.eq.ensures ∙ c.if-eq.true)))

pub returns-then-eq-clause-others : goal.returns-then-eq-clause-others
returns-then-eq-clause-others c =
    let owner = c.args.owner.now in
    let others = c.args.others.now.entries in
    λ name apart. last_apart owner (c.in-Some.name, c.in-Some.own) others (sym c.eq.ensures ∙ c.if-eq.true) name apart ∙ ap (λ (l : Option Owned). own_of name l others) (sym c.in-Some.is)

pub returns-clause-records : goal.returns-clause-records
returns-clause-records c =
    let owner = c.args.owner.now in
    let others = c.args.others.now.entries in
    let found = put_found (c.in-Some.name, c.in-Some.own) others c.put_aside.new.others.entries c.in_ok-put_aside.ensures.others owner ∙ ap (λ (l : Option Owned). own_of owner l others) (sym c.in-Some.is) in
    subst (λ (o : Option (Vec (List Record))). IfOk c.take-2.result (λ own. records_in own.items ≡ at_owner (rrsets_of c.args.zone.now owner) o)) found c.take-2.ensures.records

pub returns-clause-others : goal.returns-clause-others
returns-clause-others c =
    let others = c.args.others.now.entries in
    on_ok c.take-2.result
    (λ name apart. c.take-2.ensures.others name apart ∙ put_found (c.in-Some.name, c.in-Some.own) others c.put_aside.new.others.entries c.in_ok-put_aside.ensures.others name
    ∙ ap (λ (l : Option Owned). own_of name l others) (sym c.in-Some.is))
