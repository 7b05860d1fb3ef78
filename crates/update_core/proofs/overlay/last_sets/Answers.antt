use Rattle.std.proofs.Common.{List, [], Option, Some, sym, ap, ◌∙◌}
use Rattle.std.specs.Global.{Vec}
use Rattle.std.specs.Option.{option_map}
use Rattle.dns_rdata.specs.Record.{Record}
use Rattle.zone_tree.specs.Filed.{Owned}
use Rattle.update_core.specs.Overlay.{own_of}
use Rattle.update_core.proofs.OverlayLemmas.{last_found, last_missed}
use Rattle.update_core.proofs.overlay.last_sets.Goals as goal

pub returns-then-eq : goal.returns-then-eq
returns-then-eq c =
    let owner = c.args.owner.now in
    ap Some c.as_slice.ensures.value
    ∙ sym (ap (option_map (λ (own : Vec (List Record)). own.items)) (ap (λ (l : Option Owned). own_of owner l []) c.in-Some.is ∙ last_found owner c.in-Some.own [] (sym c.eq.ensures ∙ c.if-eq.true)))

pub returns : goal.returns
returns c =
    let owner = c.args.owner.now in
    sym (ap (option_map (λ (own : Vec (List Record)). own.items)) (ap (λ (l : Option Owned). own_of owner l []) c.in-Some.is ∙ last_missed owner c.in-Some.own (sym c.eq.ensures ∙ c.if-eq.false)))
