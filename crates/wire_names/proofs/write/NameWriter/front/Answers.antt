use Rattle.std.proofs.Common.{◌≡◌, Bool, true, false, List, sym, subst}
use Rattle.std.specs.Bool.{OnTrue}
use Rattle.dns_name.specs.Labels.{labels_in}
use Rattle.wire_names.specs.Place.{IsKnown}
use Rattle.wire_names.specs.Table.{Entry, IsTable}
use Rattle.wire_names.proofs.PlaceLemmas.{place_known, place_root}
use Rattle.wire_names.proofs.write.NameWriter.front.Goals as goal

on_known : (b : Bool) (P : Type 0) → OnTrue b P → b ≡ true → P
on_known true P h e = h
on_known false P h e = cc

pub returns-then-is_long-clause-place : goal.returns-then-is_long-clause-place
returns-then-is_long-clause-place c =
    place_known _ _ _ _ _ _ _ c.starts_of-starts.ensures.are c.rest-rest.ensures
    (subst (λ (xs : List Entry). IsKnown c.args.msg.now xs (labels_in c.rest-rest.result.now) c.args.suffix.index) c.self.view_is (on_known _ _ (c.is_long.ensures c.args.msg.now (subst (IsTable c.args.msg.now) (sym c.self.view_is) c.requires.table)) c.if-is_long.true))

pub returns-clause-place : goal.returns-clause-place
returns-clause-place c = place_root _ _ _ _ _ c.starts_of-starts-2.ensures.are c.starts_of-starts-2.ensures.end
