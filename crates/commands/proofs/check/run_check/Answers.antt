use Rattle.std.proofs.Common.{List, ℕ, filter, flat_map, sym, ap, ◌∙◌, ◌++◌, subst}
use Rattle.std.proofs.lemmas.Grind.{flat_map-append}
use Rattle.dns_rdata.specs.Record.{Record}
use Rattle.zone_tree.specs.Zone.{soa_of}
use Rattle.master_file.specs.WrittenZone.{record_line, is_other}
use Rattle.commands.specs.Lines.{Begins, Writes}
use Rattle.commands.proofs.PartsLemmas.{Begins-first, Writes-behind, Writes-refused}
use Rattle.commands.proofs.check.run_check.Goals as goal

pub returns-in_err-put_set : goal.returns-in_err-put_set
returns-in_err-put_set g c =
    let zone = c.args.zone.now in
    let first = subst (λ (set : List Record). Begins (g.W.Write.contents c.args.writer.now) (g.W.Write.contents c.put_set.new.writer) (flat_map record_line set)) c.soa.ensures.set c.in_err-put_set.ensures in
    let all = Writes-refused c.from_residual.result _ _ _ c.from_residual.ensures.0 (Begins-first _ _ _ (flat_map record_line (filter is_other zone)) first) in
    rw (flat_map-append record_line (soa_of zone) (filter is_other zone)) all

pub returns : goal.returns
returns g c =
    let zone = c.args.zone.now in
    let all = Writes-behind c.put_others.result _ _ _ _ _ c.in_ok-put_set.ensures c.put_others.ensures in
    let lines = ap (λ (set : List Record). flat_map record_line set ++ flat_map record_line (filter is_other zone)) c.soa.ensures.set ∙ sym (flat_map-append record_line (soa_of zone) (filter is_other zone)) in
    subst (λ (os : List ℕ). Writes c.put_others.result (g.W.Write.contents c.args.writer.now) (g.W.Write.contents c.put_others.new.writer) os) lines all
