-- A stranger's update is judged in the version that is loaded, any other by the engine.
use Rattle.std.proofs.Common.{◌≡◌, true, false, Some, inl, inr, sym, ap, ◌∙◌, subst, rules}
use Rattle.snapshot_cell.specs.Tokens.{ReaderState}
use Rattle.zone_tree.specs.Version.{Version}
use Rattle.dns_rdata.specs.declared.numbers.Rcode.{Rcode}
use Rattle.update_core.specs.Verdict.{verdict}
use Rattle.zone_server.specs.Updated.{IsUpdated, told_with, by_engine, in_version}
use Rattle.zone_server.proofs.KnownLemmas.{loads, loaded_replay}
use Rattle.zone_server.proofs.answer.judge.Goals as goal
use Rattle.zone_server.proofs.answer.judge.Goals.{then-not-may+in-Err, else-not-may}

pub returns-in-Ok : goal.returns-in-Ok
returns-in-Ok g c =
    let first = g.Z.FirstZone.zone in
    let load = c.in-Ok.ensures.loaded in
    let may : c.args.may ≡ false = search rules in
    let gives : verdict c.in-Ok.strong.value.zone c.args.update.now false ≡ Some c.code.result.code =
    ap (λ (v : Version). verdict v.zone c.args.update.now false) (sym (c.get-in-Ok.ensures ∙ c.get.ensures)) ∙ c.refusal_in.ensures ∙ ap Some (sym c.code.ensures.code) in
    in_version c.in-Ok.strong.value may (loaded_replay first _ _ c.in-Ok.strong load) (loads first _ _ c.in-Ok.strong load) gives c.code.ensures.serials

pub returns : goal.returns
returns g c =
    let serials = c.update-code.result.1 in
    let seen = λ (r : ReaderState Version). IsUpdated g.Z.FirstZone.zone c.args.update.now c.args.may r c.update-code.new.reader c.update-code.result.0 serials in
    let coded = λ (k : Rcode). IsUpdated g.Z.FirstZone.zone c.args.update.now c.args.may c.args.reader.now c.update-code.new.reader k serials in
    let reported : c.with.result.serials ≡ told_with c.with.result.code serials = c.with.ensures.serials ∙ ap (λ (k : Rcode). told_with k serials) (sym c.with.ensures.code) in
    elim c.if-not-may.branch [
      | then-not-may+in-Err w ↦ by_engine serials (inr w.in-Err.ensures.spent.0) reported (subst coded (sym c.with.ensures.code) (subst seen (w.reader-is ∙ w.in-Err.ensures.spent.1) c.update-code.ensures))
      | else-not-may w ↦ let may : c.args.may ≡ true = search rules in by_engine serials (inl may) reported (subst coded (sym c.with.ensures.code) (subst seen w.reader-is c.update-code.ensures))
    ]
