-- One version more has its first owner.
use Rattle.std.proofs.Common.{rules, ◌∷◌, [], ◌++◌, List, append_assoc, sym, ap, ◌∙◌}
use Rattle.std.specs.Vec.Iter.{into_iter_items}
use Rattle.zone_tree.specs.Version.{Version}
use Rattle.dns_engine.proofs.ThroughLemmas.{all_taken}
use Rattle.dns_engine.proofs.shared.SharedVersion.all.Goals as goal

pub loop-version-init : goal.loop-version-init
loop-version-init c = record { all = c.into_iter-version-iterator.ensures.into_iter_gives.0; room = search rules; shared = search rules }

pub loop-version-preserved : goal.loop-version-preserved
loop-version-preserved c =
    let yielded = c.loop-version.yielded in
    record {
      all = append_assoc yielded (c.in-Some.version ∷ []) (into_iter_items c.next.new.self) ∙ ap (λ (l : List Version). yielded ++ l) (sym c.in-Some.ensures.steps.0) ∙ c.loop-version.invariant.all;
      room = search rules;
      shared =
          c.push_reserved.ensures.items ∙ ap (λ (l : List Version). l ++ c.in-Some-new.owner ∷ []) c.loop-version.invariant.shared ∙ ap (λ (v : Version). yielded ++ v ∷ []) c.in-Some-new.ensures;
    }

pub returns : goal.returns
returns c =
    let all = all_taken c.loop-version.yielded (into_iter_items c.loop-version.version-iterator) c.args.versions.items c.loop-version.invariant.all
    (sym c.loop-version.version-iterator.rest.ok.0 ∙ c.in-None.ensures.steps.0) in
    c.loop-version.invariant.shared ∙ all
