-- A batch that is appended, and one that is not.
use Rattle.std.proofs.Common.{◌<◌, length, refl, ap, sym, ◌∙◌}
use Rattle.std.specs.declared.io.Error.{Error as IoError}
use Rattle.journal.specs.Log.{is_stuck}
use Rattle.store_compaction.specs.Kept.{CompactedState}
use Rattle.store_compaction.proofs.KeptLemmas.{appended, not_appended, some_there, on_ok, on_err}
use Rattle.store_compaction.proofs.HasLemmas.{has_appended, has_kept}
use Rattle.store_compaction.proofs.LeavesLemmas.{leaves_same, leaves_appended}
use Rattle.store_compaction.proofs.compacted_store.CompactedStoreUpdateStore.append.Goals as goal

pub returns-clause-stored : goal.returns-clause-stored
returns-clause-stored g c =
    let updates = c.args.updates.now in
    let wanted = g.T.TextWriter.wanted c.self.inside.texts in
    let after : CompactedState IoError = record { writer = c.append.new.self; wanted = wanted } in
    let some : 0 < length updates = some_there updates updates refl c.if-is_empty.ensures in
    let on = ap is_stuck (sym c.log.ensures) ∙ (sym c.is_stuck.ensures ∙ c.if-is_stuck.false) in
    on_ok c.append.result c.append.ensures.on_disk c.append.ensures.recent c.append.ensures.compaction c.append.ensures.marked
    (λ stored found way marks.
    has_appended updates c.args.self.now after
    (appended updates c.args.self.now c.self.inside.writer c.append.new.self wanted c.self.view_is on some stored found way marks c.append.ensures.head))

pub returns-clause-kept : goal.returns-clause-kept
returns-clause-kept g c =
    let wanted = g.T.TextWriter.wanted c.self.inside.texts in
    let after : CompactedState IoError = record { writer = c.append.new.self; wanted = wanted } in
    let on = ap is_stuck (sym c.log.ensures) ∙ (sym c.is_stuck.ensures ∙ c.if-is_stuck.false) in
    on_err c.append.result c.append.ensures.on_disk_still c.append.ensures.recent_still c.append.ensures.compaction_still
    (λ still recent way.
    has_kept c.args.self.now after
    (not_appended c.args.self.now c.self.inside.writer c.append.new.self wanted c.self.view_is on still recent way c.append.ensures.head))

pub returns-then-is_empty-clause-crash : goal.returns-then-is_empty-clause-crash
returns-then-is_empty-clause-crash g c = leaves_same c.args.self.now c.args.self.now refl

pub returns-then-is_stuck-clause-crash : goal.returns-then-is_stuck-clause-crash
returns-then-is_stuck-clause-crash g c = leaves_same c.args.self.now c.args.self.now refl

pub returns-in-Some-clause-crash : goal.returns-in-Some-clause-crash
returns-in-Some-clause-crash g c = leaves_same c.args.self.now c.args.self.now refl

pub returns-clause-crash : goal.returns-clause-crash
returns-clause-crash g c =
    leaves_appended c.args.self.now c.self.inside.writer c.append.new.self (g.T.TextWriter.wanted c.self.inside.texts) c.self.view_is
    (ap is_stuck (sym c.log.ensures) ∙ (sym c.is_stuck.ensures ∙ c.if-is_stuck.false)) c.append.ensures.crash
