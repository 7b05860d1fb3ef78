-- Calls on a store, one after another, that a crash may end at any moment.
use Rattle.journal.specs.Batch.{Messages}
use Rattle.std.proofs.Common.{List, [], sym, subst, append-nil}
use Rattle.dns_rdata.specs.Record.{Record}
use Rattle.zone_tree.specs.Version.{Version}
use Rattle.update_batches.specs.Turned.{IsCrashSafe, uncalled, called}

module _ {S : Type 0} (has : List Record → S → List Version → List Messages → Type 0) (leaves : List Record → S → S → List Messages → Type 0) (zone : List Record) where
  -- one call, after which the store has the same updates
  pub safe_same : (old mid new : S) (versions later : List Version) (before updates : List Messages) → IsCrashSafe has leaves zone old before mid versions updates
      → leaves zone mid new updates → has zone new later updates → IsCrashSafe has leaves zone old before new later updates
  safe_same old mid new versions later before updates safe leaves_them had =
      subst (λ (us : List Messages). IsCrashSafe has leaves zone old before new later us) (append-nil updates)
      (called [] safe leaves_them (subst (λ (us : List Messages). has zone new later us) (sym (append-nil updates)) had))

  -- the same at other versions
  safe_at : {old new : S} {versions : List Version} {before updates : List Messages} (later : List Version) → IsCrashSafe has leaves zone old before new versions updates
      → has zone new later updates → IsCrashSafe has leaves zone old before new later updates
  safe_at later (uncalled _) had = uncalled had
  safe_at later (called more safe leaves_them _) had = called more safe leaves_them had

  -- calls, and then others
  pub safe_both : {old mid : S} {between : List Messages} {new : S} {versions later : List Version} {before after : List Messages} → IsCrashSafe has leaves zone old before mid versions between
      → IsCrashSafe has leaves zone mid between new later after → IsCrashSafe has leaves zone old before new later after
  safe_both {later} first (uncalled had) = safe_at later first had
  safe_both first (called more then leaves_them had) = called more (safe_both first then) leaves_them had
