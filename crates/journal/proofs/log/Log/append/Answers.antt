use Rattle.std.proofs.Common.{◌≡◌, ◌+◌, ◌^◌, ◌<◌, ◌++◌, ℕ, List, length, refl, ap, ◌∙◌, inr, arith}
use Rattle.journal.proofs.LogLemmas.{begins_as, begins_cut, leaves_two, holds_more}
use Rattle.journal.proofs.log.Log.append.Goals as goal

pub returns-in_default-checked_add-2-clause-full : goal.returns-in_default-checked_add-2-clause-full
returns-in_default-checked_add-2-clause-full g c e =
    inr (omega (arith, c.in-Ok.ensures.long, c.in-Ok.frame.ok.0, c.len.ensures, c.in_default-checked_add-2.ensures))

pub returns-clause-appended : goal.returns-clause-appended
returns-clause-appended g c head bodies holds =
    let old = c.args.self.now in
    let counted : old.number + 1 < 2 ^ 64 = omega (arith, c.in-Some.ensures) in
    let end : c.in-Some-checked_add.end ≡ old.end + length c.in-Ok.frame.items = omega (arith, c.in-Some-checked_add.ensures, c.len.ensures, c.in-Ok.frame.ok.0) in
    let is_written : g.D.Disk.written c.append.new.self ≡ g.D.Disk.written old.disk ++ c.in-Ok.frame.items =
    (c.in_default-append.ensures).ok ∙ ap (λ (o : List ℕ). g.D.Disk.written old.disk ++ o) c.deref.ensures.value in
    let synced = (c.in_default-sync.ensures).ok in
    holds_more g.D.Disk.written g.D.Disk.synced head bodies c.args.body.now c.in-Ok.frame.items old _ holds c.in-Ok.ensures.frame c.requires counted
    (synced.1 ∙ is_written) (synced.0 ∙ is_written) refl (omega (arith, c.in-Some.ensures)) end holds.goes_on

pub returns-in-Err-clause-crash : goal.returns-in-Err-clause-crash
returns-in-Err-clause-crash g c head bodies holds =
    let mid = c.append.new.self in
    let same = c.in-Err.ensures.synced ∙ holds.is_synced in
    leaves_two _ _ _ (g.D.Disk.synced mid) (g.D.Disk.synced c.cut.new.self) _ c.in-Err.ensures.noted c.cut.ensures.noted (begins_as _ _ same)
    (begins_cut (g.D.Disk.synced mid) _ _ _ (begins_as _ _ same) c.cut.ensures.synced holds.end)

pub returns-in-Err-sync-clause-crash : goal.returns-in-Err-sync-clause-crash
returns-in-Err-sync-clause-crash g c head bodies holds =
    let same = c.append.ensures.synced ∙ holds.is_synced in
    leaves_two _ _ _ (g.D.Disk.synced c.append.new.self) (g.D.Disk.synced c.sync.new.self) _ c.append.ensures.noted c.in-Err-sync.ensures.noted (begins_as _ _ same)
    (begins_as _ _ (c.in-Err-sync.ensures.failed ∙ same))

pub returns-clause-crash : goal.returns-clause-crash
returns-clause-crash g c head bodies holds =
    let same = c.append.ensures.synced ∙ holds.is_synced in
    let written = c.in_default-append.ensures.ok ∙ ap (λ (o : List ℕ). o ++ c.deref.result.now) holds.is_written in
    leaves_two _ _ _ (g.D.Disk.synced c.append.new.self) (g.D.Disk.synced c.sync.new.self) _ c.append.ensures.noted c.sync.ensures.noted (begins_as _ _ same)
    (c.deref.result.now, c.in_default-sync.ensures.ok.0 ∙ written)
