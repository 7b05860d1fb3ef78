use Rattle.std.proofs.Common.{◌≡◌, ℕ, List, [], length, Ok, Bor, Vec, Global, refl, sym, ◌∙◌, subst}
use Rattle.std.proofs.lemmas.Result.{err_from_is_err_and}
use Rattle.zone_tree.specs.Version.{zone_serial}
use Rattle.master_file.specs.ZoneText.{zone_of_text}
use Rattle.store_recovery.specs.Replay.{IsReplayed, IsReplayFault}
use Rattle.store_recovery.proofs.ReplayLemmas.{now_of}
use Rattle.store_recovery.proofs.StartLemmas.{started_from, sound_from, update_fault}
use Rattle.store_recovery.proofs.start.start_of.Goals as goal

pub returns-clause-started : goal.returns-clause-started
returns-clause-started c =
    let text : List ℕ = c.args.text.now in
    let found = c.args.found.now in
    let is_zone : zone_of_text [] text ≡ Ok c.in_ok-zone.zone =
    subst (λ (origin : List (List ℕ)). zone_of_text origin text ≡ Ok c.in_ok-zone.zone) c.root.ensures c.in_ok-zone.ensures.zone in
    let serial : zone_serial c.in_ok-zone.zone ≡ found.head.serial = sym c.serial.ensures ∙ c.if-serial-found.false in
    let replayed : IsReplayed c.in_ok-zone.zone (now_of found.updates.items) c.in_ok-newest.newest =
    subst (λ (requests : List (Vec (Bor (List ℕ)) Global)). IsReplayed c.in_ok-zone.zone (now_of requests) c.in_ok-newest.newest) c.deref.ensures.value c.in_ok-newest.ensures.replayed in
    started_from text c.args.journal.now found.head found.salt (now_of found.updates.items) found.number found.end found.torn c.in_ok-zone.zone c.in_ok-newest.newest
    c.ending_of-ending.result (length c.args.journal.now) c.requires.salt c.requires.recovered is_zone serial replayed refl c.ending_of-ending.ensures

pub returns-in_err-newest-clause-refused : goal.returns-in_err-newest-clause-refused
returns-in_err-newest-clause-refused c =
    let text : List ℕ = c.args.text.now in
    let found = c.args.found.now in
    let is_zone : zone_of_text [] text ≡ Ok c.in_ok-zone.zone =
    subst (λ (origin : List (List ℕ)). zone_of_text origin text ≡ Ok c.in_ok-zone.zone) c.root.ensures c.in_ok-zone.ensures.zone in
    let serial : zone_serial c.in_ok-zone.zone ≡ found.head.serial = sym c.serial.ensures ∙ c.if-serial-found.false in
    let sound = sound_from text c.args.journal.now found.head (now_of found.updates.items) found.number found.end found.torn c.requires.recovered in
    let fault = c.in_err-newest.field-0.0 in
    let refused : IsReplayFault c.in_ok-zone.zone (now_of found.updates.items) fault =
    subst (λ (requests : List (Vec (Bor (List ℕ)) Global)). IsReplayFault c.in_ok-zone.zone (now_of requests) fault) c.deref.ensures.value c.in_err-newest.ensures.refused in
    let given = err_from_is_err_and c.from_residual-in_err-newest.result c.from_residual-in_err-newest.ensures.1 in
    rw (given.1, given.2) (update_fault text c.args.journal.now found.head c.in_ok-zone.zone (now_of found.updates.items) fault sound is_zone serial refused)
