use Rattle.std.proofs.Common.{◌≡◌, ℕ, List, [], Ok, Bor, Vec, Global, string_bytes, sym, ◌∙◌, subst}
use Rattle.std.proofs.lemmas.Result.{err_from_is_err_and}
use Rattle.zone_tree.specs.Version.{zone_serial}
use Rattle.master_file.specs.ZoneText.{zone_of_text}
use Rattle.store_recovery.specs.Replay.{IsReplayFault}
use Rattle.store_recovery.proofs.ReplayLemmas.{now_of}
use Rattle.store_recovery.proofs.StartLemmas.{sound_from, update_fault}
use Rattle.stored_changes.specs.StoredChanges.{AreTold}
use Rattle.stored_changes.proofs.walk.write_changes.Goals as goal

pub returns-clause-reported : goal.returns-clause-reported
returns-clause-reported c =
    let text : List ℕ = c.args.text.now in
    let found = c.in_ok-found.found in
    let zone = c.in_ok-zone.zone in
    let is_zone : zone_of_text [] text ≡ Ok zone = subst (λ (origin : List (List ℕ)). zone_of_text origin text ≡ Ok zone) c.root.ensures c.in_ok-zone.ensures.zone in
    let serial : zone_serial zone ≡ found.head.serial = sym c.serial.ensures ∙ c.if-serial-found.false in
    record {
      zone = zone;
      messages = now_of found.updates.items;
      pair = record {
        head = found.head;
        sound = record { number = found.number; end = found.end; torn = found.torn; recovered = c.in_ok-found.ensures.recovered.1 };
        is_zone = is_zone;
        serial = serial;
      };
      changes = subst (λ (messages : List (Vec (Bor (List ℕ)) Global)). AreTold zone (now_of messages) (string_bytes c.in_ok-reported.reported)) c.deref.ensures.value c.in_ok-reported.ensures.reported;
    }

pub returns-in_err-reported-clause-refused : goal.returns-in_err-reported-clause-refused
returns-in_err-reported-clause-refused c =
    let text : List ℕ = c.args.text.now in
    let found = c.in_ok-found.found in
    let zone = c.in_ok-zone.zone in
    let is_zone : zone_of_text [] text ≡ Ok zone = subst (λ (origin : List (List ℕ)). zone_of_text origin text ≡ Ok zone) c.root.ensures c.in_ok-zone.ensures.zone in
    let serial : zone_serial zone ≡ found.head.serial = sym c.serial.ensures ∙ c.if-serial-found.false in
    let sound = sound_from text c.args.journal.now found.head (now_of found.updates.items) found.number found.end found.torn c.in_ok-found.ensures.recovered.1 in
    let fault = c.in_err-reported.field-0.0 in
    let refused : IsReplayFault zone (now_of found.updates.items) fault =
    subst (λ (requests : List (Vec (Bor (List ℕ)) Global)). IsReplayFault zone (now_of requests) fault) c.deref.ensures.value c.in_err-reported.ensures.refused in
    let given = err_from_is_err_and c.from_residual-in_err-reported.result c.from_residual-in_err-reported.ensures.1 in
    rw (given.1, given.2) (update_fault text c.args.journal.now found.head zone (now_of found.updates.items) fault sound is_zone serial refused)
