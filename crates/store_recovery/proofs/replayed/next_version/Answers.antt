use Rattle.journal.proofs.StartLemmas.{told_some}
use Rattle.std.proofs.Common.{map}
use Rattle.update_messages.specs.Joined.{IsRead}
use Rattle.store_recovery.proofs.replayed.next_version.Goals as goal

pub returns-in-Next : goal.returns-in-Next
returns-in-Next c =
    let read : IsRead (map (λ message. message.now) c.args.messages.now) c.in-Some.update = told_some _ _ _ _ c.in-Some.is c.in_ok-update.ensures in
    let reported = c.in-Next.ensures.reported in
    record {
      update = c.in-Some.update;
      read = read;
      makes = record { taken = reported.0; zone = reported.1; changed = reported.2; number = reported.3; changes = reported.4 };
    }

pub returns-in-Refused : goal.returns-in-Refused
returns-in-Refused c =
    let read : IsRead (map (λ message. message.now) c.args.messages.now) c.in-Some.update = told_some _ _ _ _ c.in-Some.is c.in_ok-update.ensures in
    (c.in-Some.update, read, c.in-Refused.ensures.reported)

pub returns-in-Unchanged : goal.returns-in-Unchanged
returns-in-Unchanged c =
    let read : IsRead (map (λ message. message.now) c.args.messages.now) c.in-Some.update = told_some _ _ _ _ c.in-Some.is c.in_ok-update.ensures in
    let reported = c.in-Unchanged.ensures.reported in
    (c.in-Some.update, read, reported.0, reported.1)
