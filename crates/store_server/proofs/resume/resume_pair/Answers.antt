use Rattle.journal.specs.Batch.{Messages}
use Rattle.std.proofs.Common.{◌≡◌, ◌-◌, List, length, drop, refl, sym, ap, ◌∙◌}
use Rattle.store_recovery.specs.Start.{IsStarted}
use Rattle.store_server.proofs.RecoveredLemmas.{begins_with, ends_at, counts, recovered_once}
use Rattle.store_server.proofs.resume.resume_pair.Goals as goal

pub returns-clause-resumed : goal.returns-clause-resumed
returns-clause-resumed c =
    let text = c.args.pair.text.items in
    let octets = c.args.pair.journal.items in
    let start = c.args.start in
    let is : IsStarted text octets start = c.requires.started in
    let found = is.recovered in
    let given = c.requires.updates in
    let sound = given.sound in
    let same : is.messages ≡ given.all =
    recovered_once text octets start.head is.messages start.number start.end is.torn found given.head given.all sound.number sound.end sound.torn sound.recovered in
    record {
      is = is;
      head = refl;
      log = c.in_ok-log.ensures.holds start.head found.bodies
          (found.rest, c.requires.noted ∙ begins_with text octets start.head is.messages start.number start.end is.torn found)
          is.salt
          (counts text octets start.head is.messages start.number start.end is.torn found)
          (ends_at text octets start.head is.messages start.number start.end is.torn found)
          found.opened.read.fit;
      versions = c.rebased-first.ensures.same;
      made = c.rebased-first.ensures.made is.zone is.messages is.replayed;
      updates = given.last ∙ ap (λ (l : List Messages). drop (length l - length start.newest.older.items) l) (sym same);
    }
