-- A store that is changed to a zone, and why it isn't.
use Rattle.std.proofs.Common.{rules, ℕ, List, subst}
use Rattle.zone_tree.specs.Zone.{IsZone}
use Rattle.store_recovery.specs.Start.{IsStarted}
use Rattle.store_server.specs.Private.{IsNotAgain}
use Rattle.store_server.specs.Started.{IsNotTaken}
use Rattle.store_server.specs.TakeZone.{IsTakenJournal}
use Rattle.store_server.proofs.TakeZoneLemmas.{again_taken}
use Rattle.store_server.proofs.TakeZoneStartLemmas.{one_apex, starts_again, leads_there}
use Rattle.store_server.proofs.start.take_text.Goals as goal

pub returns-in_err-later-clause-refused : goal.returns-in_err-later-clause-refused
returns-in_err-later-clause-refused g c =
    let text = c.args.pair.text.items in
    let start = c.args.start.now in
    let zone = c.args.zone.now in
    let octets = c.in_ok-journal.journal.items in
    let it : IsTakenJournal c.args.pair.journal.items start zone c.args.given.text.now c.args.random c.in_ok-journal.taken octets =
    subst (λ (o : List ℕ). IsTakenJournal o start zone c.args.given.text.now c.args.random c.in_ok-journal.taken octets) c.deref.ensures.value c.in_ok-journal.ensures.journal in
    let h : IsZone start.newest.last.zone = subst IsZone c.zone.ensures c.soa-soa_of_store.ensures.lawful in
    let k : IsZone zone = c.soa-soa.ensures.lawful in
    let none : IsNotAgain text octets c.in_err-later.field-0.0 =
    subst (λ (t : List ℕ). IsNotAgain t octets c.in_err-later.field-0.0) c.deref-2.ensures.value
    (subst (λ (o : List ℕ). IsNotAgain c.deref-2.result.now o c.in_err-later.field-0.0) c.deref-3.ensures.value c.in_err-later.ensures.refused) in
    let reported : IsNotTaken start.newest.last.zone zone c.in_err-later.field-0.0 =
    again_taken text octets start.newest.last.zone zone c.in_err-later.field-0.0 none
    (starts_again text c.args.pair.journal.items c.args.given.text.now c.args.random octets start zone c.in_ok-journal.taken c.requires.started it h k
    (one_apex start.newest.last.zone zone h k c.requires.apex)) in
    search (reported, rules)

pub returns-clause-served : goal.returns-clause-served
returns-clause-served g c =
    let text = c.args.pair.text.items in
    let start = c.args.start.now in
    let zone = c.args.zone.now in
    let octets = c.in_ok-journal.journal.items in
    let it : IsTakenJournal c.args.pair.journal.items start zone c.args.given.text.now c.args.random c.in_ok-journal.taken octets =
    subst (λ (o : List ℕ). IsTakenJournal o start zone c.args.given.text.now c.args.random c.in_ok-journal.taken octets) c.deref.ensures.value c.in_ok-journal.ensures.journal in
    let h : IsZone start.newest.last.zone = subst IsZone c.zone.ensures c.soa-soa_of_store.ensures.lawful in
    let k : IsZone zone = c.soa-soa.ensures.lawful in
    let later = c.in_ok-later.later in
    let again : IsStarted text octets later =
    subst (λ (t : List ℕ). IsStarted t octets later) c.deref-2.ensures.value (subst (λ (o : List ℕ). IsStarted c.deref-2.result.now o later) c.deref-3.ensures.value c.in_ok-later.ensures.started) in
    record {
      octets = octets;
      is_journal = it;
      later = later;
      goes_on = c.in_ok-store.ensures.resumed;
      leads = leads_there text c.args.pair.journal.items c.args.given.text.now c.args.random octets start zone c.in_ok-journal.taken c.requires.started it h k
          (one_apex start.newest.last.zone zone h k c.requires.apex) later again;
    }
