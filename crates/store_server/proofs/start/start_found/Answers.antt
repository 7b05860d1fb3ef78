use Rattle.std.proofs.Common.{List, ℕ, ap, ◌∙◌, subst}
use Rattle.zone_tree.specs.Zone.{apex_of}
use Rattle.store_recovery.specs.Start.{IsStarted}
use Rattle.store_recovery.specs.declared.choices.Choice.TheVariants.{Same as IsSame, Store as IsStore, Zone as IsZone, StoreThoughOther as IsOlder, RefuseNewer, RefuseOtherApex}
use Rattle.store_server.specs.Started.{IsChosen}
use Rattle.store_server.proofs.ServedLemmas.{chosen_as, same_served, store_served, older_served, zone_served, zone_refused, end_kept}
use Rattle.store_server.proofs.start.start_found.Goals as goal

pub returns-in-Same-clause-served : goal.returns-in-Same-clause-served
returns-in-Same-clause-served g c =
    let given = c.args.given in
    let text = c.args.pair.text.items in
    let octets = c.args.pair.journal.items in
    let start = c.in_ok-start.start in
    let is : IsStarted text octets start =
    subst (λ (t : List ℕ). IsStarted t octets start) c.deref.ensures.value (subst (λ (o : List ℕ). IsStarted c.deref.result.now o start) c.deref-2.ensures.value c.in_ok-start.ensures.started) in
    let chosen : IsChosen given.text.now given.origin.now given.taken text octets IsSame =
    record { start = start; is = is; chosen = chosen_as given.text.now given.origin.now given.taken c.args.random text octets start _ IsSame c.in-Same.is c.in_ok-choice_of.ensures.chosen } in
    same_served given.text.now given.origin.now given.taken c.args.random text octets chosen c.go_on.result c.go_on.ensures.store c.go_on.ensures.served

pub returns-in-Store-clause-served : goal.returns-in-Store-clause-served
returns-in-Store-clause-served g c =
    let given = c.args.given in
    let text = c.args.pair.text.items in
    let octets = c.args.pair.journal.items in
    let start = c.in_ok-start.start in
    let is : IsStarted text octets start =
    subst (λ (t : List ℕ). IsStarted t octets start) c.deref.ensures.value (subst (λ (o : List ℕ). IsStarted c.deref.result.now o start) c.deref-2.ensures.value c.in_ok-start.ensures.started) in
    let chosen : IsChosen given.text.now given.origin.now given.taken text octets IsStore =
    record { start = start; is = is; chosen = chosen_as given.text.now given.origin.now given.taken c.args.random text octets start _ IsStore c.in-Store.is c.in_ok-choice_of.ensures.chosen } in
    store_served given.text.now given.origin.now given.taken c.args.random text octets chosen c.go_on-in-Store.result c.go_on-in-Store.ensures.store c.go_on-in-Store.ensures.served

pub returns-in-StoreThoughOther-clause-served : goal.returns-in-StoreThoughOther-clause-served
returns-in-StoreThoughOther-clause-served g c =
    let given = c.args.given in
    let text = c.args.pair.text.items in
    let octets = c.args.pair.journal.items in
    let start = c.in_ok-start.start in
    let serial = c.in-StoreThoughOther.serial in
    let is : IsStarted text octets start =
    subst (λ (t : List ℕ). IsStarted t octets start) c.deref.ensures.value (subst (λ (o : List ℕ). IsStarted c.deref.result.now o start) c.deref-2.ensures.value c.in_ok-start.ensures.started) in
    let chosen : IsChosen given.text.now given.origin.now given.taken text octets (IsOlder serial) =
    record { start = start; is = is; chosen = chosen_as given.text.now given.origin.now given.taken c.args.random text octets start _ (IsOlder serial) c.in-StoreThoughOther.is c.in_ok-choice_of.ensures.chosen } in
    older_served given.text.now given.origin.now given.taken c.args.random text octets serial chosen c.go_on-in-StoreThoughOther.result c.go_on-in-StoreThoughOther.ensures.store c.go_on-in-StoreThoughOther.ensures.served

pub returns-in-RefuseNewer-clause-refused : goal.returns-in-RefuseNewer-clause-refused
returns-in-RefuseNewer-clause-refused g c =
    let given = c.args.given in
    let text = c.args.pair.text.items in
    let octets = c.args.pair.journal.items in
    let start = c.in_ok-start.start in
    let is : IsStarted text octets start =
    subst (λ (t : List ℕ). IsStarted t octets start) c.deref.ensures.value (subst (λ (o : List ℕ). IsStarted c.deref.result.now o start) c.deref-2.ensures.value c.in_ok-start.ensures.started) in
    let chosen : IsChosen given.text.now given.origin.now given.taken text octets (RefuseNewer c.in-RefuseNewer.given) =
    record { start = start; is = is; chosen = chosen_as given.text.now given.origin.now given.taken c.args.random text octets start _ (RefuseNewer c.in-RefuseNewer.given) c.in-RefuseNewer.is c.in_ok-choice_of.ensures.chosen } in
    (chosen, c.serial-has.ensures)

pub returns-in-RefuseOtherApex-clause-refused : goal.returns-in-RefuseOtherApex-clause-refused
returns-in-RefuseOtherApex-clause-refused g c =
    let given = c.args.given in
    let text = c.args.pair.text.items in
    let octets = c.args.pair.journal.items in
    let start = c.in_ok-start.start in
    let is : IsStarted text octets start =
    subst (λ (t : List ℕ). IsStarted t octets start) c.deref.ensures.value (subst (λ (o : List ℕ). IsStarted c.deref.result.now o start) c.deref-2.ensures.value c.in_ok-start.ensures.started) in
    let chosen : IsChosen given.text.now given.origin.now given.taken text octets (RefuseOtherApex c.in-RefuseOtherApex.given) =
    record { start = start; is = is; chosen = chosen_as given.text.now given.origin.now given.taken c.args.random text octets start _ (RefuseOtherApex c.in-RefuseOtherApex.given) c.in-RefuseOtherApex.is c.in_ok-choice_of.ensures.chosen } in
    (chosen, c.copy-has.ensures ∙ (c.apex.ensures ∙ ap apex_of c.zone.ensures))

pub returns-in-Zone-clause-served : goal.returns-in-Zone-clause-served
returns-in-Zone-clause-served g c =
    let given = c.args.given in
    let text = c.args.pair.text.items in
    let octets = c.args.pair.journal.items in
    let start = c.in_ok-start.start in
    let zone = c.in-Zone.zone in
    let is : IsStarted text octets start =
    subst (λ (t : List ℕ). IsStarted t octets start) c.deref.ensures.value (subst (λ (o : List ℕ). IsStarted c.deref.result.now o start) c.deref-2.ensures.value c.in_ok-start.ensures.started) in
    let chosen : IsChosen given.text.now given.origin.now given.taken text octets (IsZone zone) =
    record { start = start; is = is; chosen = chosen_as given.text.now given.origin.now given.taken c.args.random text octets start _ (IsZone zone) c.in-Zone.is c.in_ok-choice_of.ensures.chosen } in
    zone_served given.text.now given.origin.now given.taken c.args.random text octets zone chosen c.take_text.result c.take_text.ensures.served

pub returns-in-Zone-clause-refused : goal.returns-in-Zone-clause-refused
returns-in-Zone-clause-refused g c =
    let given = c.args.given in
    let text = c.args.pair.text.items in
    let octets = c.args.pair.journal.items in
    let start = c.in_ok-start.start in
    let zone = c.in-Zone.zone in
    let is : IsStarted text octets start =
    subst (λ (t : List ℕ). IsStarted t octets start) c.deref.ensures.value (subst (λ (o : List ℕ). IsStarted c.deref.result.now o start) c.deref-2.ensures.value c.in_ok-start.ensures.started) in
    let chosen : IsChosen given.text.now given.origin.now given.taken text octets (IsZone zone) =
    record { start = start; is = is; chosen = chosen_as given.text.now given.origin.now given.taken c.args.random text octets start _ (IsZone zone) c.in-Zone.is c.in_ok-choice_of.ensures.chosen } in
    zone_refused given.text.now given.origin.now given.taken c.args.random text octets zone chosen c.take_text.result c.take_text.ensures.refused

pub take_text-requires-clause-apex : goal.take_text-requires-clause-apex
take_text-requires-clause-apex g c =
    let given = c.args.given in
    let start = c.in_ok-start.start in
    (chosen_as given.text.now given.origin.now given.taken c.args.random c.args.pair.text.items c.args.pair.journal.items start _ (IsZone c.in-Zone.zone) c.in-Zone.is c.in_ok-choice_of.ensures.chosen).3

pub returns-in-Same-clause-torn : goal.returns-in-Same-clause-torn
returns-in-Same-clause-torn g c =
    let given = c.args.given in
    let text = c.args.pair.text.items in
    let octets = c.args.pair.journal.items in
    let start = c.in_ok-start.start in
    let is : IsStarted text octets start =
    subst (λ (t : List ℕ). IsStarted t octets start) c.deref.ensures.value (subst (λ (o : List ℕ). IsStarted c.deref.result.now o start) c.deref-2.ensures.value c.in_ok-start.ensures.started) in
    end_kept given.text.now given.origin.now given.taken c.args.random text octets start is c.go_on.result c.go_on.ensures.torn

pub returns-in-Store-clause-torn : goal.returns-in-Store-clause-torn
returns-in-Store-clause-torn g c =
    let given = c.args.given in
    let text = c.args.pair.text.items in
    let octets = c.args.pair.journal.items in
    let start = c.in_ok-start.start in
    let is : IsStarted text octets start =
    subst (λ (t : List ℕ). IsStarted t octets start) c.deref.ensures.value (subst (λ (o : List ℕ). IsStarted c.deref.result.now o start) c.deref-2.ensures.value c.in_ok-start.ensures.started) in
    end_kept given.text.now given.origin.now given.taken c.args.random text octets start is c.go_on-in-Store.result c.go_on-in-Store.ensures.torn

pub returns-in-StoreThoughOther-clause-torn : goal.returns-in-StoreThoughOther-clause-torn
returns-in-StoreThoughOther-clause-torn g c =
    let given = c.args.given in
    let text = c.args.pair.text.items in
    let octets = c.args.pair.journal.items in
    let start = c.in_ok-start.start in
    let is : IsStarted text octets start =
    subst (λ (t : List ℕ). IsStarted t octets start) c.deref.ensures.value (subst (λ (o : List ℕ). IsStarted c.deref.result.now o start) c.deref-2.ensures.value c.in_ok-start.ensures.started) in
    end_kept given.text.now given.origin.now given.taken c.args.random text octets start is c.go_on-in-StoreThoughOther.result c.go_on-in-StoreThoughOther.ensures.torn

pub returns-in-Zone-clause-torn : goal.returns-in-Zone-clause-torn
returns-in-Zone-clause-torn g c =
    let given = c.args.given in
    let text = c.args.pair.text.items in
    let octets = c.args.pair.journal.items in
    let start = c.in_ok-start.start in
    let is : IsStarted text octets start =
    subst (λ (t : List ℕ). IsStarted t octets start) c.deref.ensures.value (subst (λ (o : List ℕ). IsStarted c.deref.result.now o start) c.deref-2.ensures.value c.in_ok-start.ensures.started) in
    end_kept given.text.now given.origin.now given.taken c.args.random text octets start is c.take_text.result c.take_text.ensures.torn
