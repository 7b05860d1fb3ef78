-- What is served, and the store that goes on with it.
use Rattle.std.proofs.Common.{◌≡◌, ℕ, List, length, Option, Result, Ok, Err, IfOk, IfErr, sym, subst}
use Rattle.dns_name.specs.Name.{Name}
use Rattle.dns_rdata.specs.Record.{Record}
use Rattle.dns_rdata.specs.declared.numbers.Serial.{Serial}
use Rattle.store_recovery.specs.declared.start.Recovery.{Recovery}
use Rattle.store_recovery.specs.declared.choices.Take.{Take}
use Rattle.store_recovery.specs.declared.choices.Choice.{Choice}
use Rattle.store_recovery.specs.declared.choices.Choice.TheVariants.{Same as IsSame, Store as IsStore, Zone as IsZone, StoreThoughOther as IsOlder}
use Rattle.store_recovery.specs.Choice.{IsChoice}
use Rattle.store_recovery.specs.Start.{IsStarted}
use Rattle.store_server.specs.declared.refusal.Refusal.{Refusal}
use Rattle.store_server.specs.declared.refusal.Refusal.TheVariants.{Held, NoJournal, NoText, NoStart, Newer, NoChange, TooLarge, OtherApex, Text, NoMemory, Device}
use Rattle.store_server.specs.declared.resume.OpenStore.{OpenStore}
use Rattle.store_server.specs.declared.start.Served.{Served}
use Rattle.store_server.specs.declared.start.Served.TheVariants.{Created, Same, Store, StoreThoughOther, Zone}
use Rattle.store_server.specs.declared.start.Started.{Started}
use Rattle.store_server.specs.Started.{GoesOn, IsChosen, IsServedBy, IsServedOf, IsServed, IsTakenAs, IsOwnFault, IsNotTaken, IsRefused, IsRefusedOf, IsEndKept, IsEndKeptOf}

-- want of memory and a device's fault refuse a start
pub own_refused : (given : List ℕ) (origin : Name) (taken : Option Take) (result : Result Started Refusal) → IfErr result IsOwnFault → IfErr result (λ refusal. IsRefused given origin taken refusal)
own_refused given origin taken (Ok started) own = tt
own_refused given origin taken (Err Held) own = absurd own
own_refused given origin taken (Err (NoJournal number)) own = absurd own
own_refused given origin taken (Err (NoText number)) own = absurd own
own_refused given origin taken (Err (NoStart fault)) own = absurd own
own_refused given origin taken (Err (Newer has serial)) own = absurd own
own_refused given origin taken (Err (NoChange fault)) own = absurd own
own_refused given origin taken (Err TooLarge) own = absurd own
own_refused given origin taken (Err (OtherApex has other)) own = absurd own
own_refused given origin taken (Err (Text fault)) own = absurd own
own_refused given origin taken (Err NoMemory) own = tt
own_refused given origin taken (Err (Device fault)) own = tt

module _ (given : List ℕ) (origin : Name) (taken : Option Take) (random text octets : List ℕ) where
  -- a choice, as it was made
  pub chosen_as : (start : Recovery) (found choice : Choice) → found ≡ choice → IsChoice start.head.origin start.newest.last.zone origin given taken found
      → IsChoice start.head.origin start.newest.last.zone origin given taken choice
  chosen_as start found choice same chosen = subst (λ (c : Choice). IsChoice start.head.origin start.newest.last.zone origin given taken c) same chosen

  -- a torn end is kept
  pub end_kept : (start : Recovery) → IsStarted text octets start → (result : Result Started Refusal) → IfOk result (λ s. IsEndKept (length octets) start.ending s.torn) → IfOk result (λ s. IsEndKeptOf text octets s.torn)
  end_kept start is (Ok started) kept = (start, is, kept)
  end_kept start is (Err refusal) kept = tt

  -- the store goes on
  goes_on : (started : Started) (served : Served) → started.served ≡ served → IsServedOf text octets given origin taken random started.store served → IsServedOf text octets given origin taken random started.store started.served
  goes_on started served same is = subst (λ (s : Served). IsServedOf text octets given origin taken random started.store s) (sym same) is

  pub same_served : (is : IsChosen given origin taken text octets IsSame) (result : Result Started Refusal) → IfOk result (λ s. GoesOn text octets is.start s.store) → IfOk result (λ s. s.served ≡ Same)
      → IfOk result (λ s. IsServedOf text octets given origin taken random s.store s.served)
  same_served is (Ok started) goes same = goes_on started Same same (is, goes)
  same_served is (Err refusal) goes same = tt

  pub store_served : (is : IsChosen given origin taken text octets IsStore) (result : Result Started Refusal) → IfOk result (λ s. GoesOn text octets is.start s.store) → IfOk result (λ s. s.served ≡ Store)
      → IfOk result (λ s. IsServedOf text octets given origin taken random s.store s.served)
  store_served is (Ok started) goes same = goes_on started Store same (is, goes)
  store_served is (Err refusal) goes same = tt

  pub older_served : (serial : Serial) (is : IsChosen given origin taken text octets (IsOlder serial)) (result : Result Started Refusal) → IfOk result (λ s. GoesOn text octets is.start s.store)
      → IfOk result (λ s. s.served ≡ StoreThoughOther serial) → IfOk result (λ s. IsServedOf text octets given origin taken random s.store s.served)
  older_served serial is (Ok started) goes same = goes_on started (StoreThoughOther serial) same (is, goes)
  older_served serial is (Err refusal) goes same = tt

  -- the text is taken
  taken_served : (served : Served) (store : OpenStore) (zone : List Record) (is : IsChosen given origin taken text octets (IsZone zone))
      → IsTakenAs text octets is.start zone given random store served → IsServedOf text octets given origin taken random store served
  taken_served (Zone change) store zone is takes = (zone, is, takes)
  taken_served Created store zone is takes = absurd takes
  taken_served Same store zone is takes = absurd takes
  taken_served Store store zone is takes = absurd takes
  taken_served (StoreThoughOther serial) store zone is takes = absurd takes

  pub zone_served : (zone : List Record) (is : IsChosen given origin taken text octets (IsZone zone)) (result : Result Started Refusal)
      → IfOk result (λ s. IsTakenAs text octets is.start zone given random s.store s.served) → IfOk result (λ s. IsServedOf text octets given origin taken random s.store s.served)
  zone_served zone is (Ok started) takes = taken_served started.served started.store zone is takes
  zone_served zone is (Err refusal) takes = tt

  -- or isn't taken
  pub zone_refused : (zone : List Record) (is : IsChosen given origin taken text octets (IsZone zone)) (result : Result Started Refusal)
      → IfErr result (λ refusal. IsNotTaken is.start.newest.last.zone zone refusal) → IfErr result (λ refusal. IsRefusedOf text octets given origin taken refusal)
  zone_refused zone is (Ok started) none = tt
  zone_refused zone is (Err Held) none = absurd none
  zone_refused zone is (Err (NoJournal number)) none = absurd none
  zone_refused zone is (Err (NoText number)) none = absurd none
  zone_refused zone is (Err (NoStart fault)) none = absurd none
  zone_refused zone is (Err (Newer has serial)) none = absurd none
  zone_refused zone is (Err (NoChange fault)) none = (zone, is, none)
  zone_refused zone is (Err TooLarge) none = (zone, is, none)
  zone_refused zone is (Err (OtherApex has other)) none = absurd none
  zone_refused zone is (Err (Text fault)) none = absurd none
  zone_refused zone is (Err NoMemory) none = tt
  zone_refused zone is (Err (Device fault)) none = tt

  -- so what is served is what is chosen of some store
  served_of : (store : OpenStore) (served : Served) → IsServedOf text octets given origin taken random store served → IsServedBy given origin taken random store served
  served_of store Created is = absurd is
  served_of store (Zone change) is = (text, octets, is.0, is.1, is.2)
  served_of store Same is = (text, octets, is.0, is.1)
  served_of store Store is = (text, octets, is.0, is.1)
  served_of store (StoreThoughOther serial) is = (text, octets, is.0, is.1)

  pub found_served : (result : Result Started Refusal) → IfOk result (λ s. IsServedOf text octets given origin taken random s.store s.served) → IfOk result (λ s. IsServed given origin taken random s)
  found_served (Ok started) is = served_of started.store started.served is
  found_served (Err refusal) is = tt

  -- and why nothing is served
  refused_of : (refusal : Refusal) → IsRefusedOf text octets given origin taken refusal → IsRefused given origin taken refusal
  refused_of Held none = absurd none
  refused_of (NoJournal number) none = absurd none
  refused_of (NoText number) none = absurd none
  refused_of (NoStart fault) none = (text, octets, none)
  refused_of (Newer has serial) none = (text, octets, none.0, none.1)
  refused_of (NoChange fault) none = (text, octets, none.0, none.1, none.2)
  refused_of TooLarge none = (text, octets, none.0, none.1, none.2)
  refused_of (OtherApex has other) none = (text, octets, none.0, none.1)
  refused_of (Text fault) none = none
  refused_of NoMemory none = tt
  refused_of (Device fault) none = tt

  pub found_refused : (result : Result Started Refusal) → IfErr result (λ refusal. IsRefusedOf text octets given origin taken refusal) → IfErr result (λ refusal. IsRefused given origin taken refusal)
  found_refused (Ok started) none = tt
  found_refused (Err refusal) none = refused_of refusal none

  -- want of memory and a device's fault refuse a store that was found
  pub own_refused_of : (result : Result Started Refusal) → IfErr result IsOwnFault → IfErr result (λ refusal. IsRefusedOf text octets given origin taken refusal)
  own_refused_of (Ok started) own = tt
  own_refused_of (Err Held) own = absurd own
  own_refused_of (Err (NoJournal number)) own = absurd own
  own_refused_of (Err (NoText number)) own = absurd own
  own_refused_of (Err (NoStart fault)) own = absurd own
  own_refused_of (Err (Newer has serial)) own = absurd own
  own_refused_of (Err (NoChange fault)) own = absurd own
  own_refused_of (Err TooLarge) own = absurd own
  own_refused_of (Err (OtherApex has other)) own = absurd own
  own_refused_of (Err (Text fault)) own = absurd own
  own_refused_of (Err NoMemory) own = tt
  own_refused_of (Err (Device fault)) own = tt
