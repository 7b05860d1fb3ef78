-- A start has one choice.
use Rattle.std.proofs.Common.{◌≡◌, ℕ, Bool, true, false, List, Option, None, Some, Result, Ok, Err, ◌↔◌, IsTrue, if◌then◌else◌, refl, sym, ap, ◌∙◌, subst, inl, inr}
use Rattle.dns_name.specs.Name.{Name, is_same}
use Rattle.dns_rdata.specs.Record.{Record}
use Rattle.dns_rdata.specs.declared.numbers.Serial.{Serial}
use Rattle.dns_rdata.specs.SerialOrder.{serial_less}
use Rattle.zone_tree.specs.Zone.{apex_of}
use Rattle.zone_tree.specs.Version.{zone_serial}
use Rattle.master_file.specs.declared.fault.FileFault.{FileFault}
use Rattle.master_file.specs.Fault.{no_memory}
use Rattle.master_file.specs.ZoneText.{zone_of_text}
use Rattle.journal.specs.declared.heads.TextSum.{TextSum}
use Rattle.journal.specs.Head.{IsText}
use Rattle.store_recovery.specs.declared.choices.Take.{Take}
use Rattle.store_recovery.specs.declared.choices.Take.TheVariants.{Store as TheStore, Zone as TheZone}
use Rattle.store_recovery.specs.declared.choices.Choice.{Choice}
use Rattle.store_recovery.specs.declared.choices.Choice.TheVariants.{Same, Store, Zone, StoreThoughOther, RefuseNewer, RefuseOtherApex}
use Rattle.store_recovery.specs.Choice.{IsOther, HasNoOtherApex, HasOtherApex, HasSerial, IsUntaken, IsChoice, IsChoiceFault}
use Rattle.store_recovery.specs.Choosing.{of_one_apex, of_zones}

-- a test isn't both
not_so : false ≡ true → ⊥
not_so e = cc

-- what is taken is one of three
store_or_zone : (taken : Option Take) → taken ≡ Some TheStore → taken ≡ Some TheZone → ⊥
store_or_zone taken one two = cc

some_or_none : (taken : Option Take) (what : Take) → taken ≡ Some what → taken ≡ None → ⊥
some_or_none taken what one two = cc

-- a text is one zone, of one serial
one_zone : (read : Result (List Record) FileFault) (zone other : List Record) → read ≡ Ok zone → read ≡ Ok other → zone ≡ other
one_zone read zone other one two = cc

zone_or_fault : (read : Result (List Record) FileFault) (zone : List Record) (fault : FileFault) → read ≡ Ok zone → read ≡ Err fault → ⊥
zone_or_fault read zone fault one two = cc

module _ (begun : TextSum) (last : List Record) (origin : Name) (text : List ℕ) (taken : Option Take) where
  one_number : (serial other : ℕ) → HasSerial last origin text serial → HasSerial last origin text other → serial ≡ other
  one_number serial other one two =
      sym one.3 ∙ (ap zone_serial (one_zone (zone_of_text origin text) one.0 two.0 one.1 two.1) ∙ two.3)

  one_serial : (serial other : Serial) → HasSerial last origin text serial.0 → HasSerial last origin text other.0 → serial ≡ other
  one_serial serial other one two =
      let make : ℕ → Serial = λ n. record { 0 = n } in
      ap make (one_number serial.0 other.0 one two)

  -- and that is greater or not
  newer_or_not : (serial other : ℕ) → IsUntaken begun last origin text taken serial true → IsUntaken begun last origin text taken other false → ⊥
  newer_or_not serial other one two =
      not_so (sym two.3 ∙ (ap (λ (n : ℕ). serial_less (zone_serial last) n) (one_number other serial two.2 one.2) ∙ one.3))

  -- a zone has the store's apex or another one
  of_one : (zone : List Record) → zone_of_text origin text ≡ Ok zone → is_same (apex_of zone) (apex_of last) ≡ true → HasNoOtherApex last origin text
  of_one zone is same other too =
      subst (λ (z : List Record). is_same (apex_of z) (apex_of last) ≡ true) (one_zone (zone_of_text origin text) zone other is too) same

  of_serial : (serial : ℕ) → HasSerial last origin text serial → HasNoOtherApex last origin text
  of_serial serial has = of_one has.0 has.1 has.2

  same_or_other : (apex : Name) → HasNoOtherApex last origin text → HasOtherApex last origin text apex → ⊥
  same_or_other apex same other =
      not_so (sym other.3 ∙ (ap (λ (a : Name). is_same a (apex_of last)) other.2 ∙ same other.0 other.1))

  one_apex : (apex other : Name) → HasOtherApex last origin text apex → HasOtherApex last origin text other → apex ≡ other
  one_apex apex other one two = one.2 ∙ (ap apex_of (one_zone (zone_of_text origin text) one.0 two.0 one.1 two.1) ∙ sym two.2)

  pub one_choice_of : (choice other : Choice) → IsChoice begun last origin text taken choice → IsChoice begun last origin text taken other → choice ≡ other
  one_choice_of Same Same one two = refl
  one_choice_of Same Store one two = absurd (two.0 one.0)
  one_choice_of Same (Zone other) one two = absurd (two.0 one.0)
  one_choice_of Same (StoreThoughOther other) one two = absurd (two.0 one.0)
  one_choice_of Same (RefuseNewer other) one two = absurd (two.0 one.0)
  one_choice_of Same (RefuseOtherApex other) one two = absurd (same_or_other other one.1 two)
  one_choice_of Store Same one two = absurd (one.0 two.0)
  one_choice_of Store Store one two = refl
  one_choice_of Store (Zone other) one two = absurd (store_or_zone taken one.1 two.1)
  one_choice_of Store (StoreThoughOther other) one two = absurd (some_or_none taken TheStore one.1 two.1)
  one_choice_of Store (RefuseNewer other) one two = absurd (some_or_none taken TheStore one.1 two.1)
  one_choice_of Store (RefuseOtherApex other) one two = absurd (same_or_other other one.2 two)
  one_choice_of (Zone zone) Same one two = absurd (one.0 two.0)
  one_choice_of (Zone zone) Store one two = absurd (store_or_zone taken two.1 one.1)
  one_choice_of (Zone zone) (Zone other) one two = ap (λ (z : List Record). Zone z) (one_zone (zone_of_text origin text) zone other one.2 two.2)
  one_choice_of (Zone zone) (StoreThoughOther other) one two = absurd (some_or_none taken TheZone one.1 two.1)
  one_choice_of (Zone zone) (RefuseNewer other) one two = absurd (some_or_none taken TheZone one.1 two.1)
  one_choice_of (Zone zone) (RefuseOtherApex other) one two = absurd (same_or_other other (of_one zone one.2 one.3) two)
  one_choice_of (StoreThoughOther serial) Same one two = absurd (one.0 two.0)
  one_choice_of (StoreThoughOther serial) Store one two = absurd (some_or_none taken TheStore two.1 one.1)
  one_choice_of (StoreThoughOther serial) (Zone other) one two = absurd (some_or_none taken TheZone two.1 one.1)
  one_choice_of (StoreThoughOther serial) (StoreThoughOther other) one two = ap (λ (s : Serial). StoreThoughOther s) (one_serial serial other one.2 two.2)
  one_choice_of (StoreThoughOther serial) (RefuseNewer other) one two = absurd (newer_or_not other.0 serial.0 two one)
  one_choice_of (StoreThoughOther serial) (RefuseOtherApex other) one two = absurd (same_or_other other (of_serial serial.0 one.2) two)
  one_choice_of (RefuseNewer serial) Same one two = absurd (one.0 two.0)
  one_choice_of (RefuseNewer serial) Store one two = absurd (some_or_none taken TheStore two.1 one.1)
  one_choice_of (RefuseNewer serial) (Zone other) one two = absurd (some_or_none taken TheZone two.1 one.1)
  one_choice_of (RefuseNewer serial) (StoreThoughOther other) one two = absurd (newer_or_not serial.0 other.0 one two)
  one_choice_of (RefuseNewer serial) (RefuseNewer other) one two = ap (λ (s : Serial). RefuseNewer s) (one_serial serial other one.2 two.2)
  one_choice_of (RefuseNewer serial) (RefuseOtherApex other) one two = absurd (same_or_other other (of_serial serial.0 one.2) two)
  one_choice_of (RefuseOtherApex apex) Same one two = absurd (same_or_other apex two.1 one)
  one_choice_of (RefuseOtherApex apex) Store one two = absurd (same_or_other apex two.2 one)
  one_choice_of (RefuseOtherApex apex) (Zone other) one two = absurd (same_or_other apex (of_one other two.2 two.3) one)
  one_choice_of (RefuseOtherApex apex) (StoreThoughOther other) one two = absurd (same_or_other apex (of_serial other.0 two.2) one)
  one_choice_of (RefuseOtherApex apex) (RefuseNewer other) one two = absurd (same_or_other apex (of_serial other.0 two.2) one)
  one_choice_of (RefuseOtherApex apex) (RefuseOtherApex other) one two = ap (λ (n : Name). RefuseOtherApex n) (one_apex apex other one two)

  -- a text that is a zone has no fault
  memory_alone : (zone : List Record) (fault : FileFault) → zone_of_text origin text ≡ Ok zone → IsChoiceFault begun origin text taken fault → fault ≡ no_memory
  memory_alone zone fault is (inl memory) = memory
  memory_alone zone fault is (inr reported) = absurd (zone_or_fault (zone_of_text origin text) zone fault is reported.2)

  -- nor has the one that a store was begun from, and a store that is taken
  pub same_alone : (fault : FileFault) → IsText begun text → IsChoiceFault begun origin text taken fault → fault ≡ no_memory
  same_alone fault same (inl memory) = memory
  same_alone fault same (inr reported) = absurd (reported.0 same)

  store_alone : (fault : FileFault) → taken ≡ Some TheStore → IsChoiceFault begun origin text taken fault → fault ≡ no_memory
  store_alone fault store (inl memory) = memory
  store_alone fault store (inr reported) = absurd (reported.1 store)

  pub choice_apart : (choice : Choice) (fault : FileFault) → IsChoice begun last origin text taken choice → IsChoiceFault begun origin text taken fault → fault ≡ no_memory
  choice_apart Same fault is reported = same_alone fault is.0 reported
  choice_apart Store fault is reported = store_alone fault is.1 reported
  choice_apart (Zone zone) fault is reported = memory_alone zone fault is.2 reported
  choice_apart (StoreThoughOther serial) fault is reported = let has = is.2 in memory_alone has.0 fault has.1 reported
  choice_apart (RefuseNewer serial) fault is reported = let has = is.2 in memory_alone has.0 fault has.1 reported
  choice_apart (RefuseOtherApex apex) fault is reported = memory_alone is.0 fault is.1 reported

  -- the text that a store was begun from
  pub served_alone : (choice : Choice) → IsText begun text → HasNoOtherApex last origin text → IsChoice begun last origin text taken choice → choice ≡ Same
  served_alone choice same apex is = one_choice_of choice Same is (same, apex)

  pub refused_alone : (apex : Name) (choice : Choice) → HasOtherApex last origin text apex → IsChoice begun last origin text taken choice → choice ≡ RefuseOtherApex apex
  refused_alone apex choice other is = one_choice_of choice (RefuseOtherApex apex) is other

-- what is served of two zones of one apex
not_taken : (begun : TextSum) (last : List Record) (origin : Name) (text : List ℕ) (zone : List Record) (greater : Bool) → serial_less (zone_serial last) (zone_serial zone) ≡ greater
    → IsOther begun text → zone_of_text origin text ≡ Ok zone → is_same (apex_of zone) (apex_of last) ≡ true
    → IsChoice begun last origin text None (if greater then RefuseNewer (record { 0 = zone_serial zone }) else StoreThoughOther (record { 0 = zone_serial zone }))
not_taken begun last origin text zone true less other is alike = (other, refl, (zone, is, alike, refl), less)
not_taken begun last origin text zone false less other is alike = (other, refl, (zone, is, alike, refl), less)

one_apex_chosen : (begun : TextSum) (last : List Record) (origin : Name) (text : List ℕ) (taken : Option Take) (zone : List Record) (same : Bool) → (IsTrue same ↔ IsText begun text)
    → zone_of_text origin text ≡ Ok zone → is_same (apex_of zone) (apex_of last) ≡ true → IsChoice begun last origin text taken (of_one_apex last zone same taken)
one_apex_chosen begun last origin text taken zone true tested is alike = (tested.0 refl, of_one begun last origin text taken zone is alike)
one_apex_chosen begun last origin text (Some TheStore) zone false tested is alike = (λ so. not_so (tested.1 so), refl, of_one begun last origin text (Some TheStore) zone is alike)
one_apex_chosen begun last origin text (Some TheZone) zone false tested is alike =
    ((λ so. not_so (tested.1 so)), refl, is, alike)
one_apex_chosen begun last origin text None zone false tested is alike =
    not_taken begun last origin text zone (serial_less (zone_serial last) (zone_serial zone)) refl (λ so. not_so (tested.1 so)) is alike

-- and of any two
zones_chosen_at : (begun : TextSum) (last : List Record) (origin : Name) (text : List ℕ) (taken : Option Take) (zone : List Record) (same alike : Bool) → is_same (apex_of zone) (apex_of last) ≡ alike
    → (IsTrue same ↔ IsText begun text) → zone_of_text origin text ≡ Ok zone
    → IsChoice begun last origin text taken (if alike then of_one_apex last zone same taken else RefuseOtherApex (apex_of zone))
zones_chosen_at begun last origin text taken zone same true e tested is = one_apex_chosen begun last origin text taken zone same tested is e
zones_chosen_at begun last origin text taken zone same false e tested is = (zone, is, refl, e)

pub zones_chosen : (begun : TextSum) (last : List Record) (origin : Name) (text : List ℕ) (taken : Option Take) (zone : List Record) (same : Bool) → (IsTrue same ↔ IsText begun text)
    → zone_of_text origin text ≡ Ok zone → IsChoice begun last origin text taken (of_zones last zone same taken)
zones_chosen begun last origin text taken zone same tested is = zones_chosen_at begun last origin text taken zone same (is_same (apex_of zone) (apex_of last)) refl tested is
