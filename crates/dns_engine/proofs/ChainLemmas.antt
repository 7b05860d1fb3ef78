-- What a history tells of the versions after an asker's is what changed through those that were published.
use Rattle.std.proofs.Common.{◌≡◌, refl, ℕ, suc, zero, ◌+◌, ◌-◌, ◌<◌, ◌≤◌, Bool, true, false, List, [], ◌∷◌, ◌++◌, length, map, filter, drop, Option, None, Some, nat_le, nat_lt, arith, rules, sym, ap, ◌∙◌, subst, append_assoc, append-nil, ◌⊎◌, inl, inr}
use Rattle.std.specs.Prelude.{◌==◌, if◌then◌else◌, Contains}
use Rattle.std.specs.Option.{option_or, option_and_then}
use Rattle.std.proofs.lemmas.Bool.Decides.{nat_tests}
use Rattle.std.proofs.lemmas.List.{length_push, map-append, length-map, length-append}
use Rattle.dns_rdata.specs.Record.{Record}
use Rattle.dns_rdata.specs.declared.numbers.Serial.{Serial}
use Rattle.zone_tree.specs.Zone.{soa_of}
use Rattle.zone_tree.specs.Version.{Version, zone_serial}
use Rattle.transfer_core.specs.Lists.{newest as newest_zone, incremental}
use Rattle.transfer_core.specs.Chain.{zones_of, AreBehind, reported, told_changes}
use Rattle.transfer_core.specs.Window.{fits, serials_of, window, held_here, held, changes_from, changes_since}
use Rattle.transfer_core.proofs.VersionLemmas.{list_told}
use Rattle.cell_core.specs.Cell.{EachFollows}
use Rattle.cell_core.specs.declared.words.Version.{Version as Numbered}
use Rattle.counted_handles.specs.History.{IsHistory}
use Rattle.snapshot_cell.specs.Tokens.{ReaderState, IsUpgraded}
use Rattle.weak_history.specs.History.{Entered, serials_in, versions_in, longest_run, numbered_to, after_serial, later_entries}
use Rattle.weak_history.specs.Owned.{less, AreOwned, HasGone}
use Rattle.dns_engine.specs.Versions.{IsFirst, IsNext}
use Rattle.dns_engine.specs.Owned.{versions_of}
use Rattle.dns_engine.specs.Entries.{entry_of, entries_of}
use Rattle.dns_engine.specs.Chain.{changes_told, HasBroken}

abbrev Zone : Type 0
Zone = List Record

abbrev pub entered : List Version → List (Entered Version)
entered versions = map entry_of versions

-- numbers one after the other
abbrev pub AreNumbered : ℕ → List Version → Type 0
AreNumbered number [] = Unit {0}
AreNumbered number (version ∷ versions) = (version.number ≡ number) × AreNumbered (number + 1) versions

numbered_behind : (version : Version) (more : List Version) (number : ℕ) → version.number ≡ number → EachFollows IsNext (version ∷ more) → AreNumbered (number + 1) more
numbered_behind version [] number is each = tt
numbered_behind version (next ∷ more) number is each =
    let here : next.number ≡ number + 1 = each.0.makes.number ∙ ap (λ n. n + 1) is in
    (here, numbered_behind next more (number + 1) here each.1)

-- published versions are numbered from 0
pub are_numbered : (first : List Record) (published : List Version) → IsHistory (IsFirst first) IsNext published → AreNumbered 0 published
are_numbered first [] history = tt
are_numbered first (version ∷ more) history = (history.0.number, numbered_behind version more 0 history.0.number history.1)

numbered_front : (number : ℕ) (versions more : List Version) → AreNumbered number (versions ++ more) → AreNumbered number versions
numbered_front number [] more are = tt
numbered_front number (version ∷ versions) more are = (are.0, numbered_front (number + 1) versions more are.1)

numbered_back : (number : ℕ) (versions more : List Version) → AreNumbered number (versions ++ more) → AreNumbered (number + length versions) more
numbered_back number [] more are = subst (λ n. AreNumbered n more) (omega arith) are
numbered_back number (version ∷ versions) more are = subst (λ n. AreNumbered n more) (omega arith) (numbered_back (number + 1) versions more are.1)

with_one : (number : ℕ) (version : Version) (versions : List Version) → version.number ≤ number → numbered_to number (entered (version ∷ versions)) ≡ entry_of version ∷ numbered_to number (entered versions)
with_one number version versions up =
    let is : nat_le version.number number ≡ true = grind (arith, nat_tests) in
    rw is refl

without_one : (number : ℕ) (version : Version) (versions : List Version) → number < version.number → numbered_to number (entered (version ∷ versions)) ≡ numbered_to number (entered versions)
without_one number version versions beyond =
    let is : nat_le version.number number ≡ false = grind (arith, nat_tests) in
    rw is refl

-- versions beyond a number are left out
all_beyond : (number from : ℕ) (versions : List Version) → AreNumbered from versions → number < from → numbered_to number (entered versions) ≡ []
all_beyond number from [] are beyond = refl
all_beyond number from (version ∷ versions) are beyond =
    without_one number version versions (omega (arith, are.0)) ∙ all_beyond number (from + 1) versions are.1 (omega arith)

-- and those up to it are there
all_up : (number from : ℕ) (versions newer : List Version) → AreNumbered from (versions ++ newer) → from + length versions ≡ number + 1 → numbered_to number (entered (versions ++ newer)) ≡ entered versions
all_up number from [] newer are is = all_beyond number from newer are (omega (arith, is))
all_up number from (version ∷ versions) newer are is =
    with_one number version (versions ++ newer) (omega (arith, are.0, is)) ∙ ap (λ l. entry_of version ∷ l) (all_up number (from + 1) versions newer are.1 (omega (arith, is)))

serials_same : (versions : List Version) → serials_in (entered versions) ≡ serials_of (zones_of versions)
serials_same [] = refl
serials_same (version ∷ versions) = ap (λ l. zone_serial version.zone ∷ l) (serials_same versions)

zones_append : (versions more : List Version) → zones_of (versions ++ more) ≡ zones_of versions ++ zones_of more
zones_append [] more = refl
zones_append (v ∷ versions) more = ap (λ zones. v.zone ∷ zones) (zones_append versions more)

module _ (size : ℕ) (newer : List Version) where
  -- the versions of a window
  abbrev pub run_of : List Version → List Version
  run_of [] = []
  run_of (version ∷ versions) = if fits size (serials_of (zones_of ((version ∷ versions) ++ newer))) then version ∷ versions else run_of versions

  window_by : (version : Version) (versions : List Version) (b : Bool) → fits size (serials_of (zones_of ((version ∷ versions) ++ newer))) ≡ b → zones_of (run_of versions) ≡ window size (zones_of newer) (zones_of versions)
      → zones_of (run_of (version ∷ versions)) ≡ window size (zones_of newer) (zones_of (version ∷ versions))
  window_by version versions true fit rest =
      let there : fits size (serials_of (zones_of (version ∷ versions) ++ zones_of newer)) ≡ true = ap (λ l. fits size (serials_of l)) (sym (zones_append (version ∷ versions) newer)) ∙ fit in
      rw (fit, there) refl
  window_by version versions false unfit rest =
      let there : fits size (serials_of (zones_of (version ∷ versions) ++ zones_of newer)) ≡ false = ap (λ l. fits size (serials_of l)) (sym (zones_append (version ∷ versions) newer)) ∙ unfit in
      rw (unfit, there) rest

  run_window : (versions : List Version) → zones_of (run_of versions) ≡ window size (zones_of newer) (zones_of versions)
  run_window [] = refl
  run_window (version ∷ versions) = window_by version versions (fits size (serials_of (zones_of ((version ∷ versions) ++ newer)))) refl (run_window versions)

  -- the entries of a window's versions
  beyond_by : (number from : ℕ) (version : Version) (versions : List Version) (b : Bool) → fits size (serials_in (entered (version ∷ versions))) ≡ b → AreNumbered from (version ∷ versions) → number < from
      → numbered_to number (longest_run size (entered versions)) ≡ [] → numbered_to number (longest_run size (entered (version ∷ versions))) ≡ []
  beyond_by number from version versions true fit are beyond rest = rw fit (all_beyond number from (version ∷ versions) are beyond)
  beyond_by number from version versions false unfit are beyond rest = rw unfit rest

  run_beyond : (number from : ℕ) (versions : List Version) → AreNumbered from versions → number < from → numbered_to number (longest_run size (entered versions)) ≡ []
  run_beyond number from [] are beyond = refl
  run_beyond number from (version ∷ versions) are beyond =
      beyond_by number from version versions (fits size (serials_in (entered (version ∷ versions)))) refl are beyond (run_beyond number (from + 1) versions are.1 (omega arith))

  entries_by : (number from : ℕ) (version : Version) (versions : List Version) (b : Bool) → fits size (serials_of (zones_of ((version ∷ versions) ++ newer))) ≡ b → AreNumbered from ((version ∷ versions) ++ newer) → from + length (version ∷ versions) ≡ number + 1
      → numbered_to number (longest_run size (entered (versions ++ newer))) ≡ entered (run_of versions) → numbered_to number (longest_run size (entered ((version ∷ versions) ++ newer))) ≡ entered (run_of (version ∷ versions))
  entries_by number from version versions true fit are is rest =
      let there : fits size (serials_in (entered ((version ∷ versions) ++ newer))) ≡ true = ap (fits size) (serials_same ((version ∷ versions) ++ newer)) ∙ fit in
      rw (fit, there) (all_up number from (version ∷ versions) newer are is)
  entries_by number from version versions false unfit are is rest =
      let there : fits size (serials_in (entered ((version ∷ versions) ++ newer))) ≡ false = ap (fits size) (serials_same ((version ∷ versions) ++ newer)) ∙ unfit in
      rw (unfit, there) rest

  run_entries : (number from : ℕ) (versions : List Version) → AreNumbered from (versions ++ newer) → from + length versions ≡ number + 1 → numbered_to number (longest_run size (entered (versions ++ newer))) ≡ entered (run_of versions)
  run_entries number from [] are is = run_beyond number from newer are (omega (arith, is))
  run_entries number from (version ∷ versions) are is =
      entries_by number from version versions (fits size (serials_of (zones_of ((version ∷ versions) ++ newer)))) refl are is (run_entries number (from + 1) versions are.1 (omega (arith, is)))

  -- a window ends as its versions do
  abbrev HasPart : List Version → Type 0
  HasPart versions = (front : List Version) × (versions ≡ front ++ run_of versions)

  part_by : (version : Version) (versions : List Version) (b : Bool) → fits size (serials_of (zones_of ((version ∷ versions) ++ newer))) ≡ b → HasPart versions → HasPart (version ∷ versions)
  part_by version versions true fit p = rw fit ([], refl)
  part_by version versions false unfit p = rw unfit (version ∷ p.0, ap (λ l. version ∷ l) p.1)

  run_part : (versions : List Version) → HasPart versions
  run_part [] = ([], refl)
  run_part (version ∷ versions) = part_by version versions (fits size (serials_of (zones_of ((version ∷ versions) ++ newer)))) refl (run_part versions)

-- what is behind the version of a serial, among zones and among entries
pub record IsBehind (serial : ℕ) (versions : List Version) (later : List (Entered Version)) : Type 0 where
  pub front : List Version
  pub version : Version
  pub behind : List Version
  pub split : versions ≡ front ++ version ∷ behind
  pub entries : later ≡ entered behind
  pub found : held serial (zones_of versions) ≡ Some (version.zone, zones_of behind)

or_none : {A : Type 0} (o : Option A) → option_or o None ≡ o
or_none None = refl
or_none (Some x) = refl

some_clash : {A : Type 0} (x : A) → Some x ≡ None → ⊥
some_clash x e = cc

module _ (serial : ℕ) where
  here_other : (version : Version) (versions : List Version) → (zone_serial version.zone == serial) ≡ false → held_here serial version.zone (zones_of versions) ≡ None
  here_other version [] other = refl
  here_other version (next ∷ versions) other = rw other refl

  abbrev further_by : Version → List Version → Option (List (Entered Version)) → Bool → Option (List (Entered Version))
  further_by version versions o b = option_or o (if b then Some (entered versions) else None)

  after_is : (version : Version) (versions : List Version) (o : Option (List (Entered Version))) (b : Bool) → after_serial serial (entered versions) ≡ o → (zone_serial version.zone == serial) ≡ b → after_serial serial (entered (version ∷ versions)) ≡ further_by version versions o b
  after_is version versions o b rest here = ap (λ p. further_by version versions p (zone_serial version.zone == serial)) rest ∙ ap (further_by version versions o) here

  -- where no entry has the serial no zone has
  none_by : (version : Version) (versions : List Version) (o : Option (List (Entered Version))) (b : Bool) → after_serial serial (entered versions) ≡ o → (zone_serial version.zone == serial) ≡ b → after_serial serial (entered (version ∷ versions)) ≡ None
      → (after_serial serial (entered versions) ≡ None → held serial (zones_of versions) ≡ None) → held serial (zones_of (version ∷ versions)) ≡ None
  none_by version versions (Some later) b rest here none more = absurd (some_clash later (sym (after_is version versions (Some later) b rest here) ∙ none))
  none_by version versions None true rest here none more = absurd (some_clash (entered versions) (sym (after_is version versions None true rest here) ∙ none))
  none_by version versions None false rest here none more = ap (λ o. option_or o (held_here serial version.zone (zones_of versions))) (more rest) ∙ here_other version versions here

  none_held : (versions : List Version) → after_serial serial (entered versions) ≡ None → held serial (zones_of versions) ≡ None
  none_held [] none = refl
  none_held (version ∷ versions) none = none_by version versions (after_serial serial (entered versions)) (zone_serial version.zone == serial) refl refl none (none_held versions)

  -- the last of versions has the serial, and nothing is behind it
  abbrev IsEnd : List Version → List (Entered Version) → Type 0
  IsEnd versions later = (front : List Version) × (last : Version) × (versions ≡ front ++ last ∷ []) × (zone_serial last.zone ≡ serial) × (later ≡ [])

  same_some : (a b : List (Entered Version)) → Some a ≡ Some b → a ≡ b
  same_some a b e = cc

  equal_serial : (a b : ℕ) → (a == b) ≡ true → a ≡ b
  equal_serial a b e = grind (arith, nat_tests)

  one_more : (version : Version) (versions : List Version) (later : List (Entered Version)) → IsEnd versions later ⊎ IsBehind serial versions later → IsEnd (version ∷ versions) later ⊎ IsBehind serial (version ∷ versions) later
  one_more version versions later (inl p) = inl (version ∷ p.0, p.1, ap (λ l. version ∷ l) p.2, p.3, p.4)
  one_more version versions later (inr p) =
      inr (record {
        front = version ∷ p.front;
        version = p.version;
        behind = p.behind;
        split = ap (λ l. version ∷ l) p.split;
        entries = p.entries;
        found = ap (λ o. option_or o (held_here serial version.zone (zones_of versions))) p.found;
      })

  here_by : (version : Version) (versions : List Version) (later : List (Entered Version)) → later ≡ entered versions → held serial (zones_of versions) ≡ None → (zone_serial version.zone == serial) ≡ true → IsEnd (version ∷ versions) later ⊎ IsBehind serial (version ∷ versions) later
  here_by version [] later all none met = inl ([], version, refl, equal_serial (zone_serial version.zone) serial met, all)
  here_by version (next ∷ rest) later all none met =
      inr (record {
        front = [];
        version = version;
        behind = next ∷ rest;
        split = refl;
        entries = all;
        found =
            ap (λ o. option_or o (held_here serial version.zone (zones_of (next ∷ rest)))) none
            ∙ ap (λ (t : Bool). if t then Some (version.zone, zones_of (next ∷ rest)) else None) met;
      })

  behind_by : (version : Version) (versions : List Version) (later : List (Entered Version)) (o : Option (List (Entered Version))) (b : Bool) → after_serial serial (entered versions) ≡ o → (zone_serial version.zone == serial) ≡ b
      → after_serial serial (entered (version ∷ versions)) ≡ Some later → ((all : List (Entered Version)) → after_serial serial (entered versions) ≡ Some all → IsEnd versions all ⊎ IsBehind serial versions all)
      → IsEnd (version ∷ versions) later ⊎ IsBehind serial (version ∷ versions) later
  behind_by version versions later (Some all) b rest here is more =
      let same : all ≡ later = same_some all later (sym (after_is version versions (Some all) b rest here) ∙ is) in
      one_more version versions later (subst (λ l. IsEnd versions l ⊎ IsBehind serial versions l) same (more all rest))
  behind_by version versions later None true rest here is more = here_by version versions later (same_some later (entered versions) (sym is ∙ after_is version versions None true rest here)) (none_held versions rest) here
  behind_by version versions later None false rest here is more = absurd (some_clash later (sym is ∙ after_is version versions None false rest here))

  -- what is behind the newest entry of the serial: nothing, and it is the last one; or what is behind the zone of the serial
  held_behind : (versions : List Version) (later : List (Entered Version)) → after_serial serial (entered versions) ≡ Some later → IsEnd versions later ⊎ IsBehind serial versions later
  held_behind [] later is = absurd (some_clash later (sym is))
  held_behind (version ∷ versions) later is = behind_by version versions later (after_serial serial (entered versions)) (zone_serial version.zone == serial) refl refl is (held_behind versions)

-- versions behind one of those published know what they changed
each_behind : (version : Version) (more : List Version) → EachFollows IsNext (version ∷ more) → AreBehind version.zone more
each_behind version [] each = tt
each_behind version (next ∷ more) each = (each.0.makes.changes, each_behind next more each.1)

each_from : (first : Version) (front : List Version) (version : Version) (more : List Version) → EachFollows IsNext (first ∷ (front ++ version ∷ more)) → EachFollows IsNext (version ∷ more)
each_from first [] version more each = each.1
each_from first (next ∷ front) version more each = each_from next front version more each.1

are_behind : (first : List Record) (front : List Version) (version : Version) (more : List Version) → IsHistory (IsFirst first) IsNext (front ++ version ∷ more) → AreBehind version.zone more
are_behind first [] version more history = each_behind version more history.1
are_behind first (oldest ∷ front) version more history = each_behind version more (each_from oldest front version more history.1)

behind_front : (zone : Zone) (versions more : List Version) → AreBehind zone (versions ++ more) → AreBehind zone versions
behind_front zone [] more are = tt
behind_front zone (v ∷ versions) more are = (are.0, behind_front v.zone versions more are.1)

newest_last : (zone : Zone) (versions : List Version) (version : Version) → newest_zone zone (zones_of (versions ++ version ∷ [])) ≡ version.zone
newest_last zone [] version = refl
newest_last zone (v ∷ versions) version = newest_last v.zone versions version

pub versions_entered : (versions : List Version) → versions_of (versions_in (entered versions)) ≡ versions
versions_entered [] = refl
versions_entered (v ∷ versions) = ap (λ l. v ∷ l) (versions_entered versions)

newest_at : (zone : Zone) (front : List Version) (version : Version) (behind : List Version) → newest_zone zone (zones_of (front ++ version ∷ behind)) ≡ newest_zone version.zone (zones_of behind)
newest_at zone [] version behind = refl
newest_at zone (v ∷ front) version behind = newest_at v.zone front version behind

nth_number : (from : ℕ) (versions : List Version) (front : List (Entered Version)) (entry : Entered Version) (rest : List (Entered Version)) → AreNumbered from versions → entered versions ≡ front ++ entry ∷ rest → entry.version.number ≡ from + length front
nth_number from [] [] entry rest are is = absurd (cc)
nth_number from [] (other ∷ front) entry rest are is = absurd (cc)
nth_number from (version ∷ versions) [] entry rest are is = let same : entry ≡ entry_of version = cc in ap (λ (e : Entered Version). e.version.number) same ∙ are.0 ∙ omega arith
nth_number from (version ∷ versions) (other ∷ front) entry rest are is = let same : entered versions ≡ front ++ entry ∷ rest = cc in nth_number (from + 1) versions front entry rest are.1 same ∙ omega arith

contains_first : (number : ℕ) (numbers : List ℕ) → Contains (number ∷ numbers) number
contains_first number numbers = search rules

-- an upgrade that gives no owner has seen the number buried
sunk_buried : (before after : ReaderState Version) (version : Numbered Version) → IsUpgraded before after version None → Contains after.gone version.number
sunk_buried before after version (inl is) = subst (λ (r : ReaderState Version). Contains r.gone version.number) (sym is) (contains_first version.number before.gone)
sunk_buried before after version (inr is) = subst (λ (r : ReaderState Version). Contains r.gone version.number) (sym is) (contains_first version.number before.gone)

module _ (first : List Record) (published before newer : List Version) (version : Version) (history : IsHistory (IsFirst first) IsNext published) (place : published ≡ (before ++ version ∷ []) ++ newer) (number : length before ≡ version.number) (serial : ℕ) where
  abbrev pub versions : List Version
  versions = before ++ version ∷ []

  abbrev pub run : List Version
  run = run_of 16 newer versions

  size : length versions ≡ version.number + 1
  size = length_push before version ∙ ap (λ n. n + 1) number

  numbered : AreNumbered 0 (versions ++ newer)
  numbered = subst (AreNumbered 0) place (are_numbered first published history)

  entries : numbered_to version.number (entries_of published) ≡ entered run
  entries = ap (λ l. numbered_to version.number (entries_of l)) place ∙ run_entries 16 newer version.number 0 versions numbered (omega (arith, size))

  later : later_entries serial version.number (entries_of published) ≡ after_serial serial (entered run)
  later = ap (after_serial serial) entries

  in_window : held serial (zones_of run) ≡ held serial (window 16 (zones_of newer) (zones_of versions))
  in_window = ap (held serial) (run_window 16 newer versions)

  -- where no entry is known, nothing is told
  pub told_unknown : later_entries serial version.number (entries_of published) ≡ None → changes_since 16 (zones_of newer) (length versions) serial (zones_of versions) ≡ None
  told_unknown unknown = ap (changes_from (length versions)) (sym in_window ∙ none_held serial run (sym later ∙ unknown))

  module _ (entries_behind : List (Entered Version)) (b : IsBehind serial run entries_behind) where
    abbrev gone_by : List Version
    gone_by = (run_part 16 newer versions).0

    whole : versions ≡ (gone_by ++ b.front) ++ b.version ∷ b.behind
    whole = (run_part 16 newer versions).1 ∙ ap (λ l. gone_by ++ l) b.split ∙ sym (append_assoc gone_by b.front (b.version ∷ b.behind))

    known : AreBehind b.version.zone b.behind
    known =
        let all : published ≡ (gone_by ++ b.front) ++ b.version ∷ (b.behind ++ newer) = place ∙ ap (λ l. l ++ newer) whole ∙ append_assoc (gone_by ++ b.front) (b.version ∷ b.behind) newer in
        behind_front b.version.zone b.behind newer (are_behind first (gone_by ++ b.front) b.version (b.behind ++ newer) (subst (IsHistory (IsFirst first) IsNext) all history))

    ends : newest_zone b.version.zone (zones_of b.behind) ≡ version.zone
    ends = sym (newest_at [] (gone_by ++ b.front) b.version b.behind) ∙ ap (λ l. newest_zone [] (zones_of l)) (sym whole) ∙ newest_last [] before version

    count : length versions ≡ length (gone_by ++ b.front) + length (b.version ∷ b.behind)
    count = ap length whole ∙ length-append (gone_by ++ b.front) (b.version ∷ b.behind)

    many : length (zones_of b.behind) ≡ length b.behind
    many = length-map b.behind (λ (v : Version). v.zone)

    found : held serial (window 16 (zones_of newer) (zones_of versions)) ≡ Some (b.version.zone, zones_of b.behind)
    found = sym in_window ∙ b.found

    pub told_behind : changes_since 16 (zones_of newer) (length versions) serial (zones_of versions) ≡ Some (reported (soa_of version.zone) b.behind)
    told_behind =
        let few : nat_lt (length versions) (length (zones_of b.behind)) ≡ false = let n = count in let m = many in grind (arith, nat_tests) in
        ap (changes_from (length versions)) found
        ∙ ap (λ (t : Bool). if t then None else Some (incremental b.version.zone (zones_of b.behind))) few
        ∙ ap Some (sym (list_told b.version.zone b.behind version.zone known ends))

    numbers : AreNumbered (length (gone_by ++ b.front) + 1) b.behind
    numbers =
        let all : versions ++ newer ≡ ((gone_by ++ b.front) ++ b.version ∷ []) ++ (b.behind ++ newer) =
        ap (λ l. l ++ newer) (whole ∙ sym (append_assoc (gone_by ++ b.front) (b.version ∷ []) b.behind)) ∙ append_assoc ((gone_by ++ b.front) ++ b.version ∷ []) b.behind newer in
        let back = numbered_back 0 ((gone_by ++ b.front) ++ b.version ∷ []) (b.behind ++ newer) (subst (AreNumbered 0) all numbered) in
        let from : 0 + length ((gone_by ++ b.front) ++ b.version ∷ []) ≡ length (gone_by ++ b.front) + 1 = omega (arith, length_push (gone_by ++ b.front) b.version) in
        numbered_front (length (gone_by ++ b.front) + 1) b.behind newer (subst (λ n. AreNumbered n (b.behind ++ newer)) from back)

    pub told_gone : (seen after : ReaderState Version) (missing : ℕ) → HasGone entries_behind seen after missing → HasBroken versions newer version.number serial after.gone
    told_gone seen after missing g =
        let is : entered b.behind ≡ g.front ++ g.entry ∷ g.rest = sym b.entries ∙ g.split in
        let at : g.entry.version.number ≡ length (gone_by ++ b.front) + 1 + length g.front = nth_number (length (gone_by ++ b.front) + 1) b.behind g.front g.entry g.rest numbers is in
        let all : length b.behind ≡ length g.front + length (g.entry ∷ g.rest) = sym (length-map b.behind entry_of) ∙ ap length is ∙ length-append g.front (g.entry ∷ g.rest) in
        record {
          from = (b.version.zone, zones_of b.behind);
          found = found;
          missing = missing;
          early = omega (arith, g.number_is, at, all, count, size);
          late = omega (arith, g.number_is, at, all, count, size, many);
          buried = subst (Contains after.gone) (sym g.number_is) (sunk_buried (less (length g.front) seen) after g.entry.version g.sunk);
        }

  found_by : (entries_behind : List (Entered Version)) → IsEnd serial run entries_behind ⊎ IsBehind serial run entries_behind → ((zone_serial version.zone ≡ serial) × (entries_behind ≡ [])) ⊎ IsBehind serial run entries_behind
  found_by entries_behind (inl p) =
      let part = run_part 16 newer versions in
      let all : versions ≡ (part.0 ++ p.0) ++ p.1 ∷ [] = part.1 ∙ ap (λ l. part.0 ++ l) p.2 ∙ sym (append_assoc part.0 p.0 (p.1 ∷ [])) in
      let same : version.zone ≡ p.1.zone = sym (newest_last [] before version) ∙ ap (λ l. newest_zone [] (zones_of l)) all ∙ newest_last [] (part.0 ++ p.0) p.1 in
      inl (ap zone_serial same ∙ p.3, p.4)
  found_by entries_behind (inr p) = inr p

  -- the newest entry of the serial is the last one, or the versions behind it are told
  pub found_behind : (entries_behind : List (Entered Version)) → later_entries serial version.number (entries_of published) ≡ Some entries_behind → ((zone_serial version.zone ≡ serial) × (entries_behind ≡ [])) ⊎ IsBehind serial run entries_behind
  found_behind entries_behind is = found_by entries_behind (held_behind serial run entries_behind (sym later ∙ is))
