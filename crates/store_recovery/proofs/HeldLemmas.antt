-- What an engine holds that has taken updates.
use Rattle.std.proofs.Common.{◌≡◌, ◌≢◌, ℕ, ◌+◌, ◌-◌, ◌<◌, ◌≤◌, List, [], ◌∷◌, ◌++◌, length, drop, Option, None, Some, unwrap_or, true, refl, sym, ap, ◌∙◌, arith}
use Rattle.std.specs.Prelude.{MatchOption}
use Rattle.std.specs.List.{remove}
use Rattle.dns_rdata.specs.Record.{Record}
use Rattle.dns_message.specs.declared.update.Update.{Update}
use Rattle.zone_tree.specs.Zone.{soa_of}
use Rattle.zone_tree.specs.Change.{left_out}
use Rattle.zone_tree.specs.Version.{Version, Changes, AreChanges}
use Rattle.update_core.specs.Verdict.{verdict}
use Rattle.update_core.specs.Act.{act, replay}
use Rattle.dns_engine.specs.Versions.{Makes}
use Rattle.dns_engine.specs.Held.{Held, KEPT, newest, held_with, IsNewest}
use Rattle.dns_engine.specs.Replayed.{EachChanges}
use Rattle.dns_engine.proofs.OwnedLemmas.{newest_on, newest_push}
use Rattle.store_recovery.specs.Replay.{changes_from, version_by, begun, held_from}

-- an act that changes a zone gives one
some_zone : (made : Option (List Record)) (zone : List Record) → unwrap_or made zone ≢ zone → made ≡ Some (unwrap_or made zone)
some_zone None zone changed = absurd (changed refl)
some_zone (Some after) zone changed = refl

-- an update that is taken and changes a version's zone makes the next version
pub by_makes : (version : Version) (update : Update) → verdict version.zone update true ≡ None → unwrap_or (act version.zone update) version.zone ≢ version.zone
    → Makes update version (version_by version update)
by_makes version update taken changed = record {
  taken = taken;
  zone = some_zone (act version.zone update) version.zone changed;
  changed = changed;
  number = refl;
  changes = record { old_soa = refl; deletions = refl; additions = refl };
}

same_changes : (changes : Changes) (before after : List Record) → AreChanges changes before after → changes ≡ changes_from before after
same_changes changes before after are =
    let first : List Record → Changes = λ soa. record { old_soa = soa; deletions = changes.deletions; additions = changes.additions } in
    let second : List Record → Changes = λ gone. record { old_soa = soa_of before; deletions = gone; additions = changes.additions } in
    let third : List Record → Changes = λ come. record { old_soa = soa_of before; deletions = left_out before after; additions = come } in
    ap first are.old_soa ∙ (ap second are.deletions ∙ ap third are.additions)

same_known : (changes : Option Changes) (before after : List Record) → MatchOption changes ⊥ (λ known. AreChanges known before after) → changes ≡ Some (changes_from before after)
same_known None before after knows = absurd knows
same_known (Some changes) before after knows = ap Some (same_changes changes before after knows)

same_version : (version : Version) (number : ℕ) (zone : List Record) (changes : Option Changes) → version.number ≡ number → version.zone ≡ zone → version.changes ≡ changes
    → version ≡ record { number = number; zone = zone; changes = changes }
same_version version number zone changes is_number is_zone is_changes =
    let first : ℕ → Version = λ n. record { number = n; zone = version.zone; changes = version.changes } in
    let second : List Record → Version = λ z. record { number = number; zone = z; changes = version.changes } in
    let third : Option Changes → Version = λ c. record { number = number; zone = zone; changes = c } in
    ap first is_number ∙ (ap second is_zone ∙ ap third is_changes)

-- and no other one
pub makes_by : (version next : Version) (update : Update) → Makes update version next → next ≡ version_by version update
makes_by version next update makes =
    let after : List Record = unwrap_or (act version.zone update) version.zone in
    let zone : next.zone ≡ after = sym (ap (λ (made : Option (List Record)). unwrap_or made version.zone) makes.zone) in
    let changes : next.changes ≡ Some (changes_from version.zone after) =
    same_known next.changes version.zone next.zone makes.changes ∙ ap (λ (z : List Record). Some (changes_from version.zone z)) zone in
    same_version next (version.number + 1) after (Some (changes_from version.zone after)) makes.number zone changes

-- what is held at first is the newest
pub begun_newest : (zone : List Record) → IsNewest zone (begun zone)
begun_newest zone = record { before = []; history = (record { number = refl; zone = refl; changes = refl }, tt); ends = refl; number = refl; most = omega arith }

-- and what is held later
pub held_newest : (first : List Record) (held : Held) (updates : List Update) → IsNewest first held → EachChanges held.last.zone updates → IsNewest first (held_from held updates)
held_newest first held [] newest taken = newest
held_newest first held (update ∷ updates) newest taken =
    let next : Version = version_by held.last update in
    held_newest first (held_with held next) updates (newest_on first held next newest (record { update = update; makes = by_makes held.last update taken.0 taken.1 })) taken.2

pub held_zone : (held : Held) (updates : List Update) → (held_from held updates).last.zone ≡ replay held.last.zone updates
held_zone held [] = refl
held_zone held (update ∷ updates) = held_zone (held_with held (version_by held.last update)) updates

pub held_number : (held : Held) (updates : List Update) → (held_from held updates).last.number ≡ held.last.number + length updates
held_number held [] = omega arith
held_number held (update ∷ updates) =
    let rest : (held_from held (update ∷ updates)).last.number ≡ held.last.number + 1 + length updates = held_number (held_with held (version_by held.last update)) updates in
    omega (arith, rest)

pub held_keep : (held : Held) (updates : List Update) → (held_from held updates).keep ≡ held.keep
held_keep held [] = refl
held_keep held (update ∷ updates) = held_keep (held_with held (version_by held.last update)) updates

-- one update more
pub held_more : (held : Held) (updates : List Update) (update : Update)
    → held_from held (updates ++ update ∷ []) ≡ held_with (held_from held updates) (version_by (held_from held updates).last update)
held_more held [] update = refl
held_more held (other ∷ updates) update = held_more (held_with held (version_by held.last other)) updates update

-- where there are as many older versions as are kept, the oldest goes; where there are fewer, all stay
pub oldest_out : (versions after : List Version) → KEPT ≤ length versions → length versions ≤ KEPT → after ≡ remove versions 0 → after ≡ newest (KEPT - 1) versions
oldest_out versions after many few is =
    let one : 1 ≡ length versions - (KEPT - 1) = omega (arith, many, few) in
    is ∙ ap (λ (n : ℕ). drop n versions) one

pub all_stay : (versions : List Version) → length versions < KEPT → versions ≡ newest (KEPT - 1) versions
all_stay versions few =
    let none : 0 ≡ length versions - (KEPT - 1) = omega (arith, few) in
    ap (λ (n : ℕ). drop n versions) none

-- and the last one stands behind them
pub last_kept : (versions room after : List Version) (last : Version) → room ≡ newest (KEPT - 1) versions → after ≡ room ++ last ∷ [] → after ≡ newest KEPT (versions ++ last ∷ [])
last_kept versions room after last made is = is ∙ (ap (λ (vs : List Version). vs ++ last ∷ []) made ∙ sym (newest_push KEPT versions last (omega arith)))
