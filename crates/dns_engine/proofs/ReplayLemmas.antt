-- A history of versions is a replay.
use Rattle.std.proofs.Common.{◌≡◌, ◌≢◌, refl, ℕ, zero, suc, ◌+◌, true, List, [], ◌∷◌, ◌++◌, length, None, Some, unwrap_or, arith, sym, ap, ◌∙◌, subst}
use Rattle.std.proofs.lemmas.List.{length_push}
use Rattle.std.specs.List.{slice_get}
use Rattle.dns_rdata.specs.Record.{Record}
use Rattle.dns_message.specs.declared.update.Update.{Update}
use Rattle.zone_tree.specs.Version.{Version}
use Rattle.update_core.specs.Verdict.{verdict}
use Rattle.update_core.specs.Act.{act, replay}
use Rattle.cell_core.specs.Cell.{EachFollows}
use Rattle.cell_core.specs.declared.words.Version.{Version as Numbered}
use Rattle.counted_handles.specs.History.{IsHistory}
use Rattle.snapshot_cell.specs.Tokens.{IsLastOf}
use Rattle.dns_engine.specs.Versions.{IsFirst, IsNext}
use Rattle.dns_engine.specs.Held.{Held, IsLatest, IsNewest}
use Rattle.dns_engine.specs.Replayed.{EachChanges, IsReplay}

-- one update more is replayed on what those before it leave
pub replay_more : (zone : List Record) (updates : List Update) (update : Update) → replay zone (updates ++ update ∷ []) ≡ unwrap_or (act (replay zone updates) update) (replay zone updates)
replay_more zone [] update = refl
replay_more zone (other ∷ updates) update = replay_more (unwrap_or (act zone other) zone) updates update

-- one update more changes what those before it leave
pub changes_more : (zone : List Record) (updates : List Update) (update : Update) → EachChanges zone updates → verdict (replay zone updates) update true ≡ None
    → unwrap_or (act (replay zone updates) update) (replay zone updates) ≢ replay zone updates → EachChanges zone (updates ++ update ∷ [])
changes_more zone [] update each taken changed = (taken, changed, tt)
changes_more zone (other ∷ updates) update each taken changed =
    (each.0, each.1, changes_more (unwrap_or (act zone other) zone) updates update each.2 taken changed)

-- what an update makes of a replay is a replay
pub replay_next : (first : List Record) (version next : Version) → IsReplay first version → IsNext version next → IsReplay first next
replay_next first version next r n =
    let made : act (replay first r.updates) n.update ≡ Some next.zone = subst (λ zone. act zone n.update ≡ Some next.zone) r.zone n.makes.zone in
    let gives : unwrap_or (act (replay first r.updates) n.update) (replay first r.updates) ≡ next.zone = ap (λ o. unwrap_or o (replay first r.updates)) made in
    record {
      updates = r.updates ++ n.update ∷ [];
      changing = changes_more first r.updates n.update r.changing (subst (λ zone. verdict zone n.update true ≡ None) r.zone n.makes.taken) (λ same. n.makes.changed (sym gives ∙ same ∙ sym r.zone));
      zone = sym gives ∙ sym (replay_more first r.updates n.update);
      number = length_push r.updates n.update ∙ ap (λ k. k + 1) r.number ∙ sym n.makes.number;
    }

-- the last of versions of which each follows the one before it is a replay where the first one is, and its number is the first one's and as many
-- as they are behind it
pub last_replay : (first : List Record) (version : Version) (before : List Version) (last : Version) → IsReplay first version → EachFollows IsNext (version ∷ (before ++ last ∷ [])) → IsReplay first last
last_replay first version [] last r each = replay_next first version last r each.0
last_replay first version (next ∷ before) last r each = last_replay first next before last (replay_next first version next r each.0) each.1

pub last_number : (version : Version) (before : List Version) (last : Version) → EachFollows IsNext (version ∷ (before ++ last ∷ [])) → last.number ≡ version.number + 1 + length before
last_number version [] last each = each.0.makes.number ∙ omega arith
last_number version (next ∷ before) last each =
    let here : next.number ≡ version.number + 1 = each.0.makes.number in
    let rest : last.number ≡ next.number + 1 + length before = last_number next before last each.1 in
    omega arith

-- the first version is a replay of no update
first_replay : (first : List Record) (version : Version) → IsFirst first version → IsReplay first version
first_replay first version f = record { updates = []; changing = tt; zone = f.zone; number = sym f.number }

replay_of : (first : List Record) (before : List Version) (last : Version) → IsHistory (IsFirst first) IsNext (before ++ last ∷ []) → IsReplay first last
replay_of first [] last history = first_replay first last history.0
replay_of first (version ∷ before) last history = last_replay first version before last (first_replay first version history.0) history.1

-- the last of a history has as its number how many are in front of it
pub number_of : (first : List Record) (before : List Version) (last : Version) → IsHistory (IsFirst first) IsNext (before ++ last ∷ []) → last.number ≡ length before
number_of first [] last history = history.0.number
number_of first (version ∷ before) last history =
    let begins : version.number ≡ 0 = history.0.number in
    let ends : last.number ≡ version.number + 1 + length before = last_number version before last history.1 in
    omega arith

some_same : (a b : Version) → Some a ≡ Some b → a ≡ b
some_same a b e = cc

-- the last of a list stands behind as many as its number
ends_by : (values : List Version) (at : ℕ) (last : Version) → length values ≡ at + 1 → slice_get values at ≡ Some last → (before : List Version) × (values ≡ before ++ last ∷ []) × (length before ≡ at)
ends_by [] at last size is = absurd (omega arith)
ends_by (value ∷ []) zero last size is = ([], ap (λ v. v ∷ []) (some_same value last is), refl)
ends_by (value ∷ []) (suc at) last size is = absurd (omega arith)
ends_by (value ∷ (next ∷ more)) zero last size is = absurd (omega arith)
ends_by (value ∷ (next ∷ more)) (suc at) last size is =
    let size' : length (next ∷ more) ≡ at + 1 = omega arith in
    let rest = ends_by (next ∷ more) at last size' is in
    (value ∷ rest.0, ap (λ l. value ∷ l) rest.1, ap suc rest.2)

-- the last of published versions, as it is loaded, is the latest
pub last_latest : (first : List Record) (published : List Version) (version : Numbered Version) → IsHistory (IsFirst first) IsNext published → IsLastOf published version → IsLatest first published version.value
last_latest first published version history last =
    let ends = ends_by published version.number version.value last.0 last.1 in
    record {
      before = ends.0;
      history = history;
      ends = ends.1;
      number = sym (number_of first ends.0 version.value (subst (IsHistory (IsFirst first) IsNext) ends.1 history));
    }

-- the latest version is a replay, and its number is how many are in front of it
pub latest_replay : (first : List Record) (published : List Version) (version : Version) → IsLatest first published version → IsReplay first version
latest_replay first published version l = replay_of first l.before version (subst (IsHistory (IsFirst first) IsNext) l.ends l.history)

pub last_replay_of : (first : List Record) (published : List Version) (version : Numbered Version) → IsHistory (IsFirst first) IsNext published → IsLastOf published version → IsReplay first version.value
last_replay_of first published version history last = latest_replay first published version.value (last_latest first published version history last)

pub last_number_of : (first : List Record) (published : List Version) (version : Numbered Version) → IsHistory (IsFirst first) IsNext published → IsLastOf published version → version.value.number ≡ version.number
last_number_of first published version history last =
    let ends = ends_by published version.number version.value last.0 last.1 in
    number_of first ends.0 version.value (subst (IsHistory (IsFirst first) IsNext) ends.1 history) ∙ ends.2

-- the last version that is held is the latest, and a replay
pub newest_latest : (first : List Record) (held : Held) → IsNewest first held → IsLatest first held.published held.last
newest_latest first held p = record { before = p.before ++ held.older; history = p.history; ends = p.ends; number = p.number }

pub newest_replay : (first : List Record) (held : Held) → IsNewest first held → IsReplay first held.last
newest_replay first held p = latest_replay first held.published held.last (newest_latest first held p)
