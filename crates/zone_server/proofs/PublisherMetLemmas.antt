-- What is known to be published once a reader has met more.
use Rattle.std.proofs.Common.{◌≡◌, ℕ, ◌+◌, ◌≤◌, List, ◌++◌, length, Option, sym, ap, ◌∙◌, subst, append_assoc, length-append, arith}
use Rattle.std.proofs.lemmas.List.{length_push}
use Rattle.dns_rdata.specs.Record.{Record}
use Rattle.zone_tree.specs.Version.{Version}
use Rattle.snapshot_cell.specs.Tokens.{ReaderState}
use Rattle.dns_engine.specs.Held.{IsLatest}
use Rattle.dns_engine.specs.Replayed.{IsReplay}
use Rattle.update_batches.specs.Engine.{IsLast, AreMade}
use Rattle.update_batches.proofs.BatchLemmas.{last_once}
use Rattle.zone_server.specs.UpdateResult.{IsJudgedIn}
use Rattle.zone_server.specs.declared.server_state.BatchStart.{BatchStart}
use Rattle.zone_server.specs.QueuedUpdate.{IsBegun, MeetsAt}
use Rattle.update_batches.specs.Reply.{Reply}
use Rattle.update_batches.specs.Batch.{newest_of}
use Rattle.zone_server.proofs.JudgedLemmas.{made_latest}
use Rattle.zone_server.specs.Brought.{Brought}
use Rattle.zone_server.specs.Met.{BeginsWith, HasBegun, HasMetLast, PublisherState}

latest_long : (first : List Record) (published : List Version) (version : Version) → IsLatest first published version → length published ≡ version.number + 1
latest_long first published version latest = ap length latest.ends ∙ length_push latest.before version ∙ ap (λ n. n + 1) latest.number

-- a batch is begun where a reader has met what is published
pub has_begun : (first : List Record) (before after : ReaderState Version) (begun : BatchStart) (replied : List Reply) (brought : Option (List Brought)) → IsBegun first before after begun
    → HasBegun first before.seen (record { seen = after.seen; begun = begun.number + 1; room = begun.room; replied = replied; brought = brought }) begun.last
has_begun first before after begun replied brought meets =
    let engine = meets.0 in
    let seen : after.seen ≡ engine.held.published = ap (λ (r : ReaderState Version). r.seen) meets.1.seen in
    let latest = subst (λ (l : List Version). IsLatest first l engine.held.last) (sym seen) meets.1.latest in
    record {
      grows = (meets.1.begun.0, seen ∙ sym meets.1.begun.1);
      latest = subst (λ (v : Version). IsLatest first after.seen v) meets.2 latest;
      replayed = subst (λ (v : Version). IsReplay first v) meets.2 meets.1.replayed;
      begun = ap (λ (n : ℕ). n + 1) (sym meets.3) ∙ sym (latest_long first after.seen engine.held.last latest);
      engine = engine;
      published = seen;
      room = sym meets.4;
    }

-- versions made one from another, the first of them from the last one published, are judged in it
pub judged_queued : (first : List Record) (seen : List Version) (last begun : ℕ) (versions : List Version) (version : Version) → HasMetLast first seen last begun → IsLast seen version
    → AreMade version versions → IsJudgedIn first seen versions
judged_queued first seen last begun versions version had is made =
    let same : version ≡ had.version = last_once seen version had.version is (had.latest.before, had.latest.ends) in
    (had.version, had.latest, subst (λ (v : Version). AreMade v versions) same made)

-- the newest of versions after the last one published is the latest, and its number is no less
pub judged_latest : (first : List Record) (seen : List Version) (last begun : ℕ) (versions : List Version) → HasMetLast first seen last begun → (judged : IsJudgedIn first seen versions)
    → IsLatest first (seen ++ versions) (newest_of judged.0 versions) × (begun ≤ (newest_of judged.0 versions).number)
judged_latest first seen last begun versions had judged =
    let latest = made_latest first seen judged.0 versions judged.1 judged.2 in
    let before = latest_long first seen had.version had.latest in
    let after = latest_long first (seen ++ versions) (newest_of judged.0 versions) latest in
    (latest, omega (arith, before, after, length-append seen versions, had.begun_before, had.number))

-- a batch that is begun once more is known
pub begun_from : (first : List Record) (known middle : List Version) (after : PublisherState) (last : Version) → BeginsWith middle known → HasBegun first middle after last → HasBegun first known after last
begun_from first known middle after last before is = record {
  latest = is.latest;
  replayed = is.replayed;
  begun = is.begun;
  engine = is.engine;
  published = is.published;
  room = is.room;
  grows = (before.0 ++ is.grows.0, is.grows.1 ∙ (ap (λ (l : List Version). l ++ is.grows.0) before.1 ∙ append_assoc known before.0 is.grows.0));
}

-- a reader that has met what is published knows what it had known
pub met_more : (first : List Record) (before after : ReaderState Version) (number : ℕ) → MeetsAt first before after number → BeginsWith after.seen before.seen
met_more first before after number meets = (meets.1.begun.0, ap (λ (r : ReaderState Version). r.seen) meets.1.seen ∙ sym meets.1.begun.1)
