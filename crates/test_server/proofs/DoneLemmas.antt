-- The results of updates hold for the versions that are published.
use Rattle.std.proofs.Common.{◌≡◌, ◌≢◌, refl, ℕ, ◌+◌, ◌≤◌, List, [], ◌∷◌, ◌++◌, Option, None, length, inr, sym, ap, ◌∙◌, subst, append-nil, length-append, arith}
use Rattle.std.proofs.lemmas.List.{length_push}
use Rattle.dns_rdata.specs.Record.{Record}
use Rattle.dns_rdata.specs.declared.numbers.Rcode.TheVariants.{NoError, ServFail}
use Rattle.zone_tree.specs.Version.{Version}
use Rattle.dns_engine.specs.Held.{IsLatest}
use Rattle.dns_engine.specs.Replayed.{IsReplay}
use Rattle.update_batches.specs.declared.queued_update.QueuedUpdate.{QueuedUpdate}
use Rattle.update_batches.specs.declared.verdict.Verdict.{Verdict}
use Rattle.update_batches.specs.declared.verdict.Serials.{Serials}
use Rattle.update_batches.specs.declared.version_update.VersionUpdate.{VersionUpdate}
use Rattle.update_batches.specs.Engine.{AreMade}
use Rattle.update_batches.specs.Batch.{newest_of, versions_in, IsBatch}
use Rattle.update_batches.specs.Results.{AreDone}
use Rattle.update_batches.proofs.BatchLemmas.{judged_made}
use Rattle.test_server.proofs.VerdictLemmas.{judged_done}
use Rattle.zone_server.specs.declared.update_result.UpdateResult.{UpdateResult}
use Rattle.zone_server.specs.UpdateResult.{AreOwn, IsDone, IsJudgedIn, AreResults, queued_results}
use Rattle.zone_server.proofs.JudgedLemmas.{made_latest}
use Rattle.zone_server.proofs.PublisherDoneLemmas.{queued_all}

not_done : ServFail ≢ NoError
not_done same = cc

-- SERVFAIL may be the result in the version that was published last
pub servfail_done : (first : List Record) (published : List Version) (version : Version) → IsLatest first published version → IsReplay first version → (done : UpdateResult) → done.code ≡ ServFail → done.serials ≡ None → done.least ≤ version.number
    → IsDone first published done
servfail_done first published version latest replayed done code none least = record {
  version = version;
  replayed = replayed;
  least = least;
  here = record { before = latest.before; newer = []; history = latest.history; place = latest.ends ∙ sym (append-nil (latest.before ++ version ∷ [])); number = latest.number };
  reported = inr code;
  own = subst (λ (o : Option Serials). AreOwn version done.asked.update done.code o) (sym none) (λ same. not_done (sym code ∙ same));
}

-- there is one version more than the last one's number
latest_long : (first : List Record) (published : List Version) (version : Version) → IsLatest first published version → length published ≡ version.number + 1
latest_long first published version latest = ap length latest.ends ∙ length_push latest.before version ∙ ap (λ n. n + 1) latest.number

module _ (first : List Record) (seen : List Version) (last : Version) (latest : IsLatest first seen last) (room : ℕ) (batch : List QueuedUpdate) (verdicts : List Verdict) (updates : List VersionUpdate)
    (is : IsBatch last batch verdicts updates room) where
  -- what a batch makes is judged in the version that was published last
  pub batch_judged : IsJudgedIn first seen (versions_in updates)
  batch_judged = (last, latest, judged_made last room is.judged)

  -- and the results of its updates hold once that is published
  pub batch_done : (number : ℕ) → last.number ≡ number → AreResults first (seen ++ versions_in updates) (queued_results number verdicts batch)
  batch_done number same =
      let versions = versions_in updates in
      let newest = made_latest first seen last versions latest (judged_made last room is.judged) in
      let before = latest_long first seen last latest in
      let after = latest_long first (seen ++ versions) (newest_of last versions) newest in
      let done : AreDone (seen ++ versions) (number + 1) verdicts batch =
      subst (λ (n : ℕ). AreDone (seen ++ versions) n verdicts batch) (before ∙ ap (λ n. n + 1) same)
      (judged_done seen last (latest.before, latest.ends) is.judged) in
      queued_all first (seen ++ versions) (newest_of last versions) newest number (omega (arith, before, after, length-append seen versions, same)) verdicts batch done
