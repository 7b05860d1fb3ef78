-- Turns, one after the other.
use Rattle.journal.specs.Batch.{Messages}
use Rattle.std.proofs.Common.{◌≡◌, refl, ℕ, zero, suc, List, [], ◌∷◌, ◌++◌, length, Option, None, Some, sym, ap, ◌∙◌, subst, append-nil, append_assoc, length-append, arith}
use Rattle.std.specs.Prelude.{replicate}
use Rattle.dns_rdata.specs.Record.{Record}
use Rattle.update_batches.specs.Engine.{IsLast}
use Rattle.update_batches.specs.declared.verdict.Verdict.{Verdict}
use Rattle.update_batches.specs.Verdict.{failed}
use Rattle.update_batches.specs.Batch.{newest_of, Judged}
use Rattle.update_batches.proofs.BatchLemmas.{last_once, judged_long}
use Rattle.update_batches.specs.Results.{reply_to, replies_to}
use Rattle.update_batches.specs.declared.queued_update.QueuedUpdate.{QueuedUpdate}
use Rattle.update_batches.specs.UpdateRequest.{messages_of}
use Rattle.zone_tree.specs.Version.{Version}
use Rattle.update_batches.specs.Reply.{Reply}
use Rattle.update_batches.specs.Turned.{ThreadState, IsTold, HasTurned, AreAnswered, unasked, lasting, failing, HasServed, IsCrashSafe, uncalled}
use Rattle.update_batches.proofs.CrashLemmas.{safe_both}

-- so many of the same
replicate_long : {X : Type 0} (n : ℕ) (x : X) → length (replicate n x) ≡ n
replicate_long zero x = refl
replicate_long (suc n) x = ap suc (replicate_long n x)

-- the last of versions after which others are
newest_last : (first : Version) (versions : List Version) → IsLast (first ∷ versions) (newest_of first versions)
newest_last first [] = ([], refl)
newest_last first (version ∷ versions) =
    let rest = newest_last version versions in
    (first ∷ rest.0, ap (λ (vs : List Version). first ∷ vs) rest.1)

pub last_more : (old : List Version) (first : Version) (versions : List Version) → IsLast old first → IsLast (old ++ versions) (newest_of first versions)
last_more old first [] last = (last.0, append-nil old ∙ last.1)
last_more old first (version ∷ versions) last =
    let rest = newest_last version versions in
    (old ++ rest.0, ap (λ (vs : List Version). old ++ vs) rest.1 ∙ sym (append_assoc old rest.0 (newest_of version versions ∷ [])))

-- replies to requests and then to others
replies_more : (verdicts more : List Verdict) (requests batch : List QueuedUpdate) → length verdicts ≡ length requests
    → replies_to (verdicts ++ more) (requests ++ batch) ≡ replies_to verdicts requests ++ replies_to more batch
replies_more [] more [] batch long = refl
replies_more [] more (one ∷ requests) batch long = absurd (omega (arith, long))
replies_more (verdict ∷ verdicts) more [] batch long = absurd (omega (arith, long))
replies_more (verdict ∷ verdicts) more (one ∷ requests) batch long =
    ap (λ (rs : List Reply). reply_to (messages_of one.request) verdict ∷ rs) (replies_more verdicts more requests batch (omega (arith, long)))

module _ {S : Type 0} (has : List Record → S → List Version → List Messages → Type 0) (leaves : List Record → S → S → List Messages → Type 0) where
  -- no turn
  pub served_none : (state : ThreadState S) → HasServed has leaves state state
  served_none state = record {
    arrived = [];
    requests = [];
    taken = append-nil state.waiting;
    verdicts = [];
    each = refl;
    versions = [];
    updates = [];
    answered = λ first last. unasked;
    published = sym (append-nil state.published);
    replied = sym (append-nil state.replied);
    stored = λ zone stood had. subst (λ (us : List Messages). has zone state.store state.published us) (sym (append-nil stood)) had;
    crash = λ zone stood had. subst (λ (us : List Messages). IsCrashSafe has leaves zone state.store stood state.store state.published us) (sym (append-nil stood)) (uncalled had);
  }

  -- the lists of two turns
  taken_more : (waiting mid new arrived later requests batch : List QueuedUpdate) → waiting ++ arrived ≡ requests ++ mid → mid ++ later ≡ batch ++ new
      → waiting ++ (arrived ++ later) ≡ (requests ++ batch) ++ new
  taken_more waiting mid new arrived later requests batch first then =
      sym (append_assoc waiting arrived later)
      ∙ (ap (λ (l : List QueuedUpdate). l ++ later) first
      ∙ (append_assoc requests mid later
      ∙ (ap (λ (l : List QueuedUpdate). requests ++ l) then
      ∙ sym (append_assoc requests batch new))))

  replied_more : (old mid new : List Reply) (verdicts more : List Verdict) (requests batch : List QueuedUpdate) → length verdicts ≡ length requests → mid ≡ old ++ replies_to verdicts requests
      → new ≡ mid ++ replies_to more batch → new ≡ old ++ replies_to (verdicts ++ more) (requests ++ batch)
  replied_more old mid new verdicts more requests batch long first then =
      then
      ∙ (ap (λ (rs : List Reply). rs ++ replies_to more batch) first
      ∙ (append_assoc old (replies_to verdicts requests) (replies_to more batch)
      ∙ ap (λ (rs : List Reply). old ++ rs) (sym (replies_more verdicts more requests batch long))))

  long_more : (verdicts more : List Verdict) (requests batch : List QueuedUpdate) → length verdicts ≡ length requests → length more ≡ length batch → length (verdicts ++ more) ≡ length (requests ++ batch)
  long_more verdicts more requests batch first then = omega (arith, first, then, length-append verdicts more, length-append requests batch)

  -- the version that a batch is judged in is the newest of those that the batches before it make
  judged_on : (published later versions : List Version) (first last : Version) (batch : List QueuedUpdate) (verdicts : List Verdict) (made : List Version) (updates : List Messages) → later ≡ published ++ versions
      → IsLast published first → IsLast later last → Judged last batch verdicts made updates
      → Judged (newest_of first versions) batch verdicts made updates
  judged_on published later versions first last batch verdicts made updates are begins ends judged =
      let same : last ≡ newest_of first versions =
      last_once (published ++ versions) last (newest_of first versions) (subst (λ (vs : List Version). IsLast vs last) are ends) (last_more published first versions begins) in
      subst (λ (v : Version). Judged v batch verdicts made updates) same judged

  module _ {F : Type 0} where
    -- one turn more
    served_by : (fault : Option F) (old mid new : ThreadState S) → (served : HasServed has leaves old mid)
        → (turn : HasTurned has leaves fault mid new)
        → IsTold has leaves mid.published new.published turn.batch turn.verdicts fault mid.store new.store
        → HasServed has leaves old new
    served_by None old mid new served turn lasts =
        let published : new.published ≡ old.published ++ (served.versions ++ lasts.versions) =
        lasts.later_are ∙ (ap (λ (vs : List Version). vs ++ lasts.versions) served.published ∙ append_assoc old.published served.versions lasts.versions) in
        record {
          arrived = served.arrived ++ turn.arrived;
          requests = served.requests ++ turn.batch;
          taken = taken_more old.waiting mid.waiting new.waiting served.arrived turn.arrived served.requests turn.batch served.taken turn.taken;
          verdicts = served.verdicts ++ turn.verdicts;
          each = long_more served.verdicts turn.verdicts served.requests turn.batch served.each (judged_long lasts.first 0 lasts.judged);
          versions = served.versions ++ lasts.versions;
          updates = served.updates ++ lasts.updates;
          answered = λ first last. lasting (served.answered first last)
              (judged_on old.published mid.published served.versions first lasts.first turn.batch turn.verdicts lasts.versions lasts.updates served.published last lasts.last lasts.judged);
          published = published;
          replied = replied_more old.replied mid.replied new.replied served.verdicts turn.verdicts served.requests turn.batch served.each served.replied turn.replied;
          stored = λ zone stood had. subst (λ (us : List Messages). has zone new.store new.published us) (append_assoc stood served.updates lasts.updates)
              (lasts.stored zone (stood ++ served.updates) (served.stored zone stood had));
          crash = λ zone stood had. subst (λ (us : List Messages). IsCrashSafe has leaves zone old.store stood new.store new.published us)
              (append_assoc stood served.updates lasts.updates)
              (safe_both has leaves zone (served.crash zone stood had) (lasts.crash zone (stood ++ served.updates) (served.stored zone stood had)));
        }
    served_by (Some why) old mid new served turn fails =
        let long : length turn.verdicts ≡ length turn.batch = ap length fails.reported ∙ replicate_long (length turn.batch) failed in
        record {
          arrived = served.arrived ++ turn.arrived;
          requests = served.requests ++ turn.batch;
          taken = taken_more old.waiting mid.waiting new.waiting served.arrived turn.arrived served.requests turn.batch served.taken turn.taken;
          verdicts = served.verdicts ++ turn.verdicts;
          each = long_more served.verdicts turn.verdicts served.requests turn.batch served.each long;
          versions = served.versions;
          updates = served.updates;
          answered = λ first last. subst (λ (vs : List Verdict). AreAnswered first (served.requests ++ turn.batch) (served.verdicts ++ vs)
              served.versions served.updates) (sym fails.reported)
              (failing (served.answered first last)
              (judged_on old.published mid.published served.versions first fails.first turn.batch fails.judged_verdicts fails.versions fails.updates served.published last fails.last fails.judged)
              fails.some);
          published = fails.later_are ∙ served.published;
          replied = replied_more old.replied mid.replied new.replied served.verdicts turn.verdicts served.requests turn.batch served.each served.replied turn.replied;
          stored = λ zone stood had. fails.stored zone (stood ++ served.updates) (served.stored zone stood had);
          crash = λ zone stood had. safe_both has leaves zone (served.crash zone stood had) (fails.crash zone (stood ++ served.updates) (served.stored zone stood had));
        }

    pub served_on : {fault : Option F} {old mid new : ThreadState S} → HasServed has leaves old mid
        → HasTurned has leaves fault mid new → HasServed has leaves old new
    served_on {fault} {old} {mid} {new} served turn = served_by fault old mid new served turn turn.reported
