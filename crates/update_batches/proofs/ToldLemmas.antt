-- What becomes of a batch that is judged, written to a store and published.
use Rattle.journal.specs.Batch.{Messages}
use Rattle.std.proofs.Common.{◌≡◌, refl, ℕ, zero, suc, ◌+◌, ◌<◌, ◌≤◌, List, [], ◌∷◌, ◌++◌, take, Option, None, Some, inl, inr, length, ◌⊎◌, sym, ap, ◌∙◌, subst, append-nil, length-append, arith}
use Rattle.std.specs.Prelude.{replicate, drop, min, MatchOption}
use Rattle.std.proofs.lemmas.Bool.{cases_lt}
use Rattle.std.proofs.lemmas.List.{length-take, drop_all}
use Rattle.dns_rdata.specs.Record.{Record}
use Rattle.zone_tree.specs.Version.{Version}
use Rattle.update_batches.specs.Engine.{IsLast, AreMade}
use Rattle.update_batches.specs.declared.verdict.Verdict.{Verdict}
use Rattle.update_batches.specs.Verdict.{failed}
use Rattle.update_batches.specs.declared.queued_update.QueuedUpdate.{QueuedUpdate}
use Rattle.update_batches.specs.declared.version_update.VersionUpdate.{VersionUpdate}
use Rattle.update_batches.specs.Batch.{versions_in, updates_of, IsBatch, Judged}
use Rattle.update_batches.specs.Journal.{AreMadeBy}
use Rattle.update_batches.proofs.BatchLemmas.{judged_long}
use Rattle.update_batches.proofs.LastingLemmas.{judged_by}
use Rattle.update_batches.specs.Turned.{IsTold, IsCrashSafe, uncalled, called}
use Rattle.update_batches.proofs.CrashLemmas.{safe_same, safe_both}

-- what `keep` does with the updates and the verdicts of a batch
abbrev pub AreKept : {X : Type 0} → Option X → List VersionUpdate → List VersionUpdate → List Verdict → List Verdict → Type 0
AreKept fault updates kept judged verdicts =
    MatchOption fault ((kept ≡ updates) × (verdicts ≡ judged)) (λ _. (kept ≡ []) × (verdicts ≡ replicate (length judged) failed) × (0 < length updates))

-- whether a batch is written or not, what it publishes is made from the same version
pub made_still : {X : Type 0} (fault : Option X) (first : Version) (updates kept : List VersionUpdate) (judged verdicts : List Verdict) → AreKept fault updates kept judged verdicts
    → AreMade first (versions_in updates) → AreMade first (versions_in kept)
made_still None first updates kept judged verdicts same made = subst (λ (us : List VersionUpdate). AreMade first (versions_in us)) (sym same.0) made
made_still (Some fault) first updates kept judged verdicts fails made = subst (λ (us : List VersionUpdate). AreMade first (versions_in us)) (sym fails.0) tt

-- and is no more
pub kept_few : {X : Type 0} (fault : Option X) (updates kept : List VersionUpdate) (judged verdicts : List Verdict) (room : ℕ) → AreKept fault updates kept judged verdicts
    → length updates ≤ room → length kept ≤ room
kept_few None updates kept judged verdicts room same few = subst (λ (us : List VersionUpdate). length us ≤ room) (sym same.0) few
kept_few (Some fault) updates kept judged verdicts room fails few = omega (arith, ap length fails.0)

-- there are as many versions as updates
pub versions_long : (updates : List VersionUpdate) → length (versions_in updates) ≡ length updates
versions_long [] = refl
versions_long (x ∷ updates) = ap suc (versions_long updates)

-- versions that are published use the room for them
pub room_left : (left room was : ℕ) (published later : List Version) (updates : List VersionUpdate) → left + length updates ≡ was → later ≡ published ++ versions_in updates
    → was ≡ room → left + length later ≡ room + length published
room_left left room was published later updates used are same =
    omega (arith, used, same, ap length are ∙ length-append published (versions_in updates), versions_long updates)

module _ {S : Type 0} (has : List Record → S → List Version → List Messages → Type 0) (leaves : List Record → S → S → List Messages → Type 0) where
  -- calls on a store that is tended before them and after them
  safe_tended : (zone : List Record) (published later : List Version) (stood updates : List Messages) (old before after new : S)
      → has zone old published stood → has zone before published stood → leaves zone old before stood
      → IsCrashSafe has leaves zone before stood after later updates → has zone after later updates
      → ((zone : List Record) (versions : List Version) (updates : List Messages) → has zone after versions updates → has zone new versions updates)
      → ((zone : List Record) (versions : List Version) (updates : List Messages) → has zone after versions updates → leaves zone after new updates)
      → IsCrashSafe has leaves zone old stood new later updates
  safe_tended zone published later stood updates old before after new had tended first safe has_after then then_crash =
      safe_same has leaves zone old after new later later stood updates
      (safe_both has leaves zone (safe_same has leaves zone old old before published published stood stood (uncalled had) first tended) safe)
      (then_crash zone later updates has_after) (then zone later updates has_after)

  module _ {F : Type 0} where
    -- a batch that is written, and published
    pub told_published : (fault : Option F) (first : Version) (published later : List Version) (batch : List QueuedUpdate) (judged verdicts : List Verdict) (before after : S)
        (updates kept : List VersionUpdate) (room : ℕ)
        → IsLast published first → IsBatch first batch judged updates room → AreKept fault updates kept judged verdicts
        → MatchOption fault
        ((zone : List Record) (versions : List Version) (stood : List Messages) (last : Version) → has zone before versions stood → IsLast versions last
        → AreMadeBy last (versions_in updates) (updates_of updates) → has zone after (versions ++ versions_in updates) (stood ++ updates_of updates))
        (λ _. (zone : List Record) (versions : List Version) (stood : List Messages) → has zone before versions stood → has zone after versions stood)
        → ((zone : List Record) (versions : List Version) (stood : List Messages) → has zone before versions stood → leaves zone before after stood)
        → later ≡ published ++ versions_in kept
        → IsTold has leaves published later batch verdicts fault before after
    told_published None first published later batch judged verdicts before after updates kept room last is same stored crash are =
        let later_are : later ≡ published ++ versions_in updates = are ∙ ap (λ (us : List VersionUpdate). published ++ versions_in us) same.0 in
        record {
          first = first;
          versions = versions_in updates;
          updates = updates_of updates;
          last = last;
          judged = subst (λ (vs : List Verdict). Judged first batch vs (versions_in updates) (updates_of updates)) (sym same.1) is.judged;
          later_are = later_are;
          stored = λ zone stood had. subst (λ (vs : List Version). has zone after vs (stood ++ updates_of updates)) (sym later_are)
              (stored zone published stood first had last (judged_by is.judged));
          crash = λ zone stood had. called (updates_of updates) (uncalled had) (crash zone published stood had)
              (subst (λ (vs : List Version). has zone after vs (stood ++ updates_of updates)) (sym later_are) (stored zone published stood first had last (judged_by is.judged)));
        }
    told_published (Some fault) first published later batch judged verdicts before after updates kept room last is fails still crash are =
        let later_are : later ≡ published = are ∙ (ap (λ (us : List VersionUpdate). published ++ versions_in us) fails.0 ∙ append-nil published) in
        record {
          first = first;
          judged_verdicts = judged;
          versions = versions_in updates;
          updates = updates_of updates;
          last = last;
          judged = is.judged;
          some = subst (λ (n : ℕ). 0 < n) (sym (versions_long updates)) fails.2;
          reported = fails.1 ∙ ap (λ (n : ℕ). replicate n failed) (judged_long first room is.judged);
          later_are = later_are;
          stored = λ zone stood had. subst (λ (vs : List Version). has zone after vs stood) (sym later_are) (still zone published stood had);
          crash = λ zone stood had. safe_same has leaves zone before before after published later stood stood (uncalled had) (crash zone published stood had)
              (subst (λ (vs : List Version). has zone after vs stood) (sym later_are) (still zone published stood had));
        }

    -- a batch of a store that is tended before it and after it
    pub told_tended : (fault : Option F) (published later : List Version) (batch : List QueuedUpdate) (verdicts : List Verdict) (old before after new : S)
        → ((zone : List Record) (versions : List Version) (updates : List Messages) → has zone old versions updates → has zone before versions updates)
        → ((zone : List Record) (versions : List Version) (updates : List Messages) → has zone old versions updates → leaves zone old before updates)
        → ((zone : List Record) (versions : List Version) (updates : List Messages) → has zone after versions updates → has zone new versions updates)
        → ((zone : List Record) (versions : List Version) (updates : List Messages) → has zone after versions updates → leaves zone after new updates)
        → IsTold has leaves published later batch verdicts fault before after
        → IsTold has leaves published later batch verdicts fault old new
    told_tended None published later batch verdicts old before after new first first_crash then then_crash lasts = record {
      first = lasts.first;
      versions = lasts.versions;
      updates = lasts.updates;
      last = lasts.last;
      judged = lasts.judged;
      later_are = lasts.later_are;
      stored = λ zone stood had. then zone later (stood ++ lasts.updates) (lasts.stored zone stood (first zone published stood had));
      crash = λ zone stood had. safe_tended zone published later stood (stood ++ lasts.updates) old before after new had (first zone published stood had) (first_crash zone published stood had)
          (lasts.crash zone stood (first zone published stood had)) (lasts.stored zone stood (first zone published stood had)) then then_crash;
    }
    told_tended (Some fault) published later batch verdicts old before after new first first_crash then then_crash fails = record {
      first = fails.first;
      judged_verdicts = fails.judged_verdicts;
      versions = fails.versions;
      updates = fails.updates;
      last = fails.last;
      judged = fails.judged;
      some = fails.some;
      reported = fails.reported;
      later_are = fails.later_are;
      stored = λ zone stood had. then zone later stood (fails.stored zone stood (first zone published stood had));
      crash = λ zone stood had. safe_tended zone published later stood stood old before after new had (first zone published stood had) (first_crash zone published stood had)
          (fails.crash zone stood (first zone published stood had)) (fails.stored zone stood (first zone published stood had)) then then_crash;
    }

    -- the same of the same lists of versions
    pub told_between : (fault : Option F) (old begun later new : List Version) (batch : List QueuedUpdate) (verdicts : List Verdict) (before after : S) → begun ≡ old → new ≡ later
        → IsTold has leaves begun later batch verdicts fault before after
        → IsTold has leaves old new batch verdicts fault before after
    told_between fault old begun later new batch verdicts before after from to is =
        subst (λ (vs : List Version). IsTold has leaves old vs batch verdicts fault before after) (sym to)
        (subst (λ (vs : List Version). IsTold has leaves vs later batch verdicts fault before after) from is)

-- some are taken of some
pub take_some : {X : Type 0} (n : ℕ) (l : List X) → 0 < n → 0 < length l → 0 < length (take n l)
take_some zero l some any = absurd (omega (arith, some))
take_some (suc n) [] some any = absurd (omega (arith, any))
take_some (suc n) (x ∷ l) some any = omega arith

-- the first of some are so many, or none is left
pub taken_many : {X : Type 0} (count most : ℕ) (l rest : List X) → count ≡ min (length l) most → rest ≡ drop count l → (rest ≡ []) ⊎ (length (take count l) ≡ most)
taken_many {X} count most l rest is left = by (cases_lt most (length l))
  where
    by : (most < length l) ⊎ (length l ≤ most) → (rest ≡ []) ⊎ (length (take count l) ≡ most)
    by (inl more) = inr (omega (arith, length-take count l, is, more))
    by (inr all) = inl (left ∙ drop_all count l (omega (arith, is, all)))
