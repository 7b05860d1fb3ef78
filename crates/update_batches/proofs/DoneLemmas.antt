-- The verdict of each update of a batch is so by what is published once the batch is.
use Rattle.journal.specs.Batch.{Messages}
use Rattle.std.proofs.Common.{◌≡◌, refl, ℕ, zero, suc, ◌+◌, ◌≤◌, List, [], ◌∷◌, ◌++◌, length, Option, None, Some, inl, inr, sym, ap, ◌∙◌, subst, append-nil, append_assoc, arith}
use Rattle.std.specs.Prelude.{replicate, drop, MatchOption, ◌<◌}
use Rattle.std.proofs.lemmas.List.{length_push}
use Rattle.zone_tree.specs.Version.{Version}
use Rattle.update_batches.specs.Engine.{IsLast}
use Rattle.update_batches.specs.declared.verdict.Verdict.{Verdict}
use Rattle.update_batches.specs.Verdict.{told_verdict, made_verdict, failed}
use Rattle.update_batches.specs.declared.queued_update.QueuedUpdate.{QueuedUpdate}
use Rattle.update_batches.specs.declared.version_update.VersionUpdate.{VersionUpdate}
use Rattle.update_batches.specs.UpdateRequest.{serial_in}
use Rattle.update_batches.specs.Batch.{newest_of, versions_in, IsBatch, Judged, nothing, reported, starved, changed}
use Rattle.update_batches.proofs.BatchLemmas.{judged_long}
use Rattle.update_batches.specs.Results.{first_verdict, IsDone, AreDone}

-- the place of the newest of versions that are published after others
newest_place : (published : List Version) (first : Version) (made : List Version) → IsLast published first
    → (front : List Version) × (published ++ made ≡ front ++ newest_of first made ∷ []) × (length published ≤ length front + 1)
newest_place published first [] last =
    let long : length published ≡ length last.0 + 1 = ap length last.1 ∙ length_push last.0 first in
    (last.0, append-nil published ∙ last.1, omega (arith, long))
newest_place published first (version ∷ made) last =
    let rest = newest_place (published ++ version ∷ []) version made (published, refl) in
    let long : length (published ++ version ∷ []) ≡ length published + 1 = length_push published version in
    (rest.0, sym (append_assoc published (version ∷ []) made) ∙ rest.1, omega (arith, rest.2, long))

-- what is told stays so as more is published
done_grows : (published more : List Version) (begun : ℕ) (one : QueuedUpdate) (verdict : Verdict) → IsDone published begun one verdict
    → IsDone (published ++ more) begun one verdict
done_grows published more begun one verdict (inl is) = inl (record {
  version = is.version;
  front = is.front;
  newer = is.newer ++ more;
  place = ap (λ (l : List Version). l ++ more) is.place ∙ append_assoc is.front (is.version ∷ is.newer) more;
  late = is.late;
  code = is.code;
  tells_it = is.tells_it;
  reported = is.reported;
})
done_grows published more begun one verdict (inr (inl is)) = inr (inl (record {
  version = is.version;
  next = is.next;
  front = is.front;
  newer = is.newer ++ more;
  place = ap (λ (l : List Version). l ++ more) is.place ∙ append_assoc is.front (is.version ∷ (is.next ∷ is.newer)) more;
  late = is.late;
  lets = is.lets;
  makes_it = is.makes_it;
  reported = is.reported;
}))
done_grows published more begun one verdict (inr (inr is)) = inr (inr is)

pub all_grow : (published more : List Version) (begun : ℕ) (verdicts : List Verdict) (batch : List QueuedUpdate) → AreDone published begun verdicts batch
    → AreDone (published ++ more) begun verdicts batch
all_grow published more begun verdicts [] are = tt
all_grow published more begun verdicts (one ∷ batch) are =
    (done_grows published more begun one (first_verdict verdicts) are.0, all_grow published more begun (drop 1 verdicts) batch are.1)

-- each is told SERVFAIL
pub all_refused : (published : List Version) (begun count : ℕ) (batch : List QueuedUpdate) → AreDone published begun (replicate count failed) batch
all_refused published begun count [] = tt
all_refused published begun zero (one ∷ batch) = (inr (inr refl), all_refused published begun zero batch)
all_refused published begun (suc count) (one ∷ batch) = (inr (inr refl), all_refused published begun count batch)

-- one more
done_push : (published : List Version) (begun : ℕ) (verdicts : List Verdict) (batch : List QueuedUpdate) (one : QueuedUpdate) (verdict : Verdict) → length verdicts ≡ length batch
    → AreDone published begun verdicts batch → IsDone published begun one verdict
    → AreDone published begun (verdicts ++ verdict ∷ []) (batch ++ one ∷ [])
done_push published begun [] [] one verdict long are is = (is, tt)
done_push published begun [] (other ∷ batch) one verdict long are is = absurd (omega (arith, long))
done_push published begun (other ∷ verdicts) [] one verdict long are is = absurd (omega (arith, long))
done_push published begun (first ∷ verdicts) (other ∷ batch) one verdict long are is =
    (are.0, done_push published begun verdicts batch one verdict (omega (arith, long)) are.1 is)

module _ (published : List Version) (first : Version) (last : IsLast published first) where
  -- what is judged is told so once it is published
  judged_done : {asked : List QueuedUpdate} {verdicts : List Verdict} {made : List Version} {updates : List Messages} → Judged first asked verdicts made updates
      → AreDone (published ++ made) (length published) verdicts asked
  judged_done nothing = tt
  judged_done (reported {requests} {verdicts} {made} one code judged is) =
      let at = newest_place published first made last in
      done_push (published ++ made) (length published) verdicts requests one (told_verdict (serial_in (newest_of first made)) code) (judged_long first 0 judged) (judged_done judged)
      (inl (record { version = newest_of first made; front = at.0; newer = []; place = at.1; late = at.2; code = code; tells_it = is; reported = refl }))
  judged_done (starved {requests} {verdicts} {made} one judged is) =
      done_push (published ++ made) (length published) verdicts requests one failed (judged_long first 0 judged) (judged_done judged)
      (inr (inr refl))
  judged_done (changed {requests} {verdicts} {made} one next judged lets is) =
      let at = newest_place published first made last in
      let step : published ++ (made ++ next ∷ []) ≡ (published ++ made) ++ next ∷ [] = sym (append_assoc published made (next ∷ [])) in
      let before : AreDone ((published ++ made) ++ next ∷ []) (length published) verdicts requests =
      all_grow (published ++ made) (next ∷ []) (length published) verdicts requests (judged_done judged) in
      let place : published ++ (made ++ next ∷ []) ≡ at.0 ++ newest_of first made ∷ (next ∷ []) =
      step ∙ (ap (λ (l : List Version). l ++ next ∷ []) at.1 ∙ append_assoc at.0 (newest_of first made ∷ []) (next ∷ [])) in
      done_push (published ++ (made ++ next ∷ [])) (length published) verdicts requests one (made_verdict (serial_in (newest_of first made)) (serial_in next)) (judged_long first 0 judged)
      (subst (λ (l : List Version). AreDone l (length published) verdicts requests) (sym step) before)
      (inr (inl (record {
        version = newest_of first made;
        next = next;
        front = at.0;
        newer = [];
        place = place;
        late = at.2;
        lets = lets;
        makes_it = is;
        reported = refl;
      })))

  -- a batch that is written, or is not, has these verdicts once it is published
  pub published_done : {X : Type 0} (fault : Option X) (asked : List QueuedUpdate) (judged verdicts : List Verdict) (updates kept : List VersionUpdate) (room : ℕ)
      → IsBatch first asked judged updates room
      → MatchOption fault ((kept ≡ updates) × (verdicts ≡ judged)) (λ _. (kept ≡ []) × (verdicts ≡ replicate (length judged) failed) × (0 < length updates))
      → AreDone (published ++ versions_in kept) (length published) verdicts asked
  published_done None asked judged verdicts updates kept room is same =
      subst (λ (vs : List Verdict). AreDone (published ++ versions_in kept) (length published) vs asked) (sym same.1)
      (subst (λ (us : List VersionUpdate). AreDone (published ++ versions_in us) (length published) judged asked) (sym same.0) (judged_done is.judged))
  published_done (Some fault) asked judged verdicts updates kept room is fails =
      subst (λ (vs : List Verdict). AreDone (published ++ versions_in kept) (length published) vs asked) (sym fails.1)
      (all_refused (published ++ versions_in kept) (length published) (length judged) asked)

-- the same of the same lists
pub done_same : (published others : List Version) (begun from : ℕ) (verdicts others_told : List Verdict) (batch : List QueuedUpdate) → others ≡ published → from ≡ begun → others_told ≡ verdicts
    → AreDone published begun verdicts batch → AreDone others from others_told batch
done_same published others begun from verdicts others_told batch same_versions same_begun same_verdicts are =
    subst (λ (l : List Version). AreDone l from others_told batch) (sym same_versions)
    (subst (λ (n : ℕ). AreDone published n others_told batch) (sym same_begun)
    (subst (λ (cs : List Verdict). AreDone published begun cs batch) (sym same_verdicts) are))
