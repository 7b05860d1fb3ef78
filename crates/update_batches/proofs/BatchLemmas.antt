-- What one more update adds to those that are judged so far.
use Rattle.journal.specs.Batch.{Messages, batch_of, request_octets}
use Rattle.journal.specs.Frame.{body_limit}
use Rattle.std.proofs.Common.{◌≡◌, ℕ, ◌+◌, ◌<◌, ◌≤◌, zero, suc, List, [], ◌∷◌, ◌++◌, length, drop, get_or, refl, sym, ap, ◌∙◌, subst, append-nil, length-append, arith}
use Rattle.std.proofs.lemmas.List.{length_push, drop_more, drop_all}
use Rattle.std.proofs.lemmas.List.Concat.{flat_map-append}
use Rattle.dns_rdata.specs.declared.numbers.Rcode.{Rcode}
use Rattle.zone_tree.specs.Version.{Version}
use Rattle.update_batches.specs.Engine.{IsLast, AreMade}
use Rattle.update_batches.specs.declared.verdict.Verdict.{Verdict}
use Rattle.update_batches.specs.Verdict.{told_verdict, made_verdict, failed}
use Rattle.update_batches.specs.declared.queued_update.QueuedUpdate.{QueuedUpdate}
use Rattle.update_batches.specs.declared.update_request.UpdateRequest.{UpdateRequest}
use Rattle.update_batches.specs.declared.version_update.VersionUpdate.{VersionUpdate}
use Rattle.update_batches.specs.UpdateRequest.{passes, tells, makes, messages_of, serial_in}
use Rattle.update_batches.specs.Batch.{newest_of, versions_in, updates_of, IsBatch, Judged, nothing, reported, starved, changed}

-- what holds of three values holds of the same ones
pub same_three : {A B C : Type 0} (P : A → B → C → Type 0) (a other : A) (b known : B) (c allowed : C) → a ≡ other → b ≡ known → c ≡ allowed → P a b c → P other known allowed
same_three {A} {B} {C} P a other b known c allowed e f g p =
    subst (λ (x : A). P x known allowed) e (subst (λ (y : B). P a y allowed) f (subst (λ (z : C). P a b z) g p))

-- the newest of versions is the last of them
pub newest_push : {V : Type 0} (first : V) (front : List V) (version : V) → newest_of first (front ++ version ∷ []) ≡ version
newest_push first [] version = refl
newest_push first (other ∷ front) version = newest_push other front version

-- a list has one last element
pub last_once : {V : Type 0} (versions : List V) (one other : V) → IsLast versions one → IsLast versions other → one ≡ other
last_once versions one other a b =
    sym (newest_push one a.0 one) ∙ (ap (newest_of one) (sym a.1) ∙ (ap (newest_of one) b.1 ∙ newest_push one b.0 other))

-- one version more is made from the newest
made_push : (first : Version) (versions : List Version) (asked : UpdateRequest) (next : Version) → AreMade first versions → makes (newest_of first versions) asked next
    → AreMade first (versions ++ next ∷ [])
made_push first [] asked next are is = ((asked, is), tt)
made_push first (version ∷ versions) asked next are is = (are.0, made_push version versions asked next are.1 is)

-- the newest version is that of the update in the last place
pub newest_in : (first : Version) (updates : List VersionUpdate) (update d : VersionUpdate) (place : ℕ) → length updates ≡ place + 1 → update ≡ get_or updates place d
    → newest_of first (versions_in updates) ≡ update.version
newest_in first [] update d place e is = absurd (omega (arith, e))
newest_in first (x ∷ []) update d zero e is = ap (λ (u : VersionUpdate). u.version) (sym is)
newest_in first (x ∷ []) update d (suc place) e is = absurd (omega (arith, e))
newest_in first (x ∷ (y ∷ updates)) update d zero e is = absurd (omega (arith, e))
newest_in first (x ∷ (y ∷ updates)) update d (suc place) e is = newest_in x.version (y ∷ updates) update d place (omega (arith, e)) is

-- if there is none it is the first one
pub newest_none : (first : Version) (updates : List VersionUpdate) → length updates ≤ 0 → newest_of first (versions_in updates) ≡ first
newest_none first [] none = refl
newest_none first (x ∷ updates) none = absurd (omega (arith, none))

-- the versions and the octets of one update more
versions_push : (updates : List VersionUpdate) (update : VersionUpdate) → versions_in (updates ++ update ∷ []) ≡ versions_in updates ++ update.version ∷ []
versions_push [] update = refl
versions_push (x ∷ updates) update = ap (λ (vs : List Version). x.version ∷ vs) (versions_push updates update)

updates_push : (updates : List VersionUpdate) (update : VersionUpdate) → updates_of (updates ++ update ∷ []) ≡ updates_of updates ++ update.messages ∷ []
updates_push [] update = refl
updates_push (x ∷ updates) update = ap (λ (os : List Messages). x.messages ∷ os) (updates_push updates update)

-- how many octets the batch of one request more has
pub batch_long : (requests : List Messages) (request : Messages) → length (batch_of (requests ++ request ∷ [])) ≡ length (batch_of requests) + length (request_octets request)
batch_long requests request =
    omega (
      arith,
      ap length (flat_map-append request_octets requests (request ∷ [])),
      ap length (append-nil (request_octets request)),
      length-append (batch_of requests) (batch_of (request ∷ [])),
    )

-- the octets of updates are counted, one update after the other
pub counted_more : (updates : List VersionUpdate) (i : ℕ) (x : VersionUpdate) (len whole : ℕ) → i < length updates → x ≡ get_or updates i x
    → len + length (batch_of (updates_of (drop i updates))) ≡ whole
    → (len + length (request_octets x.messages)) + length (batch_of (updates_of (drop (i + 1) updates))) ≡ whole
counted_more updates i x len whole within is so_far =
    let left : batch_of (updates_of (drop i updates)) ≡ request_octets x.messages ++ batch_of (updates_of (drop (i + 1) updates)) =
    ap (λ (us : List VersionUpdate). batch_of (updates_of us)) (drop_more updates i x within ∙ ap (λ (u : VersionUpdate). u ∷ drop (i + 1) updates) (sym is)) in
    omega (arith, so_far, ap length left, length-append (request_octets x.messages) (batch_of (updates_of (drop (i + 1) updates))))

pub all_counted : (updates : List VersionUpdate) (i len whole : ℕ) → length updates ≤ i → len + length (batch_of (updates_of (drop i updates))) ≡ whole → len ≡ whole
all_counted updates i len whole end so_far =
    omega (arith, so_far, ap (λ (us : List VersionUpdate). length (batch_of (updates_of us))) (drop_all i updates end))

module _ (first : Version) (room : ℕ) where
  pub none_so_far : (verdicts : List Verdict) (updates : List VersionUpdate) → verdicts ≡ [] → updates ≡ [] → IsBatch first [] verdicts updates room
  none_so_far verdicts updates no_verdicts no_updates =
      subst (λ (cs : List Verdict). IsBatch first [] cs updates room) (sym no_verdicts)
      (subst (λ (us : List VersionUpdate). IsBatch first [] [] us room) (sym no_updates) (record { judged = nothing; few = omega arith; short = omega arith }))

  -- each request has a verdict
  pub judged_long : {requests : List QueuedUpdate} {verdicts : List Verdict} {made : List Version} {updates : List Messages} → Judged first requests verdicts made updates
      → length verdicts ≡ length requests
  judged_long nothing = refl
  judged_long (reported {requests} {verdicts} {made} one code judged is) = length_push verdicts (told_verdict (serial_in (newest_of first made)) code) ∙ (ap (λ (n : ℕ). n + 1) (judged_long judged) ∙ sym (length_push requests one))
  judged_long (starved {requests} {verdicts} one judged is) = length_push verdicts failed ∙ (ap (λ (n : ℕ). n + 1) (judged_long judged) ∙ sym (length_push requests one))
  judged_long (changed {requests} {verdicts} {made} one next judged lets is) = length_push verdicts (made_verdict (serial_in (newest_of first made)) (serial_in next)) ∙ (ap (λ (n : ℕ). n + 1) (judged_long judged) ∙ sym (length_push requests one))

  -- each version is made from the one before it
  pub judged_made : {requests : List QueuedUpdate} {verdicts : List Verdict} {made : List Version} {updates : List Messages} → Judged first requests verdicts made updates
      → AreMade first made
  judged_made nothing = tt
  judged_made (reported one code judged is) = judged_made judged
  judged_made (starved one judged is) = judged_made judged
  judged_made (changed {requests} {verdicts} {made} one next judged lets is) = made_push first made one.request next (judged_made judged) is

  -- the same of the same lists
  pub so_far_same : (requests others : List QueuedUpdate) (verdicts told_verdicts : List Verdict) (updates : List VersionUpdate) → others ≡ requests → told_verdicts ≡ verdicts
      → IsBatch first requests verdicts updates room → IsBatch first others told_verdicts updates room
  so_far_same requests others verdicts told_verdicts updates same_requests same_verdicts so_far =
      subst (λ (xs : List QueuedUpdate). IsBatch first xs told_verdicts updates room) (sym same_requests)
      (subst (λ (cs : List Verdict). IsBatch first requests cs updates room) (sym same_verdicts) so_far)

  pub told_more : (requests : List QueuedUpdate) (verdicts : List Verdict) (updates : List VersionUpdate) (one : QueuedUpdate) (code : Rcode) (verdict : Verdict)
      → IsBatch first requests verdicts updates room → tells (newest_of first (versions_in updates)) one.request code
      → verdict ≡ told_verdict (serial_in (newest_of first (versions_in updates))) code
      → IsBatch first (requests ++ one ∷ []) (verdicts ++ verdict ∷ []) updates room
  told_more requests verdicts updates one code verdict so_far is same =
      subst (λ (v : Verdict). IsBatch first (requests ++ one ∷ []) (verdicts ++ v ∷ []) updates room) (sym same)
      (record { judged = reported one code so_far.judged is; few = so_far.few; short = so_far.short })

  pub starved_more : (requests : List QueuedUpdate) (verdicts : List Verdict) (updates all : List VersionUpdate) (one : QueuedUpdate) (verdict : Verdict)
      → IsBatch first requests verdicts updates room → passes (newest_of first (versions_in updates)) one.request → verdict ≡ failed → all ≡ updates
      → IsBatch first (requests ++ one ∷ []) (verdicts ++ verdict ∷ []) all room
  starved_more requests verdicts updates all one verdict so_far is same same_updates =
      subst (λ (us : List VersionUpdate). IsBatch first (requests ++ one ∷ []) (verdicts ++ verdict ∷ []) us room) (sym same_updates)
      (subst (λ (v : Verdict). IsBatch first (requests ++ one ∷ []) (verdicts ++ v ∷ []) updates room) (sym same)
      (record { judged = starved one so_far.judged is; few = so_far.few; short = so_far.short }))

  pub changed_more : (requests : List QueuedUpdate) (verdicts : List Verdict) (updates all : List VersionUpdate) (one : QueuedUpdate) (next : Version) (verdict : Verdict)
      (update : VersionUpdate) → IsBatch first requests verdicts updates room → passes (newest_of first (versions_in updates)) one.request
      → makes (newest_of first (versions_in updates)) one.request next → verdict ≡ made_verdict (serial_in (newest_of first (versions_in updates))) (serial_in next)
      → length updates < room → all ≡ updates ++ update ∷ [] → update.version ≡ next → update.messages ≡ messages_of one.request
      → length (batch_of (updates_of all)) < body_limit
      → IsBatch first (requests ++ one ∷ []) (verdicts ++ verdict ∷ []) all room
  changed_more requests verdicts updates all one next verdict update so_far lets is same few is_all version octets short =
      let made : versions_in (updates ++ update ∷ []) ≡ versions_in updates ++ next ∷ [] =
      versions_push updates update ∙ ap (λ (v : Version). versions_in updates ++ v ∷ []) version in
      let kept : updates_of (updates ++ update ∷ []) ≡ updates_of updates ++ messages_of one.request ∷ [] =
      updates_push updates update ∙ ap (λ (o : Messages). updates_of updates ++ o ∷ []) octets in
      let after : List Verdict = verdicts ++ made_verdict (serial_in (newest_of first (versions_in updates))) (serial_in next) ∷ [] in
      let judged : Judged first (requests ++ one ∷ []) after (versions_in (updates ++ update ∷ [])) (updates_of (updates ++ update ∷ [])) =
      subst (λ (vs : List Version). Judged first (requests ++ one ∷ []) after vs (updates_of (updates ++ update ∷ []))) (sym made)
      (subst (λ (os : List Messages). Judged first (requests ++ one ∷ []) after (versions_in updates ++ next ∷ []) os) (sym kept) (changed one next so_far.judged lets is)) in
      subst (λ (v : Verdict). IsBatch first (requests ++ one ∷ []) (verdicts ++ v ∷ []) all room) (sym same)
      (subst (λ (us : List VersionUpdate). IsBatch first (requests ++ one ∷ []) after us room) (sym is_all)
      (record {
        judged = judged;
        few = omega (arith, few, length_push updates update);
        short = subst (λ (us : List VersionUpdate). length (batch_of (updates_of us)) < body_limit) is_all short;
      }))
