-- What is kept for the next journal.
use Rattle.std.proofs.Common.{◌≡◌, ℕ, ◌+◌, ◌^◌, ◌<◌, ◌≤◌, List, [], ◌∷◌, ◌++◌, length, get_or, take, drop, map, sym, ap, ◌∙◌, subst, append_assoc, arith}
use Rattle.std.specs.Prelude.{All}
use Rattle.std.proofs.lemmas.List.{map-append, append-nil, drop-append-le, length-map, length-take-le, take_more, take_all}
use Rattle.std.proofs.lemmas.List.Elements.{All-nil, All-cons, All-append}
use Rattle.journal.specs.declared.heads.Head.{Head}
use Rattle.journal.specs.Batch.{Messages, batch_of, IsRequest}
use Rattle.journal.specs.Frame.{body_limit, Fit, framed, frames_of}
use Rattle.journal.specs.Head.{head_of, salt_of}
use Rattle.journal.specs.Recovered.{updates_in}
use Rattle.journal.proofs.FramesLemmas.{fit_more, frames_push}
use Rattle.journal.specs.Log.{octets_of}
use Rattle.store_recovery.proofs.CutLemmas.{updates-append}
use Rattle.store_recovery.specs.Behind.{AreBehind}
use Rattle.store_compaction.specs.declared.marked.Compaction.{Compaction}
use Rattle.store_compaction.specs.declared.body.Body.{Body}
use Rattle.store_compaction.specs.declared.next.NextJournal.{NextJournal}
use Rattle.update_batches.specs.declared.version_update.VersionUpdate.{VersionUpdate}
use Rattle.update_batches.specs.Batch.{updates_of}
use Rattle.store_compaction.specs.Marked.{bodies_of, IsMarked, IsNextJournal}

-- the updates of steps are requests
pub short_steps : (steps : List VersionUpdate) → All IsRequest (updates_of steps)
short_steps [] = All-nil IsRequest
short_steps (step ∷ steps) = All-cons IsRequest step.messages (updates_of steps) step.request (short_steps steps)

-- bodies that are short fit a journal
pub fit_bodies : (number : ℕ) (bodies : List Body) → number + length bodies < 2 ^ 64 → Fit number (map (λ body. body.octets.items) bodies)
fit_bodies number [] few = tt
fit_bodies number (body ∷ bodies) few = (body.short, omega (arith, few), fit_bodies (number + 1) bodies (omega (arith, few)))

-- a journal's octets with the next frame
pub journal_more : (head : Head) (all : List Body) (n : ℕ) (body : Body) (salt frame old new : List ℕ) → n < length all → body ≡ get_or all n body → salt ≡ salt_of head
    → frame ≡ framed salt n body.octets.items → old ≡ octets_of head (map (λ b. b.octets.items) (take n all)) → new ≡ old ++ frame
    → new ≡ octets_of head (map (λ b. b.octets.items) (take (n + 1) all))
journal_more head all n body salt frame old new within is salts frames olds news =
    let bodies : List (List ℕ) = map (λ (b : Body). b.octets.items) (take n all) in
    let counts : n ≡ length bodies = sym (length-map (take n all) (λ (b : Body). b.octets.items) ∙ length-take-le n all (omega (arith, within))) in
    let more : take (n + 1) all ≡ take n all ++ body ∷ [] = take_more all n body within ∙ ap (λ (b : Body). take n all ++ b ∷ []) (sym is) in
    let last : map (λ (b : Body). b.octets.items) (take (n + 1) all) ≡ bodies ++ body.octets.items ∷ [] =
    ap (λ (bs : List Body). map (λ (b : Body). b.octets.items) bs) more ∙ map-append (λ (b : Body). b.octets.items) (take n all) (body ∷ []) in
    let frame_is : frame ≡ framed (salt_of head) n body.octets.items = frames ∙ ap (λ (s : List ℕ). framed s n body.octets.items) salts in
    let pushed : octets_of head (bodies ++ body.octets.items ∷ []) ≡ octets_of head bodies ++ framed (salt_of head) n body.octets.items =
    ap (λ (o : List ℕ). head_of head ++ o) (frames_push (salt_of head) n bodies body.octets.items counts)
    ∙ sym (append_assoc (head_of head) (frames_of (salt_of head) 0 bodies) (framed (salt_of head) n body.octets.items)) in
    news
    ∙ (ap (λ (o : List ℕ). o ++ frame) olds
    ∙ (ap (λ (o : List ℕ). octets_of head bodies ++ o) frame_is ∙ (sym pushed ∙ ap (λ (bs : List (List ℕ)). octets_of head bs) (sym last))))

pub next_from : (head : Head) (all : List Body) (n : ℕ) (next : NextJournal) → length all ≤ n → next.octets.items ≡ octets_of head (map (λ b. b.octets.items) (take n all))
    → next.salt ≡ salt_of head → next.number ≡ length all → length all < 2 ^ 64 → IsNextJournal head (map (λ b. b.octets.items) all) next
next_from head all n next whole octets salts number few = record {
  octets = octets ∙ ap (λ (bs : List Body). octets_of head (map (λ (b : Body). b.octets.items) bs)) (take_all n all whole);
  salt = salts;
  number = number ∙ sym (length-map all (λ (b : Body). b.octets.items));
  fit = fit_bodies 0 all (omega (arith, few));
}

-- the updates of one batch, and of one more
pub one_batch : (batch : List Messages) → updates_in (batch ∷ []) ≡ batch
one_batch batch = append-nil batch

pub one_more : (batches : List (List Messages)) (batch : List Messages) → updates_in (batches ++ batch ∷ []) ≡ updates_in batches ++ batch
one_more batches batch = updates-append batches (batch ∷ []) ∙ ap (λ (us : List Messages). updates_in batches ++ us) (one_batch batch)

-- batches behind the first updates of a store, once it has one batch more
pub behind_more : (k : ℕ) (batches rest : List (List Messages)) (batch : List Messages) → AreBehind k batches rest → k ≤ length (updates_in batches) → All IsRequest batch
    → length (batch_of batch) < body_limit → length rest < 2 ^ 64 → AreBehind k (batches ++ batch ∷ []) (rest ++ batch ∷ [])
behind_more k batches rest batch behind within short few counted = record {
  all = one_more rest batch
      ∙ (ap (λ (us : List Messages). us ++ batch) behind.all
      ∙ (sym (drop-append-le k (updates_in batches) batch within) ∙ ap (λ (us : List Messages). drop k us) (sym (one_more batches batch))));
  short = All-append (All IsRequest) rest (batch ∷ []) behind.short (All-cons (All IsRequest) batch [] short (All-nil (All IsRequest)));
  fit = subst (λ (bodies : List (List ℕ)). Fit 0 bodies) (sym (map-append batch_of rest (batch ∷ [])))
      (fit_more 0 (map batch_of rest) (batch_of batch) behind.fit few (omega (arith, length-map rest batch_of, counted)));
}

-- what is kept, once it has one batch more
pub marked_more : (k : ℕ) (batches : List (List Messages)) (batch : List Messages) (body : List ℕ) (old new : Compaction) → IsMarked k batches old → k ≤ length (updates_in batches)
    → All IsRequest batch → body ≡ batch_of batch → length body < body_limit → length old.bodies.items < 2 ^ 64 → bodies_of new ≡ bodies_of old ++ body ∷ []
    → IsMarked k (batches ++ batch ∷ []) new
marked_more k batches batch body old new marked within short is few counted followed =
    let many : length marked.rest ≡ length old.bodies.items =
    sym (length-map marked.rest batch_of) ∙ (ap length (sym marked.bodies) ∙ length-map old.bodies.items (λ (b : Body). b.octets.items)) in
    record {
      rest = marked.rest ++ batch ∷ [];
      behind = behind_more k batches marked.rest batch marked.behind within short (subst (λ (o : List ℕ). length o < body_limit) is few) (omega (arith, many, counted));
      bodies = followed ∙ (ap (λ (bs : List (List ℕ)). bs ++ body ∷ []) marked.bodies
          ∙ (ap (λ (o : List ℕ). map batch_of marked.rest ++ o ∷ []) is ∙ sym (map-append batch_of marked.rest (batch ∷ []))));
    }
