-- A journal that is cut behind some of its batches.
use Rattle.std.proofs.Common.{◌≡◌, ℕ, zero, suc, ◌+◌, List, [], ◌∷◌, ◌++◌, length, take, drop, map, Bool, Some, refl, sym, ap, ◌∙◌, subst, append_assoc, arith}
use Rattle.std.specs.Prelude.{All, slice_get}
use Rattle.std.proofs.lemmas.List.{take-append-drop, take-map, map-append}
use Rattle.std.proofs.lemmas.List.Elements.{All-nil, All-cons, All-head, All-tail}
use Rattle.std.proofs.lemmas.List.Concat.{flat_map-append}
use Rattle.std.proofs.Math.Seq.{take-append-add}
use Rattle.journal.specs.declared.heads.Head.{Head}
use Rattle.journal.specs.Batch.{Messages, batch_of, IsRequest, IsBatch}
use Rattle.journal.specs.Frame.{frames_of, Fit, NoFrame, IsRead}
use Rattle.journal.specs.Head.{head_of, salt_of, IsHead}
use Rattle.journal.specs.Recovered.{journal_of, updates_in, IsOpened, IsRecovered, IsNoBatch}
use Rattle.journal.proofs.FramesLemmas.{read_once, frames-append, cut_read}
use Rattle.journal.proofs.RecoveredLemmas.{opened_read, same_batches}

-- bodies whose lengths and numbers fit, in two parts
pub fit_first : (number : ℕ) (bodies others : List (List ℕ)) → Fit number (bodies ++ others) → Fit number bodies
fit_first number [] others fit = tt
fit_first number (body ∷ bodies) others fit = (fit.0, fit.1, fit_first (number + 1) bodies others fit.2)

pub fit_later : (number : ℕ) (bodies others : List (List ℕ)) → Fit number (bodies ++ others) → Fit (number + length bodies) others
fit_later number [] others fit = subst (λ (n : ℕ). Fit n others) (omega arith) fit
fit_later number (body ∷ bodies) others fit = subst (λ (n : ℕ). Fit n others) (omega arith) (fit_later (number + 1) bodies others fit.2)

pub fit_both : (number : ℕ) (bodies others : List (List ℕ)) → Fit number bodies → Fit (number + length bodies) others → Fit number (bodies ++ others)
fit_both number [] others first later = subst (λ (n : ℕ). Fit n others) (omega arith) later
fit_both number (body ∷ bodies) others first later =
    (first.0, first.1, fit_both (number + 1) bodies others first.2 (subst (λ (n : ℕ). Fit n others) (omega arith) later))

-- batches whose updates are short, in two parts
pub short_first : (batches others : List (List Messages)) → All (All IsRequest) (batches ++ others) → All (All IsRequest) batches
short_first [] others short = All-nil (All IsRequest)
short_first (batch ∷ batches) others short =
    All-cons (All IsRequest) batch batches (All-head (All IsRequest) batch (batches ++ others) short) (short_first batches others (All-tail (All IsRequest) batch (batches ++ others) short))

-- a journal's octets: those of its first batches, and the frames of the later ones
journal-append : (head : Head) (synced later : List (List Messages))
    → journal_of head (synced ++ later) ≡ journal_of head synced ++ frames_of (salt_of head) (0 + length (map batch_of synced)) (map batch_of later)
journal-append head synced later =
    let salt : List ℕ = salt_of head in
    let first : List (List ℕ) = map batch_of synced in
    let others : List (List ℕ) = map batch_of later in
    ap (λ (bodies : List (List ℕ)). head_of head ++ frames_of salt 0 bodies) (map-append batch_of synced later)
    ∙ (ap (λ (o : List ℕ). head_of head ++ o) (frames-append salt 0 first others)
    ∙ sym (append_assoc (head_of head) (frames_of salt 0 first) (frames_of salt (0 + length first) others)))

-- the batches that are left of a journal that is cut, and octets that begin with no further one
pub record Cut (head : Head) (synced later : List (List Messages)) (octets : List ℕ) : Type 0 where
  pub left : List (List Messages)
  pub gone : List (List Messages)
  pub rest : List ℕ
  pub parts : later ≡ left ++ gone
  pub spelt : octets ≡ journal_of head (synced ++ left) ++ rest
  pub fit : Fit 0 (map batch_of (synced ++ left))
  pub no_more : NoFrame (salt_of head) (0 + length (map batch_of (synced ++ left))) rest

pub cut_is : (head : Head) (synced later : List (List Messages)) (n : ℕ) → Fit 0 (map batch_of (synced ++ later))
    → Cut head synced later (take (length (journal_of head synced) + n) (journal_of head (synced ++ later)))
cut_is head synced later n fit =
    let salt : List ℕ = salt_of head in
    let first : List (List ℕ) = map batch_of synced in
    let others : List (List ℕ) = map batch_of later in
    let number : ℕ = 0 + length first in
    let frames : List ℕ = frames_of salt number others in
    let both : Fit 0 (first ++ others) = subst (λ (bodies : List (List ℕ)). Fit 0 bodies) (map-append batch_of synced later) fit in
    let cut = cut_read salt number others (fit_later 0 first others both) n in
    let k : ℕ = cut.0 in
    let rest : List ℕ = cut.1 in
    let read : IsRead salt number (take n frames) (take k others) rest = cut.2 in
    let bodies : take k others ≡ map batch_of (take k later) = take-map batch_of k later in
    let all : first ++ take k others ≡ map batch_of (synced ++ take k later) =
    ap (λ (bs : List (List ℕ)). first ++ bs) bodies ∙ sym (map-append batch_of synced (take k later)) in
    let here : take (length (journal_of head synced) + n) (journal_of head (synced ++ later)) ≡ journal_of head synced ++ take n frames =
    ap (λ (o : List ℕ). take (length (journal_of head synced) + n) o) (journal-append head synced later) ∙ take-append-add (journal_of head synced) frames n in
    let whole : journal_of head synced ++ frames_of salt number (take k others) ≡ journal_of head (synced ++ take k later) =
    ap (λ (bs : List (List ℕ)). journal_of head synced ++ frames_of salt number bs) bodies ∙ sym (journal-append head synced (take k later)) in
    let long : number + length (take k others) ≡ 0 + length (map batch_of (synced ++ take k later)) =
    counted first (take k others) (map batch_of (synced ++ take k later)) all in
    record {
      left = take k later;
      gone = drop k later;
      rest = rest;
      parts = sym (take-append-drop k later);
      spelt = here
          ∙ (ap (λ (o : List ℕ). journal_of head synced ++ o) read.spelt
          ∙ (sym (append_assoc (journal_of head synced) (frames_of salt number (take k others)) rest) ∙ ap (λ (o : List ℕ). o ++ rest) whole));
      fit = subst (λ (bs : List (List ℕ)). Fit 0 bs) all (fit_both 0 first (take k others) (fit_first 0 first others both) read.fit);
      no_more = subst (λ (m : ℕ). NoFrame salt m rest) long read.no_more;
    }
  where
    counted : (a b c : List (List ℕ)) → a ++ b ≡ c → 0 + length a + length b ≡ 0 + length c
    counted a b c e = omega (arith, ap length e, length_both a b)
      where
        length_both : (xs ys : List (List ℕ)) → length (xs ++ ys) ≡ length xs + length ys
        length_both [] ys = omega arith
        length_both (x ∷ xs) ys = omega (arith, length_both xs ys)

-- bodies are read as these batches, where no further one begins behind them
pub bodies_read : (head other : Head) (batches : List (List Messages)) (left : List ℕ) (bodies : List (List ℕ)) (rest : List ℕ)
    → IsHead head → Fit 0 (map batch_of batches) → NoFrame (salt_of head) (0 + length (map batch_of batches)) left → IsOpened (journal_of head batches ++ left) other bodies rest
    → (head ≡ other) × (bodies ≡ map batch_of batches)
bodies_read head other batches left bodies rest is fit none opened =
    let found = opened_read head other batches left bodies rest is opened in
    let once = read_once (salt_of head) 0 (frames_of (salt_of head) 0 (map batch_of batches) ++ left) bodies rest (map batch_of batches) left found.1
    (record { spelt = refl; fit = fit; no_more = none }) in
    (found.0, once.0)

-- and their updates are what a start has
pub cut_recovered : (text left : List ℕ) (head other : Head) (batches : List (List Messages)) (updates : List Messages) (number end : ℕ) (torn : Bool)
    → IsHead head → Fit 0 (map batch_of batches) → All (All IsRequest) batches → NoFrame (salt_of head) (0 + length (map batch_of batches)) left
    → IsRecovered text (journal_of head batches ++ left) other updates number end torn
    → (other ≡ head) × (updates ≡ updates_in batches)
cut_recovered text left head other batches updates number end torn is fit short none found =
    let read = bodies_read head other batches left found.bodies found.rest is fit none found.opened in
    let same = same_batches found.batches batches found.are_batches.short short (sym found.are_batches.spelt ∙ read.1) in
    (sym read.0, found.all ∙ ap updates_in same)

some_same : (x y : List ℕ) → Some y ≡ Some x → x ≡ y
some_same x y e = cc

none_stands : (number : ℕ) (body : List ℕ) → slice_get [] number ≡ Some body → ⊥
none_stands number body e = cc

-- a body of batches is one
pub is_one : (batches : List (List Messages)) (number : ℕ) (body : List ℕ) → All (All IsRequest) batches → slice_get (map batch_of batches) number ≡ Some body
    → (updates : List Messages) × IsBatch body updates
is_one [] number body short is_present = absurd (none_stands number body is_present)
is_one (batch ∷ batches) zero body short is_present = (batch, record { short = All-head (All IsRequest) batch batches short; spelt = some_same body (batch_of batch) is_present })
is_one (batch ∷ batches) (suc number) body short is_present = is_one batches number body (All-tail (All IsRequest) batch batches short) is_present

pub not_no_batch : (bodies : List (List ℕ)) (batches : List (List Messages)) (number : ℕ) → All (All IsRequest) batches → bodies ≡ map batch_of batches → IsNoBatch bodies number → ⊥
not_no_batch bodies batches number short same none =
    let batch = is_one batches number none.body short (ap (λ (bs : List (List ℕ)). slice_get bs number) (sym same) ∙ none.is_present) in
    none.none batch.0 batch.1

-- the updates of the first batches are the first of the updates
pub updates-append : (batches others : List (List Messages)) → updates_in (batches ++ others) ≡ updates_in batches ++ updates_in others
updates-append batches others = flat_map-append (λ (updates : List Messages). updates) batches others
