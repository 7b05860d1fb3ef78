-- What a start takes of octets that begin with a journal.
use Rattle.std.proofs.Common.{◌≡◌, ℕ, zero, suc, Bool, true, false, List, [], ◌∷◌, ◌++◌, length, drop, map, Some, if◌then◌else◌, refl, sym, ap, ◌∙◌, subst, append_assoc, append-nil, arith}
use Rattle.std.specs.Prelude.{All, slice_get}
use Rattle.std.proofs.lemmas.List.Elements.{All-nil, All-head, All-tail}
use Rattle.std.proofs.lemmas.List.Concat.{flat_map-append}
use Rattle.journal.specs.declared.heads.Head.{Head}
use Rattle.journal.specs.declared.start.Refused.{Refused}
use Rattle.journal.specs.declared.start.Refused.TheVariants.{BadHead, OtherText, Damaged, NoBatch, NoMemory}
use Rattle.journal.specs.declared.tails.Tail.TheVariants.{Blank, Torn}
use Rattle.journal.specs.Frame.{frames_of, Fit, IsRead}
use Rattle.journal.specs.Tail.{ShowsLater, IsTail}
use Rattle.journal.specs.Batch.{Messages, batch_of, IsRequest, IsBatch}
use Rattle.journal.specs.Head.{head_of, salt_of, IsHead, IsText}
use Rattle.journal.specs.Recovered.{journal_of, updates_in, IsOpened, IsRecovered, IsRefused}
use Rattle.journal.proofs.BatchLemmas.{batch_once}
use Rattle.journal.proofs.FramesLemmas.{written_read, read_once, synced_first}
use Rattle.journal.proofs.HeadLemmas.{one_head, no_fault}
use Rattle.journal.proofs.TailLemmas.{shown_within}

-- the head of a journal with octets behind it
journal_head : (head : Head) (batches : List (List Messages)) (left : List ℕ)
    → journal_of head batches ++ left ≡ head_of head ++ (frames_of (salt_of head) 0 (map batch_of batches) ++ left)
journal_head head batches left = append_assoc (head_of head) (frames_of (salt_of head) 0 (map batch_of batches)) left

-- a start finds that head, and reads what stands behind it
pub opened_read : (head other : Head) (batches : List (List Messages)) (left : List ℕ) (bodies : List (List ℕ)) (rest : List ℕ)
    → IsHead head → IsOpened (journal_of head batches ++ left) other bodies rest
    → (head ≡ other) × IsRead (salt_of head) 0 (frames_of (salt_of head) 0 (map batch_of batches) ++ left) bodies rest
opened_read head other batches left bodies rest is opened =
    let frames : List ℕ = frames_of (salt_of head) 0 (map batch_of batches) ++ left in
    let one = one_head head other frames opened.behind is opened.begins.is_head (sym (journal_head head batches left) ∙ opened.begins.spelt) in
    let read : IsRead (salt_of head) 0 opened.behind bodies rest = subst (λ (h : Head). IsRead (salt_of h) 0 opened.behind bodies rest) (sym one.0) opened.read in
    (one.0, subst (λ (o : List ℕ). IsRead (salt_of head) 0 o bodies rest) (sym one.1) read)

-- lists that begin in the same way
first_same : (x y : List ℕ) (xs ys : List (List ℕ)) → x ∷ xs ≡ y ∷ ys → x ≡ y
first_same x y xs ys e = cc

others_same : (x y : List ℕ) (xs ys : List (List ℕ)) → x ∷ xs ≡ y ∷ ys → xs ≡ ys
others_same x y xs ys e = cc

more_first : (f b : List Messages) (fs bs rest : List (List Messages)) → f ≡ b → fs ≡ bs ++ rest → f ∷ fs ≡ (b ∷ bs) ++ rest
more_first f b fs bs rest p q = cc

no_end : (x : List ℕ) (xs : List (List ℕ)) → [] ≡ x ∷ xs → ⊥
no_end x xs e = cc

-- batches whose octets come first come first
pub batches_first : (batches found : List (List Messages)) (more : List (List ℕ)) → All (All IsRequest) batches → All (All IsRequest) found
    → map batch_of found ≡ map batch_of batches ++ more → (rest : List (List Messages)) × (found ≡ batches ++ rest)
batches_first [] found more short small e = (found, refl)
batches_first (batch ∷ batches) [] more short small e = absurd (no_end (batch_of batch) (map batch_of batches ++ more) e)
batches_first (batch ∷ batches) (first ∷ found) more short small e =
    let same = batch_once first batch (All-head (All IsRequest) first found small) (All-head (All IsRequest) batch batches short)
    (first_same (batch_of first) (batch_of batch) (map batch_of found) (map batch_of batches ++ more) e) in
    let rest = batches_first batches found more (All-tail (All IsRequest) batch batches short) (All-tail (All IsRequest) first found small)
    (others_same (batch_of first) (batch_of batch) (map batch_of found) (map batch_of batches ++ more) e) in
    (rest.0, more_first first batch found batches rest.0 same rest.1)

-- batches whose octets are the same are the same
pub same_batches : (batches found : List (List Messages)) → All (All IsRequest) batches → All (All IsRequest) found → map batch_of batches ≡ map batch_of found → batches ≡ found
same_batches [] [] short small e = refl
same_batches [] (first ∷ found) short small e = absurd (no_end (batch_of first) (map batch_of found) e)
same_batches (batch ∷ batches) [] short small e = absurd (no_end (batch_of batch) (map batch_of batches) (sym e))
same_batches (batch ∷ batches) (first ∷ found) short small e =
    let same = batch_once batch first (All-head (All IsRequest) batch batches short) (All-head (All IsRequest) first found small)
    (first_same (batch_of batch) (batch_of first) (map batch_of batches) (map batch_of found) e) in
    let more = same_batches batches found (All-tail (All IsRequest) batch batches short) (All-tail (All IsRequest) first found small)
    (others_same (batch_of batch) (batch_of first) (map batch_of batches) (map batch_of found) e) in
    joined batch first batches found same more
  where
    joined : (f b : List Messages) (fs bs : List (List Messages)) → f ≡ b → fs ≡ bs → f ∷ fs ≡ b ∷ bs
    joined f b fs bs p q = cc

-- a body of these batches is one
is_one : (batches : List (List Messages)) (number : ℕ) (body : List ℕ) → All (All IsRequest) batches → slice_get (map batch_of batches) number ≡ Some body
    → (updates : List Messages) × IsBatch body updates
is_one [] number body short is_present = absurd (none_stands number body is_present)
  where
    none_stands : (number : ℕ) (body : List ℕ) → slice_get [] number ≡ Some body → ⊥
    none_stands number body e = cc
is_one (batch ∷ batches) zero body short is_present = (batch, record { short = All-head (All IsRequest) batch batches short; spelt = some_same body (batch_of batch) is_present })
  where
    some_same : (x y : List ℕ) → Some y ≡ Some x → x ≡ y
    some_same x y e = cc
is_one (batch ∷ batches) (suc number) body short is_present = is_one batches number body (All-tail (All IsRequest) batch batches short) is_present

-- what was brought to the disk is recovered first
pub synced_recovered : (text left : List ℕ) (head other : Head) (batches : List (List Messages)) (updates : List Messages) (number end : ℕ) (torn : Bool)
    → IsHead head → Fit 0 (map batch_of batches) → All (All IsRequest) batches
    → IsRecovered text (journal_of head batches ++ left) other updates number end torn
    → (more : List Messages) × (other ≡ head) × (updates ≡ updates_in batches ++ more)
synced_recovered text left head other batches updates number end torn is fit short found =
    let opened = opened_read head other batches left found.bodies found.rest is found.opened in
    let first = synced_first (salt_of head) 0 (map batch_of batches) found.bodies left found.rest fit opened.1 in
    let all = batches_first batches found.batches first.0 short found.are_batches.short (sym found.are_batches.spelt ∙ first.1) in
    (updates_in all.0, sym opened.0, found.all ∙ (ap updates_in all.1 ∙ flat_map-append (λ (x : List Messages). x) batches all.0))

-- with nothing behind a journal all of it is read
whole_read : (head other : Head) (batches : List (List Messages)) (bodies : List (List ℕ)) (rest : List ℕ)
    → IsHead head → Fit 0 (map batch_of batches) → IsOpened (journal_of head batches) other bodies rest
    → (head ≡ other) × (bodies ≡ map batch_of batches) × (rest ≡ [])
whole_read head other batches bodies rest is fit opened =
    let longer = subst (λ (o : List ℕ). IsOpened o other bodies rest) (sym (append-nil (journal_of head batches))) opened in
    let found = opened_read head other batches [] bodies rest is longer in
    let frames : List ℕ = frames_of (salt_of head) 0 (map batch_of batches) in
    let read : IsRead (salt_of head) 0 frames bodies rest = subst (λ (o : List ℕ). IsRead (salt_of head) 0 o bodies rest) (append-nil frames) found.1 in
    let once = read_once (salt_of head) 0 frames bodies rest (map batch_of batches) [] read (written_read (salt_of head) 0 (map batch_of batches) fit) in
    (found.0, once.0, once.1)

-- nothing begins with a frame of a later number
none_later : (salt : List ℕ) (next place : ℕ) → ShowsLater salt next (drop place []) → ⊥
none_later salt next place later = omega (arith, shown_within salt next place [] later)

not_torn : (salt : List ℕ) (next : ℕ) (torn : Bool) → IsTail salt next [] (if torn then Torn else Blank) → torn ≡ false
not_torn salt next true tail = absurd (tail.0 (All-nil (λ (octet : ℕ). octet ≡ 0)))
not_torn salt next false tail = refl

-- what is written is recovered
pub written_recovered : (text : List ℕ) (head other : Head) (batches : List (List Messages)) (updates : List Messages) (number end : ℕ) (torn : Bool)
    → IsHead head → Fit 0 (map batch_of batches) → All (All IsRequest) batches
    → IsRecovered text (journal_of head batches) other updates number end torn
    → (other ≡ head) × (updates ≡ updates_in batches) × (torn ≡ false)
written_recovered text head other batches updates number end torn is fit short found =
    let whole = whole_read head other batches found.bodies found.rest is fit found.opened in
    let same = same_batches found.batches batches found.are_batches.short short (sym found.are_batches.spelt ∙ whole.1) in (
      sym whole.0,
      found.all ∙ ap updates_in same,
      not_torn (salt_of other) number torn (subst (λ (o : List ℕ). IsTail (salt_of other) number o (if torn then Torn else Blank)) whole.2 found.tail),
    )

-- and is refused for want of memory alone
pub written_accepted : (text : List ℕ) (head : Head) (batches : List (List Messages)) (why : Refused)
    → IsHead head → IsText head.text text → Fit 0 (map batch_of batches) → All (All IsRequest) batches
    → IsRefused text (journal_of head batches) why → why ≡ NoMemory
written_accepted text head batches (BadHead fault) is same fit short refused =
    absurd (no_fault head (frames_of (salt_of head) 0 (map batch_of batches)) fault is refused)
written_accepted text head batches OtherText is same fit short refused =
    let one = one_head head refused.0 (frames_of (salt_of head) 0 (map batch_of batches)) refused.1 is refused.2.is_head refused.2.spelt in
    absurd (refused.3 (subst (λ (h : Head). IsText h.text text) one.0 same))
written_accepted text head batches (Damaged at) is same fit short refused =
    let whole = whole_read head refused.head batches refused.bodies refused.rest is fit refused.opened in
    absurd (none_later (salt_of refused.head) (length refused.bodies) refused.place
    (subst (λ (o : List ℕ). ShowsLater (salt_of refused.head) (length refused.bodies) (drop refused.place o)) whole.2 refused.later.0))
written_accepted text head batches (NoBatch number) is same fit short refused =
    let whole = whole_read head refused.head batches refused.bodies refused.rest is fit refused.opened in
    let batch = is_one batches number refused.no_batch.body short (ap (λ (bs : List (List ℕ)). slice_get bs number) (sym whole.1) ∙ refused.no_batch.is_present) in
    absurd (refused.no_batch.none batch.0 batch.1)
written_accepted text head batches NoMemory is same fit short refused = refl
