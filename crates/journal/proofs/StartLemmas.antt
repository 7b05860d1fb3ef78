-- What a start takes, a body at a time, and the whole.
use Rattle.std.proofs.Common.{◌≡◌, ℕ, ◌+◌, ◌-◌, ◌<◌, ◌≤◌, Bool, List, [], ◌∷◌, ◌++◌, length, take, get_or, map, if◌then◌else◌, refl, sym, ap, ◌∙◌, subst, append-nil, length-append, arith, Bor, Vec, Global}
use Rattle.std.specs.Prelude.{All, Option, Some, None, MatchOption}
use Rattle.std.proofs.lemmas.Option.{slice_get-get_or}
use Rattle.std.proofs.lemmas.List.{take_more, take_all, map_push, map-append, length-map, get_or-map}
use Rattle.std.proofs.lemmas.List.Elements.{All-nil, All-push}
use Rattle.std.proofs.lemmas.List.Concat.{flat_map-append}
use Rattle.journal.specs.declared.heads.Head.{Head}
use Rattle.journal.specs.declared.start.Refused.{Refused}
use Rattle.journal.specs.declared.start.Refused.TheVariants.{BadHead, OtherText, Damaged, NoBatch, NoMemory}
use Rattle.journal.specs.declared.tails.Tail.{Tail}
use Rattle.journal.specs.declared.tails.Tail.TheVariants.{Blank, Torn, Later}
use Rattle.journal.specs.Frame.{frames_of, IsRead}
use Rattle.journal.specs.Tail.{IsTail}
use Rattle.journal.specs.Batch.{Messages, batch_of, IsRequest, IsBatch}
use Rattle.journal.specs.Head.{head_of, salt_of, IsHead, IsText}
use Rattle.journal.specs.Recovered.{updates_in, IsOpened, AreBatches, IsRecovered, IsNoBatch, IsRefusedBatch, IsDamaged, IsRefused}

-- the first of bodies are batches, and these are their updates
pub record TakenSoFar (bodies : List (List ℕ)) (number : ℕ) (updates : List Messages) : Type 0 where
  pub batches : List (List Messages)
  pub are : AreBatches (take number bodies) batches
  pub all : updates ≡ updates_in batches

pub none_taken : (bodies : List (List ℕ)) → TakenSoFar bodies 0 []
none_taken bodies = record { batches = []; are = record { short = All-nil (All IsRequest); spelt = refl }; all = refl }

pub more_taken : (bodies : List (List ℕ)) (number : ℕ) (updates all batch : List Messages) (d : List ℕ)
    → TakenSoFar bodies number updates → number < length bodies → IsBatch (get_or bodies number d) batch → all ≡ updates ++ batch → TakenSoFar bodies (number + 1) all
more_taken bodies number updates all batch d so_far within is_batch is_all = record {
  batches = so_far.batches ++ batch ∷ [];
  are = record {
    short = All-push (All IsRequest) so_far.batches batch so_far.are.short is_batch.short;
    spelt = take_more bodies number d within
        ∙ (ap (λ (bs : List (List ℕ)). bs ++ get_or bodies number d ∷ []) so_far.are.spelt
        ∙ (ap (λ (b : List ℕ). map batch_of so_far.batches ++ b ∷ []) is_batch.spelt ∙ sym (map_push batch_of so_far.batches batch)));
  };
  all = is_all ∙ (ap (λ (us : List Messages). us ++ batch) so_far.all
      ∙ (ap (λ (us : List Messages). updates_in so_far.batches ++ us) (sym (append-nil batch))
      ∙ sym (flat_map-append (λ (x : List Messages). x) so_far.batches (batch ∷ []))));
}

pub all_taken : (bodies : List (List ℕ)) (number : ℕ) (updates : List Messages) → TakenSoFar bodies number updates → length bodies ≤ number
    → (batches : List (List Messages)) × AreBatches bodies batches × (updates ≡ updates_in batches)
all_taken bodies number updates so_far end =
    (so_far.batches, subst (λ (bs : List (List ℕ)). AreBatches bs so_far.batches) (take_all number bodies end) so_far.are, so_far.all)

-- how many octets are read, and how many are left
pub read_long : (octets head behind frames rest : List ℕ) → octets ≡ head ++ behind → behind ≡ frames ++ rest → length rest ≤ length octets
read_long octets head behind frames rest e f = omega (arith, ap length e, ap length f, length-append head behind, length-append frames rest)

pub opened_from : (octets : List ℕ) (head : Head) (salt behind : List ℕ) (bodies : List (List ℕ)) (rest : List ℕ)
    → IsHead head → salt ≡ salt_of head → octets ≡ head_of head ++ behind → IsRead salt 0 behind bodies rest → IsOpened octets head bodies rest
opened_from octets head salt behind bodies rest is is_salt spelt read =
    record { behind = behind; begins = record { is_head = is; spelt = spelt }; read = subst (λ (s : List ℕ). IsRead s 0 behind bodies rest) is_salt read }

tail_from : (head : Head) (salt : List ℕ) (bodies : List (List ℕ)) (rest : List ℕ) (number : ℕ) (tail : Tail)
    → salt ≡ salt_of head → number ≡ length bodies → IsTail salt number rest tail → IsTail (salt_of head) (length bodies) rest tail
tail_from head salt bodies rest number tail is_salt count is =
    subst (λ (n : ℕ). IsTail (salt_of head) n rest tail) count (subst (λ (s : List ℕ). IsTail s number rest tail) is_salt is)

pub recovered_from : (text octets : List ℕ) (head : Head) (salt behind : List ℕ) (bodies : List (List ℕ)) (rest : List ℕ) (batches : List (List Messages)) (updates : List Messages)
    (number end : ℕ) (torn : Bool)
    → IsHead head → salt ≡ salt_of head → octets ≡ head_of head ++ behind → IsRead salt 0 behind bodies rest → IsText head.text text
    → AreBatches bodies batches → updates ≡ updates_in batches → number ≡ length bodies → end ≡ length octets - length rest
    → IsTail salt number rest (if torn then Torn else Blank)
    → IsRecovered text octets head updates number end torn
recovered_from text octets head salt behind bodies rest batches updates number end torn is is_salt spelt read same are all count ends tail =
    let few = read_long octets (head_of head) behind (frames_of salt 0 bodies) rest spelt read.spelt in
    record {
      bodies = bodies;
      batches = batches;
      rest = rest;
      opened = opened_from octets head salt behind bodies rest is is_salt spelt read;
      same_text = same;
      are_batches = are;
      all = all;
      count = count ∙ (ap length are.spelt ∙ length-map batches batch_of);
      place = omega (arith, few, ends);
      tail = subst (λ (s : List ℕ). IsTail s number rest (if torn then Torn else Blank)) is_salt tail;
    }

pub damaged_from : (text octets : List ℕ) (head : Head) (salt behind : List ℕ) (bodies : List (List ℕ)) (rest : List ℕ) (number end place : ℕ)
    → IsHead head → salt ≡ salt_of head → octets ≡ head_of head ++ behind → IsRead salt 0 behind bodies rest → IsText head.text text → number ≡ length bodies → end ≡ length octets - length rest
    → IsTail salt number rest (Later place) → IsDamaged text octets (end + place)
damaged_from text octets head salt behind bodies rest number end place is is_salt spelt read same count ends later =
    let few = read_long octets (head_of head) behind (frames_of salt 0 bodies) rest spelt read.spelt in
    record {
      head = head;
      bodies = bodies;
      rest = rest;
      place = place;
      opened = opened_from octets head salt behind bodies rest is is_salt spelt read;
      same_text = same;
      later = tail_from head salt bodies rest number (Later place) is_salt count later;
      is = omega (arith, few, ends);
    }

pub no_batch_from : (text octets : List ℕ) (head : Head) (salt behind : List ℕ) (bodies : List (List ℕ)) (rest : List ℕ) (number : ℕ) (torn : Bool) (why : Refused)
    → IsHead head → salt ≡ salt_of head → octets ≡ head_of head ++ behind → IsRead salt 0 behind bodies rest → IsText head.text text → number ≡ length bodies
    → IsTail salt number rest (if torn then Torn else Blank) → IsRefusedBatch bodies why → IsRefused text octets why
no_batch_from text octets head salt behind bodies rest number torn (BadHead fault) is is_salt spelt read same count tail refused = absurd refused
no_batch_from text octets head salt behind bodies rest number torn OtherText is is_salt spelt read same count tail refused = absurd refused
no_batch_from text octets head salt behind bodies rest number torn (Damaged at) is is_salt spelt read same count tail refused = absurd refused
no_batch_from text octets head salt behind bodies rest number torn (NoBatch reported) is is_salt spelt read same count tail refused = record {
  head = head;
  bodies = bodies;
  rest = rest;
  torn = torn;
  opened = opened_from octets head salt behind bodies rest is is_salt spelt read;
  same_text = same;
  tail = tail_from head salt bodies rest number (if torn then Torn else Blank) is_salt count tail;
  no_batch = refused;
}
no_batch_from text octets head salt behind bodies rest number torn NoMemory is is_salt spelt read same count tail refused = tt

-- the same of what is lent
abbrev now_of : List (Bor (List ℕ)) → List (List ℕ)
now_of lent = map (λ (b : Bor (List ℕ)). b.now) lent

lent_at : (bodies : List (Bor (List ℕ))) (number : ℕ) (d : Bor (List ℕ)) → number < length bodies → get_or (now_of bodies) number d.now ≡ (get_or bodies number d).now
lent_at bodies number d within = get_or-map (λ (b : Bor (List ℕ)). b.now) bodies number d d.now within

lent_long : (bodies : List (Bor (List ℕ))) → length (now_of bodies) ≡ length bodies
lent_long bodies = length-map bodies (λ (b : Bor (List ℕ)). b.now)

-- the same of requests, each of lent messages
abbrev pub messages_now : Vec (Bor (List ℕ)) Global → Messages
messages_now request = map (λ (m : Bor (List ℕ)). m.now) request.items

abbrev pub requests_now : List (Vec (Bor (List ℕ)) Global) → List Messages
requests_now requests = map messages_now requests

pub one_batch_more : (bodies : List (Bor (List ℕ))) (number : ℕ) (d : Bor (List ℕ)) (updates all batch : List (Vec (Bor (List ℕ)) Global))
    → TakenSoFar (now_of bodies) number (requests_now updates) → number < length bodies → IsBatch (get_or bodies number d).now (requests_now batch) → all ≡ updates ++ batch
    → TakenSoFar (now_of bodies) (number + 1) (requests_now all)
one_batch_more bodies number d updates all batch so_far within is_batch is_all =
    more_taken (now_of bodies) number (requests_now updates) (requests_now all) (requests_now batch) d.now so_far (omega (arith, within, lent_long bodies))
    (subst (λ (o : List ℕ). IsBatch o (requests_now batch)) (sym (lent_at bodies number d within)) is_batch)
    (ap requests_now is_all ∙ map-append messages_now updates batch)

pub no_batch_at : (bodies : List (Bor (List ℕ))) (number : ℕ) (d : Bor (List ℕ)) (updates : List Messages) → TakenSoFar (now_of bodies) number updates → number < length bodies
    → ((updates : List Messages) → IsBatch (get_or bodies number d).now updates → ⊥) → IsNoBatch (now_of bodies) number
no_batch_at bodies number d updates so_far within none = record {
  batches = so_far.batches;
  before = so_far.are;
  body = get_or (now_of bodies) number d.now;
  is_present = slice_get-get_or (now_of bodies) number d.now (omega (arith, within, lent_long bodies));
  none = λ updates is. none updates (subst (λ (o : List ℕ). IsBatch o updates) (lent_at bodies number d within) is);
}

-- what is told of an option that is something, or nothing
pub told_some : {X : Type 0} (found : Option X) (x : X) (P : Type 0) (Q : X → Type 0) → found ≡ Some x → MatchOption found P Q → Q x
told_some found x P Q e reported = subst (λ o. MatchOption o P Q) e reported

pub told_none : {X : Type 0} (found : Option X) (P : Type 0) (Q : X → Type 0) → found ≡ None → MatchOption found P Q → P
told_none found P Q e reported = subst (λ o. MatchOption o P Q) e reported
