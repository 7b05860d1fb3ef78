-- Batches: how their octets are read, and that they are read in one way.
use Rattle.std.proofs.Common.{◌≡◌, ℕ, ◌+◌, ◌^◌, ◌<◌, ◌⊎◌, List, [], ◌∷◌, ◌++◌, length, inl, inr, refl, sym, ap, ◌∙◌, subst, append_assoc, append-nil, length-append, arith}
use Rattle.std.specs.Prelude.{All}
use Rattle.std.specs.Int.{w16, to_be_bytes}
use Rattle.std.proofs.lemmas.List.Elements.{All-nil, All-head, All-tail, All-push, All-same}
use Rattle.std.proofs.lemmas.List.Concat.{flat_map-append}
use Rattle.std.proofs.lemmas.List.{nil_from_length}
use Rattle.journal.specs.Batch.{Messages, counted, more_octets, request_octets, batch_of, IsShort, IsRequest, IsBatch, NoJoint}
use Rattle.journal.proofs.PartLemmas.{same_parts, same_number_2}

-- octets after their number, in front of others
pub counted_parts : (octets rest : List ℕ) → counted octets ++ rest ≡ to_be_bytes w16 (length octets) ++ (octets ++ rest)
unfolding counted
counted_parts octets rest = append_assoc (to_be_bytes w16 (length octets)) octets rest

-- how many these are
pub counted_long : (octets : List ℕ) → length (counted octets) ≡ 2 + length octets
unfolding counted
counted_long octets = two_more (to_be_bytes w16 (length octets)) octets refl
  where
    two_more : (a b : List ℕ) → length a ≡ 2 → length (a ++ b) ≡ 2 + length b
    two_more a b two = simp length-append (omega arith)

-- octets begin with others after their number in one way at most
pub one_counted : (a rest b left : List ℕ) → length a < 2 ^ 16 → length b < 2 ^ 16 → counted a ++ rest ≡ counted b ++ left → (a ≡ b) × (rest ≡ left)
one_counted a rest b left short small e =
    let parts = same_parts (to_be_bytes w16 (length a)) (a ++ rest) (to_be_bytes w16 (length b)) (b ++ left) refl
    (sym (counted_parts a rest) ∙ (e ∙ counted_parts b left)) in
    same_parts a rest b left (same_number_2 (length a) (length b) short small parts.0) parts.1

-- octets that begin with a number and as many octets begin so, and if they begin so then with that number
pub counted_from : (octets : List ℕ) (size : ℕ) (after first rest : List ℕ) → size < 2 ^ 16
    → octets ≡ to_be_bytes w16 size ++ after → after ≡ first ++ rest → length first ≡ size → (length first < 2 ^ 16) × (octets ≡ counted first ++ rest)
counted_from octets size after first rest small spelt second is_size = (
  subst (λ (n : ℕ). n < 2 ^ 16) (sym is_size) small,
  spelt ∙ (ap (λ (o : List ℕ). to_be_bytes w16 size ++ o) second
      ∙ (ap (λ (n : ℕ). to_be_bytes w16 n ++ (first ++ rest)) (sym is_size) ∙ sym (counted_parts first rest))),
)

pub counted_leads : (octets : List ℕ) (size : ℕ) (after first rest : List ℕ) → size < 2 ^ 16
    → octets ≡ to_be_bytes w16 size ++ after → length first < 2 ^ 16 → octets ≡ counted first ++ rest → (size ≡ length first) × (after ≡ first ++ rest)
counted_leads octets size after first rest small spelt short e =
    let parts = same_parts (to_be_bytes w16 size) after (to_be_bytes w16 (length first)) (first ++ rest) refl (sym spelt ∙ (e ∙ counted_parts first rest)) in
    (same_number_2 size (length first) small short parts.0, parts.1)

-- few octets begin so with none
pub none_in_two : (octets first rest : List ℕ) → length octets < 2 → octets ≡ counted first ++ rest → ⊥
none_in_two octets first rest few e = omega (arith, ap length e, length-append (counted first) rest, counted_long first)

pub none_is_short : length {A = ℕ} [] < 2 ^ 16
none_is_short = omega arith

-- a message has octets
no_message : (message : List ℕ) → IsShort message → message ≡ [] → ⊥
no_message message short e = omega (arith, short.some, ap length e)

-- no octets don't begin with a joint
pub none_joint : NoJoint []
none_joint rest e = none_in_two [] [] rest (omega arith) e

-- a message isn't a joint
message_no_joint : (message rest : List ℕ) → IsShort message → NoJoint (counted message ++ rest)
message_no_joint message rest short left e = no_message message short (one_counted message rest [] left short.short none_is_short e).0

-- nor is a request, and so no batch begins with one
request_no_joint : (request : Messages) (rest : List ℕ) → IsRequest request → NoJoint (request_octets request ++ rest)
request_no_joint [] rest is left e = omega (arith, is.some)
request_no_joint (message ∷ messages) rest is left e =
    message_no_joint message (more_octets messages ++ rest) (All-head IsShort message messages is.short) left
    (sym (append_assoc (counted message) (more_octets messages) rest) ∙ e)

pub batch_no_joint : (requests : List Messages) → All IsRequest requests → NoJoint (batch_of requests)
batch_no_joint [] are = none_joint
batch_no_joint (request ∷ requests) are = request_no_joint request (batch_of requests) (All-head IsRequest request requests are)

-- a joint and a message in front of others
joined_parts : (message more rest : List ℕ) → (counted [] ++ (counted message ++ more)) ++ rest ≡ counted [] ++ (counted message ++ (more ++ rest))
joined_parts message more rest =
    append_assoc (counted []) (counted message ++ more) rest ∙ ap (λ (o : List ℕ). counted [] ++ o) (append_assoc (counted message) more rest)

pub cons_same : {X : Type 0} (x y : X) (xs ys : List X) → x ≡ y → xs ≡ ys → x ∷ xs ≡ y ∷ ys
cons_same x y xs ys p q = cc

-- further messages are read in one way
more_once : (messages others : Messages) (rest left : List ℕ) → All IsShort messages → All IsShort others → NoJoint rest → NoJoint left
    → more_octets messages ++ rest ≡ more_octets others ++ left → (messages ≡ others) × (rest ≡ left)
more_once [] [] rest left short small none no_more e = (refl, e)
more_once [] (other ∷ others) rest left short small none no_more e =
    absurd (none (counted other ++ (more_octets others ++ left)) (e ∙ joined_parts other (more_octets others) left))
more_once (message ∷ messages) [] rest left short small none no_more e =
    absurd (no_more (counted message ++ (more_octets messages ++ rest)) (sym e ∙ joined_parts message (more_octets messages) rest))
more_once (message ∷ messages) (other ∷ others) rest left short small none no_more e =
    let joint = one_counted [] (counted message ++ (more_octets messages ++ rest)) [] (counted other ++ (more_octets others ++ left)) none_is_short none_is_short
    (sym (joined_parts message (more_octets messages) rest) ∙ (e ∙ joined_parts other (more_octets others) left)) in
    let same = one_counted message (more_octets messages ++ rest) other (more_octets others ++ left)
    (All-head IsShort message messages short).short (All-head IsShort other others small).short joint.1 in
    let more = more_once messages others rest left (All-tail IsShort message messages short) (All-tail IsShort other others small) none no_more same.1 in
    (cons_same message other messages others same.0 more.0, more.1)

-- octets begin with one request at most, behind which no joint stands
pub one_request : (request other : Messages) (rest left : List ℕ) → IsRequest request → IsRequest other → NoJoint rest → NoJoint left
    → request_octets request ++ rest ≡ request_octets other ++ left → (request ≡ other) × (rest ≡ left)
one_request [] other rest left is same none no_more e = absurd (omega (arith, is.some))
one_request (message ∷ messages) [] rest left is same none no_more e = absurd (omega (arith, same.some))
one_request (message ∷ messages) (other ∷ others) rest left is same none no_more e =
    let first = one_counted message (more_octets messages ++ rest) other (more_octets others ++ left)
    (All-head IsShort message messages is.short).short (All-head IsShort other others same.short).short
    (sym (append_assoc (counted message) (more_octets messages) rest) ∙ (e ∙ append_assoc (counted other) (more_octets others) left)) in
    let more = more_once messages others rest left (All-tail IsShort message messages is.short) (All-tail IsShort other others same.short) none no_more first.1 in
    (cons_same message other messages others first.0 more.0, more.1)

-- how many octets a request has at least
pub request_long : (request : Messages) → IsRequest request → 0 < length (request_octets request)
request_long [] is = absurd (omega (arith, is.some))
request_long (message ∷ messages) is = omega (arith, counted_long message, length-append (counted message) (more_octets messages))

-- no octets are the batch of no request, and of nothing else
pub no_requests : (requests : List Messages) → All IsRequest requests → [] ≡ batch_of requests → requests ≡ []
no_requests [] are e = refl
no_requests (request ∷ requests) are e =
    absurd (omega (arith, ap length e, length-append (request_octets request) (batch_of requests), request_long request (All-head IsRequest request requests are)))

-- octets are a batch in one way
pub batch_once : (requests others : List Messages) → All IsRequest requests → All IsRequest others → batch_of requests ≡ batch_of others → requests ≡ others
batch_once [] others short small e = sym (no_requests others small e)
batch_once (request ∷ requests) [] short small e = no_requests (request ∷ requests) short (sym e)
batch_once (request ∷ requests) (other ∷ others) short small e =
    let same = one_request request other (batch_of requests) (batch_of others) (All-head IsRequest request requests short) (All-head IsRequest other others small)
    (batch_no_joint requests (All-tail IsRequest request requests short)) (batch_no_joint others (All-tail IsRequest other others small)) e in
    cons_same request other requests others same.0
    (batch_once requests others (All-tail IsRequest request requests short) (All-tail IsRequest other others small) same.1)

-- requests that are read so far, and what is left of a batch; behind a request no joint stands
pub record ReadSoFar (octets : List ℕ) (requests : List Messages) (rest : List ℕ) : Type 0 where
  pub short : All IsRequest requests
  pub spelt : octets ≡ batch_of requests ++ rest
  pub none : (requests ≡ []) ⊎ NoJoint rest

pub none_read : (octets : List ℕ) → ReadSoFar octets [] octets
none_read octets = record { short = All-nil IsRequest; spelt = refl; none = inl refl }

pub one_more_read : (octets : List ℕ) (requests all : List Messages) (rest : List ℕ) (request : Messages) (behind : List ℕ)
    → ReadSoFar octets requests rest → IsRequest request × NoJoint behind × (rest ≡ request_octets request ++ behind) → all ≡ requests ++ request ∷ [] → ReadSoFar octets all behind
one_more_read octets requests all rest request behind so_far found is_all =
    let longer : batch_of (requests ++ request ∷ []) ≡ batch_of requests ++ request_octets request =
    flat_map-append request_octets requests (request ∷ []) ∙ ap (λ (o : List ℕ). batch_of requests ++ o) (append-nil (request_octets request)) in
    record {
      short = All-same IsRequest all (requests ++ request ∷ []) is_all (All-push IsRequest requests request so_far.short found.0);
      spelt = so_far.spelt ∙ (ap (λ (o : List ℕ). batch_of requests ++ o) found.2
          ∙ (sym (append_assoc (batch_of requests) (request_octets request) behind)
          ∙ ap (λ (o : List ℕ). o ++ behind) (sym longer ∙ ap batch_of (sym is_all))));
      none = inr found.1;
    }

pub all_read : (octets : List ℕ) (requests : List Messages) (rest : List ℕ) → ReadSoFar octets requests rest → length rest ≡ 0 → IsBatch octets requests
all_read octets requests rest so_far none =
    record { short = so_far.short; spelt = so_far.spelt ∙ (ap (λ (o : List ℕ). batch_of requests ++ o) (nil_from_length rest none) ∙ append-nil (batch_of requests)) }

-- a batch goes on behind the requests that are read
behind_read : (requests others : List Messages) (rest : List ℕ) → All IsRequest requests → All IsRequest others → (requests ≡ []) ⊎ NoJoint rest
    → batch_of requests ++ rest ≡ batch_of others → (more : List Messages) × All IsRequest more × (rest ≡ batch_of more)
behind_read [] others rest short small none e = (others, small, e)
behind_read (request ∷ requests) [] rest short small none e =
    absurd (omega (
      arith,
      ap length e,
      length-append (request_octets request ++ batch_of requests) rest,
      length-append (request_octets request) (batch_of requests),
      request_long request (All-head IsRequest request requests short),
    ))
behind_read (request ∷ requests) (other ∷ others) rest short small none e =
    let after = later requests (All-tail IsRequest request requests short) none in
    let same = one_request request other (batch_of requests ++ rest) (batch_of others) (All-head IsRequest request requests short) (All-head IsRequest other others small)
    after.0 (batch_no_joint others (All-tail IsRequest other others small)) (sym (append_assoc (request_octets request) (batch_of requests) rest) ∙ e) in
    behind_read requests others rest (All-tail IsRequest request requests short) (All-tail IsRequest other others small) after.1 same.1
  where
    no_cons : (x : Messages) (xs : List Messages) → x ∷ xs ≡ [] → ⊥
    no_cons x xs e = cc

    later : (requests : List Messages) → All IsRequest requests → (request ∷ requests ≡ []) ⊎ NoJoint rest → NoJoint (batch_of requests ++ rest) × ((requests ≡ []) ⊎ NoJoint rest)
    later requests are (inl e) = absurd (no_cons request requests e)
    later [] are (inr none) = (none, inl refl)
    later (next ∷ requests) are (inr none) = (
      λ left e. request_no_joint next (batch_of requests ++ rest) (All-head IsRequest next requests are) left
          (sym (append_assoc (request_octets next) (batch_of requests) rest) ∙ e),
      inr none,
    )

-- so octets are no batch where those left begin with no request
pub no_batch : (octets : List ℕ) (requests : List Messages) (rest : List ℕ) → ReadSoFar octets requests rest → 0 < length rest
    → ((request : Messages) (left : List ℕ) → IsRequest request → NoJoint left → rest ≡ request_octets request ++ left → ⊥)
    → (others : List Messages) → IsBatch octets others → ⊥
no_batch octets requests rest so_far some none others batch =
    let more = behind_read requests others rest so_far.short batch.short so_far.none (sym so_far.spelt ∙ batch.spelt) in
    none_left more.0 more.1 more.2
  where
    none_left : (more : List Messages) → All IsRequest more → rest ≡ batch_of more → ⊥
    none_left [] short e = omega (arith, some, ap length e)
    none_left (first ∷ more) short e = none first (batch_of more) (All-head IsRequest first more short) (batch_no_joint more (All-tail IsRequest first more short)) e

-- a request's messages that are read so far, and what is left
pub record RequestSoFar (octets : List ℕ) (messages : Messages) (rest : List ℕ) : Type 0 where
  pub some : 0 < length messages
  pub short : All IsShort messages
  pub spelt : octets ≡ request_octets messages ++ rest

more_push : (messages : Messages) (message : List ℕ) → more_octets (messages ++ message ∷ []) ≡ more_octets messages ++ (counted [] ++ counted message)
more_push [] message = ap (λ (o : List ℕ). counted [] ++ o) (append-nil (counted message))
more_push (first ∷ messages) message =
    ap (λ (o : List ℕ). counted [] ++ (counted first ++ o)) (more_push messages message)
    ∙ (ap (λ (o : List ℕ). counted [] ++ o) (sym (append_assoc (counted first) (more_octets messages) (counted [] ++ counted message)))
    ∙ sym (append_assoc (counted []) (counted first ++ more_octets messages) (counted [] ++ counted message)))

request_push : (messages : Messages) (message : List ℕ) → 0 < length messages
    → request_octets (messages ++ message ∷ []) ≡ request_octets messages ++ (counted [] ++ counted message)
request_push [] message some = absurd (omega (arith, some))
request_push (first ∷ messages) message some =
    ap (λ (o : List ℕ). counted first ++ o) (more_push messages message)
    ∙ sym (append_assoc (counted first) (more_octets messages) (counted [] ++ counted message))

pub first_read : (octets message rest : List ℕ) → IsShort message → octets ≡ counted message ++ rest → RequestSoFar octets (message ∷ []) rest
first_read octets message rest short e = record {
  some = omega arith;
  short = All-push IsShort [] message (All-nil IsShort) short;
  spelt = e ∙ ap (λ (o : List ℕ). o ++ rest) (sym (append-nil (counted message)));
}

pub message_more_read : (octets : List ℕ) (messages all : Messages) (rest after message behind : List ℕ)
    → RequestSoFar octets messages rest → rest ≡ counted [] ++ after → IsShort message × (after ≡ counted message ++ behind) → all ≡ messages ++ message ∷ []
    → RequestSoFar octets all behind
message_more_read octets messages all rest after message behind so_far joint found is_all = record {
  some = omega (arith, ap length is_all, length-append messages (message ∷ []));
  short = All-same IsShort all (messages ++ message ∷ []) is_all (All-push IsShort messages message so_far.short found.0);
  spelt = so_far.spelt ∙ (ap (λ (o : List ℕ). request_octets messages ++ o) (joint ∙ (ap (λ (o : List ℕ). counted [] ++ o) found.1 ∙ sym (append_assoc (counted []) (counted message) behind)))
      ∙ (sym (append_assoc (request_octets messages) (counted [] ++ counted message) behind)
      ∙ ap (λ (o : List ℕ). o ++ behind) (sym (request_push messages message so_far.some) ∙ ap request_octets (sym is_all))));
}

-- a joint behind messages that are read is followed by another message of that request
behind_messages : (messages others : Messages) (rest left : List ℕ) → All IsShort messages → All IsShort others → NoJoint left
    → more_octets messages ++ rest ≡ more_octets others ++ left → (more : Messages) × All IsShort more × (rest ≡ more_octets more ++ left)
behind_messages [] others rest left short small none e = (others, small, e)
behind_messages (message ∷ messages) [] rest left short small none e =
    absurd (none (counted message ++ (more_octets messages ++ rest)) (sym e ∙ joined_parts message (more_octets messages) rest))
behind_messages (message ∷ messages) (other ∷ others) rest left short small none e =
    let joint = one_counted [] (counted message ++ (more_octets messages ++ rest)) [] (counted other ++ (more_octets others ++ left)) none_is_short none_is_short
    (sym (joined_parts message (more_octets messages) rest) ∙ (e ∙ joined_parts other (more_octets others) left)) in
    let same = one_counted message (more_octets messages ++ rest) other (more_octets others ++ left)
    (All-head IsShort message messages short).short (All-head IsShort other others small).short joint.1 in
    behind_messages messages others rest left (All-tail IsShort message messages short) (All-tail IsShort other others small) none same.1

-- so octets begin with no request where a joint is followed by no message
pub no_request : (octets : List ℕ) (messages : Messages) (rest after : List ℕ) → RequestSoFar octets messages rest → rest ≡ counted [] ++ after
    → ((message left : List ℕ) → IsShort message → after ≡ counted message ++ left → ⊥)
    → (others : Messages) (left : List ℕ) → IsRequest others → NoJoint left → octets ≡ request_octets others ++ left → ⊥
no_request octets [] rest after so_far joint none others left is no_more e = omega (arith, so_far.some)
no_request octets (message ∷ messages) rest after so_far joint none [] left is no_more e = omega (arith, is.some)
no_request octets (message ∷ messages) rest after so_far joint none (other ∷ others) left is no_more e =
    let same = one_counted message (more_octets messages ++ rest) other (more_octets others ++ left)
    (All-head IsShort message messages so_far.short).short (All-head IsShort other others is.short).short
    (sym (append_assoc (counted message) (more_octets messages) rest) ∙ (sym so_far.spelt ∙ (e ∙ append_assoc (counted other) (more_octets others) left))) in
    let more = behind_messages messages others rest left (All-tail IsShort message messages so_far.short) (All-tail IsShort other others is.short) no_more same.1 in
    none_more more.0 more.1 (sym joint ∙ more.2)
  where
    none_more : (more : Messages) → All IsShort more → counted [] ++ after ≡ more_octets more ++ left → ⊥
    none_more [] short e = no_more after (sym e)
    none_more (next ∷ more) short e =
        none next (more_octets more ++ left) (All-head IsShort next more short)
        (one_counted [] after [] (counted next ++ (more_octets more ++ left)) none_is_short none_is_short (e ∙ joined_parts next (more_octets more) left)).1

-- where no octets begin so, octets begin with no message
pub no_first : (octets : List ℕ) → ((message rest : List ℕ) → IsShort message → octets ≡ counted message ++ rest → ⊥)
    → (others : Messages) (left : List ℕ) → IsRequest others → NoJoint left → octets ≡ request_octets others ++ left → ⊥
no_first octets none [] left is no_more e = omega (arith, is.some)
no_first octets none (other ∷ others) left is no_more e =
    none other (more_octets others ++ left) (All-head IsShort other others is.short) (e ∙ append_assoc (counted other) (more_octets others) left)

-- octets that begin with others that are some begin with no joint
pub no_joint_first : (octets first left : List ℕ) → 0 < length first → length first < 2 ^ 16 → octets ≡ counted first ++ left → (rest : List ℕ) → octets ≡ counted [] ++ rest → ⊥
no_joint_first octets first left some short spelt rest e =
    let same = one_counted first left [] rest short none_is_short (sym spelt ∙ e) in omega (arith, some, ap length same.0)

-- and those that begin with none begin with no message
pub no_message_first : (octets first left : List ℕ) → length first ≡ 0 → octets ≡ counted first ++ left
    → (message rest : List ℕ) → IsShort message → octets ≡ counted message ++ rest → ⊥
no_message_first octets first left none spelt message rest short e =
    let same = one_counted first left message rest (omega (arith, none)) short.short (sym spelt ∙ e) in omega (arith, none, short.some, ap length same.0)

-- fewer octets are left after a joint and a message
pub fewer_left : (rest after message behind : List ℕ) → rest ≡ counted [] ++ after → after ≡ counted message ++ behind → length behind < length rest
fewer_left rest after message behind joint found =
    omega (arith, ap length joint, ap length found, length-append (counted []) after, length-append (counted message) behind, counted_long [], counted_long message)

-- and after a request
pub batch_fewer : (request : Messages) (rest behind : List ℕ) → IsRequest request × NoJoint behind × (rest ≡ request_octets request ++ behind) → length behind < length rest
batch_fewer request rest behind found = omega (arith, ap length found.2, length-append (request_octets request) behind, request_long request found.0)
