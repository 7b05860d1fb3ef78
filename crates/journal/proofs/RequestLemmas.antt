-- The messages of a request, as they are copied and counted.
use Rattle.std.proofs.Common.{◌≡◌, ℕ, ◌+◌, ◌*◌, ◌<◌, ◌≤◌, List, [], ◌∷◌, ◌++◌, length, map, take, drop, get_or, refl, sym, ap, ◌∙◌, subst, append_assoc, append-nil, length-append, arith, Bor, Vec, Global}
use Rattle.std.specs.Prelude.{All, sum_by}
use Rattle.std.specs.List.{remove}
use Rattle.std.proofs.lemmas.List.{length-map, get_or-map, drop_more, drop_all, take_more, map_push}
use Rattle.std.proofs.lemmas.List.Elements.{All-get_or, All-push, All-same}
use Rattle.std.proofs.lemmas.List.Sums.{sum_by-cons}
use Rattle.journal.specs.Batch.{Messages, counted, first_of, more_of, more_octets, request_octets, octets_in, IsShort, IsRequest}
use Rattle.journal.proofs.BatchLemmas.{cons_same, counted_long}

-- the octets of messages
abbrev pub octets_of : List (Vec ℕ Global) → Messages
octets_of messages = map (λ (m : Vec ℕ Global). m.items) messages

octets_at : (messages : List (Vec ℕ Global)) (k : ℕ) (x : Vec ℕ Global) → k < length messages → x ≡ get_or messages k x → get_or (octets_of messages) k x.items ≡ x.items
octets_at messages k x within is = get_or-map (λ (m : Vec ℕ Global). m.items) messages k x x.items within ∙ ap (λ (m : Vec ℕ Global). m.items) (sym is)

-- each of messages that can stand in a batch can
pub short_at : (messages : List (Vec ℕ Global)) (k : ℕ) (x : Vec ℕ Global) → All IsShort (octets_of messages) → k < length messages → x ≡ get_or messages k x → IsShort x.items
short_at messages k x all within is =
    subst IsShort (octets_at messages k x within is)
    (All-get_or IsShort (octets_of messages) k x.items (omega (arith, within, length-map messages (λ (m : Vec ℕ Global). m.items))) all)

-- one more message is put, and the rest is left
pub more_put : (before one two whole : List ℕ) (messages : List (Vec ℕ Global)) (i : ℕ) (x : Vec ℕ Global) → i < length messages → x ≡ get_or messages i x
    → one ≡ before ++ counted [] → two ≡ one ++ counted x.items → before ++ more_octets (octets_of (drop i messages)) ≡ whole
    → two ++ more_octets (octets_of (drop (i + 1) messages)) ≡ whole
more_put before one two whole messages i x within is e f so_far =
    let rest : List ℕ = more_octets (octets_of (drop (i + 1) messages)) in
    let left : more_octets (octets_of (drop i messages)) ≡ counted [] ++ (counted x.items ++ rest) =
    ap (λ (ms : List (Vec ℕ Global)). more_octets (octets_of ms)) (drop_more messages i x within ∙ ap (λ (m : Vec ℕ Global). m ∷ drop (i + 1) messages) (sym is)) in
    ap (λ (o : List ℕ). o ++ rest) (f ∙ ap (λ (o : List ℕ). o ++ counted x.items) e)
    ∙ (append_assoc (before ++ counted []) (counted x.items) rest
    ∙ (append_assoc before (counted []) (counted x.items ++ rest) ∙ (ap (λ (o : List ℕ). before ++ o) (sym left) ∙ so_far)))

pub all_put : (now whole : List ℕ) (messages : List (Vec ℕ Global)) (i : ℕ) → length messages ≤ i → now ++ more_octets (octets_of (drop i messages)) ≡ whole → now ≡ whole
all_put now whole messages i end so_far =
    sym (ap (λ (ms : List (Vec ℕ Global)). now ++ more_octets (octets_of ms)) (drop_all i messages end) ∙ append-nil now) ∙ so_far

-- a request is its first message and those after it
pub request_parts : (request : Messages) → IsShort (first_of request) → request_octets request ≡ counted (first_of request) ++ more_octets (more_of request)
request_parts [] short = absurd (omega (arith, short.some))
request_parts (message ∷ messages) short = refl

-- how many octets a request has in a batch
more_long : (messages : Messages) → length (more_octets messages) ≡ octets_in messages + 4 * length messages
more_long [] = refl
more_long (message ∷ messages) =
    omega (
      arith,
      more_long messages,
      sum_by-cons length message messages,
      counted_long [],
      counted_long message,
      length-append (counted []) (counted message ++ more_octets messages),
      length-append (counted message) (more_octets messages),
    )

pub request_is_long : (message : List ℕ) (messages : Messages) → length (request_octets (message ∷ messages)) ≡ octets_in (message ∷ messages) + (4 * length messages + 2)
request_is_long message messages =
    omega (arith, more_long messages, sum_by-cons length message messages, counted_long message, length-append (counted message) (more_octets messages))

-- one more of messages that can stand in a batch
octets_more : (messages : List (Vec ℕ Global)) (i : ℕ) (x : Vec ℕ Global) → i < length messages → x ≡ get_or messages i x
    → octets_of (take (i + 1) messages) ≡ octets_of (take i messages) ++ x.items ∷ []
octets_more messages i x within is =
    ap octets_of (take_more messages i x within ∙ ap (λ (m : Vec ℕ Global). take i messages ++ m ∷ []) (sym is)) ∙ map_push (λ (m : Vec ℕ Global). m.items) (take i messages) x

pub short_more : (messages : List (Vec ℕ Global)) (i : ℕ) (x : Vec ℕ Global) → i < length messages → x ≡ get_or messages i x
    → All IsShort (octets_of (take i messages)) → IsShort x.items → All IsShort (octets_of (take (i + 1) messages))
short_more messages i x within is all short =
    All-same IsShort (octets_of (take (i + 1) messages)) (octets_of (take i messages) ++ x.items ∷ []) (octets_more messages i x within is)
    (All-push IsShort (octets_of (take i messages)) x.items all short)

-- a list whose first element is removed is that element and the others
pub first_removed : (messages rest : List (Vec ℕ Global)) (first : Vec ℕ Global) → 0 < length messages → first ≡ get_or messages 0 first → rest ≡ remove messages 0 → messages ≡ first ∷ rest
first_removed [] rest first some is e = absurd (omega (arith, some))
first_removed (message ∷ messages) rest first some is e = let one : message ≡ first = sym is in let others : messages ≡ rest = sym e in cc

-- copies of messages so far
pub copies_more : (copies all messages : List (Vec ℕ Global)) (i : ℕ) (copy x : Vec ℕ Global) → i < length messages → x ≡ get_or messages i x
    → octets_of copies ≡ octets_of (take i messages) → all ≡ copies ++ copy ∷ [] → copy.items ≡ x.items → octets_of all ≡ octets_of (take (i + 1) messages)
copies_more copies all messages i copy x within is so_far pushed same =
    ap octets_of pushed ∙ (map_push (λ (m : Vec ℕ Global). m.items) copies copy
    ∙ (ap (λ (ms : Messages). ms ++ copy.items ∷ []) so_far ∙ (ap (λ (o : List ℕ). octets_of (take i messages) ++ o ∷ []) same ∙ sym (octets_more messages i x within is))))
