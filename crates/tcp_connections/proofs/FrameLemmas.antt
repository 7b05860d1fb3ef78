-- The frame that octets begin with, and what is kept once it is answered.
use Rattle.std.proofs.Common.{◌≡◌, ◌≢◌, refl, ℕ, zero, suc, ◌+◌, ◌-◌, ◌<◌, ◌≤◌, Bool, true, false, List, [], ◌∷◌, ◌++◌, Option, None, Some, sym, ap, ◌∙◌, subst, arith, length, take, drop, get_or, length-append, length-drop, length-take-le, take-append-drop, append_assoc, append-nil, nat_le, if◌then◌else◌}
use Rattle.std.proofs.lemmas.List.{drop-drop}
use Rattle.std.proofs.lemmas.Nat.{be_bytes_2}
use Rattle.std.proofs.lemmas.Bool.Decides.{nat_tests}
use Rattle.std.specs.Int.{w16, to_be_bytes}
use Rattle.dns_message.specs.Frame.{frame_of, frame_in}
use Rattle.dns_message.specs.Message.{number_at}
use Rattle.requests.specs.Octets.{frames_of}
use Rattle.tcp_connections.specs.Served.{Knowledge, Extends}
use Rattle.tcp_connections.specs.Exchange.{Exchange}
use Rattle.tcp_connections.specs.Kept.{Kept, due}

-- octets are below 256, and so are those at their front
front_small : (octets : List ℕ) → ((i : ℕ) → get_or octets i 0 < 256) → (i : ℕ) → get_or (take 2 octets) i 0 < 256
front_small [] small i = grind arith
front_small (a ∷ []) small zero = small zero
front_small (a ∷ []) small (suc i) = grind arith
front_small (a ∷ b ∷ octets) small zero = small zero
front_small (a ∷ b ∷ octets) small (suc zero) = small (suc zero)
front_small (a ∷ b ∷ octets) small (suc (suc i)) = grind arith

le_of : (a b : ℕ) → nat_le a b ≡ true → a ≤ b
le_of a b h = grind (arith, nat_tests)

abbrev first_of : Option (List ℕ × List ℕ) → List ℕ
first_of None = []
first_of (Some p) = p.0

abbrev second_of : Option (List ℕ × List ℕ) → List ℕ
second_of None = []
second_of (Some p) = p.1

frame_cases : (octets message rest : List ℕ) (b : Bool) → nat_le (2 + number_at octets 0) (length octets) ≡ b → ((i : ℕ) → get_or octets i 0 < 256) → frame_in octets ≡ Some (message, rest)
    → (octets ≡ frame_of message ++ rest) × (2 + length message ≤ length octets) × (rest ≡ drop (2 + length message) octets)
frame_cases octets message rest false short small found =
    let e : None ≡ Some (message, rest) = subst (λ (b : Bool). if◌then◌else◌ {A = Option (List ℕ × List ℕ)} b (Some (take (number_at octets 0) (drop 2 octets), drop (2 + number_at octets 0) octets)) None ≡ Some (message, rest)) short found in
    absurd (let none : ⊥ = cc (e) in none)
frame_cases octets message rest true long small found =
    let size = number_at octets 0 in
    let e : Some (take size (drop 2 octets), drop (2 + size) octets) ≡ Some (message, rest) = subst (λ (b : Bool). if◌then◌else◌ {A = Option (List ℕ × List ℕ)} b (Some (take size (drop 2 octets), drop (2 + size) octets)) None ≡ Some (message, rest)) long found in
    let first : take size (drop 2 octets) ≡ message = ap (λ (m : Option (List ℕ × List ℕ)). first_of m) e in
    let second : drop (2 + size) octets ≡ rest = ap (λ (m : Option (List ℕ × List ℕ)). second_of m) e in
    let fits : 2 + size ≤ length octets = le_of (2 + size) (length octets) long in
    let room : size ≤ length (drop 2 octets) = omega (arith, fits, length-drop 2 octets) in
    let len : length message ≡ size = ap (λ l. length l) (sym first) ∙ length-take-le size (drop 2 octets) room in
    let two : length (take 2 octets) ≡ 2 = length-take-le 2 octets (omega (arith, fits)) in
    let prefix : to_be_bytes w16 (length message) ≡ take 2 octets = be_bytes_2 (take 2 octets) (length message) two (front_small octets small) len in
    let body : drop 2 octets ≡ message ++ rest = sym (take-append-drop size (drop 2 octets)) ∙ ap (λ l. l ++ drop size (drop 2 octets)) first ∙ ap (λ l. message ++ l) (drop-drop size 2 octets ∙ second) in (
      sym (take-append-drop 2 octets) ∙ ap (λ l. take 2 octets ++ l) body ∙ ap (λ l. l ++ (message ++ rest)) (sym prefix) ∙ sym (append_assoc (to_be_bytes w16 (length message)) message rest),
      omega (arith, fits, len),
      sym second ∙ ap (λ (n : ℕ). drop (2 + n) octets) (sym len),
    )

-- the frame that octets begin with is the first of them, and all others are behind it
pub frame_taken : (octets message rest : List ℕ) → ((i : ℕ) → get_or octets i 0 < 256) → frame_in octets ≡ Some (message, rest)
    → (octets ≡ frame_of message ++ rest) × (2 + length message ≤ length octets) × (rest ≡ drop (2 + length message) octets)
frame_taken octets message rest small found = frame_cases octets message rest (nat_le (2 + number_at octets 0) (length octets)) refl small found

-- so they are that frame and what stands behind as many octets as it has
pub frame_counted : (octets message rest : List ℕ) → ((i : ℕ) → get_or octets i 0 < 256) → frame_in octets ≡ Some (message, rest) → octets ≡ frame_of message ++ drop (length octets - length rest) octets
frame_counted octets message rest small found =
    let taken = frame_taken octets message rest small found in
    let left : length rest ≡ length octets - (2 + length message) = ap (λ l. length l) taken.2 ∙ length-drop (2 + length message) octets in
    let size : 2 + length message ≡ length octets - length rest = omega (arith, taken.1, left) in
    taken.0 ∙ ap (λ l. frame_of message ++ l) (taken.2 ∙ ap (λ (n : ℕ). drop n octets) size)

-- a message's frame is ready behind all that is to be written
pub queued_one : (old : Kept) (ready new : List ℕ) (later : List (List ℕ)) (message : List ℕ) → ready ≡ old.ready → later ≡ old.later → old.later ≡ [] → new ≡ ready ++ frame_of message → new ++ frames_of later ≡ due old ++ frames_of (message ∷ [])
queued_one old ready new later message still as_before none pushed =
    let alone : frames_of (message ∷ []) ≡ frame_of message = append-nil (frame_of message) in
    let before : due old ≡ ready = ap (λ l. old.ready ++ frames_of l) none ∙ append-nil old.ready ∙ sym still in
    ap (λ l. new ++ frames_of l) (as_before ∙ none) ∙ append-nil new ∙ pushed ∙ ap (λ l. l ++ frame_of message) (sym before) ∙ ap (λ l. due old ++ l) (sym alone)

-- messages are left, behind what is ready
pub queued_many : (old : Kept) (ready : List ℕ) (messages : List (List ℕ)) → ready ≡ old.ready → old.later ≡ [] → ready ++ frames_of messages ≡ due old ++ frames_of messages
queued_many old ready messages still none =
    ap (λ l. l ++ frames_of messages) (still ∙ sym (append-nil old.ready) ∙ ap (λ l. old.ready ++ frames_of l) (sym none))

-- the first message that is left is ready
pub next_ready : (old mid : Kept) (ready new : List ℕ) (later : List (List ℕ)) (message : List ℕ) → ready ≡ mid.ready → later ≡ mid.later → mid.ready ≡ old.ready → old.later ≡ message ∷ mid.later → new ≡ ready ++ frame_of message → new ++ frames_of later ≡ due old
next_ready old mid ready new later message still as_before same first pushed =
    ap (λ l. new ++ frames_of l) as_before ∙ ap (λ l. l ++ frames_of mid.later) (pushed ∙ ap (λ l. l ++ frame_of message) (still ∙ same)) ∙ append_assoc old.ready (frame_of message) (frames_of mid.later)
    ∙ ap (λ l. old.ready ++ frames_of l) (sym first)

-- none is left, as before
pub none_ready : (old new : Kept) → new.ready ≡ old.ready → old.later ≡ [] → new.later ≡ [] → due new ≡ due old
none_ready old new same none still = ap (λ l. l ++ frames_of new.later) same ∙ ap (λ l. old.ready ++ frames_of l) (still ∙ sym none)

-- a frame has octets
pub some_ready : (ready new message : List ℕ) → new ≡ ready ++ frame_of message → new ≢ []
some_ready ready new message pushed = λ none.
    let size : length (ready ++ frame_of message) ≡ 0 = ap (λ l. length l) (sym pushed ∙ none) in
    let two : length (frame_of message) ≡ 2 + length message = length-append (to_be_bytes w16 (length message)) message in
    absurd (omega (arith, size, two, length-append ready (frame_of message)))

module _ {T : Type 0} (IsReply : Knowledge T → Knowledge T → List ℕ → List (List ℕ) → Type 0) where
  -- a request is answered
  pub turn_made : (seen later : Knowledge T) (held owed left more request : List ℕ) (messages : List (List ℕ)) → Extends later seen → IsReply seen later request messages
      → held ≡ frame_of request ++ left → more ≡ owed ++ frames_of messages → Exchange IsReply seen (held, owed) later (left, more)
  turn_made seen later held owed left more request messages grows reply input output = record {
    request = request;
    messages = messages;
    grows = grows;
    reply = reply;
    input = input;
    output = output;
  }
