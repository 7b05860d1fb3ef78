-- A transfer that is read message by message.
use Rattle.std.proofs.Common.{◌≡◌, ℕ, Bool, true, false, ◌||◌, ◌&&◌, not, List, [], ◌∷◌, ◌++◌, map, flat_map, Option, Some, refl, sym, ap, ◌∙◌, append_assoc, append-nil, subst}
use Rattle.std.specs.Global.{Vec}
use Rattle.std.specs.List.{AllByRecursion}
use Rattle.std.specs.Io.KnownBytes.{Consumes}
use Rattle.dns_message.specs.Frame.{frame_of}
use Rattle.tsig.specs.Keys.{SharedKey}
use Rattle.transfer_in.specs.Taking.{records_of_message}
use Rattle.zone_deploy.specs.Exchanges.{ends_with, has_records, is_over, IsTransfer}
use Rattle.zone_deploy.specs.Replies.{code_of}
use Rattle.zone_deploy.specs.Signatures.{Chain, first_chain, IsNext, AreSigned}
use Rattle.zone_deploy.proofs.FrameLemmas.{Consumes-twice, Consumes-none}

-- the octets of messages
abbrev pub octets_of : List (Vec ℕ) → List (List ℕ)
octets_of messages = map (λ (message : Vec ℕ). message.items) messages

pub octets_of-more : (messages : List (Vec ℕ)) (message : Vec ℕ) → octets_of (messages ++ message ∷ []) ≡ octets_of messages ++ message.items ∷ []
octets_of-more [] message = refl
octets_of-more (m ∷ messages) message = ap (λ ms. m.items ∷ ms) (octets_of-more messages message)

frames-more : (messages : List (List ℕ)) (m : List ℕ) → flat_map frame_of (messages ++ m ∷ []) ≡ flat_map frame_of messages ++ frame_of m
frames-more [] m = append-nil (frame_of m)
frames-more (n ∷ messages) m = ap (λ l. frame_of n ++ l) (frames-more messages m) ∙ sym (append_assoc (frame_of n) (flat_map frame_of messages) (frame_of m))

all-more : (P : List ℕ → Type 0) (messages : List (List ℕ)) (m : List ℕ) → AllByRecursion P messages → P m → AllByRecursion P (messages ++ m ∷ [])
all-more P [] m all p = (p, tt)
all-more P (n ∷ messages) m all p = (all.0, all-more P messages m all.1 p)

signed-more : (key : Option SharedKey) (chain : Chain) (messages : List (List ℕ)) (m : List ℕ) (between last : Chain) → AreSigned key chain messages between → IsNext key between m last
    → AreSigned key chain (messages ++ m ∷ []) last
signed-more key chain [] m between last signed next = (last, subst (λ c. IsNext key c m last) signed next, refl)
signed-more key chain (n ∷ messages) m between last signed next = (signed.0, signed.1, signed-more key signed.0 messages m between last signed.2 next)

-- a transfer isn't over with a message, and goes on with the next one
over-more : (begun : Bool) (m : List ℕ) (rest : List (List ℕ)) → ends_with begun (records_of_message m) ≡ false → is_over begun (m ∷ rest) ≡ is_over (begun || has_records (records_of_message m)) rest
over-more begun m [] goes_on = goes_on
over-more begun m (n ∷ rest) goes_on = ap (λ b. not b && is_over (begun || has_records (records_of_message m)) (n ∷ rest)) goes_on

-- what was read of a transfer, of which more is to come
pub record IsUnderWay (key : Option SharedKey) (query : List ℕ) (before : Option (List ℕ)) (first : Chain) (after : Option (List ℕ)) (chain : Chain) (begun : Bool) (messages : List (List ℕ)) : Type 0 where
  pub read : Consumes before after (flat_map frame_of messages)
  pub replies : AllByRecursion (λ m. code_of query m ≡ Some 0) messages
  pub signed : AreSigned key first messages chain
  pub over : (rest : List (List ℕ)) → is_over false (messages ++ rest) ≡ is_over begun rest

-- nothing was
pub under_way-none : (key : Option SharedKey) (query : List ℕ) (before : Option (List ℕ)) (first : Chain) → IsUnderWay key query before first before first false []
under_way-none key query before first = record { read = Consumes-none before [] refl; replies = tt; signed = refl; over = λ rest. refl }

module _ (key : Option SharedKey) (query : List ℕ) (before : Option (List ℕ)) (first : Chain) (between after : Option (List ℕ)) (chain next : Chain) (begun : Bool) (messages : List (List ℕ)) (m : List ℕ) where
  module _ (way : IsUnderWay key query before first between chain begun messages) (read : Consumes between after (frame_of m)) (code : code_of query m ≡ Some 0) (signed : IsNext key chain m next) where
    more-read : Consumes before after (flat_map frame_of (messages ++ m ∷ []))
    more-read = subst (Consumes before after) (sym (frames-more messages m)) (Consumes-twice before between after (flat_map frame_of messages) (frame_of m) way.read read)

    more-replies : AllByRecursion (λ o. code_of query o ≡ Some 0) (messages ++ m ∷ [])
    more-replies = all-more (λ o. code_of query o ≡ Some 0) messages m way.replies code

    more-signed : AreSigned key first (messages ++ m ∷ []) next
    more-signed = signed-more key first messages m chain next way.signed signed

    -- one message more was read
    pub under_way-more : ends_with begun (records_of_message m) ≡ false → IsUnderWay key query before first after next (begun || has_records (records_of_message m)) (messages ++ m ∷ [])
    under_way-more goes_on = record {
      read = more-read;
      replies = more-replies;
      signed = more-signed;
      over = λ rest. ap (is_over false) (append_assoc messages (m ∷ []) rest) ∙ way.over (m ∷ rest) ∙ over-more begun m rest goes_on;
    }

    -- with the message a transfer is over
    pub under_way-last : ends_with begun (records_of_message m) ≡ true → (now : ℕ) → first ≡ first_chain key now query → next.unsigned ≡ 0 → IsTransfer key now query before after (messages ++ m ∷ [])
    under_way-last ends now is closed = record {
      read = more-read;
      replies = more-replies;
      over = way.over (m ∷ []) ∙ ends;
      last = next;
      signed = subst (λ c. AreSigned key c (messages ++ m ∷ []) next) is more-signed;
      closed = closed;
    }
