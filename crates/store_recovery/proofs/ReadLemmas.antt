-- How messages are read as updates.
use Rattle.journal.specs.Batch.{Messages}
use Rattle.std.proofs.Common.{◌≡◌, ℕ, zero, suc, List, [], ◌∷◌, ◌++◌, length, take, refl, ap}
use Rattle.dns_message.specs.declared.update.Update.{Update}
use Rattle.update_messages.specs.Joined.{IsRead}
use Rattle.update_messages.proofs.JoinedLemmas.{read_once as request_once}
use Rattle.store_recovery.specs.Replay.{AreRead}

-- a request is read as one update
pub read_one : (request : Messages) (update other : Update) → IsRead request update → IsRead request other → update ≡ other
read_one = request_once

joined : (x y : Update) (xs ys : List Update) → x ≡ y → xs ≡ ys → x ∷ xs ≡ y ∷ ys
joined x y xs ys p q = cc

-- messages are read in one way
pub read_once : (messages : List Messages) (updates others : List Update) → AreRead messages updates → AreRead messages others → updates ≡ others
read_once [] [] [] one two = refl
read_once [] [] (other ∷ others) one two = absurd two
read_once [] (update ∷ updates) others one two = absurd one
read_once (message ∷ messages) [] others one two = absurd one
read_once (message ∷ messages) (update ∷ updates) [] one two = absurd two
read_once (message ∷ messages) (update ∷ updates) (other ∷ others) one two =
    joined update other updates others (read_one message update other one.0 two.0) (read_once messages updates others one.1 two.1)

pub read_long : (messages : List Messages) (updates : List Update) → AreRead messages updates → length updates ≡ length messages
read_long [] [] are = refl
read_long [] (update ∷ updates) are = absurd are
read_long (message ∷ messages) [] are = absurd are
read_long (message ∷ messages) (update ∷ updates) are = ap suc (read_long messages updates are.1)

-- one message more
pub read_more : (messages : List Messages) (updates : List Update) (message : Messages) (update : Update)
    → AreRead messages updates → IsRead message update → AreRead (messages ++ message ∷ []) (updates ++ update ∷ [])
read_more [] [] message update are is = (is, tt)
read_more [] (other ∷ updates) message update are is = absurd are
read_more (first ∷ messages) [] message update are is = absurd are
read_more (first ∷ messages) (other ∷ updates) message update are is = (are.0, read_more messages updates message update are.1 is)

-- the first of messages
pub read_take : (n : ℕ) (messages : List Messages) (updates : List Update) → AreRead messages updates → AreRead (take n messages) (take n updates)
read_take zero messages updates are = tt
read_take (suc n) [] [] are = tt
read_take (suc n) [] (update ∷ updates) are = absurd are
read_take (suc n) (message ∷ messages) [] are = absurd are
read_take (suc n) (message ∷ messages) (update ∷ updates) are = (are.0, read_take n messages updates are.1)

-- messages in front of others
pub read_first : (messages others : List Messages) (updates : List Update) → AreRead (messages ++ others) updates → AreRead messages (take (length messages) updates)
read_first [] others updates are = tt
read_first (message ∷ messages) others [] are = absurd are
read_first (message ∷ messages) others (update ∷ updates) are = (are.0, read_first messages others updates are.1)

-- are read as the first of the updates
pub read_begins : (messages others : List Messages) (updates all : List Update) → AreRead messages updates → AreRead (messages ++ others) all → updates ≡ take (length messages) all
read_begins messages others updates all one two = read_once messages updates (take (length messages) all) one (read_first messages others all two)
