-- What is known on connections, and a request that waits for its reply.
use Rattle.std.proofs.Common.{◌≡◌, ℕ, List, sym, subst}
use Rattle.tcp_connections.specs.Served.{Knowledge, Extends}
use Rattle.tcp_connections.proofs.TurnLemmas.{extends_itself, extends_more}
use Rattle.tcp_connections.specs.Requests.{EachGrows, Waits}

pub each_itself : {T : Type 0} (known : ℕ → Knowledge T) → EachGrows known known
each_itself known = λ key. extends_itself (known key)

pub each_more : {T : Type 0} (a b c : ℕ → Knowledge T) → EachGrows b a → EachGrows c b → EachGrows c a
each_more a b c first then = λ key. extends_more (a key) (b key) (c key) (first key) (then key)

-- nothing more is known behind what is the same
pub each_as : {T : Type 0} (a b c : ℕ → Knowledge T) → ((key : ℕ) → b key ≡ a key) → EachGrows c b → EachGrows c a
each_as {T} a b c same grows = λ key. subst (λ (l : Knowledge T). Extends (c key) l) (same key) (grows key)

-- the same request waits
pub waits_as : (is_later : List ℕ → Type 0) (held same : List ℕ) → same ≡ held → Waits is_later held → Waits is_later same
waits_as is_later held same still waits = subst (λ (l : List ℕ). Waits is_later l) (sym still) waits
