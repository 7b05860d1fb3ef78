-- How a request is signed, and its replies one after another (RFC 8945, 5.1, 5.3.1 and 5.4).
use Rattle.std.specs.Prelude.{◌≡◌, ◌⊎◌, ℕ, ◌+◌, ◌<◌, Bool, false, true, List, [], ◌∷◌, ◌++◌, Option, Some, None, if◌then◌else◌}
use Rattle.dns_message.specs.Tsig.{place_in}
use Rattle.dns_message.specs.declared.tsig.Place.TheVariants.{Bare, At}
use Rattle.tsig.specs.Digested.{without_tsig, mac_over, mac_later}
use Rattle.tsig.specs.Fields.{Fields, written}
use Rattle.tsig.specs.Keys.{SharedKey}
use Rattle.tsig.specs.Signing.{stamped, signed}
use Rattle.tsig.specs.Verification.{is_timely}
use Rattle.tsig.specs.declared.stamp.Stamp.{Stamp}
use Rattle.tsig.specs.declared.tsig_error.TsigError.TheVariants.{NoError}

-- what a TSIG of these times says, without an error
abbrev pub stamp_of : ℕ → ℕ → Stamp
stamp_of time fudge = record { time = time; fudge = fudge; error = NoError }

-- a request as it is sent at a time: signed by a key where there is one, with a fudge of 300 seconds (RFC 8945, 5.1 and 10)
abbrev pub sent_octets : Option SharedKey → ℕ → List ℕ → List ℕ
sent_octets None now request = request
sent_octets (Some key) now request = signed key [] (stamp_of now 300) request

-- how far the signatures of a request's replies were checked: the MAC of the request, or of the reply that was signed last; whether no reply was signed; the
-- octets of the replies since, which weren't, and how many these are
pub record Chain : Type 0 where
  pub mac : List ℕ
  pub is_first : Bool
  pub since : List ℕ
  pub unsigned : ℕ

-- after a MAC nothing has come
abbrev pub chain_at : List ℕ → Bool → Chain
chain_at mac is_first = record { mac = mac; is_first = is_first; since = []; unsigned = 0 }

-- that of a request sent at a time, to which no reply was checked
abbrev pub first_chain : Option SharedKey → ℕ → List ℕ → Chain
first_chain None now request = chain_at [] true
first_chain (Some key) now request = chain_at (mac_over key [] request (stamped (stamp_of now 300) request [])) true

-- the MAC of a reply without its TSIG: behind the request's MAC with all of the TSIG's variables, behind that of another reply with its times alone; the replies
-- between, which weren't signed, are digested with it (RFC 8945, 5.3 and 5.3.1)
abbrev pub mac_behind : SharedKey → Chain → List ℕ → Fields → List ℕ
mac_behind key chain plain f =
    if chain.is_first then mac_over key chain.mac (chain.since ++ plain) f else mac_later key chain.mac (chain.since ++ plain) f

-- a reply is signed so, and has this MAC: it ends with the fields of its TSIG, whose time is within the fudge and which report no error
pub record IsSigned (key : SharedKey) (chain : Chain) (msg mac : List ℕ) : Type 0 where
  pub now : ℕ
  pub start : ℕ
  pub front : List ℕ
  pub fields : Fields
  pub stands : place_in msg ≡ Some (At start)
  pub ends : msg ≡ front ++ written fields
  pub mac_is : fields.mac ≡ mac
  pub no_error : fields.error ≡ 0
  pub no_other : fields.other ≡ []
  pub right : mac ≡ mac_behind key chain (without_tsig msg start fields.original) fields
  pub timely : is_timely now fields ≡ true

-- a reply isn't signed, and may come here: another one was signed before, and fewer than 99 weren't since (RFC 8945, 5.3.1)
pub record IsUnsigned (chain : Chain) (msg : List ℕ) : Type 0 where
  pub later : chain.is_first ≡ false
  pub few : chain.unsigned < 99
  pub bare : place_in msg ≡ Some Bare

-- the chain with such a reply
abbrev pub longer_chain : Chain → List ℕ → Chain
longer_chain chain msg = record { mac = chain.mac; is_first = chain.is_first; since = chain.since ++ msg; unsigned = chain.unsigned + 1 }

-- the next reply: what was checked after it
abbrev pub IsNext : Option SharedKey → Chain → List ℕ → Chain → Type 0
IsNext None chain msg next = next ≡ chain
IsNext (Some key) chain msg next =
    ((mac : List ℕ) × IsSigned key chain msg mac × (next ≡ chain_at mac false))
    ⊎ (IsUnsigned chain msg × (next ≡ longer_chain chain msg))

-- replies in their order
abbrev pub AreSigned : Option SharedKey → Chain → List (List ℕ) → Chain → Type 0
AreSigned key chain [] last = last ≡ chain
AreSigned key chain (m ∷ messages) last = (next : Chain) × IsNext key chain m next × AreSigned key next messages last
