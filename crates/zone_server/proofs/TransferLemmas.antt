-- Transfers by datagrams.
use Rattle.std.proofs.Common.{◌≡◌, refl, ℕ, ◌≤◌, List, [], ◌∷◌, take, Option, None, Some, MatchOption, IfSome, sym, subst}
use Rattle.dns_rdata.specs.Record.{Record}
use Rattle.dns_message.specs.declared.query.Query.{Query as QueryAsked}
use Rattle.serve_core.specs.Transfers.{messages_to}
use Rattle.serve_core.specs.declared.peer.Peer.{Peer}
use Rattle.serve_core.specs.declared.transport.Transport.{Transport}
use Rattle.serve_core.specs.declared.transport.Transport.TheVariants.{Udp}
use Rattle.requests.specs.Octets.{messages_in}

-- a transfer by a datagram has one message
abbrev pub IsOne : List (List ℕ) → Type 0
IsOne messages = (message : List ℕ) × (messages ≡ message ∷ [])

pub datagrams_one : (zone : List Record) (changes : Option (List Record)) (peer : Peer) (query : QueryAsked) → peer.transport ≡ Udp → IsOne (messages_to zone changes peer query)
datagrams_one zone changes peer query by = subst (λ (transport : Transport). IsOne (messages_to zone changes (record peer { transport = transport }) query)) (sym by) (_, refl)

-- and where it is written that is all
module _ (packer next : List (List ℕ)) (before out : List ℕ) (most : ℕ) (one : IsOne packer) where
  abbrev pub Given : Option ℕ → Type 0
  Given result = MatchOption result ((packer ≡ []) × (next ≡ []) × (out ≡ before)) (λ len. (packer ≡ take len out ∷ next) × (len ≤ most))

  pub one_message : (result : Option ℕ) → Given result → messages_in result out ≡ packer
  one_message None given = let none = given.0 in let is = one.1 in absurd (cc)
  one_message (Some len) given = let some = given.0 in let is = one.1 in cc

  pub one_short : (result : Option ℕ) → Given result → IfSome result (λ len. len ≤ most)
  one_short None given = tt
  one_short (Some len) given = given.1
