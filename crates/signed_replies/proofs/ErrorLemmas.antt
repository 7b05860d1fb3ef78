-- A reply that is its header alone.
use Rattle.std.proofs.Common.{◌≡◌, ℕ, ◌≤◌, List, [], ◌∷◌, length, take, refl, sym, ap, ◌∙◌, arith, lit≤}
use Rattle.std.proofs.lemmas.List.{length-take-le}
use Rattle.std.specs.Prelude.{None}
use Rattle.dns_rdata.specs.declared.numbers.Rcode.{Rcode}
use Rattle.dns_message.specs.Encoding.{these, before, each}
use Rattle.dns_message.specs.Message.{message_limit, number_at}
use Rattle.dns_message.specs.Octets.{fit, header_octets, counts_in, reply_octets, sections_octets}
use Rattle.dns_message.specs.Opt.{opt_part}
use Rattle.dns_message.specs.declared.query.Head.{Head}
use Rattle.serve_core.specs.Heading.{header_alone, coded}
use Rattle.serve_core.specs.Transport.{limit_of, room_of}
use Rattle.serve_core.specs.declared.transport.Transport.{Transport}
use Rattle.serve_core.specs.declared.transport.Transport.TheVariants.{Udp, Tcp}
use Rattle.signed_replies.specs.Signed.{error_reply}
use Rattle.tsig.proofs.ListLemmas.{number_of_first}

-- its octets
alone : (head : Head) (code : Rcode) → reply_octets (coded (header_alone head) code) ≡ header_octets (coded (header_alone head) code) (0 ∷ 0 ∷ 0 ∷ 0 ∷ [])
unfolding sections_octets each these before
alone head code = refl

-- it has twelve
pub error_size : (transport : Transport) (code : Rcode) (request : List ℕ) → length (error_reply transport code request) ≡ 12
unfolding sections_octets each these before
error_size Udp code request = refl
error_size Tcp code request = refl

-- and no additional record
pub error_count : (transport : Transport) (code : Rcode) (request : List ℕ) → number_at (error_reply transport code request) 10 ≡ 0
unfolding sections_octets each these before
error_count Udp code request = refl
error_count Tcp code request = refl

pub room_most : (transport : Transport) → room_of transport ≤ message_limit
room_most Udp = lit≤ tt
room_most Tcp = lit≤ tt

limit_within : (transport : Transport) → limit_of transport None ≤ message_limit
limit_within Udp = lit≤ tt
limit_within Tcp = lit≤ tt

-- so many octets are written
pub written_size : (out : List ℕ) (len : ℕ) (transport : Transport) (code : Rcode) (request : List ℕ) → message_limit ≤ length out → len ≤ limit_of transport None
    → take len out ≡ error_reply transport code request → len ≡ 12
written_size out len transport code request room within is =
    sym (length-take-le len out (omega (arith, room, within, limit_within transport))) ∙ ap length is ∙ error_size transport code request

-- and no additional record is counted
pub written_count : (out : List ℕ) (len : ℕ) (transport : Transport) (code : Rcode) (request : List ℕ) → message_limit ≤ length out → len ≤ limit_of transport None
    → take len out ≡ error_reply transport code request → number_at out 10 ≡ 0
written_count out len transport code request room within is =
    sym (number_of_first out 10 len (omega (arith, written_size out len transport code request room within is)))
    ∙ ap (λ l. number_at l 10) is
    ∙ error_count transport code request
