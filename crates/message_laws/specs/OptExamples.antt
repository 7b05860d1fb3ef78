-- Worked examples of requests with an OPT, and of replies with one (RFC 6891, 6.1.2 and 6.1.3).
use Rattle.std.specs.Prelude.{ℕ, true, false, List, [], ◌∷◌, ◌++◌, Some}
use Rattle.dns_rdata.specs.declared.numbers.Rcode.{Rcode}
use Rattle.message_laws.specs.Examples.{asked_octets, alias_octets, address_octets, answer, service_answer, zone}
use Rattle.dns_message.specs.Message.{Message}
use Rattle.dns_message.specs.declared.edns.Edns.{Edns}
use Rattle.dns_message.specs.declared.query.Question.{Question}

-- what is before the question of a request with so many records in its answer section and so many additional records: ID
-- 0x1234, RD 1
abbrev pub asked_front : ℕ → ℕ → List ℕ
asked_front answers additionals = 18 ∷ 52 ∷ 1 ∷ 0 ∷ 0 ∷ 1 ∷ 0 ∷ answers ∷ 0 ∷ 0 ∷ 0 ∷ additionals ∷ []

-- an OPT of one who takes datagrams of 4096 octets; with DO; of version 1; of version 1 at the name asked; and with an option, number 65001
abbrev pub plain_opt : List ℕ
plain_opt = 0 ∷ 0 ∷ 41 ∷ 16 ∷ 0 ∷ 0 ∷ 0 ∷ 0 ∷ 0 ∷ 0 ∷ 0 ∷ []

abbrev pub do_opt : List ℕ
do_opt = 0 ∷ 0 ∷ 41 ∷ 16 ∷ 0 ∷ 0 ∷ 0 ∷ 128 ∷ 0 ∷ 0 ∷ 0 ∷ []

abbrev pub later_opt : List ℕ
later_opt = 0 ∷ 0 ∷ 41 ∷ 16 ∷ 0 ∷ 0 ∷ 1 ∷ 0 ∷ 0 ∷ 0 ∷ 0 ∷ []

abbrev pub owned_opt : List ℕ
owned_opt = 192 ∷ 12 ∷ 0 ∷ 41 ∷ 16 ∷ 0 ∷ 0 ∷ 1 ∷ 0 ∷ 0 ∷ 0 ∷ 0 ∷ []

abbrev pub option_opt : List ℕ
option_opt = 0 ∷ 0 ∷ 41 ∷ 16 ∷ 0 ∷ 0 ∷ 0 ∷ 0 ∷ 0 ∷ 0 ∷ 4 ∷ 253 ∷ 233 ∷ 0 ∷ 0 ∷ []

-- an address at the name asked, which stands before an OPT
abbrev pub other_record : List ℕ
other_record = 192 ∷ 12 ∷ 0 ∷ 1 ∷ 0 ∷ 1 ∷ 0 ∷ 0 ∷ 0 ∷ 0 ∷ 0 ∷ 4 ∷ 192 ∷ 0 ∷ 2 ∷ 1 ∷ []

-- what the OPTs without DO and with it say
abbrev pub plain : Edns
plain = record { size = 4096; dnssec_ok = false }

abbrev pub with_do : Edns
with_do = record { size = 4096; dnssec_ok = true }

-- one who takes datagrams of so many octets
abbrev pub takes : ℕ → Edns
takes size = record { size = size; dnssec_ok = false }

-- what is before the zone section of an update without prerequisites and updates, and with so many additional records
abbrev pub empty_front : ℕ → List ℕ
empty_front additionals = 67 ∷ 33 ∷ 41 ∷ 0 ∷ 0 ∷ 1 ∷ 0 ∷ 0 ∷ 0 ∷ 0 ∷ 0 ∷ additionals ∷ []

abbrev pub zone_asked : Question
zone_asked = record { name = zone.name; rtype = record { 0 = 6 }; class = record { 0 = 1 } }

-- a reply with an OPT
abbrev pub replied : Message
replied = record answer { opt = Some (record { dnssec_ok = false }) }

-- its OPT: the root, type 41, 1232, and nothing else; and with DO, and with the upper bits of BADVERS
abbrev pub own_opt : List ℕ
own_opt = 0 ∷ 0 ∷ 41 ∷ 4 ∷ 208 ∷ 0 ∷ 0 ∷ 0 ∷ 0 ∷ 0 ∷ 0 ∷ []

abbrev pub own_do_opt : List ℕ
own_do_opt = 0 ∷ 0 ∷ 41 ∷ 4 ∷ 208 ∷ 0 ∷ 0 ∷ 128 ∷ 0 ∷ 0 ∷ 0 ∷ []

abbrev pub own_bad_opt : List ℕ
own_bad_opt = 0 ∷ 0 ∷ 41 ∷ 4 ∷ 208 ∷ 1 ∷ 0 ∷ 0 ∷ 0 ∷ 0 ∷ 0 ∷ []

-- 79 octets: counts 1, 2, 0 and 1
abbrev pub replied_octets : List ℕ → List ℕ
replied_octets opt = (18 ∷ 52 ∷ 133 ∷ 0 ∷ 0 ∷ 1 ∷ 0 ∷ 2 ∷ 0 ∷ 0 ∷ 0 ∷ 1 ∷ []) ++ asked_octets ++ alias_octets ++ address_octets ++ opt

-- the same with TC and no record but the OPT
abbrev pub replied_cut : List ℕ
replied_cut = (18 ∷ 52 ∷ 135 ∷ 0 ∷ 0 ∷ 1 ∷ 0 ∷ 0 ∷ 0 ∷ 0 ∷ 0 ∷ 1 ∷ []) ++ asked_octets ++ own_opt

-- a reply to a request whose OPT isn't obeyed
abbrev pub refusal : Rcode → Message
refusal code = record answer { rcode = code; aa = false; answer = []; opt = Some (record { dnssec_ok = false }) }

-- 45 octets: the code's low bits in the header, and a question and an OPT
abbrev pub refusal_octets : ℕ → List ℕ → List ℕ
refusal_octets code opt = (18 ∷ 52 ∷ 129 ∷ code ∷ 0 ∷ 1 ∷ 0 ∷ 0 ∷ 0 ∷ 0 ∷ 0 ∷ 1 ∷ []) ++ asked_octets ++ opt

-- a reply with an address in its additional section, and an OPT after it
abbrev pub service_replied : Message
service_replied = record service_answer { opt = Some (record { dnssec_ok = false }) }
