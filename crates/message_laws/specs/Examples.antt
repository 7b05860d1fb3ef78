-- Worked examples of a request and of its reply (RFC 1035, 4.1).
use Rattle.std.specs.Prelude.{ℕ, true, false, List, [], ◌∷◌, ◌++◌, Some, None, codes}
use Rattle.std.proofs.Common.{lit<}
use Rattle.dns_rdata.specs.declared.numbers.Rcode.TheVariants.{NoError}
use Rattle.dns_name.specs.Name.{Name, wire_of}
use Rattle.dns_rdata.specs.Raw.{RawRecord}
use Rattle.dns_rdata.specs.Record.{Record}
use Rattle.dns_message.specs.declared.query.Head.{Head}
use Rattle.dns_message.specs.declared.query.Question.{Question}
use Rattle.dns_message.specs.declared.update.ZoneEntry.{ZoneEntry}
use Rattle.dns_message.specs.Message.{Message}

-- what is before a question: ID 0x1234, RD 1, one question
abbrev pub request_front : List ℕ
request_front = 18 ∷ 52 ∷ 1 ∷ 0 ∷ 0 ∷ 1 ∷ 0 ∷ 0 ∷ 0 ∷ 0 ∷ 0 ∷ 0 ∷ []

-- the question www.example.test. A, class IN, in octets
abbrev pub asked_octets : List ℕ
asked_octets = 3 ∷ 119 ∷ 119 ∷ 119 ∷ 7 ∷ 101 ∷ 120 ∷ 97 ∷ 109 ∷ 112 ∷ 108 ∷ 101 ∷ 4 ∷ 116 ∷ 101 ∷ 115 ∷ 116 ∷ 0 ∷ 0 ∷ 1 ∷ 0 ∷ 1 ∷ []

abbrev pub www : Name
www = codes "www" ∷ codes "example" ∷ codes "test" ∷ []

abbrev pub asked : Question
asked = record { name = www; rtype = record { 0 = 1 }; class = record { 0 = 1 } }

abbrev pub asker : Head
asker = record { id = 4660; opcode = 0; rd = true; four_bits = lit< tt }

-- what is before the question of an IXFR: one question, and one record in the authority section
abbrev pub changes_front : List ℕ
changes_front = 18 ∷ 52 ∷ 1 ∷ 0 ∷ 0 ∷ 1 ∷ 0 ∷ 0 ∷ 0 ∷ 1 ∷ 0 ∷ 0 ∷ []

-- the question test. IXFR, class IN, and the SOA of that name with the serial 258, by which the asker tells what it holds: its
-- owner and the two names in its data are pointers to the question's name
abbrev pub changes_octets : List ℕ
changes_octets =
    (4 ∷ 116 ∷ 101 ∷ 115 ∷ 116 ∷ 0 ∷ 0 ∷ 251 ∷ 0 ∷ 1 ∷ [])
    ++ (192 ∷ 12 ∷ 0 ∷ 6 ∷ 0 ∷ 1 ∷ 0 ∷ 0 ∷ 0 ∷ 0 ∷ 0 ∷ 24 ∷ 192 ∷ 12 ∷ 192 ∷ 12 ∷ 0 ∷ 0 ∷ 1 ∷ 2 ∷ [])
    ++ (0 ∷ 0 ∷ 0 ∷ 0 ∷ 0 ∷ 0 ∷ 0 ∷ 0 ∷ 0 ∷ 0 ∷ 0 ∷ 0 ∷ 0 ∷ 0 ∷ 0 ∷ 0 ∷ [])

abbrev pub changes : Question
changes = record { name = codes "test" ∷ []; rtype = record { 0 = 251 }; class = record { 0 = 1 } }

abbrev pub web : Name
web = codes "web" ∷ codes "example" ∷ codes "test" ∷ []

-- www is an alias of web, whose address is 192.0.2.10, each for an hour
abbrev pub alias : Record
alias = record { owner = www; rtype = 5; ttl = 3600; rdata = wire_of web }

abbrev pub address : Record
address = record { owner = web; rtype = 1; ttl = 3600; rdata = 192 ∷ 0 ∷ 2 ∷ 10 ∷ [] }

abbrev pub answer : Message
answer = record { head = asker; rcode = NoError; aa = true; tc = false; question = Some asked; answer = alias ∷ address ∷ []; authority = []; additional = []; opt = None; below_cut = false }

-- the alias: its owner is at position 12, and example.test after www at 16
abbrev pub alias_octets : List ℕ
alias_octets = 192 ∷ 12 ∷ 0 ∷ 5 ∷ 0 ∷ 1 ∷ 0 ∷ 0 ∷ 14 ∷ 16 ∷ 0 ∷ 6 ∷ 3 ∷ 119 ∷ 101 ∷ 98 ∷ 192 ∷ 16 ∷ []

-- the address: its owner is in the alias' data, at position 46
abbrev pub address_octets : List ℕ
address_octets = 192 ∷ 46 ∷ 0 ∷ 1 ∷ 0 ∷ 1 ∷ 0 ∷ 0 ∷ 14 ∷ 16 ∷ 0 ∷ 4 ∷ 192 ∷ 0 ∷ 2 ∷ 10 ∷ []

-- the reply's octets: flags QR, AA and RD, and the counts 1, 2, 0, 0
abbrev pub answer_octets : List ℕ
answer_octets = (18 ∷ 52 ∷ 133 ∷ 0 ∷ 0 ∷ 1 ∷ 0 ∷ 2 ∷ 0 ∷ 0 ∷ 0 ∷ 0 ∷ []) ++ asked_octets ++ alias_octets ++ address_octets

-- the same with TC and no record
abbrev pub cut_octets : List ℕ
cut_octets = (18 ∷ 52 ∷ 135 ∷ 0 ∷ 0 ∷ 1 ∷ 0 ∷ 0 ∷ 0 ∷ 0 ∷ 0 ∷ 0 ∷ []) ++ asked_octets

-- the service s.example.test is at port 53 of web, with priority 1 and weight 2
abbrev pub service : Name
service = codes "s" ∷ codes "example" ∷ codes "test" ∷ []

abbrev pub asked_service : Question
asked_service = record { name = service; rtype = record { 0 = 33 }; class = record { 0 = 1 } }

abbrev pub place : Record
place = record { owner = service; rtype = 33; ttl = 3600; rdata = 0 ∷ 1 ∷ 0 ∷ 2 ∷ 0 ∷ 53 ∷ wire_of web }

abbrev pub service_answer : Message
service_answer = record { head = asker; rcode = NoError; aa = true; tc = false; question = Some asked_service; answer = place ∷ []; authority = []; additional = address ∷ []; opt = None; below_cut = false }

-- the target is in full, and the address' owner, which has a pointer to example.test at 14, has none to it
abbrev pub service_octets : List ℕ
service_octets =
    (18 ∷ 52 ∷ 133 ∷ 0 ∷ 0 ∷ 1 ∷ 0 ∷ 1 ∷ 0 ∷ 0 ∷ 0 ∷ 1 ∷ [])
    ++ (1 ∷ 115 ∷ 7 ∷ 101 ∷ 120 ∷ 97 ∷ 109 ∷ 112 ∷ 108 ∷ 101 ∷ 4 ∷ 116 ∷ 101 ∷ 115 ∷ 116 ∷ 0 ∷ 0 ∷ 33 ∷ 0 ∷ 1 ∷ [])
    ++ (192 ∷ 12 ∷ 0 ∷ 33 ∷ 0 ∷ 1 ∷ 0 ∷ 0 ∷ 14 ∷ 16 ∷ 0 ∷ 24 ∷ 0 ∷ 1 ∷ 0 ∷ 2 ∷ 0 ∷ 53 ∷ [])
    ++ (3 ∷ 119 ∷ 101 ∷ 98 ∷ 7 ∷ 101 ∷ 120 ∷ 97 ∷ 109 ∷ 112 ∷ 108 ∷ 101 ∷ 4 ∷ 116 ∷ 101 ∷ 115 ∷ 116 ∷ 0 ∷ [])
    ++ (3 ∷ 119 ∷ 101 ∷ 98 ∷ 192 ∷ 14 ∷ 0 ∷ 1 ∷ 0 ∷ 1 ∷ 0 ∷ 0 ∷ 14 ∷ 16 ∷ 0 ∷ 4 ∷ 192 ∷ 0 ∷ 2 ∷ 10 ∷ [])

-- the same without the address
abbrev pub shorter_octets : List ℕ
shorter_octets =
    (18 ∷ 52 ∷ 133 ∷ 0 ∷ 0 ∷ 1 ∷ 0 ∷ 1 ∷ 0 ∷ 0 ∷ 0 ∷ 0 ∷ [])
    ++ (1 ∷ 115 ∷ 7 ∷ 101 ∷ 120 ∷ 97 ∷ 109 ∷ 112 ∷ 108 ∷ 101 ∷ 4 ∷ 116 ∷ 101 ∷ 115 ∷ 116 ∷ 0 ∷ 0 ∷ 33 ∷ 0 ∷ 1 ∷ [])
    ++ (192 ∷ 12 ∷ 0 ∷ 33 ∷ 0 ∷ 1 ∷ 0 ∷ 0 ∷ 14 ∷ 16 ∷ 0 ∷ 24 ∷ 0 ∷ 1 ∷ 0 ∷ 2 ∷ 0 ∷ 53 ∷ [])
    ++ (3 ∷ 119 ∷ 101 ∷ 98 ∷ 7 ∷ 101 ∷ 120 ∷ 97 ∷ 109 ∷ 112 ∷ 108 ∷ 101 ∷ 4 ∷ 116 ∷ 101 ∷ 115 ∷ 116 ∷ 0 ∷ [])

-- the header with TC 1, and the question alone
abbrev pub shortest_octets : List ℕ
shortest_octets =
    (18 ∷ 52 ∷ 135 ∷ 0 ∷ 0 ∷ 1 ∷ 0 ∷ 0 ∷ 0 ∷ 0 ∷ 0 ∷ 0 ∷ [])
    ++ (1 ∷ 115 ∷ 7 ∷ 101 ∷ 120 ∷ 97 ∷ 109 ∷ 112 ∷ 108 ∷ 101 ∷ 4 ∷ 116 ∷ 101 ∷ 115 ∷ 116 ∷ 0 ∷ 0 ∷ 33 ∷ 0 ∷ 1 ∷ [])

-- what is before the zone section of an update: ID 0x4321, OPCODE UPDATE, RD, which says nothing there, one entry of
-- the zone section, and so many prerequisites and updates, no additional record (RFC 2136, 2.2)
abbrev pub update_front : ℕ → ℕ → List ℕ
update_front prerequisites updates = 67 ∷ 33 ∷ 41 ∷ 0 ∷ 0 ∷ 1 ∷ 0 ∷ prerequisites ∷ 0 ∷ updates ∷ 0 ∷ 0 ∷ []

-- the zone example.test. SOA, class IN, in octets
abbrev pub zone_octets : List ℕ
zone_octets = 7 ∷ 101 ∷ 120 ∷ 97 ∷ 109 ∷ 112 ∷ 108 ∷ 101 ∷ 4 ∷ 116 ∷ 101 ∷ 115 ∷ 116 ∷ 0 ∷ 0 ∷ 6 ∷ 0 ∷ 1 ∷ []

abbrev pub zone_name : Name
zone_name = codes "example" ∷ codes "test" ∷ []

abbrev pub zone : ZoneEntry
zone = record { name = zone_name; rtype = record { 0 = 6 }; class = record { 0 = 1 } }

-- the mail exchange of example.test is WEB.example.test with preference 10, for an hour: the owner is at position 12, and so
-- is what stands after WEB
abbrev pub exchange_octets : List ℕ
exchange_octets = 192 ∷ 12 ∷ 0 ∷ 15 ∷ 0 ∷ 1 ∷ 0 ∷ 0 ∷ 14 ∷ 16 ∷ 0 ∷ 8 ∷ 0 ∷ 10 ∷ 3 ∷ 87 ∷ 69 ∷ 66 ∷ 192 ∷ 12 ∷ []

abbrev pub exchange : RawRecord
exchange = record { owner = zone_name; rtype = 15; class = 1; ttl = 3600; octets = 0 ∷ 10 ∷ wire_of web }

-- an address of example.test, of class NONE without data
abbrev pub absent_octets : List ℕ
absent_octets = 192 ∷ 12 ∷ 0 ∷ 1 ∷ 0 ∷ 254 ∷ 0 ∷ 0 ∷ 0 ∷ 0 ∷ 0 ∷ 0 ∷ []

abbrev pub absent : RawRecord
absent = record { owner = zone_name; rtype = 1; class = 254; ttl = 0; octets = [] }

-- addresses of example.test, of class ANY with one octet of data
abbrev pub any_octets : List ℕ
any_octets = 192 ∷ 12 ∷ 0 ∷ 1 ∷ 0 ∷ 255 ∷ 0 ∷ 0 ∷ 0 ∷ 0 ∷ 0 ∷ 1 ∷ 7 ∷ []

abbrev pub any_record : RawRecord
any_record = record { owner = zone_name; rtype = 1; class = 255; ttl = 0; octets = 7 ∷ [] }

-- what the reply to these updates copies from their header
abbrev pub updater : Head
updater = record { id = 17185; opcode = 5; rd = false; four_bits = lit< tt }
