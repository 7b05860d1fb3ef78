-- The messages of a transfer: whole records, as many in each as fit (RFC 5936, 2.2).
use Rattle.std.specs.Prelude.{ℕ, List, [], ◌∷◌, ◌++◌, map, Option, Some, None, if◌then◌else◌}
use Rattle.dns_name.specs.Name.{Name, is_same}
use Rattle.dns_rdata.specs.Record.{Record, shown_as}
use Rattle.dns_message.specs.Answers.{answers, filled}
use Rattle.dns_message.specs.Message.{Message}
pub use Rattle.dns_message.specs.Message.{max_message}
use Rattle.dns_message.specs.Octets.{fits, reply_octets, fit}
use Rattle.dns_message.specs.declared.edns.Opt.{Opt}
use Rattle.dns_message.specs.declared.query.Head.{Head}
use Rattle.dns_message.specs.declared.query.Question.{Question}
use Rattle.transfer_core.specs.declared.packer.TransferRecords.{TransferRecords}
use Rattle.transfer_core.specs.declared.packer.TransferRecords.TheVariants.{Set, Full, Changes}

-- the records of a transfer that are left
abbrev pub listed : {C : Type 0} → TransferRecords C → List Record
listed (Set records) = records
listed (Full records) = records
listed (Changes records) = records

-- a record as the one who asked for a name is shown it: that name keeps the spelling asked (own)
abbrev pub spelt : Name → Record → Record
spelt name r = if is_same r.owner name then record r { owner = name } else r

-- the OPT that stands beside a question: none where the question was sent (RFC 6891, 6.1.1; own)
abbrev pub opt_beside : Option Question → Option Opt → Option Opt
opt_beside None opt = None
opt_beside (Some question) opt = opt

-- the messages of the records that are left behind those that the first of these messages has: each takes as many as fit, and
-- the first alone may have a question, and an OPT (RFC 5936, 2.2; RFC 6891, 6.1.1; own)
abbrev pub packed_behind : Head → Option Question → Option Opt → List Record → List Record → List Message
packed_behind head question opt front [] = answers head question opt front ∷ []
packed_behind head question opt front (r ∷ rs) =
    if fits (answers head question opt (front ++ r ∷ [])) max_message then packed_behind head question opt (front ++ r ∷ []) rs
    else answers head question opt front ∷ packed_behind head None None (r ∷ []) rs

-- the messages of the records that are left, where the question was sent: none where no record is left
abbrev pub packed_later : Head → List Record → List Message
packed_later head [] = []
packed_later head (r ∷ rs) = packed_behind head None None (r ∷ []) rs

-- the messages of records, with a question that is still to be sent, and an OPT beside it, or none
abbrev pub packed_from : Head → Option Question → Option Opt → List Record → List Message
packed_from head None opt records = packed_later head records
packed_from head (Some question) opt records = packed_behind head (Some question) opt [] records

-- the messages of a list that a question asks for, the first of them with an OPT, or none (RFC 5936, 2.2; RFC 6891, 6.1.1; own)
abbrev pub packed : Head → Question → Option Opt → List Record → List Message
packed head question opt list = packed_from head (Some question) opt (map (spelt question.name) list)

-- the octets of messages
abbrev pub octets_of : List Message → List (List ℕ)
octets_of messages = map reply_octets messages

-- what is sent by whether records are left
abbrev pub whole_or : List ℕ → List ℕ → List Record → List ℕ
whole_or whole other [] = whole
whole_or whole other (r ∷ rs) = other

-- the one message of a list over UDP: the list where all of it fits the limit; else the SOA alone, and where that doesn't fit
-- either, the header, the question and the OPT with TC 1 (RFC 1995, 2; own)
abbrev pub datagram_of : Head → Question → Option Opt → ℕ → List Record → List Record → List ℕ
datagram_of head question opt limit records soa =
    let parts = filled head (Some question) opt limit [] records in
    whole_or (reply_octets (answers head (Some question) opt parts.0)) (fit (answers head (Some question) opt (map (shown_as question.name None) soa)) limit) parts.1

abbrev pub datagram : Head → Question → Option Opt → ℕ → List Record → List Record → List ℕ
datagram head question opt limit list soa = datagram_of head question opt limit (map (spelt question.name) list) soa

-- the octets of the messages that are left of a list: over UDP, where an SOA stands for it, one under the limit with the question; else
-- as many as it takes
abbrev pub messages_left : Head → Option Question → Option Opt → ℕ → Option (List Record) → List Record → List (List ℕ)
messages_left head question opt limit None records = octets_of (packed_from head question opt records)
messages_left head None opt limit (Some soa) records = []
messages_left head (Some question) opt limit (Some soa) records = datagram_of head question opt limit records soa ∷ []
