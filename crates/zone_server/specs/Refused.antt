-- Which replies refuse a transfer.
use Rattle.std.specs.Prelude.{◌≡◌, ◌⊎◌, ◌<◌, ◌%◌, ℕ, List, length, slice_index}
use Rattle.dns_rdata.specs.Numbers.{type_AXFR, type_IXFR}
use Rattle.dns_message.specs.declared.query.Query.{Query}

-- the code in a reply's header is REFUSED (RFC 1035, 4.1.1: the low four bits of its fourth octet)
abbrev pub IsRefusal : List ℕ → Type 0
IsRefusal reply = (3 < length reply) × (slice_index reply 3 % 16 ≡ 5)

-- a query is for a transfer (RFC 5936, 2.1; RFC 1995, 3)
abbrev pub AsksTransfer : Query → Type 0
AsksTransfer query = (query.question.rtype.0 ≡ type_AXFR) ⊎ (query.question.rtype.0 ≡ type_IXFR)
