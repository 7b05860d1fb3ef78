-- Requests and replies as lines of hexadecimal (own).
use Rattle.std.specs.Prelude.{◌≡◌, ◌<◌, ℕ, true, List, [], ◌∷◌, ◌++◌, length, map, nat_le, Option, Some, None, Result, Ok, Err, if◌then◌else◌, codes}
use Rattle.std.specs.Io.BufRead.{drop_through, first_piece}
use Rattle.std.specs.Io.KnownBytes.{Appends}
use Rattle.hex.specs.declared.error.FromHexError.{FromHexError}
use Rattle.hex.specs.Hex.{decode_of, encode_lower}
use Rattle.dns_rdata.specs.Record.{Record}
use Rattle.dns_message.specs.declared.query.Parsed.{Parsed}
use Rattle.dns_message.specs.declared.query.Parsed.TheVariants.{Query}
use Rattle.dns_message.specs.declared.query.Query.{Query as QueryAsked}
use Rattle.dns_message.specs.Request.{reads}
use Rattle.commands.specs.Lines.{MOST_OCTETS, spaced, input_lines, Begins, Writes}
use Rattle.serve_core.specs.declared.peer.Peer.{Peer}
use Rattle.serve_core.specs.declared.transport.Transport.{Transport}
use Rattle.serve_core.specs.Served.{Want, ForNothing, got, got_of}
use Rattle.serve_core.specs.Transfers.{peer_over, is_permitted, messages_to}
use Rattle.commands.specs.Versions.{Past, begun, followed_by, changes_for, Keeping, Holds}

-- the request on a line, from the line decoded as hexadecimal; none if it is not hexadecimal, or has more than the maximum number of octets
abbrev pub asked_by : Result (List ℕ) FromHexError → Option (List ℕ)
asked_by (Err fault) = None
asked_by (Ok request) = if nat_le (length request) MOST_OCTETS then Some request else None

-- the request on a line
unfoldable pub request_on : List ℕ → Option (List ℕ)
request_on line = asked_by (decode_of line)

-- how a reply is written: in lower-case hexadecimal, or `-` if there is none
abbrev pub written : Option (List ℕ) → List ℕ
written None = codes "-"
written (Some octets) = encode_lower octets

-- the query, if a parsed request is for a transfer that is sent; none for any other request (RFC 1995, 2; RFC 5936, 2.2.1)
abbrev pub transfer_in : List Record → Peer → Parsed → Option QueryAsked
transfer_in zone peer (Query query) = if is_permitted zone peer query then Some query else None
transfer_in zone peer said = None

unfoldable pub transfer_on : List Record → Peer → List ℕ → Option QueryAsked
transfer_on zone peer request = transfer_in zone peer (reads request)

-- how the result of a request is written: the messages of the transfer that it asks for, or else its reply
abbrev pub written_for : Transport → Past → Option QueryAsked → Option (List ℕ) → List ℕ
written_for transport past None reply = written reply
written_for transport past (Some query) reply = spaced (messages_to past.newest (changes_for past query) (peer_over transport true) query)

-- the line for a request, by the zone's versions and by where memory runs out, if the client is permitted to update and transfer the zone: its reply,
-- or the messages of a transfer; `!` if the line held no request
abbrev pub line_for : Transport → Want → Past → Option (List ℕ) → List ℕ
line_for transport want past None = codes "!"
line_for transport want past (Some request) =
    written_for transport past (transfer_on past.newest (peer_over transport true) request) (got transport true want past.newest request).reply

-- the versions after that request
abbrev pub past_behind : Transport → Want → Past → Option (List ℕ) → Past
past_behind transport want past None = past
past_behind transport want past (Some request) = followed_by past (got transport true want past.newest request).zone

-- where memory runs out at the first of some requests; nowhere if the list is empty
abbrev pub first_want : List Want → Want
first_want [] = ForNothing
first_want (want ∷ wants) = want

-- where memory runs out at the requests after the first
abbrev pub later_wants : List Want → List Want
later_wants [] = []
later_wants (want ∷ wants) = wants

-- what is written for requests: a line for each, by the versions that the requests before it leave, and by where memory runs out at each
abbrev pub lines_for : Transport → List Want → Past → List (Option (List ℕ)) → List ℕ
lines_for transport wants past [] = []
lines_for transport wants past (asked ∷ more) =
    (line_for transport (first_want wants) past asked ++ 10 ∷ []) ++ lines_for transport (later_wants wants) (past_behind transport (first_want wants) past asked) more

-- what is written for an input after these versions: a line for the request on each of its lines
abbrev pub output_behind : Transport → List Want → Past → List ℕ → List ℕ
output_behind transport wants past input = lines_for transport wants past (map request_on (input_lines input))

-- what is written for an input, starting from a zone
abbrev pub output_of : Transport → List Want → List Record → List ℕ → List ℕ
output_of transport wants zone input = output_behind transport wants (begun zone) input

-- the whole output for an input was written, wherever memory ran out
abbrev pub Answers : Transport → Past → List ℕ → Option (List ℕ) → Option (List ℕ) → Type 0
Answers transport past input before after = (wants : List Want) × Appends before after (output_behind transport wants past input)

-- a prefix of it was written
abbrev pub BeginsToAnswer : Transport → Past → List ℕ → Option (List ℕ) → Option (List ℕ) → Type 0
BeginsToAnswer transport past input before after = (wants : List Want) × Begins before after (output_behind transport wants past input)

-- the reply to a parsed request was written as a line, or on an error a prefix of the line, and the versions after the request are kept
pub record WritesReply {T E : Type 0} (result : Result T E) (transport : Transport) (said : Parsed) (past : Past) (kept : Keeping) (before after : Option (List ℕ)) : Type 0 where
  pub want : Want
  pub line : Writes result before after (written (got_of transport true want past.newest said).reply ++ 10 ∷ [])
  pub goes_on : Holds (followed_by past (got_of transport true want past.newest said).zone) kept

-- the line for a parsed request was written, or on an error a prefix of it, and the versions after the request are kept
pub record WritesSaid {T E : Type 0} (result : Result T E) (transport : Transport) (said : Parsed) (past : Past) (kept : Keeping) (before after : Option (List ℕ)) : Type 0 where
  pub want : Want
  pub line : Writes result before after (written_for transport past (transfer_in past.newest (peer_over transport true) said) (got_of transport true want past.newest said).reply ++ 10 ∷ [])
  pub goes_on : Holds (followed_by past (got_of transport true want past.newest said).zone) kept

-- the line for a request was written, or on an error a prefix of it, and the versions after the request are kept
pub record WritesFor {T E : Type 0} (result : Result T E) (transport : Transport) (asked : Option (List ℕ)) (past : Past) (kept : Keeping) (before after : Option (List ℕ)) : Type 0 where
  pub want : Want
  pub line : Writes result before after (line_for transport want past asked ++ 10 ∷ [])
  pub goes_on : Holds (past_behind transport want past asked) kept

-- the reader's next line is consumed, the line for it is written, and the versions after it are kept
pub record TakesLine (transport : Transport) (past : Past) (kept : Keeping) (rest : List ℕ) (left written_before written_after : Option (List ℕ)) : Type 0 where
  pub want : Want
  pub some : 0 < length rest
  pub taken : left ≡ Some (drop_through 10 rest)
  pub line : Appends written_before written_after (line_for transport want past (request_on (first_piece 10 rest)) ++ 10 ∷ [])
  pub goes_on : Holds (past_behind transport want past (request_on (first_piece 10 rest))) kept
