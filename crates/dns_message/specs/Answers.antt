-- Messages of which each has as many records of a list as fit (RFC 5936, 2.2).
use Rattle.std.specs.Prelude.{◌≡◌, ℕ, ◌+◌, ◌<◌, ◌≤◌, true, false, List, [], ◌∷◌, ◌++◌, length, take, Option, Some, None, if◌then◌else◌}
use Rattle.dns_rdata.specs.declared.numbers.Rcode.TheVariants.{NoError}
use Rattle.dns_rdata.specs.Record.{Record}
use Rattle.wire_names.specs.Entry.{Entry}
use Rattle.dns_message.specs.Encoded.{WritesEncoding}
use Rattle.dns_message.specs.Encoding.{Encoding, before, each}
use Rattle.dns_message.specs.Message.{Message}
use Rattle.dns_message.specs.Octets.{questions, question_octets, record_octets, fits}
use Rattle.dns_message.specs.Opt.{opt_part}
use Rattle.dns_message.specs.declared.answers.SentRecord.{SentRecord}
use Rattle.dns_message.specs.declared.edns.Opt.{Opt}
use Rattle.dns_message.specs.declared.query.Head.{Head}
use Rattle.dns_message.specs.declared.query.Question.{Question}

-- a record as it is sent
abbrev pub sent : SentRecord → Record
sent r = record { owner = r.owner.now; rtype = r.rtype.0; ttl = r.ttl.0; rdata = r.rdata.now }

-- the first element of a list
abbrev pub first_of : {A : Type 0} → List A → Option A
first_of [] = None
first_of (x ∷ xs) = Some x

-- a message of records in the answer section alone, with a question or without one, and with an OPT or without one: AA 1, NOERROR
-- (RFC 5936, 2.2.1)
abbrev pub answers : Head → Option Question → Option Opt → List Record → Message
answers head question opt records = record { head = head; rcode = NoError; aa = true; tc = false; question = question; answer = records; authority = []; additional = []; opt = opt; below_cut = false }

-- the records that such a message has which takes, after those that it has, as many from the front of others as fit into so
-- many octets; and the records that are left
abbrev pub filled : Head → Option Question → Option Opt → ℕ → List Record → List Record → List Record × List Record
filled head question opt limit front [] = (front, [])
filled head question opt limit front (r ∷ rs) =
    if fits (answers head question opt (front ++ r ∷ [])) limit then filled head question opt limit (front ++ r ∷ []) rs
    else (front, r ∷ rs)

-- the records that a message takes are followed by one that doesn't fit with them, if any is left
abbrev pub StopsTaking : Head → Option Question → Option Opt → ℕ → List Record → List Record → Type 0
StopsTaking head question opt limit front [] = Unit {0}
StopsTaking head question opt limit front (r ∷ rs) = fits (answers head question opt (front ++ r ∷ [])) limit ≡ false

-- what stands in such a message after its header and before its OPT
abbrev pub placed : Option Question → List Record → Encoding
placed question records = before (each question_octets (questions question)) (each record_octets records)

-- the first of the records that are left is written into a buffer at a position, as names are; none is where none is left,
-- or where it doesn't fit, and what is before the position stays then
abbrev pub PutsFirst : List Record → List ℕ → List ℕ → ℕ → List Entry → List Entry → Option ℕ → Type 0
PutsFirst [] old new at before after result = (result ≡ None) × (take at new ≡ take at old)
PutsFirst (r ∷ rs) old new at before after result = WritesEncoding (record_octets r) old new at before after result

-- after records that were written at a position, one more doesn't fit: the first of those that are left, if any is
abbrev pub StopsBehind : List Record → List Record → List ℕ → List ℕ → ℕ → List Entry → Type 0
StopsBehind front [] old new at positions = Unit {0}
StopsBehind front (r ∷ rs) old new at positions = WritesEncoding (each record_octets (front ++ r ∷ [])) old new at positions positions None

-- as many records from the front of a list as fit were written into a buffer at a position; what is after them in the buffer
-- is of no matter
pub record Fills (all left : List Record) (old new : List ℕ) (at : ℕ) (positions : List Entry) (next count : ℕ) : Type 0 where
  pub front : List Record
  pub parts : all ≡ front ++ left
  pub counted : count ≡ length front
  pub whole : List ℕ
  pub after : List Entry
  pub written : WritesEncoding (each record_octets front) old whole at positions after (Some next)
  pub same : take next new ≡ take next whole
  pub stops : StopsBehind front left old new at positions

-- with the first of the records that are left, if any is, such a message is longer than so many octets
abbrev pub IsFull : Option Question → Option Opt → List Record → List Record → ℕ → Type 0
IsFull question opt front [] limit = Unit {0}
IsFull question opt front (r ∷ rs) limit = limit < 12 + length (placed question (front ++ r ∷ []) [] 12).0 + length (opt_part NoError opt)

-- after the place of a header the question was written, and as many records from the front of a list as leave room for the OPT;
-- what is after them in the buffer is of no matter
pub record HasBody (question : Option Question) (opt : Option Opt) (all left : List Record) (old new : List ℕ) (next count : ℕ) : Type 0 where
  pub front : List Record
  pub parts : all ≡ front ++ left
  pub counted : count ≡ length front
  pub next_is : next ≡ 12 + length (placed question front [] 12).0
  pub octets : take next new ≡ take 12 old ++ (placed question front [] 12).0
  pub room : next + length (opt_part NoError opt) ≤ length old
  pub full : IsFull question opt front left (length old)
