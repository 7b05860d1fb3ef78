-- Where the TSIG of a message stands (RFC 8945, 5.1 and 5.2).
use Rattle.std.specs.Prelude.{ℕ, ◌-◌, Bool, false, ◌||◌, ◌&&◌, ◌==◌, List, [], ◌∷◌, Option, Some, None, option_map, option_and_then, if◌then◌else◌}
use Rattle.dns_message.specs.Message.{Entry, number_at}
use Rattle.dns_message.specs.Reads.{record_at, records_at, questions_at}
use Rattle.dns_message.specs.declared.tsig.Place.{Place}
use Rattle.dns_message.specs.declared.tsig.Place.TheVariants.{Bare, Bad, At}

-- the type of a TSIG (RFC 8945, 4.2)
abbrev pub type_TSIG : ℕ
type_TSIG = 250

-- whether one of the records is a TSIG
unfoldable pub has_tsig : List Entry → Bool
has_tsig [] = false
has_tsig (r ∷ records) = r.rtype == type_TSIG || has_tsig records

-- what the last additional record is, which begins at a position: a TSIG that counts is of class ANY, has the TTL 0, and no other comes before it
-- (RFC 8945, 4.2 and 5.2)
abbrev pub last_place : Bool → ℕ → Entry × ℕ → Place
last_place others at r =
    if others then Bad
    else if r.0.rtype == type_TSIG then (if r.0.class == 255 && r.0.ttl == 0 then At at else Bad)
    else Bare

-- what comes after the authority section, by whether a TSIG comes before its end, and how many additional records there are
abbrev pub additional_place : List ℕ → ℕ → ℕ → Bool → Option Place
additional_place msg count at others =
    if count == 0 then Some (if others then Bad else Bare)
    else option_and_then (λ r. option_map (last_place (others || has_tsig r.0) r.1) (record_at msg r.1)) (records_at (count - 1) msg at)

-- where the TSIG of a message stands; none where a question or a record can't be read (RFC 8945, 5.1 and 5.2)
abbrev pub place_in : List ℕ → Option Place
place_in msg =
    option_and_then (λ questions.
    option_and_then (λ answer.
    option_and_then (λ authority.
    additional_place msg (number_at msg 10) authority.1 (has_tsig answer.0 || has_tsig authority.0))
    (records_at (number_at msg 8) msg answer.1))
    (records_at (number_at msg 6) msg questions.1))
    (questions_at (number_at msg 4) msg 12)
