-- The messages of a transfer from a place on.
use Rattle.std.proofs.Common.{◌≡◌, sym, ap, ◌∙◌, ℕ, Bool, true, List, ◌∷◌, drop, map, Option, refl}
use Rattle.dns_rdata.specs.Record.{Record}
use Rattle.dns_message.specs.declared.edns.Opt.{Opt}
use Rattle.dns_message.specs.declared.query.Query.{Query}
use Rattle.dns_message.specs.declared.query.Question.{Question}
use Rattle.zone_tree.specs.Version.{Version}
use Rattle.transfer_core.specs.Packed.{spelt, packed_from, packed_later, octets_of}
use Rattle.transfer_core.specs.Places.{left_at}
use Rattle.transfer_core.specs.declared.place.Place.{Place}
use Rattle.serve_core.specs.Heading.{reply_opt}
use Rattle.zone_replies.specs.RemainingMessages.{question_left, messages_of_records, messages_from}

-- the messages of the records that are left of a list, from a place on
pub from_list : (zone : List Record) (versions : List Version) (query : Query) (begun : Bool) (place : Place) (question : Option Question) (opt : Option Opt) (list : List Record) → question ≡ question_left begun query → opt ≡ reply_opt query.edns → list ≡ left_at zone versions place
    → messages_from zone versions query begun place ≡ octets_of (packed_from query.head question opt (map (spelt query.question.name) list))
from_list zone versions query begun place question opt list asked beside here = rw (asked, beside, here) refl

-- so they are one, and those from the place behind its records on
pub from_place : (zone : List Record) (versions : List Version) (query : Query) (begun : Bool) (place behind : Place) (question : Option Question) (opt : Option Opt) (list : List Record) (octets : List ℕ) (count : ℕ) → question ≡ question_left begun query → opt ≡ reply_opt query.edns → list ≡ left_at zone versions place
    → octets_of (packed_from query.head question opt (map (spelt query.question.name) list)) ≡ octets ∷ octets_of (packed_later query.head (map (spelt query.question.name) (drop count list)))
    → left_at zone versions behind ≡ drop count (left_at zone versions place) → messages_from zone versions query begun place ≡ octets ∷ messages_from zone versions query true behind
from_place zone versions query begun place behind question opt list octets count asked beside here e is =
    from_list zone versions query begun place question opt list asked beside here
    ∙ e
    ∙ ap (λ l. octets ∷ messages_of_records query true l) (ap (drop count) here ∙ sym is)
