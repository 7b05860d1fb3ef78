-- How the reply that is written becomes a NOTIFY.
use Rattle.std.proofs.Common.{◌≡◌, Bool, ℕ, ◌<◌, true, false, List, [], ◌∷◌, ◌++◌, length, map, take, Some, None, refl, sym, ap, ◌∙◌, arith, length-append}
use Rattle.std.proofs.Math.Seq.{take-set-lt}
use Rattle.std.proofs.lemmas.List.{append-nil, length-set, length-take}
use Rattle.std.specs.Prelude.{slice_set, nat_le, not, ◌&&◌, if◌then◌else◌}
use Rattle.dns_name.specs.Name.{Name}
use Rattle.dns_rdata.specs.Record.{Record, owner_of, shown_as}
use Rattle.dns_message.specs.Answers.{answers, placed}
use Rattle.dns_message.specs.Encoding.{each, before, these}
use Rattle.dns_message.specs.Octets.{reply_octets, truncated, fits, fit}
use Rattle.dns_message.specs.declared.query.Head.{Head}
use Rattle.dns_message.specs.declared.query.Question.{Question}
use Rattle.dns_message.proofs.AnswersLemmas.{answers_octets}
use Rattle.dns_message.proofs.OctetsLemmas.{truncated_octets}
use Rattle.zone_tree.specs.Zone.{soa_of, apex_of}
use Rattle.notify.specs.Notify.{notify_header, notify_with, notify_within, notify_octets}

-- the set of one record, as its own owner shows it, is that set
pub shown_one : (rs : List Record) → length rs ≡ 1 → map (shown_as (owner_of rs) None) rs ≡ rs
shown_one [] one = absurd (omega (arith, one))
shown_one (r ∷ []) one = refl
shown_one (r ∷ s ∷ ss) one = absurd (omega (arith, one))

-- with the flags of a NOTIFY the whole reply is one
whole : (head : Head) (q : Question) (rs : List Record) → slice_set (reply_octets (answers head (Some q) None rs)) 2 36 ≡ notify_with head.id q rs
whole head q rs =
    ap (λ (octets : List ℕ). slice_set octets 2 36) (answers_octets head (Some q) None rs)
    ∙ ap (λ (body : List ℕ). notify_header head.id (length rs) ++ body) (append-nil (placed (Some q) rs [] 12).0)

-- and the truncated reply is one without an answer
cut : (head : Head) (q : Question) (rs : List Record) → slice_set (reply_octets (truncated (answers head (Some q) None rs))) 2 36 ≡ notify_with head.id q []
unfolding each before these
cut head q rs =
    ap (λ (octets : List ℕ). slice_set octets 2 36) (truncated_octets (answers head (Some q) None rs))

-- two ways to say one thing
pick : (b : Bool) (x y : List ℕ) → (if b then x else if not false && b then x else y) ≡ (if b then x else y)
pick true x y = refl
pick false x y = refl

-- the same octet is changed in either of two lists
set_if : (b : Bool) (x y x' y' : List ℕ) → slice_set x 2 36 ≡ x' → slice_set y 2 36 ≡ y' → slice_set (if b then x else y) 2 36 ≡ (if b then x' else y')
set_if true x y x' y' front back = front
set_if false x y x' y' front back = back

-- with the flags of a NOTIFY the reply as it is cut is one
sent : (head : Head) (q : Question) (rs : List Record) → slice_set (fit (answers head (Some q) None rs) 512) 2 36 ≡ notify_within head.id q rs
sent head q rs =
    let m = answers head (Some q) None rs in
    let size : length (reply_octets m) ≡ length (notify_with head.id q rs) = sym (length-set (reply_octets m) 2 36) ∙ ap length (whole head q rs) in
    ap (λ (octets : List ℕ). slice_set octets 2 36) (pick (fits m 512) (reply_octets m) (reply_octets (truncated m)))
    ∙ set_if (fits m 512) _ _ _ _ (whole head q rs) (cut head q rs)
    ∙ ap (λ (n : ℕ). if nat_le n 512 then notify_with head.id q rs else notify_with head.id q []) size

-- a NOTIFY has a header
with_long : (id : ℕ) (q : Question) (rs : List Record) → 2 < length (notify_with id q rs)
with_long id q rs = omega (arith, length-append (notify_header id (length rs)) (placed (Some q) rs [] 12).0)

if_long : (b : Bool) (x y : List ℕ) → 2 < length x → 2 < length y → 2 < length (if b then x else y)
if_long true x y front back = front
if_long false x y front back = back

-- octets that were written as a reply, with the flags of a NOTIFY
flagged : (head : Head) (q : Question) (rs : List Record) (len : ℕ) (out : List ℕ) → take len out ≡ fit (answers head (Some q) None rs) 512 → take len (slice_set out 2 36) ≡ notify_within head.id q rs
flagged head q rs len out written =
    let own = ap (λ (octets : List ℕ). slice_set octets 2 36) written ∙ sent head q rs in
    let size : length (take len out) ≡ length (notify_within head.id q rs) = sym (length-set (take len out) 2 36) ∙ ap length own in
    let some : 2 < length (notify_within head.id q rs) = if_long (nat_le (length (notify_with head.id q rs)) 512) _ _ (with_long head.id q rs) (with_long head.id q []) in
    let above : 2 < len = omega (arith, size, some, length-take len out) in
    take-set-lt len out 2 36 above ∙ own

-- the question of an SOA at a name
abbrev asked : Name → Question
asked name = record { name = name; rtype = record { 0 = 6 }; class = record { 0 = 1 } }

-- and where these are of a zone's apex and its SOA, they are the zone's NOTIFY
pub notified : (zone : List Record) (head : Head) (name : Name) (soa : List Record) (len : ℕ) (out : List ℕ) → name ≡ apex_of zone → soa ≡ soa_of zone → length soa ≡ 1
    → take len out ≡ fit (answers head (Some (record { name = name; rtype = record { 0 = 6 }; class = record { 0 = 1 } })) None (map (shown_as name None) soa)) 512
    → take len (slice_set out 2 36) ≡ notify_octets head.id zone
unfolding notify_octets
notified zone head name soa len out apex set one written =
    flagged head (asked name) (map (shown_as name None) soa) len out written
    ∙ ap (λ (owner : Name). notify_within head.id (asked owner) (map (shown_as owner None) soa)) apex
    ∙ ap (λ (rs : List Record). notify_within head.id (asked (apex_of zone)) (map (shown_as (apex_of zone) None) rs)) set
    ∙ ap (notify_within head.id (asked (apex_of zone))) (shown_one (soa_of zone) (sym (ap length set) ∙ one))
