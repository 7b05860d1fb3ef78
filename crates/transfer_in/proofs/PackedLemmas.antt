-- The messages of a transfer are received as the list that they were made of.
use Rattle.std.proofs.Common.{◌≡◌, ℕ, ◌<◌, ◌≤◌, ◌^◌, Bool, true, false, cond, All, List, [], ◌∷◌, ◌++◌, length, map, Option, Some, None, unwrap_or, refl, sym, ap, ◌∙◌, arith}
use Rattle.std.specs.List.{AllByRecursion, flat_map}
use Rattle.std.proofs.lemmas.Bool.{leb-true}
use Rattle.std.proofs.lemmas.List.{append-nil, map-append}
use Rattle.std.proofs.lemmas.List.Elements.{All-nil, All-cons, All-weaker, All-from_recursion, recursion_from_All}
use Rattle.dns_name.specs.Name.{Name, IsName, fold_name, is_same}
use Rattle.dns_rdata.specs.Numbers.{class_IN}
use Rattle.dns_rdata.specs.Raw.{RawRecord}
use Rattle.dns_rdata.specs.Record.{Record, IsLawful, shown_as}
use Rattle.dns_rdata.specs.declared.numbers.Rcode.TheVariants.{NoError}
use Rattle.message_laws.specs.Again.{IsRecord, IsReply}
use Rattle.dns_message.specs.Answers.{answers, filled}
use Rattle.dns_message.specs.Asked.{IsQuestion}
use Rattle.dns_message.specs.Message.{Message}
use Rattle.dns_message.specs.Octets.{questions, reply_octets, fits, fit}
use Rattle.dns_message.specs.Received.{as_received}
use Rattle.dns_message.specs.declared.edns.Opt.{Opt}
use Rattle.dns_message.specs.declared.query.Head.{Head}
use Rattle.dns_message.specs.declared.query.Question.{Question}
use Rattle.message_laws.proofs.AnsweredLemmas.{answers_received}
use Rattle.dns_message.proofs.AnswersLemmas.{filled_is}
use Rattle.dns_message.proofs.SizeLemmas.{one_fits, question_fits}
use Rattle.zone_tree.proofs.NameOrder.{folds_from_same}
use Rattle.transfer_core.specs.Lists.{as_sent}
use Rattle.transfer_core.specs.Packed.{max_message, spelt, packed_behind, packed, octets_of, whole_or, datagram}
use Rattle.transfer_core.proofs.PackedLemmas.{all_records}
use Rattle.transfer_in.specs.Sendable.{IsSendable}
use Rattle.transfer_in.specs.Taking.{unreadable, records_of_messages}

-- a record that a message can carry by itself
record IsCarried (r : Record) : Type 0 where
  is : IsRecord r
  short : length r.rdata ≤ 4096

-- a message whose records are received
record IsWhole (m : Message) : Type 0 where
  reply : IsReply m
  code : m.rcode ≡ NoError

answers_whole : (head : Head) (question : Option Question) (opt : Option Opt) (front : List Record) → All IsQuestion (questions question) → AllByRecursion IsCarried front → length (reply_octets (answers head question opt front)) < 2 ^ 16 → IsWhole (answers head question opt front)
answers_whole head question opt front asked each short = record {
  reply = record {
    question = asked;
    answer = All-weaker IsCarried IsRecord (λ r h. h.is) front (All-from_recursion IsCarried front each);
    authority = All-nil IsRecord;
    additional = All-nil IsRecord;
    carried = short;
  };
  code = refl;
}

-- a message that fits can be carried
fitting : (m : Message) (limit : ℕ) → fits m limit ≡ true → length (reply_octets m) < 2 ^ 16
fitting m limit e = omega (arith, leb-true _ _ e)

pushed : (front : List Record) (r : Record) → AllByRecursion IsCarried front → IsCarried r → AllByRecursion IsCarried (front ++ r ∷ [])
pushed [] r each h = (h, tt)
pushed (x ∷ xs) r each h = (each.0, pushed xs r each.1 h)

-- what holds of the messages where the next record fits, and where it doesn't
by_next : (P : List Message → Type 0) (head : Head) (question : Option Question) (opt : Option Opt) (front : List Record) (r : Record) (rs : List Record) (b : Bool) → fits (answers head question opt (front ++ r ∷ [])) max_message ≡ b → (b ≡ true → P (packed_behind head question opt (front ++ r ∷ []) rs)) → P (answers head question opt front ∷ packed_behind head None None (r ∷ []) rs) → P (packed_behind head question opt front (r ∷ rs))
by_next P head question opt front r rs true e more apart = rw e (more refl)
by_next P head question opt front r rs false e more apart = rw e apart

-- each message can be carried: it fits, or has one record that fits by itself
behind_whole : (head : Head) (question : Option Question) (opt : Option Opt) (front rest : List Record) → All IsQuestion (questions question) → AllByRecursion IsCarried front → AllByRecursion IsCarried rest → length (reply_octets (answers head question opt front)) < 2 ^ 16 → AllByRecursion IsWhole (packed_behind head question opt front rest)
behind_whole head question opt front [] asked each rest short = (answers_whole head question opt front asked each short, tt)
behind_whole head question opt front (r ∷ rs) asked each rest short =
    by_next (AllByRecursion IsWhole) head question opt front r rs (fits (answers head question opt (front ++ r ∷ [])) max_message) refl
    (λ e. behind_whole head question opt (front ++ r ∷ []) rs asked (pushed front r each rest.0) rest.1 (fitting (answers head question opt (front ++ r ∷ [])) max_message e))
    (answers_whole head question opt front asked each short, behind_whole head None None (r ∷ []) rs (All-nil IsQuestion) (rest.0, tt) rest.1 (fitting (answers head None None (r ∷ [])) max_message (one_fits head None r rest.0.is.owner rest.0.short)))

-- messages are received one after another
whole_received : (ms : List Message) → AllByRecursion IsWhole ms → records_of_messages (octets_of ms) ≡ map as_received (flat_map (λ (m : Message). m.answer) ms)
whole_received [] each = refl
whole_received (m ∷ ms) each =
    ap (λ (o : Option (List RawRecord)). unwrap_or o (unreadable ∷ []) ++ records_of_messages (octets_of ms)) (answers_received m each.0.reply each.0.code)
    ∙ ap (λ (t : List RawRecord). map as_received m.answer ++ t) (whole_received ms each.1)
    ∙ sym (map-append as_received m.answer (flat_map (λ (n : Message). n.answer) ms))

-- a record is received as it is sent, where its owner folds to that
abbrev under_owner : Record → Name → RawRecord
under_owner r owner = record { owner = owner; rtype = r.rtype; class = class_IN; ttl = r.ttl; octets = r.rdata }

with_owner : (r : Record) (owner : Name) → fold_name owner ≡ r.owner → as_received (record r { owner = owner }) ≡ as_sent r
with_owner r owner e = ap (under_owner r) e

-- and so it is under the spelling asked for
spelt_received : (name : Name) (r : Record) → IsLawful r → as_received (spelt name r) ≡ as_sent r
spelt_received name r h = by (is_same r.owner name) refl
  where
    by : (b : Bool) → is_same r.owner name ≡ b → as_received (cond b (record r { owner = name }) r) ≡ as_sent r
    by true e = with_owner r name (sym (h.folded ∙ folds_from_same r.owner name e))
    by false e = with_owner r r.owner (sym h.folded)

all_received : (name : Name) (list : List Record) → AllByRecursion IsSendable list → map as_received (map (spelt name) list) ≡ map as_sent list
all_received name [] each = refl
all_received name (r ∷ rs) each =
    ap (λ (x : RawRecord). x ∷ map as_received (map (spelt name) rs)) (spelt_received name r each.0.lawful)
    ∙ ap (λ (t : List RawRecord). as_sent r ∷ t) (all_received name rs each.1)

carried : (r : Record) (owner : Name) → IsName owner → IsSendable r → IsCarried (record r { owner = owner })
carried r owner lawful h = let lasts = h.lawful.lasts in record { is = record { owner = lawful; ttl = omega (arith, lasts); form = h.lawful.form }; short = h.short }

spelt_carried : (name : Name) (r : Record) → IsName name → IsSendable r → IsCarried (spelt name r)
spelt_carried name r lawful h = by (is_same r.owner name)
  where
    by : (b : Bool) → IsCarried (cond b (record r { owner = name }) r)
    by true = carried r name lawful h
    by false = carried r r.owner h.lawful.name h

all_carried : (name : Name) (list : List Record) → IsName name → AllByRecursion IsSendable list → AllByRecursion IsCarried (map (spelt name) list)
all_carried name [] lawful each = tt
all_carried name (r ∷ rs) lawful each = (spelt_carried name r lawful each.0, all_carried name rs lawful each.1)

-- the octets of a list's messages are received as the list
pub packed_received : (head : Head) (question : Question) (opt : Option Opt) (list : List Record) → IsQuestion question → All IsSendable list → records_of_messages (octets_of (packed head question opt list)) ≡ map as_sent list
packed_received head question opt list asked each =
    let own = recursion_from_All IsSendable list each in
    let shown = map (spelt question.name) list in
    let one = All-cons IsQuestion question [] asked (All-nil IsQuestion) in
    let short = fitting (answers head (Some question) opt []) max_message (question_fits head opt question asked.name) in
    whole_received (packed head question opt list) (behind_whole head (Some question) opt [] shown one tt (all_carried question.name list asked.name own) short)
    ∙ ap (map as_received) (all_records head (Some question) opt shown)
    ∙ all_received question.name list own

-- and so is a datagram that has the whole of it
abbrev by_parts : Head → Question → Option Opt → List ℕ → List Record × List Record → List ℕ
by_parts head question opt other parts = whole_or (reply_octets (answers head (Some question) opt parts.0)) other parts.1

pub datagram_received : (head : Head) (question : Question) (opt : Option Opt) (limit : ℕ) (list soa : List Record) → IsQuestion question → All IsSendable list → fits (answers head (Some question) opt (map (spelt question.name) list)) limit ≡ true → records_of_messages (datagram head question opt limit list soa ∷ []) ≡ map as_sent list
datagram_received head question opt limit list soa asked each whole =
    let own = recursion_from_All IsSendable list each in
    let shown = map (spelt question.name) list in
    let m = answers head (Some question) opt shown in
    let one = All-cons IsQuestion question [] asked (All-nil IsQuestion) in
    let other = fit (answers head (Some question) opt (map (shown_as question.name None) soa)) limit in
    let parts : filled head (Some question) opt limit [] shown ≡ (shown, []) =
    ap (filled head (Some question) opt limit []) (sym (append-nil shown)) ∙ filled_is head (Some question) opt limit [] shown [] whole tt in
    let sent = answers_whole head (Some question) opt shown one (all_carried question.name list asked.name own) (fitting m limit whole) in
    ap (λ p. records_of_messages (by_parts head question opt other p ∷ [])) parts
    ∙ whole_received (m ∷ []) (sent, tt)
    ∙ ap (map as_received) (append-nil shown)
    ∙ all_received question.name list own
