-- How many of the records of a list a message has, by its header.
use Rattle.std.proofs.Common.{◌≡◌, sym, ap, ◌∙◌, ℕ, ◌<◌, ◌≤◌, ◌^◌, MatchOption, List, [], ◌∷◌, ◌++◌, length, take, drop, map, Option, Some, None, arith}
use Rattle.std.proofs.Math.Seq.{drop-append_seam}
use Rattle.std.proofs.lemmas.List.{drop-map}
use Rattle.std.proofs.lemmas.Nat.{from_be_bytes-to_be_bytes_2}
use Rattle.dns_name.specs.Name.{Name}
use Rattle.dns_rdata.specs.Record.{Record}
use Rattle.dns_message.specs.Answers.{answers, filled}
use Rattle.dns_message.specs.Message.{Message, number_at}
use Rattle.dns_message.specs.Octets.{reply_octets}
use Rattle.dns_message.specs.declared.edns.Opt.{Opt}
use Rattle.dns_message.specs.declared.query.Head.{Head}
use Rattle.dns_message.specs.declared.query.Question.{Question}
use Rattle.dns_message.proofs.AnswersLemmas.{filled_all}
use Rattle.dns_message.proofs.OctetsLemmas.{sections_fill}
use Rattle.transfer_core.specs.Packed.{max_message, spelt, packed_from, packed_later, octets_of}
use Rattle.transfer_core.proofs.PackedLemmas.{behind_filled}

-- the third number of a reply's octets is how many records its answer section has
pub answer_told : (m : Message) → length m.answer < 2 ^ 16 → number_at (reply_octets m) 6 ≡ length m.answer
answer_told m few = from_be_bytes-to_be_bytes_2 (length m.answer) few

-- what is left of records behind a message is behind as many as it has
pub passed : (head : Head) (question : Option Question) (opt : Option Opt) (limit : ℕ) (list left : List Record) (count : ℕ) → left ≡ (filled head question opt limit [] list).1 → count ≡ length (filled head question opt limit [] list).0 → left ≡ drop count list
passed head question opt limit list left count rest counted =
    let parts = filled head question opt limit [] list in
    rest
    ∙ sym (drop-append_seam parts.0 parts.1)
    ∙ ap (drop (length parts.0)) (filled_all head question opt limit [] list)
    ∙ ap (λ n. drop n list) (sym counted)

-- what was written of records that are those of a list as the one who asked for a name is shown them
pub written_of : (head : Head) (question : Option Question) (opt : Option Opt) (name : Name) (list old new : List Record) (before after : List ℕ) (r : Option (ℕ × ℕ)) → old ≡ map (spelt name) list
    → MatchOption r ((question ≡ None) × (old ≡ []) × (new ≡ []) × (after ≡ before)) (λ m. (octets_of (packed_from head question opt old) ≡ take m.0 after ∷ octets_of (packed_later head new)) × (m.0 ≤ max_message) × (new ≡ drop m.1 old))
    → MatchOption r (octets_of (packed_from head question opt (map (spelt name) list)) ≡ []) (λ m. octets_of (packed_from head question opt (map (spelt name) list)) ≡ take m.0 after ∷ octets_of (packed_later head (map (spelt name) (drop m.1 list))))
written_of head question opt name list old new before after None same h =
    ap (λ (l : List Record). octets_of (packed_from head question opt l)) (sym same ∙ h.1)
    ∙ ap (λ (q : Option Question). octets_of (packed_from head q opt [])) h.0
written_of head question opt name list old new before after (Some m) same h =
    ap (λ (l : List Record). octets_of (packed_from head question opt l)) (sym same)
    ∙ h.0
    ∙ ap (λ (l : List Record). take m.0 after ∷ octets_of (packed_later head l)) (h.2 ∙ ap (drop m.1) same ∙ drop-map (spelt name) m.1 list)

abbrev head_of : List (List ℕ) → List ℕ
head_of [] = []
head_of (octets ∷ later) = octets

abbrev rest_of : List (List ℕ) → List (List ℕ)
rest_of [] = []
rest_of (octets ∷ later) = later

-- what the first message of a list tells of what is left
pub record Tells (head : Head) (list : List Record) (octets : List ℕ) (later : List (List ℕ)) : Type 0 where
  pub header : 12 ≤ length octets
  pub left : later ≡ octets_of (packed_later head (drop (number_at octets 6) list))

tells_by : (head : Head) (list left : List Record) (m : Message) (octets : List ℕ) (later : List (List ℕ)) → m.answer ++ left ≡ list → octets_of (m ∷ packed_later head left) ≡ octets ∷ later → length octets ≤ max_message → Tells head list octets later
tells_by head list left m octets later parts e short =
    let same : reply_octets m ≡ octets = ap head_of e in
    let rest : octets_of (packed_later head left) ≡ later = ap rest_of e in
    let long : length (reply_octets m) ≡ length octets = ap length same in
    let few : length m.answer < 2 ^ 16 = omega (arith, (sections_fill m).answer, long, short) in
    let reported : number_at octets 6 ≡ length m.answer = ap (λ o. number_at o 6) (sym same) ∙ answer_told m few in
    let whole : 12 ≤ length (reply_octets m) = omega arith in
    let behind : drop (number_at octets 6) list ≡ left = ap (λ n. drop n list) reported ∙ ap (drop (length m.answer)) (sym parts) ∙ drop-append_seam m.answer left in
    record {
      header = omega (arith, whole, long);
      left = sym rest ∙ ap (λ l. octets_of (packed_later head l)) (sym behind);
    }

pub tells : (head : Head) (question : Option Question) (opt : Option Opt) (list : List Record) (octets : List ℕ) (later : List (List ℕ)) → octets_of (packed_from head question opt list) ≡ octets ∷ later → length octets ≤ max_message → Tells head list octets later
tells head None opt [] octets later e short = cc
tells head None opt (r ∷ rs) octets later e short =
    let parts = filled head None None max_message (r ∷ []) rs in
    tells_by head (r ∷ rs) parts.1 (answers head None None parts.0) octets later (filled_all head None None max_message (r ∷ []) rs) (ap octets_of (sym (behind_filled head None None (r ∷ []) rs)) ∙ e) short
tells head (Some question) opt list octets later e short =
    let parts = filled head (Some question) opt max_message [] list in
    tells_by head list parts.1 (answers head (Some question) opt parts.0) octets later (filled_all head (Some question) opt max_message [] list) (ap octets_of (sym (behind_filled head (Some question) opt [] list)) ∙ e) short
