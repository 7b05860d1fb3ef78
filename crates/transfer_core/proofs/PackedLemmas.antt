-- The messages of a transfer, one after another.
use Rattle.std.proofs.Common.{◌≡◌, ◌≢◌, ℕ, ◌+◌, ◌-◌, ◌≤◌, Bool, true, false, cond, MatchOption, IfSome, All, List, [], ◌∷◌, ◌++◌, length, drop, map, Option, Some, None, is_some, Bor, refl, sym, ap, ◌∙◌, arith, append_assoc}
use Rattle.std.proofs.lemmas.List.{drop_at, drop-drop}
use Rattle.std.proofs.lemmas.List.Elements.{All-nil, All-cons}
use Rattle.std.specs.List.{flat_map}
use Rattle.std.specs.Option.{option_map, option_copied, option_to_list}
use Rattle.dns_name.specs.Name.{Name, IsName, is_same}
use Rattle.dns_rdata.specs.Record.{Record}
use Rattle.dns_message.specs.Answers.{sent, first_of, answers, filled}
use Rattle.dns_message.specs.Message.{Message}
use Rattle.dns_message.specs.Octets.{fits, reply_octets}
use Rattle.dns_message.specs.declared.answers.SentRecord.{SentRecord}
use Rattle.dns_message.specs.declared.edns.Opt.{Opt}
use Rattle.dns_message.specs.declared.query.Head.{Head}
use Rattle.dns_message.specs.declared.query.Question.{Question}
use Rattle.dns_message.proofs.SizeLemmas.{one_fits}
use Rattle.transfer_core.specs.Packed.{max_message, spelt, opt_beside, packed_behind, packed_later, packed_from, octets_of, whole_or, datagram_of, messages_left}

-- one record is taken from the front of a list, of which the first may have been taken before
pub stepped : (next later : Option Record) (old new : List Record) → (next ≡ None → old ≡ []) → MatchOption later ((old ≡ []) × (new ≡ [])) (λ r. old ≡ r ∷ new) → option_to_list later ++ new ≡ drop 1 (option_to_list next ++ old)
stepped (Some x) None old new ended h = h.1 ∙ sym h.0
stepped (Some x) (Some r) old new ended h = sym h
stepped None None old new ended h = h.1 ∙ sym (ap (drop 1) h.0)
stepped None (Some r) old new ended h = let nothing = ended refl in cc

pub drop-map : {A B : Type 0} (f : A → B) (xs : List A) → drop 1 (map f xs) ≡ map f (drop 1 xs)
drop-map f [] = refl
drop-map f (x ∷ xs) = refl

pub none_first : (name : Name) (next : Option Record) (rest : List Record) → next ≡ None → rest ≡ [] → None ≡ first_of (map (spelt name) (option_to_list next ++ rest))
none_first name next rest e f = rw (e, f) refl

pub some_first : (name : Name) (next : Option Record) (rest : List Record) (r shown : Record) → next ≡ Some r → shown ≡ spelt name r → Some shown ≡ first_of (map (spelt name) (option_to_list next ++ rest))
some_first name next rest r shown e f = rw e (ap Some f)

-- a record with its owner as the one who asked for a name is shown it
pub spelt_by : (name owner : Name) (r : Record) (b : Bool) → is_same r.owner name ≡ b → owner ≡ cond b name r.owner → record r { owner = owner } ≡ spelt name r
spelt_by name owner r true e f = rw (e, f) refl
spelt_by name owner r false e f = rw (e, f) refl

-- the first record of a list is a small one: its owner is a name, and its data has at most 4,096 octets
abbrev pub BeginsSmall : List Record → Type 0
BeginsSmall [] = Unit {0}
BeginsSmall (r ∷ rs) = IsName r.owner × (length r.rdata ≤ 4096)

pub begins_small : (o : Option SentRecord) (list : List Record) → option_map sent o ≡ first_of list → IfSome o (λ r. IsName r.owner.now) → IfSome o (λ r. length r.rdata.now ≤ 4096) → BeginsSmall list
begins_small o [] e name short = tt
begins_small None (r ∷ rs) e name short = cc
begins_small (Some s) (r ∷ rs) e name short =
    let same : sent s ≡ r = cc in
    rw (← same) (name, short)

-- by whether the next record fits
behind_by : (head : Head) (question : Option Question) (opt : Option Opt) (front : List Record) (r : Record) (rs : List Record) (b : Bool) → fits (answers head question opt (front ++ r ∷ [])) max_message ≡ b → packed_behind head question opt (front ++ r ∷ []) rs ≡ answers head question opt (filled head question opt max_message (front ++ r ∷ []) rs).0 ∷ packed_later head (filled head question opt max_message (front ++ r ∷ []) rs).1 → packed_behind head question opt front (r ∷ rs) ≡ answers head question opt (filled head question opt max_message front (r ∷ rs)).0 ∷ packed_later head (filled head question opt max_message front (r ∷ rs)).1
behind_by head question opt front r rs true e more = rw e more
behind_by head question opt front r rs false e more = rw e refl

-- the first of the messages takes as many records as fit
pub behind_filled : (head : Head) (question : Option Question) (opt : Option Opt) (front rest : List Record) → packed_behind head question opt front rest ≡ answers head question opt (filled head question opt max_message front rest).0 ∷ packed_later head (filled head question opt max_message front rest).1
behind_filled head question opt front [] = refl
behind_filled head question opt front (r ∷ rs) =
    behind_by head question opt front r rs (fits (answers head question opt (front ++ r ∷ [])) max_message) refl (behind_filled head question opt (front ++ r ∷ []) rs)

-- and so it is behind the question where the first record fits by itself
later_filled : (head : Head) (r : Record) (rs : List Record) → fits (answers head None None (r ∷ [])) max_message ≡ true → packed_later head (r ∷ rs) ≡ answers head None None (filled head None None max_message [] (r ∷ rs)).0 ∷ packed_later head (filled head None None max_message [] (r ∷ rs)).1
later_filled head r rs e = rw e (behind_filled head None None (r ∷ []) rs)

-- there is a message still: a question is to be sent, or a record is left
abbrev pub IsOpen : Option Question → List Record → Type 0
IsOpen None list = list ≢ []
IsOpen (Some question) list = Unit {0}

-- the first of the messages, and those behind it
abbrev pub first_and_later : Head → Option Question → Option Opt → List Record → List Message
first_and_later head question opt list =
    answers head question opt (filled head question opt max_message [] list).0 ∷ packed_later head (filled head question opt max_message [] list).1

first_message : (head : Head) (question : Option Question) (opt : Option Opt) (list : List Record) → IsOpen question list → BeginsSmall list → packed_from head question opt list ≡ first_and_later head question (opt_beside question opt) list
first_message head (Some question) opt list more small = behind_filled head (Some question) opt [] list
first_message head None opt [] more small = absurd (more refl)
first_message head None opt (r ∷ rs) more small = later_filled head r rs (one_fits head None r small.0 small.1)

-- the octets of the messages are those of the first, and then those of the others
pub next_octets : (head : Head) (question : Option Question) (opt later : Option Opt) (list left : List Record) (octets : List ℕ) → IsOpen question list → BeginsSmall list → octets ≡ reply_octets (answers head question (opt_beside question opt) (filled head question (opt_beside question opt) max_message [] list).0) → left ≡ (filled head question (opt_beside question opt) max_message [] list).1
    → octets_of (packed_from head question opt list) ≡ octets ∷ octets_of (packed_from head None later left)
next_octets head question opt later list left octets more small written rest =
    let own = opt_beside question opt in
    ap octets_of (first_message head question opt list more small)
    ∙ ap (λ (o : List ℕ). o ∷ octets_of (packed_later head (filled head question own max_message [] list).1)) (sym written)
    ∙ ap (λ (records : List Record). octets ∷ octets_of (packed_later head records)) (sym rest)

-- where the first record of a list is there, a message is
pub open_listed : (o : Option SentRecord) (question : Option Question) (list : List Record) → option_map sent o ≡ first_of list → is_some o ≡ true → IsOpen question list
open_listed o (Some q) list e some = tt
open_listed (Some s) None [] e some = cc
open_listed None None [] e some = cc
open_listed o None (r ∷ rs) e some = λ nothing. cc

-- where a question is to be sent, a message is
pub open_asked : (question : Option Question) (list : List Record) → is_some question ≡ true → IsOpen question list
open_asked None list some = cc
open_asked (Some q) list some = tt

pub copied_some : {T : Type 0} (o : Option (Bor T)) → is_some o ≡ true → is_some (option_copied o) ≡ true
copied_some None some = cc
copied_some (Some x) some = refl

-- what was written with the question and the OPT beside it, and what is left without one
pub packs : (head : Head) (question asked later : Option Question) (opt beside kept : Option Opt) (limit : ℕ) (list left : List Record) (octets : List ℕ) → limit ≡ max_message → asked ≡ question → beside ≡ opt_beside asked opt → later ≡ None → IsOpen question list → BeginsSmall list → octets ≡ reply_octets (answers head asked beside (filled head asked beside limit [] list).0) → left ≡ (filled head asked beside limit [] list).1
    → octets_of (packed_from head question opt list) ≡ octets ∷ octets_of (packed_from head later kept left)
packs head question asked later opt beside kept limit list left octets size same is_present none more small written rest =
    let own : beside ≡ opt_beside question opt = is_present ∙ ap (λ (q : Option Question). opt_beside q opt) same in
    let reported = written ∙ ap (λ (o : Option Opt). reply_octets (answers head asked o (filled head asked o limit [] list).0)) own ∙ ap (λ (q : Option Question). reply_octets (answers head q (opt_beside question opt) (filled head q (opt_beside question opt) limit [] list).0)) same ∙ ap (λ (n : ℕ). reply_octets (answers head question (opt_beside question opt) (filled head question (opt_beside question opt) n [] list).0)) size in
    let others = rest ∙ ap (λ (o : Option Opt). (filled head asked o limit [] list).1) own ∙ ap (λ (q : Option Question). (filled head q (opt_beside question opt) limit [] list).1) same ∙ ap (λ (n : ℕ). (filled head question (opt_beside question opt) n [] list).1) size in
    next_octets head question opt kept list left octets more small reported others
    ∙ ap (λ (q : Option Question). octets ∷ octets_of (packed_from head q kept left)) (sym none)

-- the one message over UDP was written, and none is left
pub sends_one : (head : Head) (question later : Option Question) (opt kept : Option Opt) (room limit : ℕ) (soa : Option (List Record)) (list left : List Record) (q : Question) (one : List Record) (octets : List ℕ) → room ≡ limit → question ≡ Some q → soa ≡ Some one → later ≡ None → octets ≡ datagram_of head q opt room list one
    → messages_left head question opt limit soa list ≡ octets ∷ messages_left head later kept limit soa left
sends_one head question later opt kept room limit soa list left q one octets size asked is none written =
    rw (asked, is, none) (ap (λ (n : ℕ). datagram_of head q opt n list one ∷ []) (sym size) ∙ ap (λ (o : List ℕ). o ∷ []) (sym written))

-- what is behind the front of a buffer stays where the front is another of the same length
pub drop_behind : (k n : ℕ) (new out : List ℕ) → k ≤ n → length new ≡ k → drop n (new ++ drop k out) ≡ drop n out
drop_behind k n new out h size =
    let place : n ≡ k + (n - k) = omega arith in
    ap (λ (m : ℕ). drop m (new ++ drop k out)) place
    ∙ sym (drop-drop (n - k) k (new ++ drop k out))
    ∙ ap (drop (n - k)) (drop_at new (drop k out) k size)
    ∙ drop-drop (n - k) k out
    ∙ ap (λ (m : ℕ). drop m out) (sym place)

-- whether all records are taken tells what is sent
pub all_taken : (whole other : List ℕ) (o : Option SentRecord) (left : List Record) → option_map sent o ≡ first_of left → is_some o ≡ false → whole ≡ whole_or whole other left
all_taken whole other o [] e none = refl
all_taken whole other None (r ∷ rs) e none = cc
all_taken whole other (Some s) (r ∷ rs) e none = cc

pub some_left : (whole other : List ℕ) (o : Option SentRecord) (left : List Record) → option_map sent o ≡ first_of left → is_some o ≡ true → other ≡ whole_or whole other left
some_left whole other None [] e some = cc
some_left whole other (Some s) [] e some = cc
some_left whole other o (r ∷ rs) e some = refl

-- what holds of the messages where the next record fits, and where it doesn't
by_next : (P : List Message → Type 0) (head : Head) (question : Option Question) (opt : Option Opt) (front : List Record) (r : Record) (rs : List Record) (b : Bool) → fits (answers head question opt (front ++ r ∷ [])) max_message ≡ b → P (packed_behind head question opt (front ++ r ∷ []) rs) → P (answers head question opt front ∷ packed_behind head None None (r ∷ []) rs) → P (packed_behind head question opt front (r ∷ rs))
by_next P head question opt front r rs true e more apart = rw e more
by_next P head question opt front r rs false e more apart = rw e apart

-- the messages have all records
behind_records : (head : Head) (question : Option Question) (opt : Option Opt) (front rest : List Record) → flat_map (λ (m : Message). m.answer) (packed_behind head question opt front rest) ≡ front ++ rest
behind_records head question opt front [] = refl
behind_records head question opt front (r ∷ rs) =
    by_next (λ ms. flat_map (λ (m : Message). m.answer) ms ≡ front ++ r ∷ rs) head question opt front r rs (fits (answers head question opt (front ++ r ∷ [])) max_message) refl
    (behind_records head question opt (front ++ r ∷ []) rs ∙ append_assoc front (r ∷ []) rs)
    (ap (λ (t : List Record). front ++ t) (behind_records head None None (r ∷ []) rs))

pub all_records : (head : Head) (question : Option Question) (opt : Option Opt) (list : List Record) → flat_map (λ (m : Message). m.answer) (packed_from head question opt list) ≡ list
all_records head None opt [] = refl
all_records head None opt (r ∷ rs) = behind_records head None None (r ∷ []) rs
all_records head (Some question) opt list = behind_records head (Some question) opt [] list

-- they have one header
behind_head : (head : Head) (question : Option Question) (opt : Option Opt) (front rest : List Record) → All (λ (m : Message). m.head ≡ head) (packed_behind head question opt front rest)
behind_head head question opt front [] = All-cons (λ (m : Message). m.head ≡ head) (answers head question opt front) [] refl (All-nil (λ (m : Message). m.head ≡ head))
behind_head head question opt front (r ∷ rs) =
    by_next (λ ms. All (λ (m : Message). m.head ≡ head) ms) head question opt front r rs (fits (answers head question opt (front ++ r ∷ [])) max_message) refl
    (behind_head head question opt (front ++ r ∷ []) rs)
    (All-cons (λ (m : Message). m.head ≡ head) (answers head question opt front) (packed_behind head None None (r ∷ []) rs) refl (behind_head head None None (r ∷ []) rs))

pub same_head : (head : Head) (question : Option Question) (opt : Option Opt) (list : List Record) → All (λ (m : Message). m.head ≡ head) (packed_from head question opt list)
same_head head None opt [] = All-nil (λ (m : Message). m.head ≡ head)
same_head head None opt (r ∷ rs) = behind_head head None None (r ∷ []) rs
same_head head (Some question) opt list = behind_head head (Some question) opt [] list

-- what holds of each message without a question and an OPT holds of those behind the first
module _ (P : Message → Type 0) (own : (head : Head) (records : List Record) → P (answers head None None records)) where
  later : (head : Head) (front rest : List Record) → All P (packed_behind head None None front rest)
  later head front [] = All-cons P (answers head None None front) [] (own head front) (All-nil P)
  later head front (r ∷ rs) =
      by_next (λ ms. All P ms) head None None front r rs (fits (answers head None None (front ++ r ∷ [])) max_message) refl
      (later head (front ++ r ∷ []) rs)
      (All-cons P (answers head None None front) (packed_behind head None None (r ∷ []) rs) (own head front) (later head (r ∷ []) rs))

  behind_first : (head : Head) (question : Option Question) (opt : Option Opt) (front rest : List Record) → All P (drop 1 (packed_behind head question opt front rest))
  behind_first head question opt front [] = All-nil P
  behind_first head question opt front (r ∷ rs) =
      by_next (λ ms. All P (drop 1 ms)) head question opt front r rs (fits (answers head question opt (front ++ r ∷ [])) max_message) refl
      (behind_first head question opt (front ++ r ∷ []) rs)
      (later head (r ∷ []) rs)

  pub of_later : (head : Head) (question : Option Question) (opt : Option Opt) (list : List Record) → All P (drop 1 (packed_from head question opt list))
  of_later head None opt [] = All-nil P
  of_later head None opt (r ∷ rs) = behind_first head None None (r ∷ []) rs
  of_later head (Some question) opt list = behind_first head (Some question) opt [] list

-- those behind the first have no question, and no OPT
pub no_question : (head : Head) (question : Option Question) (opt : Option Opt) (list : List Record) → All (λ (m : Message). m.question ≡ None) (drop 1 (packed_from head question opt list))
no_question = of_later (λ (m : Message). m.question ≡ None) (λ head records. refl)

pub no_opt : (head : Head) (question : Option Question) (opt : Option Opt) (list : List Record) → All (λ (m : Message). m.opt ≡ None) (drop 1 (packed_from head question opt list))
no_opt = of_later (λ (m : Message). m.opt ≡ None) (λ head records. refl)
