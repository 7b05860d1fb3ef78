-- What is known on connections on which updates are pending.
use Rattle.std.proofs.Common.{◌≡◌, refl, Bool, true, false, ◌⊎◌, inl, inr, ⊎_elim, ◌++◌, ℕ, zero, suc, ◌+◌, ◌<◌, ◌≤◌, length, List, [], ◌∷◌, Option, None, Some, sym, ap, ◌∙◌, append_assoc, subst}
use Rattle.std.specs.Bool.{OnTrue}
use Rattle.std.specs.Prelude.{◌≢◌, remove, slice_get, slice_index_or, slice_set, replicate}
use Rattle.std.proofs.lemmas.List.{length-set}
use Rattle.std.proofs.lemmas.List.Elements.{All-set, All-weaker, All-append, All-replicate}
use Rattle.std.proofs.lemmas.Option.{slice_get_within, get_or_from_slice_get}
use Rattle.zone_tree.specs.Version.{Version}
use Rattle.snapshot_cell.specs.Tokens.{ReaderState}
use Rattle.requests.specs.Served.{Learned, Grows}
use Rattle.requests.proofs.TurnLemmas.{grows_itself, grows_more}
use Rattle.tcp_connections.specs.Requests.{EachGrows}
use Rattle.zone_server.specs.Known.{learned_by}
use Rattle.zone_replies.specs.declared.pending_updates.ReplyPlace.{ReplyPlace}
use Rattle.zone_replies.specs.State.{PendingState}
use Rattle.std.specs.declared.net.socket_addr.SocketAddr.{SocketAddr}
use Rattle.zone_server.specs.declared.open_ticket.WaitingTicket.{WaitingTicket}
use Rattle.zone_server.specs.declared.update_result.Poll.{Poll}
use Rattle.zone_server.specs.declared.update_result.Poll.TheVariants.{Unknown, Pending, Ready}
use Rattle.zone_replies.specs.PendingUpdates.{asked_of, known_at, place_of, place_in, entry_of, entry_in, after_first, left_of, left_in, with_more, IsTakenUp, IsEntry, AreTakenUp}

-- an entry is set in a list: it is there under its key, and all others stay
set_cases : {X : Type 0} (xs : List X) (i j : ℕ) (x : X) → (slice_get (slice_set xs i x) j ≡ slice_get xs j) ⊎ ((slice_get (slice_set xs i x) j ≡ Some x) × (i ≡ j))
set_cases [] i j x = inl refl
set_cases (y ∷ ys) zero zero x = inr (refl, refl)
set_cases (y ∷ ys) zero (suc j) x = inl refl
set_cases (y ∷ ys) (suc i) zero x = inl refl
set_cases {X} (y ∷ ys) (suc i) (suc j) x =
    ⊎_elim (λ (e : slice_get (slice_set ys i x) j ≡ slice_get ys j). inl e) (λ (e : (slice_get (slice_set ys i x) j ≡ Some x) × (i ≡ j)). inr (e.0, ap suc e.1)) (set_cases ys i j x)

-- an entry that is set is set once more
set_twice : {X : Type 0} (xs : List X) (i : ℕ) (x y : X) → slice_set (slice_set xs i x) i y ≡ slice_set xs i y
set_twice [] i x y = refl
set_twice (z ∷ zs) zero x y = refl
set_twice (z ∷ zs) (suc i) x y = ap (λ l. z ∷ l) (set_twice zs i x y)

-- the next ticket is the first one's, or there is none
abbrev pub pending_by : SocketAddr → WaitingTicket → List WaitingTicket → ℕ → ReaderState Version → Option PendingState
pending_by from ticket more number known = Some (record { from = from; ticket = ticket; more = more; number = number; known = known })

pub after_is : (from : SocketAddr) (number : ℕ) (known : ReaderState Version) (tickets rest : List WaitingTicket) (ticket : WaitingTicket) → tickets ≢ [] → ticket ≡ slice_index_or tickets 0 ticket → rest ≡ remove tickets 0
    → pending_by from ticket rest number known ≡ after_first from number known tickets
after_is from number known [] rest ticket some first left = absurd (some refl)
after_is from number known (next ∷ more) rest ticket some first left =
    ap (λ (t : WaitingTicket). pending_by from t rest number known) first ∙ ap (λ (l : List WaitingTicket). pending_by from next l number known) left

pub after_none : (from : SocketAddr) (number : ℕ) (known : ReaderState Version) (tickets : List WaitingTicket) → tickets ≡ [] → None ≡ after_first from number known tickets
after_none from number known tickets none = ap (λ (l : List WaitingTicket). after_first from number known l) (sym none)

-- those that were taken out from under a key were there
entry_there : (entry : Option (Option PendingState)) (one : PendingState) → Some one ≡ entry_of entry → entry ≡ Some (Some one)
entry_there None one is = absurd (cc)
entry_there (Some entry) one is = ap Some (sym is)

-- none are there then
taken_out : (taken : List (Option PendingState)) (key : ℕ) → entry_in (slice_set taken key None) key ≡ None
taken_out [] key = refl
taken_out (entry ∷ taken) zero = refl
taken_out (entry ∷ taken) (suc key) = taken_out taken key

pub out_none : (taken rest : List (Option PendingState)) (key : ℕ) → rest ≡ slice_set taken key None → entry_in rest key ≡ None
out_none taken rest key is = ap (λ (l : List (Option PendingState)). entry_in l key) is ∙ taken_out taken key

-- where some are pending, the key is one of the list
pub place_within : (taken : List (Option PendingState)) (key : ℕ) (one : PendingState) → Some one ≡ entry_in taken key → key < length taken
place_within taken key one is = slice_get_within taken key (Some one) (entry_there (slice_get taken key) one is)

-- it is one as well once they are taken out
pub set_length : (taken rest : List (Option PendingState)) (key : ℕ) → rest ≡ slice_set taken key None → key < length taken → key < length rest
set_length taken rest key is within = subst (λ (n : ℕ). key < n) (sym (ap length is ∙ length-set taken key None)) within

-- and where a place is, some are pending
pub place_entry : (taken : List (Option PendingState)) (key : ℕ) (place : ReplyPlace) → place_in taken key ≡ Some place → entry_in taken key ≡ None → ⊥
place_entry taken key place here none = by (slice_get taken key) here none
  where
    by : (entry : Option (Option PendingState)) → place_of entry ≡ Some place → entry_of entry ≡ None → ⊥
    by None here none = absurd (let no : ⊥ = cc (here) in no)
    by (Some None) here none = absurd (let no : ⊥ = cc (here) in no)
    by (Some (Some one)) here none = absurd (let no : ⊥ = cc (none) in no)

-- where no place is, none are
pub none_entry : (taken : List (Option PendingState)) (key : ℕ) → place_in taken key ≡ None → entry_in taken key ≡ None
none_entry taken key none = by (slice_get taken key) none
  where
    by : (entry : Option (Option PendingState)) → place_of entry ≡ None → entry_of entry ≡ None
    by None none = refl
    by (Some None) none = refl
    by (Some (Some one)) none = absurd (let no : ⊥ = cc (none) in no)

-- those that are put back, or those that are left, after they were taken out
pub put_left : (taken rest left : List (Option PendingState)) (key : ℕ) (one : PendingState) (entry : Option PendingState) → Some one ≡ entry_in taken key → rest ≡ slice_set taken key None → left ≡ slice_set rest key entry
    → (poll : Poll) → entry ≡ left_of poll one → left ≡ slice_set taken key (left_in poll (slice_get taken key))
put_left taken rest left key one entry is out put poll said =
    put ∙ ap (λ (l : List (Option PendingState)). slice_set l key entry) out ∙ set_twice taken key None entry ∙ ap (λ (e : Option PendingState). slice_set taken key e) said
    ∙ ap (λ (e : Option (Option PendingState)). slice_set taken key (left_in poll e)) (sym (entry_there (slice_get taken key) one is))

-- none are put back where none are left
pub none_left : (taken rest : List (Option PendingState)) (key : ℕ) (one : PendingState) → Some one ≡ entry_in taken key → rest ≡ slice_set taken key None → (poll : Poll) → None ≡ left_of poll one
    → rest ≡ slice_set taken key (left_in poll (slice_get taken key))
none_left taken rest key one is out poll said =
    out ∙ ap (λ (e : Option PendingState). slice_set taken key e) said ∙ ap (λ (e : Option (Option PendingState)). slice_set taken key (left_in poll e)) (sym (entry_there (slice_get taken key) one is))

-- what was known when the first update of an entry was submitted stays, and else grows with what the reader has learned
asked_grows : (entry : Option (Option PendingState)) (before after : ReaderState Version) → Grows (learned_by after) (learned_by before) → Grows (asked_of entry after) (asked_of entry before)
asked_grows None before after grown = grown
asked_grows (Some None) before after grown = grown
asked_grows (Some (Some taken)) before after grown = grows_itself (learned_by taken.known)

pub known_grows : (taken : List (Option PendingState)) (before after : ReaderState Version) → Grows (learned_by after) (learned_by before) → EachGrows (known_at taken after) (known_at taken before)
known_grows taken before after grown = λ key. record { asked = asked_grows (slice_get taken key) before after grown; latest = grown }

pub same_grows : (taken same : List (Option PendingState)) (before after : ReaderState Version) → same ≡ taken → Grows (learned_by after) (learned_by before) → EachGrows (known_at same after) (known_at taken before)
same_grows taken same before after is grown = subst (λ (l : List (Option PendingState)). EachGrows (known_at l after) (known_at taken before)) (sym is) (known_grows taken before after grown)

-- what was known when an update was submitted isn't forgotten later
entry_grows : (before after : ReaderState Version) → Grows (learned_by after) (learned_by before) → (entry : Option PendingState) → IsEntry before entry → IsEntry after entry
entry_grows before after grown None is = tt
entry_grows before after grown (Some taken) is = record { grown = grows_more (learned_by taken.known) (learned_by before) (learned_by after) is.grown grown; number = is.number }

pub taken_grow : (taken : List (Option PendingState)) (before after : ReaderState Version) → Grows (learned_by after) (learned_by before) → AreTakenUp taken before → AreTakenUp taken after
taken_grow taken before after grown all = All-weaker (IsEntry before) (IsEntry after) (entry_grows before after grown) taken all

-- the one under a key
entry_at : (taken : List (Option PendingState)) (reader : ReaderState Version) (key : ℕ) (entry : Option PendingState) → AreTakenUp taken reader → slice_get taken key ≡ Some entry → IsEntry reader entry
entry_at taken reader key entry all here = subst (IsEntry reader) (get_or_from_slice_get taken key entry entry here) (all key entry (slice_get_within taken key entry here))

-- where none is pending, what was known is what the reader has learned
pub none_asked : (taken : List (Option PendingState)) (reader : ReaderState Version) (key : ℕ) → place_in taken key ≡ None → asked_of (slice_get taken key) reader ≡ learned_by reader
none_asked taken reader key none = by (slice_get taken key) none
  where
    by : (entry : Option (Option PendingState)) → place_of entry ≡ None → asked_of entry reader ≡ learned_by reader
    by None none = refl
    by (Some None) none = refl
    by (Some (Some one)) none = absurd (cc)

-- where one is pending, it is what was known when the first of those that wait together was submitted
pub place_asked : (taken : List (Option PendingState)) (reader : ReaderState Version) (key : ℕ) (place : ReplyPlace) → AreTakenUp taken reader → place_in taken key ≡ Some place
    → (one : PendingState) × (asked_of (slice_get taken key) reader ≡ learned_by one.known) × IsTakenUp reader one × (one.number ≡ place.number)
place_asked taken reader key place all here = by (slice_get taken key) (λ entry is. entry_at taken reader key entry all is) here
  where
    by : (entry : Option (Option PendingState)) → ((one : Option PendingState) → entry ≡ Some one → IsEntry reader one) → place_of entry ≡ Some place
        → (one : PendingState) × (asked_of entry reader ≡ learned_by one.known) × IsTakenUp reader one × (one.number ≡ place.number)
    by None is here = absurd (cc)
    by (Some None) is here = absurd (cc)
    by (Some (Some one)) is here = (one, refl, is (Some one) refl, ap (λ (p : Option ReplyPlace). option_or p one.number) here)
      where
        option_or : Option ReplyPlace → ℕ → ℕ
        option_or None n = n
        option_or (Some p) n = p.number

-- none is pending any more
place_removed : (taken : List (Option PendingState)) (key : ℕ) → place_in (slice_set taken key None) key ≡ None
place_removed [] key = refl
place_removed (entry ∷ taken) zero = refl
place_removed (entry ∷ taken) (suc key) = place_removed taken key

-- room is made for more
asked_room : (taken : List (Option PendingState)) (more : ℕ) (reader : ReaderState Version) (key : ℕ) → asked_of (slice_get (taken ++ replicate more None) key) reader ≡ asked_of (slice_get taken key) reader
asked_room [] more reader key = none more key
  where
    none : (more key : ℕ) → asked_of (slice_get (replicate more None) key) reader ≡ learned_by reader
    none zero key = refl
    none (suc more) zero = refl
    none (suc more) (suc key) = none more key
asked_room (entry ∷ taken) more reader zero = refl
asked_room (entry ∷ taken) more reader (suc key) = asked_room taken more reader key

room_all : (taken : List (Option PendingState)) (more : ℕ) (reader : ReaderState Version) → AreTakenUp taken reader → AreTakenUp (taken ++ replicate more None) reader
room_all taken more reader all = All-append (IsEntry reader) taken (replicate more None) all (All-replicate (IsEntry reader) more None tt)

-- and none is pending where none was
none_room : (taken : List (Option PendingState)) (more key : ℕ) → place_in taken key ≡ None → entry_in (taken ++ replicate more None) key ≡ None
none_room [] more key none = by more key
  where
    by : (more key : ℕ) → entry_in (replicate more None) key ≡ None
    by zero key = refl
    by (suc more) zero = refl
    by (suc more) (suc key) = by more key
none_room (entry ∷ taken) more zero none = none_entry (entry ∷ taken) zero none
none_room (entry ∷ taken) more (suc key) none = none_room taken more key none

pub made_none : (taken made : List (Option PendingState)) (key count : ℕ) → made ≡ taken ++ replicate count None → place_in taken key ≡ None → entry_in made key ≡ None
made_none taken made key count is none = ap (λ (l : List (Option PendingState)). entry_in l key) is ∙ none_room taken count key none

-- what holds where there is room holds, if lack of it can't be
pub room_if : (has_room : Bool) (P : Type 0) → OnTrue has_room P → (has_room ≡ false → ⊥) → P
room_if true P has lacks = has
room_if false P has lacks = absurd (lacks refl)

-- room for one more
replicate_more : {X : Type 0} (count : ℕ) (x : X) → replicate count x ++ x ∷ [] ≡ replicate (suc count) x
replicate_more zero x = refl
replicate_more (suc count) x = ap (λ l. x ∷ l) (replicate_more count x)

pub room_more : (old new more : List (Option PendingState)) (count : ℕ) → new ≡ old ++ replicate count None → more ≡ new ++ None ∷ [] → more ≡ old ++ replicate (suc count) None
room_more old new more count is pushed =
    pushed ∙ ap (λ (l : List (Option PendingState)). l ++ None ∷ []) is ∙ append_assoc old (replicate count None) (None ∷ []) ∙ ap (λ (l : List (Option PendingState)). old ++ l) (replicate_more {X = Option PendingState} count None)

-- what a reader has learned grows where what is known does
pub reader_grows : (old new : List (Option PendingState)) (before after : ReaderState Version) → EachGrows (known_at new after) (known_at old before) → Grows (learned_by after) (learned_by before)
reader_grows old new before after each = (each 0).latest

module _ (before after : ReaderState Version) (grown : Grows (learned_by after) (learned_by before)) where
  -- an entry is pending no more, or its first update's result was fetched
  asked_least : (entry : Option (Option PendingState)) → ((one : Option PendingState) → entry ≡ Some one → IsEntry before one) → Grows (learned_by after) (asked_of entry before)
  asked_least None is = grown
  asked_least (Some None) is = grown
  asked_least (Some (Some one)) is = grows_more (learned_by one.known) (learned_by before) (learned_by after) (is (Some one) refl).grown grown

  after_all : (from : SocketAddr) (number : ℕ) (known : ReaderState Version) (tickets : List WaitingTicket) → Grows (learned_by after) (learned_by known) → length known.seen ≤ number + 1 → IsEntry after (after_first from number known tickets)
  after_all from number known [] grown least = tt
  after_all from number known (ticket ∷ more) grown least = record { grown = grown; number = least }

  after_grows : (from : SocketAddr) (number : ℕ) (known : ReaderState Version) (tickets : List WaitingTicket) → Grows (learned_by after) (learned_by known) → Grows (asked_of (Some (after_first from number known tickets)) after) (learned_by known)
  after_grows from number known [] grown = grown
  after_grows from number known (ticket ∷ more) grown = grows_itself (learned_by known)

  taken_later : (one : PendingState) → IsTakenUp before one → Grows (learned_by after) (learned_by one.known)
  taken_later one is = grows_more (learned_by one.known) (learned_by before) (learned_by after) is.grown grown

  left_one : (poll : Poll) (one : PendingState) → IsTakenUp before one → IsEntry after (left_of poll one)
  left_one Pending one is = record { grown = taken_later one is; number = is.number }
  left_one Unknown one is = after_all one.from one.number one.known one.more (taken_later one is) is.number
  left_one (Ready done) one is = after_all one.from one.number one.known one.more (taken_later one is) is.number

  left_asked : (poll : Poll) (one : PendingState) → IsTakenUp before one → Grows (asked_of (Some (left_of poll one)) after) (learned_by one.known)
  left_asked Pending one is = grows_itself (learned_by one.known)
  left_asked Unknown one is = after_grows one.from one.number one.known one.more (taken_later one is)
  left_asked (Ready done) one is = after_grows one.from one.number one.known one.more (taken_later one is)

  left_entry : (poll : Poll) (entry : Option (Option PendingState)) → ((one : Option PendingState) → entry ≡ Some one → IsEntry before one) → IsEntry after (left_in poll entry)
  left_entry poll None is = tt
  left_entry poll (Some None) is = tt
  left_entry poll (Some (Some one)) is = left_one poll one (is (Some one) refl)

  left_known : (poll : Poll) (entry : Option (Option PendingState)) → ((one : Option PendingState) → entry ≡ Some one → IsEntry before one) → Grows (asked_of (Some (left_in poll entry)) after) (asked_of entry before)
  left_known poll None is = grown
  left_known poll (Some None) is = grown
  left_known poll (Some (Some one)) is = left_asked poll one (is (Some one) refl)

  module _ (taken : List (Option PendingState)) (key : ℕ) where
    -- an entry is set, while the reader learns more
    set_all : (left : List (Option PendingState)) (entry : Option PendingState) → left ≡ slice_set taken key entry → IsEntry after entry → AreTakenUp taken before → AreTakenUp left after
    set_all left entry is own all = subst (λ (l : List (Option PendingState)). AreTakenUp l after) (sym is) (All-set (IsEntry after) taken key entry own (taken_grow taken before after grown all))

    set_grows : (left : List (Option PendingState)) (entry : Option PendingState) → left ≡ slice_set taken key entry → Grows (asked_of (Some entry) after) (asked_of (slice_get taken key) before) → EachGrows (known_at left after) (known_at taken before)
    set_grows left entry is own = subst (λ (l : List (Option PendingState)). EachGrows (known_at l after) (known_at taken before)) (sym is) (λ at. record { asked = by at (set_cases taken key at entry); latest = grown })
      where
        by : (at : ℕ) → (slice_get (slice_set taken key entry) at ≡ slice_get taken at) ⊎ ((slice_get (slice_set taken key entry) at ≡ Some entry) × (key ≡ at))
            → Grows (asked_of (slice_get (slice_set taken key entry) at) after) (asked_of (slice_get taken at) before)
        by at (inl same) = subst (λ (e : Option (Option PendingState)). Grows (asked_of e after) (asked_of (slice_get taken at) before)) (sym same) (asked_grows (slice_get taken at) before after grown)
        by at (inr set) =
            subst (λ (e : Option (Option PendingState)). Grows (asked_of e after) (asked_of (slice_get taken at) before)) (sym set.0)
            (subst (λ (k : ℕ). Grows (asked_of (Some entry) after) (asked_of (slice_get taken k) before)) set.1 own)

    -- none is pending under the key any more
    pub gone_all : (left : List (Option PendingState)) → left ≡ slice_set taken key None → AreTakenUp taken before → AreTakenUp left after
    gone_all left is all = set_all left None is tt all

    pub gone_grows : (left : List (Option PendingState)) → left ≡ slice_set taken key None → AreTakenUp taken before → EachGrows (known_at left after) (known_at taken before)
    gone_grows left is all = set_grows left None is (asked_least (slice_get taken key) (λ entry here. entry_at taken before key entry all here))

    pub gone_none : (left : List (Option PendingState)) → left ≡ slice_set taken key None → place_in left key ≡ None
    gone_none left is = ap (λ (l : List (Option PendingState)). place_in l key) is ∙ place_removed taken key

    -- the first one's result was fetched
    pub left_all : (poll : Poll) (left : List (Option PendingState)) → left ≡ slice_set taken key (left_in poll (slice_get taken key)) → AreTakenUp taken before → AreTakenUp left after
    left_all poll left is all = set_all left (left_in poll (slice_get taken key)) is (left_entry poll (slice_get taken key) (λ entry here. entry_at taken before key entry all here)) all

    pub left_grows : (poll : Poll) (left : List (Option PendingState)) → left ≡ slice_set taken key (left_in poll (slice_get taken key)) → AreTakenUp taken before → EachGrows (known_at left after) (known_at taken before)
    left_grows poll left is all = set_grows left (left_in poll (slice_get taken key)) is (left_known poll (slice_get taken key) (λ entry here. entry_at taken before key entry all here))

    -- the updates under the key are taken out, and put back with more after them
    module _ (rest left : List (Option PendingState)) (one whole : PendingState) (more : List WaitingTicket) (is : Some one ≡ entry_in taken key) (out : rest ≡ slice_set taken key None) (put : left ≡ slice_set rest key (Some whole)) (same : whole ≡ with_more one more) where
      back_is : left ≡ slice_set taken key (Some (with_more one more))
      back_is =
          put ∙ ap (λ (l : List (Option PendingState)). slice_set l key (Some whole)) out ∙ set_twice taken key None (Some whole)
          ∙ ap (λ (p : PendingState). slice_set taken key (Some p)) same

      back_there : slice_get taken key ≡ Some (Some one)
      back_there = entry_there (slice_get taken key) one is

      pub back_all : AreTakenUp taken before → AreTakenUp left after
      back_all all =
          let own : IsTakenUp before one = entry_at taken before key (Some one) all back_there in
          set_all left (Some (with_more one more)) back_is (record { grown = taken_later one own; number = own.number }) all

      pub back_grows : EachGrows (known_at left after) (known_at taken before)
      back_grows =
          set_grows left (Some (with_more one more)) back_is
          (subst (λ (e : Option (Option PendingState)). Grows (learned_by one.known) (asked_of e before)) (sym back_there) (grows_itself (learned_by one.known)))

    -- room is made for more
    pub made_all : (made : List (Option PendingState)) (count : ℕ) → made ≡ taken ++ replicate count None → AreTakenUp taken before → AreTakenUp made after
    made_all made count is all = subst (λ (l : List (Option PendingState)). AreTakenUp l after) (sym is) (room_all taken count after (taken_grow taken before after grown all))

    made_asked : (made : List (Option PendingState)) (count : ℕ) (reader : ReaderState Version) (at : ℕ) → made ≡ taken ++ replicate count None → asked_of (slice_get made at) reader ≡ asked_of (slice_get taken at) reader
    made_asked made count reader at is = ap (λ (l : List (Option PendingState)). asked_of (slice_get l at) reader) is ∙ asked_room taken count reader at

    pub made_grows : (made : List (Option PendingState)) (count : ℕ) → made ≡ taken ++ replicate count None → EachGrows (known_at made after) (known_at taken before)
    made_grows made count is = λ at. record {
      asked = subst (λ (l : Learned Version). Grows l (asked_of (slice_get taken at) before)) (sym (made_asked made count after at is)) (asked_grows (slice_get taken at) before after grown);
      latest = grown;
    }

  -- room is made under a key, and an update is put there, of which none is pending
  module _ (taken made begun : List (Option PendingState)) (key count : ℕ) (one : PendingState) (is_made : made ≡ taken ++ replicate count None) (is_put : begun ≡ slice_set made key (Some one)) where
    pub begun_all : IsTakenUp after one → AreTakenUp taken before → AreTakenUp begun after
    begun_all up all = subst (λ (l : List (Option PendingState)). AreTakenUp l after) (sym is_put) (All-set (IsEntry after) made key (Some one) up (made_all taken key made count is_made all))

    pub begun_grows : one.known ≡ before → place_in taken key ≡ None → EachGrows (known_at begun after) (known_at taken before)
    begun_grows known none =
        let same : (at : ℕ) → asked_of (slice_get made at) before ≡ asked_of (slice_get taken at) before = λ at. made_asked taken key made count before at is_made in
        let own : Grows (asked_of (Some (Some one)) after) (asked_of (slice_get made key) before) =
        subst (λ (l : Learned Version). Grows (learned_by one.known) l) (sym (same key ∙ none_asked taken before key none))
        (subst (λ (r : ReaderState Version). Grows (learned_by r) (learned_by before)) (sym known) (grows_itself (learned_by before))) in
        let each : EachGrows (known_at begun after) (known_at made before) = set_grows made key begun (Some one) is_put own in
        λ at. record { asked = subst (λ (l : Learned Version). Grows (asked_of (slice_get begun at) after) l) (same at) (each at).asked; latest = grown }
