-- What a step of one seat leaves as it was: what other seats know, the places that aren't moved, and the publisher's count.
use Rattle.std.proofs.Common.{◌≡◌, ◌≢◌, refl, sym, ap, ◌∙◌, subst, ℕ, zero, suc, ◌≤◌, inl, inr, ⊎_elim, Bool, true, List, [], ◌∷◌, ◌++◌, get_or, set, arith, Option, Some, None, append_assoc, append-nil}
use Rattle.std.specs.List.{slice_get}
use mathlib.Core.Option as maybe
use mathlib.Core.Option.{none, some, some-injective, some-ne-none}
use lib.ListN.{get_elem?}
use Rattle.atomic_table.proofs.Lists.{at_set, set_here, set_else}
use Rattle.cell_core.specs.Cell.{Cell}
use Rattle.cell_core.specs.Words.{State, slot_of}
use Rattle.cell_core.specs.Shows.{Shows}
use Rattle.cell_core.specs.declared.words.Version.{Version}
use Rattle.cell_core.specs.declared.words.Publisher.{Publisher}
use Rattle.cell_core.specs.declared.words.Publisher.TheVariants.{Probing, Preparing, Swapping, Settling}
use Rattle.cell_core.specs.declared.words.Owner.TheVariants.{Fading}
use Rattle.counted_handles.specs.declared.view.Mark.{Mark}
use Rattle.counted_handles.specs.declared.view.Publishing.{Publishing}
use Rattle.counted_handles.specs.declared.view.Reading.{Reading}
use Rattle.counted_handles.specs.declared.view.Hold.{Hold}
use Rattle.counted_handles.specs.declared.view.Hold.TheVariants.{Once, Double, Loose, Mixed}
use Rattle.counted_handles.specs.declared.view.Tie.{Tie}
use Rattle.counted_handles.specs.declared.view.View.{View}
use Rattle.counted_handles.specs.declared.view.View.TheVariants.{Begin, Began, Publishes, Reads, Hosts, Has, HasWeakly, Buries, Fades, Resets, Frees, Ends, Gone}
use Rattle.counted_handles.specs.History.{IsHistory}
use Rattle.counted_handles.specs.Shown.{Room, Board, version_at, how_of, publisher_in, noted_of, noted_in, read_of, left_of, shown}
use Rattle.counted_handles.specs.Ruled.{RoomSpot, HomeIs, MarkIs, ShareIs, TieIs, HoldIs, HeldIs, AreGone, NextIs, Comes, Begins, Knows, Counts, AreGuests, AreSunk, IsFree, AreFree, AllFree, Holds}
use Rattle.counted_handles.proofs.Lists.{sum_set, one_there, got_within}
use Rattle.counted_handles.proofs.FreeSlots.{all_free}

-- the share that a seat has
abbrev pub hold_mark : {T : Type 0} → Hold T → Option (Mark T)
hold_mark (Once mark) = Some mark
hold_mark (Double mark) = Some mark
hold_mark (Loose tie seen) = None
hold_mark (Mixed mark tie) = Some mark

abbrev pub held_mark : {T : Type 0} → Option (Hold T) → Option (Mark T)
held_mark None = None
held_mark (Some hold) = hold_mark hold

abbrev pub mark_in : {T : Type 0} → View T → Option (Mark T)
mark_in (Begin value) = None
mark_in (Began spot) = None
mark_in (Publishes p) = held_mark p.share
mark_in (Reads r) = r.share
mark_in (Hosts r hold) = hold_mark hold
mark_in (Has mark) = Some mark
mark_in (Buries slot name) = None
mark_in (HasWeakly tie) = None
mark_in (Fades slot spot) = None
mark_in (Resets slot) = None
mark_in (Frees slot) = None
mark_in (Ends slot spot) = None
mark_in Gone = None

-- what a seat says of places is so after a step, too
pub record Undisturbed {T : Type 0} (homes later : List (maybe.Option (Room T))) (name : ℕ) (view : View T) : Type 0 where
  pub mark : (mark : Mark T) → mark_in view ≡ Some mark → MarkIs homes name mark → MarkIs later name mark
  pub next : (p : Publishing T) (slot : ℕ) → view ≡ Publishes p → p.how ≡ Swapping slot → NextIs homes p.next slot → NextIs later p.next slot

pub share_kept : {T : Type 0} (homes later : List (maybe.Option (Room T))) (name : ℕ) (share : Option (Mark T)) → ((mark : Mark T) → share ≡ Some mark → MarkIs homes name mark → MarkIs later name mark) → ShareIs homes name share → ShareIs later name share
share_kept homes later name None keeps is = tt
share_kept homes later name (Some mark) keeps is = keeps mark refl is

-- what stands in a list stands in a longer one
get_begun : {A : Type 0} (xs more : List A) (k : ℕ) (x : A) → slice_get xs k ≡ Some x → slice_get (xs ++ more) k ≡ Some x
get_begun [] more k x e = absurd (let wrong = e in cc)
get_begun (y ∷ xs) more zero x e = e
get_begun (y ∷ xs) more (suc k) x e = get_begun xs more k x e

-- so is what it has of a version
tie_kept : {T : Type 0} (name : ℕ) (published longer : List T) (tie : Tie T) → Begins published longer → TieIs name published tie → TieIs name longer tie
tie_kept {T} name published longer tie begins is = (is.0, ap (λ (l : List T). slice_get l tie.number) (sym begins.1) ∙ get_begun published begins.0 tie.number tie.value is.1)

pub hold_kept : {T : Type 0} (homes later : List (maybe.Option (Room T))) (name : ℕ) (published longer : List T) (hold : Hold T) → ((mark : Mark T) → hold_mark hold ≡ Some mark → MarkIs homes name mark → MarkIs later name mark) → Begins published longer → HoldIs homes name published hold → HoldIs later name longer hold
hold_kept homes later name published longer (Once mark) keeps begins is = keeps mark refl is
hold_kept homes later name published longer (Double mark) keeps begins is = keeps mark refl is
hold_kept homes later name published longer (Loose tie seen) keeps begins is = tie_kept name published longer tie begins is
hold_kept homes later name published longer (Mixed mark tie) keeps begins is = (keeps mark refl is.0, tie_kept name published longer tie begins is.1, is.2)

pub held_kept : {T : Type 0} (homes later : List (maybe.Option (Room T))) (name : ℕ) (published longer : List T) (held : Option (Hold T)) → ((mark : Mark T) → held_mark held ≡ Some mark → MarkIs homes name mark → MarkIs later name mark) → Begins published longer → HeldIs homes name published held → HeldIs later name longer held
held_kept homes later name published longer None keeps begins is = tt
held_kept homes later name published longer (Some hold) keeps begins is = hold_kept homes later name published longer hold keeps begins is

-- numbers that are buried stay so
pub still_gone : (buried after : ℕ → Bool) (numbers : List ℕ) → ((j : ℕ) → buried j ≡ true → after j ≡ true) → AreGone buried numbers → AreGone after numbers
still_gone buried after [] keeps are = tt
still_gone buried after (number ∷ numbers) keeps are = (keeps number are.0, still_gone buried after numbers keeps are.1)

pub still_sunk : {T : Type 0} (buried after : ℕ → Bool) (guests : List (Reading T)) → ((j : ℕ) → buried j ≡ true → after j ≡ true) → AreSunk buried guests → AreSunk after guests
still_sunk buried after [] keeps are = tt
still_sunk buried after (r ∷ rs) keeps are = (still_gone buried after r.gone keeps are.0, still_sunk buried after rs keeps are.1)

comes_kept : {T : Type 0} (spots : List (RoomSpot T)) (homes later : List (maybe.Option (Room T))) (p : Publishing T) (how : Publisher) → ((slot : ℕ) → how ≡ Swapping slot → NextIs homes p.next slot → NextIs later p.next slot) → Comes spots homes p how → Comes spots later p how
comes_kept spots homes later p (Probing slot) keeps is = tt
comes_kept spots homes later p (Preparing slot) keeps is = is
comes_kept spots homes later p (Swapping slot) keeps is = keeps slot refl is
comes_kept spots homes later p (Settling number slot given) keeps is = tt

-- a beginning of a list begins a longer one
pub begins_longer : {T : Type 0} (seen published longer : List T) → Begins published longer → Begins seen published → Begins seen longer
begins_longer seen published longer more is = (is.0 ++ more.0, sym (append_assoc seen is.0 more.0) ∙ ap (λ l. l ++ more.0) is.1 ∙ more.1)

-- what readers had seen is a beginning of a longer list, too
pub guests_longer : {T : Type 0} (name : ℕ) (published : List T) (value : T) (guests : List (Reading T)) → AreGuests name published guests → AreGuests name (published ++ value ∷ []) guests
guests_longer name published value [] is = tt
guests_longer name published value (r ∷ rs) is = ((is.0.0, is.0.1, begins_longer r.seen published (published ++ value ∷ []) (value ∷ [], refl) is.0.2), guests_longer name published value rs is.1)

-- so what a seat knows is so after a step of another
pub knows_kept : {T : Type 0} (spots : List (RoomSpot T)) (name : ℕ) (cell next : Cell T) (homes later : List (maybe.Option (Room T))) (view : View T) → ((p : Publishing T) → view ≡ Publishes p → cell.published ≡ next.published) → Begins cell.published next.published → ((j : ℕ) → cell.buried j ≡ true → next.buried j ≡ true) → Undisturbed homes later name view → Knows spots name cell homes view → Knows spots name next later view
knows_kept spots name cell next homes later (Begin value) same begins gone still is = is
knows_kept spots name cell next homes later (Began spot) same begins gone still is = is
knows_kept spots name cell next homes later (Publishes p) same begins gone still is =
    (is.0, is.1 ∙ same p refl, held_kept homes later name cell.published next.published p.share still.mark begins is.2, comes_kept spots homes later p p.how (λ slot e. still.next p slot refl e) is.3)
knows_kept spots name cell next homes later (Reads r) same begins gone still is =
    (is.0, begins_longer r.seen cell.published next.published begins is.1, share_kept homes later name r.share still.mark is.2, still_gone cell.buried next.buried r.gone gone is.3)
knows_kept spots name cell next homes later (Hosts r hold) same begins gone still is =
    (is.0, begins_longer r.seen cell.published next.published begins is.1, is.2, still_gone cell.buried next.buried r.gone gone is.3, hold_kept homes later name cell.published next.published hold still.mark begins is.4)
knows_kept spots name cell next homes later (Has mark) same begins gone still is = still.mark mark refl is
knows_kept spots name cell next homes later (HasWeakly tie) same begins gone still is = tie_kept name cell.published next.published tie begins is
knows_kept spots name cell next homes later (Buries slot its) same begins gone still is = is
knows_kept spots name cell next homes later (Fades slot spot) same begins gone still is = is
knows_kept spots name cell next homes later (Resets slot) same begins gone still is = tt
knows_kept spots name cell next homes later (Frees slot) same begins gone still is = tt
knows_kept spots name cell next homes later (Ends slot spot) same begins gone still is = is
knows_kept spots name cell next homes later Gone same begins gone still is = tt

-- a place whose version nobody knows of is of no weight to what seats know
pub undisturbed : {T : Type 0} (homes : List (maybe.Option (Room T))) (name k : ℕ) (home : maybe.Option (Room T)) (view : View T) → ((mark : Mark T) → mark_in view ≡ Some mark → MarkIs homes name mark → mark.slot ≢ k) → ((p : Publishing T) (slot : ℕ) → view ≡ Publishes p → p.how ≡ Swapping slot → NextIs homes p.next slot → slot ≢ k) → Undisturbed homes (set homes k home) name view
undisturbed homes name k home view marks nexts =
    record {
      mark = λ mark e is. record { name_is = is.name_is; room = is.room; home = set_else homes k mark.slot home (marks mark e is) ∙ is.home; version = is.version; stake = is.stake };
      next = λ p slot e how is. record { room = is.room; home = set_else homes k slot home (nexts p slot e how is) ∙ is.home; number = is.number; value = is.value; next_is = is.next_is; version = is.version };
    }

-- where nothing is moved
pub unmoved : {T : Type 0} (homes : List (maybe.Option (Room T))) (name : ℕ) (view : View T) → Undisturbed homes homes name view
unmoved homes name view = record { mark = λ mark e is. is; next = λ p slot e how is. is }

-- nobody has a share of a slot in which no version lies, nor is it to be published
pub no_share : {T : Type 0} (homes : List (maybe.Option (Room T))) (name k : ℕ) (home later : maybe.Option (Room T)) (view : View T) → get_elem? homes k ≡ some home → version_at home ≡ None → Undisturbed homes (set homes k later) name view
no_share {T} homes name k home later view at empty =
    let lies : (room : Room T) (version : Version T) (slot : ℕ) → get_elem? homes slot ≡ some (some room) → room.value ≡ Some version → slot ≢ k = λ room version slot there full same.
    let here : get_elem? homes k ≡ some (some room) = ap (get_elem? homes) (sym same) ∙ there in
    let one : home ≡ some room = one_there homes k home (some room) at here in
    let wrong : None ≡ Some version = sym empty ∙ ap version_at one ∙ full in cc in
    undisturbed homes name k later view (λ mark e is. lies is.room _ mark.slot is.home is.version) (λ p slot e how is. lies is.room _ slot is.home is.version)

-- a place that isn't moved is as it was
pub home_stays : {T : Type 0} (spots : List (RoomSpot T)) (name : ℕ) (state new : State T) (slot : ℕ) (home : maybe.Option (Room T)) → (state.publisher ≡ Preparing slot → new.publisher ≡ Preparing slot) → ((i : ℕ) → slice_get state.owners i ≡ Some (Fading slot) → slice_get new.owners i ≡ Some (Fading slot)) → HomeIs spots name state slot home → HomeIs spots name new slot home
home_stays spots name state new slot none preparing fading is = ⊎_elim (λ e. inl (preparing e)) (λ e. inr (e.0, fading e.0 e.1)) is
home_stays spots name state new slot (some room) preparing fading is = is

-- the first seat, and the others
pub publisher_else : {T : Type 0} (views : List (View T)) (id : ℕ) (view : View T) → id ≢ 0 → publisher_in (set views id view) ≡ publisher_in views
publisher_else [] id view other = refl
publisher_else (v ∷ views) zero view other = absurd (other refl)
publisher_else (v ∷ views) (suc id) view other = refl

pub publisher_here : {T : Type 0} (views : List (View T)) (old view : View T) → get_elem? views 0 ≡ some old → publisher_in (set views 0 view) ≡ how_of view
publisher_here [] old view at = absurd (some-ne-none old (sym at))
publisher_here (v ∷ views) old view at = refl

pub publisher_is : {T : Type 0} (views : List (View T)) (view : View T) → get_elem? views 0 ≡ some view → publisher_in views ≡ how_of view
publisher_is [] view at = absurd (some-ne-none view (sym at))
publisher_is {T} (v ∷ views) view at = ap (λ (x : View T). how_of x) (some-injective v view at)

-- the same of how many weak owners it has made
pub noted_else : {T : Type 0} (views : List (View T)) (id : ℕ) (view : View T) → id ≢ 0 → noted_in (set views id view) ≡ noted_in views
noted_else [] id view other = refl
noted_else (v ∷ views) zero view other = absurd (other refl)
noted_else (v ∷ views) (suc id) view other = refl

pub noted_here : {T : Type 0} (views : List (View T)) (old view : View T) → get_elem? views 0 ≡ some old → noted_in (set views 0 view) ≡ noted_of view
noted_here [] old view at = absurd (some-ne-none old (sym at))
noted_here (v ∷ views) old view at = refl

pub noted_is : {T : Type 0} (views : List (View T)) (view : View T) → get_elem? views 0 ≡ some view → noted_in views ≡ noted_of view
noted_is [] view at = absurd (some-ne-none view (sym at))
noted_is {T} (v ∷ views) view at = ap (λ (x : View T). noted_of x) (some-injective v view at)

-- a seat that doesn't publish isn't the first
pub not_first : {T : Type 0} {begins : T → Type 0} {follows : T → T → Type 0} {spots : List (RoomSpot T)} (s : Board T) (h : Holds begins follows spots s) (id : ℕ) (view : View T) → get_elem? s.views id ≡ some view → ((p : Publishing T) → view ≡ Publishes p → ⊥) → id ≢ 0
not_first s h id view at apart e = apart h.first.0 (one_there s.views id view (Publishes h.first.0) at (ap (get_elem? s.views) e ∙ h.first.1))

-- a state of the same parts
pub state_is : {T : Type 0} (a b : State T) → a.latest ≡ b.latest → a.table ≡ b.table → a.publisher ≡ b.publisher → a.owners ≡ b.owners → a.granted ≡ b.granted → a.noted ≡ b.noted → a ≡ b
state_is a b latest table publisher owners granted noted = λ i. record { latest = latest i; table = table i; publisher = publisher i; owners = owners i; granted = granted i; noted = noted i }

module _ {T : Type 0} (begins : T → Type 0) (follows : T → T → Type 0) (spots : List (RoomSpot T)) where
  -- what a step of a seat that isn't the publisher owes
  pub record SeatStep (s : Board T) (h : Holds begins follows spots s) (words : List ℕ) (homes : List (maybe.Option (Room T))) (id : ℕ) (old new : View T) : Type 0 where
    pub at : get_elem? s.views id ≡ some old
    pub was_none : (p : Publishing T) → old ≡ Publishes p → ⊥
    pub is_none : (p : Publishing T) → new ≡ Publishes p → ⊥
    pub cell : Cell T
    pub published : h.cell.published ≡ cell.published
    pub gone : (j : ℕ) → h.cell.buried j ≡ true → cell.buried j ≡ true
    pub shows : Shows (shown (record { words = words; homes = homes; views = set s.views id new })) cell
    pub left : left_of new ≤ left_of old
    pub read : read_of new ≡ read_of old
    pub fixed : (p : Publishing T) → get_elem? s.views 0 ≡ some (Publishes p) → Counts h.cell.buried s p → (word : ℕ) → p.fixed ≡ Some word → get_or words 0 0 ≡ word
    pub free : (last swept : ℕ) → slot_of (get_or s.words 0 0) ≡ last → AreFree s.words s.homes last swept → AreFree words homes last swept
    pub spare : (slot : ℕ) → IsFree s.words s.homes slot → IsFree words homes slot
    pub homes_are : (slot : ℕ) (home : maybe.Option (Room T)) → get_elem? homes slot ≡ some home → HomeIs spots h.name (shown (record { words = words; homes = homes; views = set s.views id new })) slot home
    pub mine : Knows spots h.name cell homes new
    pub others : (j : ℕ) (view : View T) → j ≢ id → get_elem? s.views j ≡ some view → Undisturbed s.homes homes h.name view

  pub seat_step : (s : Board T) (h : Holds begins follows spots s) (words : List ℕ) (homes : List (maybe.Option (Room T))) (id : ℕ) (old new : View T) → SeatStep s h words homes id old new → Holds begins follows spots (record { words = words; homes = homes; views = set s.views id new })
  seat_step s h words homes id old new o =
      let few = sum_set left_of s.views id old new o.at in
      let counted = sum_set read_of s.views id old new o.at in
      let first = not_first s h id old o.at o.was_none in
      let counts = h.first.2 in
      record {
        cell = o.cell;
        shows = o.shows;
        history = subst (IsHistory begins follows) o.published h.history;
        name = h.name;
        few = omega (arith, few, h.few, o.left);
        homes = o.homes_are;
        knows = λ j view e. ⊎_elim
            (λ (t : (j ≡ id) × (new ≡ view)). subst (Knows spots h.name o.cell homes) t.1 o.mine)
            (λ (t : (j ≢ id) × (get_elem? s.views j ≡ some view)). knows_kept spots h.name h.cell o.cell s.homes homes view (λ p is. o.published) ([], append-nil h.cell.published ∙ o.published) o.gone (o.others j view t.0 t.1) (h.knows j view t.1))
            (at_set s.views id j new view e);
        first = (
          h.first.0,
          set_else s.views id 0 new (λ e. first (sym e)) ∙ h.first.1,
          record {
            readers = omega (arith, counts.readers, counted, o.read);
            guests = counts.guests;
            sunk = still_sunk h.cell.buried o.cell.buried h.first.0.guests o.gone counts.sunk;
            fixed = λ word e. ((counts.fixed word e).0, o.fixed h.first.0 h.first.1 counts word e);
            free = λ word slot e how. o.free (slot_of word) h.first.0.swept (ap slot_of (counts.fixed word e).1) (counts.free word slot e how);
            spare = all_free s.words words s.homes homes o.spare h.first.0.found counts.spare;
          },
        );
        only = λ j p e. ⊎_elim
            (λ (t : (j ≡ id) × (new ≡ Publishes p)). absurd (o.is_none p t.1))
            (λ (t : (j ≢ id) × (get_elem? s.views j ≡ some (Publishes p))). h.only j p t.1)
            (at_set s.views id j new (Publishes p) e);
      }

  -- what a step of the publisher owes
  pub record PublisherStep (s : Board T) (h : Holds begins follows spots s) (words : List ℕ) (homes : List (maybe.Option (Room T))) (old new : Publishing T) : Type 0 where
    pub at : get_elem? s.views 0 ≡ some (Publishes old)
    pub cell : Cell T
    pub begun : Begins h.cell.published cell.published
    pub history : IsHistory begins follows cell.published
    pub shows : Shows (shown (record { words = words; homes = homes; views = set s.views 0 (Publishes new) })) cell
    pub left : new.left ≤ old.left
    pub readers : new.readers ≡ old.readers
    pub guests : AreGuests new.name new.published new.guests
    pub sunk : AreSunk cell.buried new.guests
    pub gone : (j : ℕ) → h.cell.buried j ≡ true → cell.buried j ≡ true
    pub fixed : (word : ℕ) → new.fixed ≡ Some word → (new.readers ≡ 0) × (get_or words 0 0 ≡ word)
    pub free : (word slot : ℕ) → new.fixed ≡ Some word → new.how ≡ Probing slot → AreFree words homes (slot_of word) new.swept
    pub spare : AllFree words homes new.found
    pub homes_are : (slot : ℕ) (home : maybe.Option (Room T)) → get_elem? homes slot ≡ some home → HomeIs spots h.name (shown (record { words = words; homes = homes; views = set s.views 0 (Publishes new) })) slot home
    pub mine : Knows spots h.name cell homes (Publishes new)
    pub others : (j : ℕ) (view : View T) → j ≢ 0 → get_elem? s.views j ≡ some view → Undisturbed s.homes homes h.name view

  -- what is known of the publisher
  pub knows_publisher : (s : Board T) (h : Holds begins follows spots s) (p : Publishing T) → get_elem? s.views 0 ≡ some (Publishes p) → Counts h.cell.buried s p
  knows_publisher s h p at = let same : h.first.0 ≡ p = (let e = one_there s.views 0 (Publishes h.first.0) (Publishes p) h.first.1 at in cc) in subst (Counts h.cell.buried s) same h.first.2

  pub publisher_step : (s : Board T) (h : Holds begins follows spots s) (words : List ℕ) (homes : List (maybe.Option (Room T))) (old new : Publishing T) → PublisherStep s h words homes old new → Holds begins follows spots (record { words = words; homes = homes; views = set s.views 0 (Publishes new) })
  publisher_step s h words homes old new o =
      let few = sum_set left_of s.views 0 (Publishes old) (Publishes new) o.at in
      let counted = sum_set read_of s.views 0 (Publishes old) (Publishes new) o.at in
      let counts = knows_publisher s h old o.at in
      record {
        cell = o.cell;
        shows = o.shows;
        history = o.history;
        name = h.name;
        few = omega (arith, few, h.few, o.left);
        homes = o.homes_are;
        knows = λ j view e. ⊎_elim
            (λ (t : (j ≡ 0) × (Publishes new ≡ view)). subst (Knows spots h.name o.cell homes) t.1 o.mine)
            (λ (t : (j ≢ 0) × (get_elem? s.views j ≡ some view)). knows_kept spots h.name h.cell o.cell s.homes homes view (λ p is. absurd (t.0 (h.only j p (t.1 ∙ ap some is)))) o.begun o.gone (o.others j view t.0 t.1) (h.knows j view t.1))
            (at_set s.views 0 j (Publishes new) view e);
        first = (
          new,
          set_here s.views 0 (Publishes new) (got_within s.views 0 (Publishes old) o.at),
          record { readers = omega (arith, counts.readers, counted, o.readers); guests = o.guests; sunk = o.sunk; fixed = o.fixed; free = o.free; spare = o.spare },
        );
        only = λ j p e. ⊎_elim
            (λ (t : (j ≡ 0) × (Publishes new ≡ Publishes p)). t.0)
            (λ (t : (j ≢ 0) × (get_elem? s.views j ≡ some (Publishes p))). h.only j p t.1)
            (at_set s.views 0 j (Publishes new) (Publishes p) e);
      }
