-- A transfer that upgrades entries comes to its end.
use Rattle.std.proofs.Common.{◌≡◌, ◌≢◌, refl, sym, ap, ◌∙◌, subst, ℕ, ◌+◌, ◌-◌, ◌*◌, ◌≤◌, inl, inr, List, [], ◌∷◌, ◌++◌, length, arith, Some, length-append}
use Rattle.std.specs.Prelude.{nat_lt}
use Rattle.std.specs.List.{slice_get}
use Rattle.std.specs.Option.{option_and_then}
use Rattle.std.proofs.lemmas.Bool.{cases_Bool}
use Rattle.std.proofs.lemmas.Option.{slice_get_within}
use Rattle.cell_core.proofs.GoesOn.{look_goes_on, raise_goes_on}
use Rattle.cell_core.proofs.SeatLemmas.{get_push_old, get_push_new}
use Rattle.cell_core.proofs.StepShows.{step_shows}
use Rattle.cell_core.proofs.UserLemmas.{owner_finds, owner_is_given}
use Rattle.cell_core.specs.Cell.{Cell}
use Rattle.cell_core.specs.Shows.{Shows}
use Rattle.cell_core.specs.Words.{dead_word, found_by, grants, owned_of}
use Rattle.cell_core.specs.WordSteps.{Makes}
use Rattle.cell_core.specs.declared.words.Owner.{Owner}
use Rattle.cell_core.specs.declared.words.Owner.TheVariants.{Holding, Weakly}
use Rattle.cell_core.specs.declared.words.WordEvent.TheVariants as reported
use Rattle.cell_core.specs.declared.words.WordStep.TheVariants as word
use Rattle.world_run.specs.declared.phase.Phase.TheVariants as phase
use Rattle.world_run.specs.declared.phase.Progress.TheVariants.{On}
use Rattle.world_run.specs.declared.sending.Seeking.{Seeking}
use Rattle.zone_tree.specs.Version.{Version as Numbered}
use Rattle.world_run.specs.Phases.{after, sent_after, completed, with_got, gained_after, got_after}
use Rattle.world_run.specs.World.{steps_up_to}
use Rattle.world_laws.proofs.EndLemmas.{Zones, IsDone, EndsFrom, IsApart, AreAll, went, on_by, step_ends, sent_end}

-- several owners are weak
abbrev pub AreWeak : List Owner → List ℕ → Type 0
AreWeak owners [] = Unit {0}
AreWeak owners (o ∷ os) = ((number : ℕ) × (place : ℕ) × (slice_get owners o ≡ Some (Weakly number place))) × AreWeak owners os

weak_push : (owners : List Owner) (one : Owner) (os : List ℕ) → AreWeak owners os → AreWeak (owners ++ one ∷ []) os
weak_push owners one [] weak = tt
weak_push owners one (o ∷ os) weak = ((weak.0.0, weak.0.1, get_push_old owners one (Weakly weak.0.0 weak.0.1) o weak.0.2), weak_push owners one os weak.1)

apart_more : (owner more : ℕ) (os : List ℕ) → more ≢ owner → IsApart owner os → IsApart owner (os ++ more ∷ [])
apart_more owner more [] other apart = (other, tt)
apart_more owner more (o ∷ os) other apart = (apart.0, apart_more owner more os other apart.1)

-- one more that was got
got_more : (owners : List Owner) (number place : ℕ) (os : List ℕ) → AreAll Holding owners os → AreAll Holding (owners ++ Holding number place ∷ []) (os ++ length owners ∷ [])
got_more owners number place [] all = ((number, place, get_push_new owners (Holding number place) (length owners) refl), tt, tt)
got_more owners number place (o ∷ os) all =
    let within = slice_get_within owners o (Holding all.0.0 all.0.1) all.0.2 in (
      (all.0.0, all.0.1, get_push_old owners (Holding number place) (Holding all.0.0 all.0.1) o all.0.2),
      apart_more o (length owners) os (λ e. absurd (omega (arith, e, within))) all.1,
      got_more owners number place os all.2,
    )

-- a raise of an entry, and a look at one, with so many behind it, come to an end
abbrev GainEnds : List ℕ → Type 0
GainEnds later = (left : ℕ) (words : Zones) (cell : Cell Numbered) (owner : ℕ) (seeking : Seeking) → seeking.left ≡ later → 6 + (7 * length later + 5 * length seeking.owners) ≤ left → Shows words cell → AreWeak words.owners (owner ∷ later) → AreAll Holding words.owners seeking.owners
    → words.granted + (1 + length later) ≤ grants → IsDone (steps_up_to left words (phase.Gain owner seeking)).0

abbrev SeekEnds : List ℕ → Type 0
SeekEnds later = (left : ℕ) (words : Zones) (cell : Cell Numbered) (owner : ℕ) (seeking : Seeking) → seeking.left ≡ later → 7 + (7 * length later + 5 * length seeking.owners) ≤ left → Shows words cell → AreWeak words.owners (owner ∷ later) → AreAll Holding words.owners seeking.owners
    → words.granted + (1 + length later) ≤ grants → IsDone (steps_up_to left words (phase.Seek owner seeking)).0

seek_by : (later : List ℕ) → GainEnds later → SeekEnds later
seek_by later gains left words cell owner seeking is enough s weak all room =
    let has = look_goes_on words cell owner weak.0.0 weak.0.1 s (ap (option_and_then owned_of) weak.0.2) in
    let (number, place, there, own, found, m) = has.2 in
    elim (cases_Bool (nat_lt there.shares dead_word)) [
      | inl alive ↦ (
          let made_here : Makes words (word.Look owner) reported.Alive words = (number, place, there, own, found, rw alive (refl, refl)) in
          on_by left words words (phase.Seek owner seeking) (phase.Gain owner seeking) (omega (arith, enough)) (went words words (phase.Seek owner seeking) reported.Alive (On (phase.Gain owner seeking)) made_here refl)
          (gains (left - 1) words cell owner seeking is (omega (arith, enough)) s weak all room)
          )
      | inr dead ↦ (
          let made_here : Makes words (word.Look owner) reported.Dead words = (number, place, there, own, found, rw dead (refl, refl)) in
          step_ends left words words (phase.Seek owner seeking) (sent_after seeking.sending seeking.owners) (omega (arith, enough)) (went words words (phase.Seek owner seeking) reported.Dead (sent_after seeking.sending seeking.owners) made_here refl)
          (sent_end seeking.sending seeking.owners (left - 1) words cell (omega (arith, enough)) s all)
          )
    ]

-- what follows where one more was got
gained_end : (later : List ℕ) → ((next : ℕ) (rest : List ℕ) → later ≡ next ∷ rest → SeekEnds rest) → (left : ℕ) (words : Zones) (cell : Cell Numbered) (further : Seeking) → 7 * length later + 5 * length further.owners ≤ left → Shows words cell → AreWeak words.owners later → AreAll Holding words.owners further.owners
    → words.granted + length later ≤ grants → EndsFrom left words (gained_after further later)
gained_end [] more left words cell further enough s weak all room = sent_end (completed further.sending) further.owners left words cell (omega (arith, enough)) s all
gained_end (next ∷ rest) more left words cell further enough s weak all room =
    more next rest refl left words cell next (record { sending = further.sending; left = rest; owners = further.owners }) refl (omega (arith, enough)) s weak all (omega (arith, room))

gain_by : (later : List ℕ) → ((next : ℕ) (rest : List ℕ) → later ≡ next ∷ rest → SeekEnds rest) → GainEnds later
gain_by later more left words cell owner seeking is enough s weak all room =
    let has = raise_goes_on words cell owner weak.0.0 weak.0.1 s (ap (option_and_then owned_of) weak.0.2) (omega (arith, room)) in
    let shown = step_shows words has.1 (word.Raise owner) has.0 cell s has.2 in
    let (number, place, there, own, found, few, m) = has.2 in
    elim (cases_Bool (nat_lt there.shares dead_word)) [
      | inl alive ↦ (
          let h = rw alive at m in
          let next = length words.owners in
          let made_here : Makes words (word.Raise owner) (reported.Raised next number) has.1 = (number, place, there, own, found, few, rw alive (refl, h.1)) in
          let owners_is : has.1.owners ≡ words.owners ++ Holding number place ∷ [] = ap (λ (w : Zones). w.owners) h.1 in
          let granted_is : has.1.granted ≡ words.granted + 1 = ap (λ (w : Zones). w.granted) h.1 in
          let here : slice_get has.1.owners next ≡ Some (Holding number place) = ap (λ o. slice_get o next) owners_is ∙ get_push_new words.owners (Holding number place) next refl in
          let finds = owner_finds has.1 shown.0 next number place shown.2 here in
          let given : found_by has.1 next ≡ Some finds.0 = owner_is_given has.1 shown.0 next number place shown.2 here ∙ finds.2 in
          let further = with_got next finds.0 seeking in
          let goes : after has.1 (phase.Gain owner seeking) (reported.Raised next number) ≡ gained_after further later = ap (got_after owner seeking next) given ∙ ap (gained_after further) is in
          let longer : length further.owners ≡ length seeking.owners + 1 = length-append seeking.owners (next ∷ []) in
          step_ends left words has.1 (phase.Gain owner seeking) (gained_after further later) (omega (arith, enough)) (went words has.1 (phase.Gain owner seeking) (reported.Raised next number) (gained_after further later) made_here goes)
          (gained_end later more (left - 1) has.1 shown.0 further (omega (arith, enough, longer)) shown.2
          (subst (λ o. AreWeak o later) (sym owners_is) (weak_push words.owners (Holding number place) later weak.1))
          (subst (λ o. AreAll Holding o further.owners) (sym owners_is) (got_more words.owners number place seeking.owners all))
          (omega (arith, room, granted_is)))
          )
      | inr dead ↦ (
          let h = rw dead at m in
          let made_here : Makes words (word.Raise owner) reported.Dead has.1 = (number, place, there, own, found, few, rw dead (refl, h.1)) in
          let owners_is : has.1.owners ≡ words.owners = ap (λ (w : Zones). w.owners) h.1 in
          step_ends left words has.1 (phase.Gain owner seeking) (sent_after seeking.sending seeking.owners) (omega (arith, enough)) (went words has.1 (phase.Gain owner seeking) reported.Dead (sent_after seeking.sending seeking.owners) made_here refl)
          (sent_end seeking.sending seeking.owners (left - 1) has.1 shown.0 (omega (arith, enough)) shown.2 (subst (λ o. AreAll Holding o seeking.owners) (sym owners_is) all))
          )
    ]

-- a transfer's upgrades come to an end
pub seek_ends : (later : List ℕ) → SeekEnds later
seek_ends [] = seek_by [] (gain_by [] (λ next rest e. absurd (let wrong = e in cc)))
seek_ends (one ∷ later) = seek_by (one ∷ later) (gain_by (one ∷ later) (λ next rest e. (let same : later ≡ rest = (let i = e in cc) in subst (λ l. SeekEnds l) same (seek_ends later))))
