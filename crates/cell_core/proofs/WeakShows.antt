-- What a look, a raise, a note, a fade and a reset show.
use Rattle.std.proofs.Common.{◌≡◌, refl, sym, ap, ◌∙◌, subst, ℕ, ◌+◌, ◌<◌, ◌≤◌, true, false, ◌⊎◌, inl, inr, length, arith}
use Rattle.std.specs.Prelude.{Option, None, Some}
use Rattle.std.specs.List.{slice_get}
use Rattle.std.specs.Option.{option_and_then}
use Rattle.std.proofs.lemmas.Bool.{cases_lt, lt-ltb, le-ltb}
use Rattle.std.proofs.lemmas.Bool.Decides.{eqb_tells}
use Rattle.cell_core.proofs.SeatLemmas.{held_some, weaks_some, one_at_itself}
use Rattle.cell_core.proofs.LittleLemmas.{live_little, few_weak}
use Rattle.cell_core.proofs.ReleaseKeeps.{one_share_less}
use Rattle.cell_core.proofs.RaiseKeeps.{lives, buried_there, raise_keeps, late_keeps, note_keeps}
use Rattle.cell_core.proofs.FadeKeeps.{weak_fade_keeps, burier_fade_keeps, reset_keeps}
use Rattle.cell_core.specs.Cell.{Cell, with_strong, with_weak, without_weak}
use Rattle.cell_core.specs.Words.{State, notes, dead_word, fetch_add, fetch_sub, owned_of, fading_of}
use Rattle.cell_core.specs.WordSteps.{Looks, Raises, Notes, Fades, Resets, with_slot, with_owner, with_new_owner, with_shares, with_weak_word, with_grant, with_note, owned_in}
use Rattle.cell_core.specs.Shows.{Rest, Phase, RestWord, WeakWord, number_of, Shows, ShowsStep, weaks}
use Rattle.cell_core.specs.Shows.Rest.{fading, outlived, closing, closed}
use Rattle.cell_core.specs.Shows.Phase.{free, taken, live, dead}
use Rattle.cell_core.specs.declared.words.Slot.{Slot}
use Rattle.cell_core.specs.declared.words.Owner.{Owner}
use Rattle.cell_core.specs.declared.words.Owner.TheVariants.{Holding, Twice, Weakly, Both, Burying, Fading, Resetting, Freeing, Spent}
use Rattle.cell_core.specs.declared.words.WordStep.{WordStep}
use Rattle.cell_core.specs.declared.words.WordStep.TheVariants.{Look, Raise, Note, Fade, Reset}
use Rattle.cell_core.specs.declared.words.WordEvent.{WordEvent}
use Rattle.cell_core.specs.declared.words.WordEvent.TheVariants.{Alive, Dead, Raised, Noted, Faded, Closed, Restored}

-- a step that tells this, makes this and shows this
pub shown : {T : Type 0} (state new made : State T) (step : WordStep T) (event reported : WordEvent) (cell next : Cell T) → event ≡ reported → new ≡ made → ShowsStep state step reported cell next → Shows made next → (n : Cell T) × ShowsStep state step event cell n × Shows new n
shown state new made step event reported cell next e n a b = (next, subst (λ x. ShowsStep state step x cell next) (sym e) a, subst (λ x. Shows x next) (sym n) b)

-- who has a version, weakly or not
abbrev pub Has : {T : Type 0} → State T → ℕ → ℕ → ℕ → Type 0
Has state owner number place = (slice_get state.owners owner ≡ Some (Holding number place)) ⊎ (slice_get state.owners owner ≡ Some (Weakly number place))

owned_cases : (how : Owner) (number place : ℕ) → owned_of how ≡ Some (number, place) → (how ≡ Holding number place) ⊎ (how ≡ Weakly number place)
owned_cases (Holding n p) number place e =
    let pair : (n, p) ≡ (number, place) = cc in
    inl (ap (λ (x : ℕ × ℕ). Holding x.0 x.1) pair)
owned_cases (Weakly n p) number place e =
    let pair : (n, p) ≡ (number, place) = cc in
    inr (ap (λ (x : ℕ × ℕ). Weakly x.0 x.1) pair)
owned_cases (Twice n p) number place e = absurd (let wrong = e in cc)
owned_cases (Both n p) number place e = absurd (let wrong = e in cc)
owned_cases (Burying p) number place e = absurd (let wrong = e in cc)
owned_cases (Fading p) number place e = absurd (let wrong = e in cc)
owned_cases (Resetting p) number place e = absurd (let wrong = e in cc)
owned_cases (Freeing p) number place e = absurd (let wrong = e in cc)
owned_cases Spent number place e = absurd (let wrong = e in cc)

has_at : (seat : Option Owner) (number place : ℕ) → option_and_then owned_of seat ≡ Some (number, place) → (seat ≡ Some (Holding number place)) ⊎ (seat ≡ Some (Weakly number place))
has_at None number place e = absurd (let wrong = e in cc)
has_at (Some how) number place e = elim (owned_cases how number place e) [ inl holding ↦ inl (ap Some holding) | inr weak ↦ inr (ap Some weak) ]

pub has_cases : {T : Type 0} (state : State T) (owner number place : ℕ) → owned_in state owner ≡ Some (number, place) → Has state owner number place
has_cases state owner number place e = has_at (slice_get state.owners owner) number place e

-- the slot of a version that isn't buried, or is
pub record Open {T : Type 0} (state : State T) (cell : Cell T) (s : Shows state cell) (number place : ℕ) (there : Slot T) : Type 0 where
  pub phase : s.plan.phase place ≡ live number
  pub little : there.shares < dead_word
  pub unburied : cell.buried number ≡ false

pub record Shut {T : Type 0} (state : State T) (cell : Cell T) (s : Shows state cell) (number place : ℕ) (there : Slot T) : Type 0 where
  pub late : ℕ
  pub rest : Rest
  pub phase : s.plan.phase place ≡ dead number late rest
  pub great : dead_word ≤ there.shares
  pub buried : cell.buried number ≡ true

is_open : {T : Type 0} (state : State T) (cell : Cell T) (s : Shows state cell) (number place : ℕ) (there : Slot T) → slice_get state.table place ≡ Some there → s.plan.phase place ≡ live number → Open state cell s number place there
is_open state cell s number place there at phase =
    let here = lives state cell s place number there at phase in
    let little = live_little state cell s place number there here.is in
    record { phase = phase; little = omega (arith, little); unburied = here.is.unburied }

-- S of a weak owner's slot tells whether its version is buried
sees_by : {T : Type 0} (state : State T) (cell : Cell T) (s : Shows state cell) (number place : ℕ) (there : Slot T) (phase : Phase) → slice_get state.table place ≡ Some there → s.plan.phase place ≡ phase → number_of phase ≡ Some number → Open state cell s number place there ⊎ Shut state cell s number place there
sees_by state cell s number place there free at is of = absurd (let wrong = of in cc)
sees_by state cell s number place there (taken prepared) at is of = absurd (let wrong = of in cc)
sees_by state cell s number place there (live j) at is of = let same : j ≡ number = cc in inl (is_open state cell s number place there at (is ∙ ap live same))
sees_by state cell s number place there (dead j late rest) at is of =
    let same : j ≡ number = cc in
    let phase : s.plan.phase place ≡ dead number late rest = is ∙ ap (λ x. dead x late rest) same in
    let here = buried_there state cell s place number late rest there at phase in
    inr (record { late = late; rest = rest; phase = phase; great = omega (arith, here.is.shares); buried = here.is.buried })

pub weak_sees : {T : Type 0} (state : State T) (cell : Cell T) (s : Shows state cell) (owner number place : ℕ) (there : Slot T) → slice_get state.owners owner ≡ Some (Weakly number place) → slice_get state.table place ≡ Some there → Open state cell s number place there ⊎ Shut state cell s number place there
weak_sees state cell s owner number place there seat at = sees_by state cell s number place there (s.plan.phase place) at refl (s.owner_is owner (Weakly number place) seat).1

-- and a strong owner's slot has its version
pub holding_sees : {T : Type 0} (state : State T) (cell : Cell T) (s : Shows state cell) (owner number place : ℕ) (there : Slot T) → slice_get state.owners owner ≡ Some (Holding number place) → slice_get state.table place ≡ Some there → Open state cell s number place there
holding_sees state cell s owner number place there seat at =
    let lies = s.owner_is owner (Holding number place) seat in
    is_open state cell s number place there at (ap s.plan.phase (sym lies.here) ∙ (s.numbers.lies number (omega (arith, lies.published, s.numbers.last)) lies.unburied).1)

-- an owner is counted
pub strong_counted : {T : Type 0} (state : State T) (cell : Cell T) (s : Shows state cell) (owner number place : ℕ) → slice_get state.owners owner ≡ Some (Holding number place) → 0 < cell.strong number
strong_counted state cell s owner number place seat =
    let some = held_some state.owners owner number (Holding number place) seat in
    let one = one_at_itself number in
    let strong = s.counts.strong number in
    omega (arith, some, one, strong)

pub weak_counted : {T : Type 0} (state : State T) (cell : Cell T) (s : Shows state cell) (owner number place : ℕ) → slice_get state.owners owner ≡ Some (Weakly number place) → 0 < cell.weak number
weak_counted state cell s owner number place seat =
    let some = weaks_some state.owners owner number (Weakly number place) seat in
    let one = one_at_itself number in
    let weak = s.counts.weak number in
    omega (arith, some, one, weak)

not_both : (shares : ℕ) → shares < dead_word → dead_word ≤ shares → ⊥
not_both shares l g = omega (arith, l, g)

-- look: where DEAD is seen, a weak owner's step up gives none
pub look_shows : {T : Type 0} (state new : State T) (owner : ℕ) (event : WordEvent) (cell : Cell T) → Shows state cell → Looks state owner event new → (next : Cell T) × ShowsStep {T = T} state (Look owner) event cell next × Shows new next
look_shows {T} state new owner event cell s (number, place, there, own, at, m) =
    elim (cases_lt there.shares dead_word) [
      | inl little ↦ (let r = rw (lt-ltb there.shares dead_word little) at m in shown state new state (Look owner) event Alive cell cell r.0 r.1 refl s)
      | inr great ↦ (
          let r = rw (le-ltb there.shares dead_word great) at m in
          elim (has_cases state owner number place own) [
            | inl seat ↦ absurd (not_both there.shares (holding_sees state cell s owner number place there seat at).little great)
            | inr seat ↦ elim (weak_sees state cell s owner number place there seat at) [
              | inl open_still ↦ absurd (not_both there.shares open_still.little great)
              | inr gone ↦ shown state new state (Look owner) event Dead cell cell r.0 r.1 (number, place, seat, (weak_counted state cell s owner number place seat, rw gone.buried (refl, refl))) s
            ]
          ]
          )
    ]

-- raise: an owner more, or none of what is buried
pub raise_shows : {T : Type 0} (state new : State T) (owner : ℕ) (event : WordEvent) (cell : Cell T) → Shows state cell → Raises state owner event new → (next : Cell T) × ShowsStep {T = T} state (Raise owner) event cell next × Shows new next
raise_shows {T} state new owner event cell s (number, place, there, own, at, room, m) =
    let more : State T = with_new_owner (Holding number place) (with_grant (with_slot place (with_shares (fetch_add there.shares 1) there) state)) in
    let same : State T = with_grant (with_slot place (with_shares (fetch_add there.shares 1) there) state) in
    elim (cases_lt there.shares dead_word) [
      | inl little ↦ (
          let r = rw (lt-ltb there.shares dead_word little) at m in
          elim (has_cases state owner number place own) [
            | inl seat ↦ (
                let open_still = holding_sees state cell s owner number place there seat at in
                shown state new more (Raise owner) event (Raised (length state.owners) number) cell (with_strong number cell) r.0 r.1
                (place, inl (seat, (strong_counted state cell s owner number place seat, refl, refl)))
                (raise_keeps state cell number place there s at open_still.phase room)
                )
            | inr seat ↦ elim (weak_sees state cell s owner number place there seat at) [
              | inl open_still ↦ shown state new more (Raise owner) event (Raised (length state.owners) number) cell (with_strong number cell) r.0 r.1
                  (place, inr (seat, (weak_counted state cell s owner number place seat, rw open_still.unburied (refl, refl))))
                  (raise_keeps state cell number place there s at open_still.phase room)
              | inr gone ↦ absurd (not_both there.shares little gone.great)
            ]
          ]
          )
      | inr great ↦ (
          let r = rw (le-ltb there.shares dead_word great) at m in
          elim (has_cases state owner number place own) [
            | inl seat ↦ absurd (not_both there.shares (holding_sees state cell s owner number place there seat at).little great)
            | inr seat ↦ elim (weak_sees state cell s owner number place there seat at) [
              | inl open_still ↦ absurd (not_both there.shares open_still.little great)
              | inr gone ↦ shown state new same (Raise owner) event Dead cell cell r.0 r.1 (number, place, seat, (weak_counted state cell s owner number place seat, rw gone.buried (refl, refl)))
                  (late_keeps state cell number place gone.late gone.rest there s at gone.phase room)
            ]
          ]
          )
    ]

-- note: a weak owner more
pub note_shows : {T : Type 0} (state new : State T) (owner : ℕ) (event : WordEvent) (cell : Cell T) → Shows state cell → Notes state owner event new → (next : Cell T) × ShowsStep {T = T} state (Note owner) event cell next × Shows new next
note_shows {T} state new owner event cell s (number, place, there, seat, at, room, reported, is) =
    let open_still = holding_sees state cell s owner number place there seat at in
    shown state new (with_new_owner (Weakly number place) (with_note (with_slot place (with_weak_word (fetch_add there.weak 1) there) state))) (Note owner) event (Noted (length state.owners) number) cell (with_weak number cell) reported is
    (strong_counted state cell s owner number place seat, refl, refl)
    (note_keeps state cell number place there s at open_still.phase room)

-- who is to fade
abbrev pub IsToFade : {T : Type 0} → State T → ℕ → ℕ → Type 0
IsToFade state owner place = ((number : ℕ) × (slice_get state.owners owner ≡ Some (Weakly number place))) ⊎ (slice_get state.owners owner ≡ Some (Fading place))

fading_cases : (how : Owner) (place : ℕ) → fading_of how ≡ Some place → ((number : ℕ) × (how ≡ Weakly number place)) ⊎ (how ≡ Fading place)
fading_cases (Weakly number p) place e = let same : p ≡ place = cc in inl (number, ap (Weakly number) same)
fading_cases (Fading p) place e = let same : p ≡ place = cc in inr (ap Fading same)
fading_cases (Holding number p) place e = absurd (let wrong = e in cc)
fading_cases (Twice number p) place e = absurd (let wrong = e in cc)
fading_cases (Both number p) place e = absurd (let wrong = e in cc)
fading_cases (Burying p) place e = absurd (let wrong = e in cc)
fading_cases (Resetting p) place e = absurd (let wrong = e in cc)
fading_cases (Freeing p) place e = absurd (let wrong = e in cc)
fading_cases Spent place e = absurd (let wrong = e in cc)

fades_from : (seat : Option Owner) (place : ℕ) → option_and_then fading_of seat ≡ Some place → ((number : ℕ) × (seat ≡ Some (Weakly number place))) ⊎ (seat ≡ Some (Fading place))
fades_from None place e = absurd (let wrong = e in cc)
fades_from (Some how) place e = elim (fading_cases how place e) [ inl weak ↦ inl (weak.0, ap Some weak.1) | inr burier ↦ inr (ap Some burier) ]

pub to_fade : {T : Type 0} (state : State T) (owner place : ℕ) → option_and_then fading_of (slice_get state.owners owner) ≡ Some place → IsToFade state owner place
to_fade state owner place e = fades_from (slice_get state.owners owner) place e

-- K counts who is to fade, and is small
rest_counts : (weak k : ℕ) (rest : Rest) → RestWord weak rest k → 0 < weak → (0 < k) × (k ≤ weak + 1)
rest_counts weak k (fading o) w some = (omega (arith, w), omega (arith, w))
rest_counts weak k outlived w some = (omega (arith, w.0, some), omega (arith, w.0))
rest_counts weak k (closing o) w some = absurd (omega (arith, w.1, some))
rest_counts weak k (closed o) w some = absurd (omega (arith, w.1, some))

word_counts : {T : Type 0} (state : State T) (place number k : ℕ) (phase : Phase) → WeakWord state.owners place phase k → number_of phase ≡ Some number → 0 < weaks state.owners number → (0 < k) × (k ≤ weaks state.owners number + 1)
word_counts state place number k free w of some = absurd (let wrong = of in cc)
word_counts state place number k (taken prepared) w of some = absurd (let wrong = of in cc)
word_counts state place number k (live j) w of some =
    let same : weaks state.owners j ≡ weaks state.owners number = ap (weaks state.owners) (let e : j ≡ number = cc in e) in
    (omega (arith, w), omega (arith, w, same))
word_counts state place number k (dead j late rest) w of some =
    let same : weaks state.owners j ≡ weaks state.owners number = ap (weaks state.owners) (let e : j ≡ number = cc in e) in
    let counts = rest_counts (weaks state.owners j) k rest w.0 (omega (arith, same, some)) in
    (counts.0, omega (arith, counts.1, same))

pub fade_counts : {T : Type 0} (state : State T) (cell : Cell T) (s : Shows state cell) (owner place : ℕ) (there : Slot T) → IsToFade state owner place → slice_get state.table place ≡ Some there → (0 < there.weak) × (there.weak ≤ notes + 1)
fade_counts state cell s owner place there (inl seat) at =
    let number : ℕ = seat.0 in
    let counted = weaks_some state.owners owner number (Weakly number place) seat.1 in
    let one = one_at_itself number in
    let some : 0 < weaks state.owners number = omega (arith, counted, one) in
    let few = few_weak state cell s number in
    let counts = word_counts state place number there.weak (s.plan.phase place) (s.table.weak_word place there at) (s.owner_is owner (Weakly number place) seat.1).1 some in
    (counts.0, omega (arith, counts.1, few))
fade_counts state cell s owner place there (inr seat) at =
    let c = s.owner_is owner (Fading place) seat in
    let number : ℕ = c.0 in
    let here = buried_there state cell s place number c.1 (fading owner) there at c.3 in
    let few = few_weak state cell s number in
    (omega (arith, here.weak), omega (arith, here.weak, few))

pub fade_less : {T : Type 0} (state : State T) (cell : Cell T) (s : Shows state cell) (owner place : ℕ) (there : Slot T) → IsToFade state owner place → slice_get state.table place ≡ Some there → fetch_sub there.weak 1 + 1 ≡ there.weak
fade_less state cell s owner place there who at =
    let counts = fade_counts state cell s owner place there who at in
    one_share_less there.weak counts.0 (omega (arith, counts.1))

-- fade: a weak owner less, or none
pub fade_shows : {T : Type 0} (state new : State T) (owner : ℕ) (event : WordEvent) (cell : Cell T) → Shows state cell → Fades state owner event new → (next : Cell T) × ShowsStep {T = T} state (Fade owner) event cell next × Shows new next
fade_shows {T} state new owner event cell s (place, there, fades, at, m) =
    let who = to_fade state owner place fades in
    let less = fade_less state cell s owner place there who at in
    elim (eqb_tells (fetch_sub there.weak 1) 0) [
      | inl none ↦ (
          let r = rw none.0 at m in
          let made : State T = with_owner owner (Resetting place) (with_slot place (with_weak_word 0 there) state) in
          let last : 0 + 1 ≡ there.weak = omega (arith, less, none.1) in
          elim who [
            | inl seat ↦ shown state new made (Fade owner) event Closed cell (without_weak seat.0 cell) r.0 r.1 (inl (seat.0, place, seat.1, (weak_counted state cell s owner seat.0 place seat.1, refl, refl)))
                (weak_fade_keeps state cell owner seat.0 place 0 (Resetting place) there s seat.1 at last (inl (refl, refl)))
            | inr seat ↦ shown state new made (Fade owner) event Closed cell cell r.0 r.1 (inr (place, seat, refl))
                (burier_fade_keeps state cell owner place 0 (Resetting place) there s seat at last (inl (refl, refl)))
          ]
          )
      | inr some ↦ (
          let r = rw some.0 at m in
          let made : State T = with_owner owner Spent (with_slot place (with_weak_word (fetch_sub there.weak 1) there) state) in
          let left : 0 < fetch_sub there.weak 1 = omega (arith, some.1) in
          elim who [
            | inl seat ↦ shown state new made (Fade owner) event Faded cell (without_weak seat.0 cell) r.0 r.1 (inl (seat.0, place, seat.1, (weak_counted state cell s owner seat.0 place seat.1, refl, refl)))
                (weak_fade_keeps state cell owner seat.0 place (fetch_sub there.weak 1) Spent there s seat.1 at less (inr (left, refl)))
            | inr seat ↦ shown state new made (Fade owner) event Faded cell cell r.0 r.1 (inr (place, seat, refl))
                (burier_fade_keeps state cell owner place (fetch_sub there.weak 1) Spent there s seat at less (inr (left, refl)))
          ]
          )
    ]

-- reset: nothing is shown
pub reset_shows : {T : Type 0} (state new : State T) (owner : ℕ) (event : WordEvent) (cell : Cell T) → Shows state cell → Resets state owner event new → (next : Cell T) × ShowsStep {T = T} state (Reset owner) event cell next × Shows new next
reset_shows {T} state new owner event cell s (place, there, seat, at, reported, is) =
    shown state new (with_owner owner (Freeing place) (with_slot place (with_weak_word 1 there) state)) (Reset owner) event Restored cell cell reported is refl (reset_keeps state cell owner place there s seat at)
