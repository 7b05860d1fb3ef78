-- Several calls under way: of all of them one is an update, and about to publish what the next update makes.
use Rattle.std.proofs.Common.{◌≡◌, refl, sym, ap, ◌∙◌, subst, ℕ, ◌+◌, ◌≤◌, Bool, true, false, inl, inr, List, [], ◌∷◌, ◌++◌, map, arith, Some}
use Rattle.std.specs.Prelude.{◌||◌, not, bytes_eq}
use Rattle.std.specs.List.{list_any}
use Rattle.std.proofs.lemmas.Bool.{cases_Bool}
use Rattle.dns_rdata.specs.Record.{Record}
use Rattle.serve_core.specs.Heading.{heading_of_update}
use Rattle.serve_core.specs.declared.heading.Heading.{Heading}
use Rattle.world_run.specs.declared.phase.Phase.{Phase}
use Rattle.world_run.specs.declared.phase.Phase.TheVariants as phase
use Rattle.world_run.specs.declared.phase.Progress.{Progress}
use Rattle.world_run.specs.declared.calls.UnderWay.{UnderWay}
use Rattle.zone_tree.specs.Version.{Version as Numbered}
use Rattle.world_run.specs.Phases.{gone, updates, seeks}
use Rattle.world_run.specs.World.{call_of, without_call, is_barred}
use Rattle.world_laws.proofs.CallReplays.{Script, scripted, Placed, IsFresh, IsNext, AreInTurn, Zones, Tells, Coherent, no_update, Behind}

-- each call under way is about to publish what the next update makes
abbrev pub AllCoherent : Script → List Record → List Placed → Zones → List UnderWay → Type 0
AllCoherent S first us words [] = Unit {0}
AllCoherent S first us words (call ∷ calls) = Coherent S first us words call.phase × AllCoherent S first us words calls

abbrev pub any_update : List UnderWay → Bool
any_update calls = list_any (λ (call : UnderWay). updates call.phase) calls

or_false : (a b : Bool) → (a || b) ≡ false → (a ≡ false) × (b ≡ false)
or_false true b e = absurd (let wrong = e in cc)
or_false false b e = (refl, e)

-- where the window stays for none of them, none is an update
pub unbarred : (calls : List UnderWay) → is_barred calls ≡ false → any_update calls ≡ false
unbarred [] e = refl
unbarred (call ∷ calls) e =
    let parts = or_false (updates call.phase || seeks call.phase) (is_barred calls) e in
    rw (or_false (updates call.phase) (seeks call.phase) parts.0).0 (unbarred calls parts.1)

-- at most one of them is an update
abbrev pub AtMostOne : List UnderWay → Type 0
AtMostOne [] = Unit {0}
AtMostOne (call ∷ calls) = (updates call.phase ≡ true → any_update calls ≡ false) × AtMostOne calls

not_both : (a : Bool) → a ≡ true → a ≡ false → ⊥
not_both a t f = let wrong : true ≡ false = sym t ∙ f in cc

pub others_all : (S : Script) (first : List Record) (us : List Placed) (words new : Zones) (at : Phase) (progress : Progress) (b : Behind S first us words new at progress) (calls : List UnderWay) → (updates at ≡ true → any_update calls ≡ false) → AllCoherent S first us words calls → AllCoherent S first b.later new calls
others_all S first us words new at progress b [] alone c = tt
others_all S first us words new at progress b (call ∷ calls) alone c =
    (b.others call.phase (λ t. (or_false (updates call.phase) (any_update calls) (alone t)).0) c.0, others_all S first us words new at progress b calls (λ t. (or_false (updates call.phase) (any_update calls) (alone t)).1) c.1)

pub without_coherent : (S : Script) (first : List Record) (us : List Placed) (words : Zones) (name : List ℕ) (calls : List UnderWay) → AllCoherent S first us words calls → AllCoherent S first us words (without_call name calls)
without_coherent S first us words name [] c = tt
without_coherent S first us words name (call ∷ calls) c =
    elim (cases_Bool (not (bytes_eq call.name name))) [
      | inl kept ↦ rw kept (c.0, without_coherent S first us words name calls c.1)
      | inr gone ↦ rw gone (without_coherent S first us words name calls c.1)
    ]

without_any : (name : List ℕ) (calls : List UnderWay) → any_update calls ≡ false → any_update (without_call name calls) ≡ false
without_any name [] e = refl
without_any name (call ∷ calls) e =
    let parts = or_false (updates call.phase) (any_update calls) e in
    elim (cases_Bool (not (bytes_eq call.name name))) [
      | inl kept ↦ rw kept (rw parts.0 (without_any name calls parts.1))
      | inr gone ↦ rw gone (without_any name calls parts.1)
    ]

pub without_one : (name : List ℕ) (calls : List UnderWay) → AtMostOne calls → AtMostOne (without_call name calls)
without_one name [] one = tt
without_one name (call ∷ calls) one =
    elim (cases_Bool (not (bytes_eq call.name name))) [
      | inl kept ↦ rw kept ((λ t. without_any name calls (one.0 t)), without_one name calls one.1)
      | inr gone ↦ rw gone (without_one name calls one.1)
    ]

pub with_coherent : (S : Script) (first : List Record) (us : List Placed) (words : Zones) (calls : List UnderWay) (call : UnderWay) → AllCoherent S first us words calls → Coherent S first us words call.phase → AllCoherent S first us words (calls ++ call ∷ [])
with_coherent S first us words [] call c new = (new, tt)
with_coherent S first us words (other ∷ calls) call c new = (c.0, with_coherent S first us words calls call c.1 new)

with_any : (calls : List UnderWay) (call : UnderWay) → any_update calls ≡ false → updates call.phase ≡ false → any_update (calls ++ call ∷ []) ≡ false
with_any [] call none e = rw e refl
with_any (other ∷ calls) call none e =
    let parts = or_false (updates other.phase) (any_update calls) none in rw parts.0 (with_any calls call parts.1 e)

pub with_one : (calls : List UnderWay) (call : UnderWay) → AtMostOne calls → (updates call.phase ≡ true → any_update calls ≡ false) → AtMostOne (calls ++ call ∷ [])
with_one [] call one alone = ((λ t. refl), tt)
with_one (other ∷ calls) call one alone = (
  λ t. elim (cases_Bool (updates call.phase)) [
    | inl is ↦ absurd (not_both (updates other.phase) t (or_false (updates other.phase) (any_update calls) (alone is)).0)
    | inr isnt ↦ with_any calls call (one.0 t) isnt
  ],
  with_one calls call one.1 (λ is. (or_false (updates other.phase) (any_update calls) (alone is)).1),
)

pub found_coherent : (S : Script) (first : List Record) (us : List Placed) (words : Zones) (name : List ℕ) (calls : List UnderWay) (call : UnderWay) → call_of name calls ≡ Some call → AllCoherent S first us words calls → Coherent S first us words call.phase
found_coherent S first us words name [] call e c = absurd (let wrong = e in cc)
found_coherent S first us words name (other ∷ calls) call e c =
    elim (cases_Bool (bytes_eq other.name name)) [
      | inl here ↦ (let found = rw here at e in let same : other ≡ call = (let f = found in cc) in subst (λ (o : UnderWay). Coherent S first us words o.phase) same c.0)
      | inr elsewhere ↦ found_coherent S first us words name calls call (rw elsewhere at e) c.1
    ]

pub found_any : (name : List ℕ) (calls : List UnderWay) (call : UnderWay) → call_of name calls ≡ Some call → updates call.phase ≡ true → any_update calls ≡ false → ⊥
found_any name [] call e is none = let wrong = e in cc
found_any name (other ∷ calls) call e is none =
    let parts = or_false (updates other.phase) (any_update calls) none in
    elim (cases_Bool (bytes_eq other.name name)) [
      | inl here ↦ (let found = rw here at e in let same : other ≡ call = (let f = found in cc) in not_both (updates call.phase) is (ap (λ (o : UnderWay). updates o.phase) (sym same) ∙ parts.0))
      | inr elsewhere ↦ found_any name calls call (rw elsewhere at e) is parts.1
    ]

pub found_alone : (name : List ℕ) (calls : List UnderWay) (call : UnderWay) → call_of name calls ≡ Some call → AtMostOne calls → updates call.phase ≡ true → any_update (without_call name calls) ≡ false
found_alone name [] call e one is = refl
found_alone name (other ∷ calls) call e one is =
    elim (cases_Bool (bytes_eq other.name name)) [
      | inl here ↦ (
          let found = rw here at e in
          let same : other ≡ call = (let f = found in cc) in
          rw here (without_any name calls (one.0 (ap (λ (o : UnderWay). updates o.phase) same ∙ is)))
          )
      | inr elsewhere ↦ (
          let there : call_of name calls ≡ Some call = rw elsewhere at e in
          elim (cases_Bool (updates other.phase)) [
            | inl both ↦ absurd (found_any name calls call there is (one.0 both))
            | inr none ↦ rw elsewhere (rw none (found_alone name calls call there one.1 is))
          ]
          )
    ]

-- and so they are where more lines were played, and where further lines may have begun the update under way
abbrev pub moved : Script → ℕ → (ℕ → Heading → Type 0) → Script
moved S top by = scripted S.sends top by

next_on : (S : Script) (top : ℕ) (by : ℕ → Heading → Type 0) (first : List Record) (us : List Placed) (version : Numbered) → S.top ≤ top → ((place : ℕ) (head : Heading) → S.by place head → by place head) → IsNext S first us version → IsNext (moved S top by) first us version
next_on S top by first us version more map n =
    let l = n.fresh.played in
    record { place = n.place; fresh = record { played = omega (arith, l, more); last = n.fresh.last }; makes = n.makes; mine = map n.place (heading_of_update n.makes.update) n.mine }

pub coherent_on : (S : Script) (top : ℕ) (by : ℕ → Heading → Type 0) (first : List Record) (us : List Placed) (words : Zones) (at : Phase) → S.top ≤ top → ((place : ℕ) (head : Heading) → S.by place head → by place head) → Coherent S first us words at → Coherent (moved S top by) first us words at
coherent_on S top by first us words (phase.Load name) more map c = tt
coherent_on S top by first us words (phase.Look name owner) more map c = tt
coherent_on S top by first us words (phase.Seek owner seeking) more map c = tt
coherent_on S top by first us words (phase.Gain owner seeking) more map c = tt
coherent_on S top by first us words (phase.Raise name owner) more map c = tt
coherent_on S top by first us words (phase.Note name owner) more map c = tt
coherent_on S top by first us words (phase.Probe version keeping) more map c = (next_on S top by first us version more map c.0, c.1)
coherent_on S top by first us words (phase.Prepare version keeping) more map c = (next_on S top by first us version more map c.0, c.1)
coherent_on S top by first us words (phase.Swap keeping) more map c = (let n = c.0 in (record { place = n.place; number = n.number; version = n.version; publisher = n.publisher; there = n.there; is_next = next_on S top by first us n.version more map n.is_next }, c.1))
coherent_on S top by first us words (phase.Settle keeping) more map c = c
coherent_on S top by first us words (phase.Keep given keeping) more map c = c
coherent_on S top by first us words (phase.Enter given kept keeping) more map c = c
coherent_on S top by first us words (phase.Release owner for) more map c = c
coherent_on S top by first us words (phase.Bury owner for) more map c = c
coherent_on S top by first us words (phase.Fade owner number for) more map c = c
coherent_on S top by first us words (phase.Reset owner number for) more map c = c
coherent_on S top by first us words (phase.Free owner number for) more map c = c

pub all_on : (S : Script) (top : ℕ) (by : ℕ → Heading → Type 0) (first : List Record) (us : List Placed) (words : Zones) (calls : List UnderWay) → S.top ≤ top → ((place : ℕ) (head : Heading) → S.by place head → by place head) → AllCoherent S first us words calls → AllCoherent (moved S top by) first us words calls
all_on S top by first us words [] more map c = tt
all_on S top by first us words (call ∷ calls) more map c = (coherent_on S top by first us words call.phase more map c.0, all_on S top by first us words calls more map c.1)

-- where no update is under way nothing is about to be published
pub all_none : (S : Script) (first : List Record) (us : List Placed) (words : Zones) (calls : List UnderWay) → any_update calls ≡ false → AllCoherent S first us words calls
all_none S first us words [] none = tt
all_none S first us words (call ∷ calls) none =
    let parts = or_false (updates call.phase) (any_update calls) none in (no_update S first us words call.phase parts.0, all_none S first us words calls parts.1)

pub tells_on : (S : Script) (top : ℕ) (by : ℕ → Heading → Type 0) (first : List Record) (words : Zones) (us : List Placed) → S.top ≤ top → Tells S first words us → Tells (moved S top by) first words us
tells_on S top by first words us more t = record {
  cell = t.cell;
  steps = t.steps;
  runs = t.runs;
  shows = t.shows;
  replays = t.replays;
  in_turn = record { sends = t.in_turn.sends; rises = t.in_turn.rises; played = λ k one e. (let l = t.in_turn.played k one e in omega (arith, l, more)) };
}

-- one line more was played
abbrev pub later_on : Script → Script
later_on S = moved S (S.top + 1) S.by

-- the next line is behind those that sent the updates so far
pub fresh_on : (S : Script) (us : List Placed) → AreInTurn S us → IsFresh (later_on S) us S.top
fresh_on S us t = record { played = omega arith; last = t.played }
