-- Worlds behind lines, with all that is known of them: the versions are replays, each owner is in one hand, and the window's entries have
-- the serials of their versions; and what is so from line to line.
use Rattle.std.proofs.Common.{◌≡◌, refl, sym, ap, ◌∙◌, subst, ℕ, suc, ◌+◌, ◌≤◌, Bool, true, false, inl, inr, List, [], ◌∷◌, ◌++◌, length, take, arith, Option, Some, None}
use Rattle.std.specs.Prelude.{min, nat_lt}
use Rattle.std.specs.List.{slice_get}
use Rattle.std.specs.Option.{option_and_then}
use Rattle.std.proofs.lemmas.List.{append-nil, map-append, take_more}
use Rattle.std.proofs.lemmas.Option.{slice_get_within, get_or_from_slice_get}
use Rattle.dns_message.specs.declared.update.Update.{Update as DynamicUpdate}
use Rattle.zone_tree.specs.Version.{zone_serial}
use Rattle.world_run.specs.declared.step.WorldReply.{WorldReply}
use Rattle.world_run.specs.declared.step.WorldStep.{WorldStep as Line}
use Rattle.world_run.specs.Entries.{most_entries}
use Rattle.world_run.specs.World.{World, started, first_entries, turn, onto_replies, play}
use Rattle.world_laws.specs.Held.{HoldVersions}
use Rattle.world_laws.specs.Leads.{HaveSerials}
use Rattle.world_laws.specs.Replays.{IsSentAt, IsReplayed}
use Rattle.world_laws.proofs.CallReplays.{script, Placed, updates_in, Zones, Further}
use Rattle.world_laws.proofs.ChainLists.{Zone}
use Rattle.world_laws.proofs.UsePlay.{Kept, turn_in_use, turn_same, started_in_use, started_less, started_few}
use Rattle.world_laws.proofs.UseWorld.{AllInUse}
use Rattle.world_laws.proofs.HeldLemmas.{held_by_kept, held_us}
use Rattle.world_laws.proofs.LeadLemmas.{zone_at}
use Rattle.world_laws.proofs.OtherCalls.{moved}
use Rattle.world_laws.proofs.ReplayLemmas.{Goes, by_after, turn_comes, goes_as, start_goes, no_updates, goes_replayed, replayed_us}
use Rattle.world_laws.proofs.WindowSerials.{Serials, serial_at, serials_on, window_fits, window_numbers}

-- a world behind so many of the lines
pub record Now (lines : List Line) (first : Zone) (keep window top : ℕ) (world : World) : Type 0 where
  pub goes : Goes (script (IsSentAt lines) top) first world
  pub all_in_use : AllInUse world
  pub less : world.window ≤ 16
  pub few : length world.entries ≤ 16
  pub serials : Serials first (updates_in goes.us) world.window world.entries
  pub earlier : List WorldReply
  pub reached : play (started first keep window) (take top lines) ≡ Some (earlier, world)

-- and behind the next of them
pub record After (lines : List Line) (first : Zone) (keep window top : ℕ) (ups : List DynamicUpdate) (words : Zones) (after : World) : Type 0 where
  pub now : Now lines first keep window (top + 1) after
  pub more : List DynamicUpdate
  pub grown : updates_in now.goes.us ≡ ups ++ more
  pub further : Further words after.words

-- one line more
rest_more : (line : Line) (reported given : WorldReply) (after : World) (replies : List WorldReply) (world : World) (o p : Option (List WorldReply × World)) → onto_replies reported o ≡ Some (replies, world)
    → ((replies : List WorldReply) (behind : World) → o ≡ Some (replies, behind) → behind ≡ world → (all : List WorldReply) × (p ≡ Some (all, after))) → (all : List WorldReply) × (onto_replies reported p ≡ Some (all, after))
rest_more line reported given after replies world None p e more = absurd (let wrong = e in cc)
rest_more line reported given after replies world (Some rest) p e more =
    let pair : (reported ∷ rest.0, rest.1) ≡ (replies, world) = (let i = e in cc) in
    let m = more rest.0 rest.1 refl (ap (λ (t : List WorldReply × World). t.1) pair) in
    (reported ∷ m.0, ap (onto_replies reported) m.1)

play_more_by : (lines : List Line) (line : Line) (replies : List WorldReply) (between : World) (given : WorldReply) (after : World) (o : Option (WorldReply × World))
    → ((reported : WorldReply) (world : World) (rest : List WorldReply) (behind : World) → play world lines ≡ Some (rest, behind) → behind ≡ between → (all : List WorldReply) × (play world (lines ++ line ∷ []) ≡ Some (all, after)))
    → option_and_then (λ reported. onto_replies reported.0 (play reported.1 lines)) o ≡ Some (replies, between) → (all : List WorldReply) × (option_and_then (λ reported. onto_replies reported.0 (play reported.1 (lines ++ line ∷ []))) o ≡ Some (all, after))
play_more_by lines line replies between given after None more e = absurd (let wrong = e in cc)
play_more_by lines line replies between given after (Some reported) more e =
    rest_more line reported.0 given after replies between (play reported.1 lines) (play reported.1 (lines ++ line ∷ [])) e (λ rest behind p same. more reported.0 reported.1 rest behind p same)

play_more : (world : World) (lines : List Line) (line : Line) (replies : List WorldReply) (between : World) (given : WorldReply) (after : World) → play world lines ≡ Some (replies, between) → turn between line ≡ Some (given, after)
    → (all : List WorldReply) × (play world (lines ++ line ∷ []) ≡ Some (all, after))
play_more world [] line replies between given after e t =
    let pair : ([], world) ≡ (replies, between) = (let i = e in cc) in
    let same : world ≡ between = ap (λ (p : List WorldReply × World). p.1) pair in
    (given ∷ [], ap (option_and_then (λ reported. onto_replies reported.0 (play reported.1 []))) (ap (λ w. turn w line) same ∙ t))
play_more world (one ∷ lines) line replies between given after e t =
    play_more_by lines line replies between given after (turn world one) (λ reported w rest behind p same. play_more w lines line rest behind given after p (ap (λ v. turn v line) same ∙ t)) e

taken_more : (lines : List Line) (top : ℕ) (line : Line) → slice_get lines top ≡ Some line → take (top + 1) lines ≡ take top lines ++ line ∷ []
taken_more lines top line e =
    take_more lines top line (slice_get_within lines top line e) ∙ ap (λ l. take top lines ++ l ∷ []) (get_or_from_slice_get lines top line line e)

pub line_now : (lines : List Line) (first : Zone) (keep window top : ℕ) (world : World) (line : Line) (given : WorldReply) (after : World) → slice_get lines top ≡ Some line → turn world line ≡ Some (given, after) → (n : Now lines first keep window top world)
    → After lines first keep window top (updates_in n.goes.us) world.words after
line_now lines first keep window top world line given after here e n =
    let t = turn_comes (script (IsSentAt lines) top) first world line (λ request sends. (line, here, sends)) n.goes given after e in
    let goes = goes_as (moved (script (IsSentAt lines) (top + 1)) (top + 1) (by_after (script (IsSentAt lines) (top + 1)) top line given after)) (top + 1) (λ place head. Unit {0}) first after (omega arith) (λ some place head by. tt) t.goes in
    let all_in_use = turn_in_use (script (IsSentAt lines) top) first world line n.goes n.all_in_use n.few given after e in
    let same_on = turn_same world line given after e in
    let same_us : updates_in t.goes.us ≡ updates_in goes.0.us = ap updates_in (sym goes.1) in
    let grown : (more : List DynamicUpdate) × (updates_in goes.0.us ≡ updates_in n.goes.us ++ more) = elim t.comes [
      | inl same ↦ ([], sym same_us ∙ (ap updates_in same.0 ∙ sym (append-nil (updates_in n.goes.us))))
      | inr adds ↦ (adds.0.update ∷ [], sym same_us ∙ (ap updates_in adds.1 ∙ map-append (λ (one : Placed). one.update) n.goes.us (adds.0 ∷ [])))
    ] in
    let reached = play_more (started first keep window) (take top lines) line n.earlier world given after n.reached e in
    record {
      now = record {
        goes = goes.0;
        all_in_use = all_in_use;
        less = subst (λ w. w ≤ 16) (sym same_on.1) n.less;
        few = same_on.2 n.less n.few;
        serials = serials_on (script (IsSentAt lines) (top + 1)) first world after (updates_in n.goes.us) grown.0 t.goes.us goes.0 all_in_use same_on.1 grown.1 same_us t.window n.serials;
        earlier = reached.0;
        reached = ap (play (started first keep window)) (taken_more lines top line here) ∙ reached.1;
      };
      more = grown.0;
      grown = grown.1;
      further = t.further;
    }

-- at the start
first_serials : (first : Zone) (size : ℕ) (some : Bool) → nat_lt 0 size ≡ some → Serials first [] size (first_entries first size)
first_serials first size true e = rw e (record { each = ((omega arith, refl), tt); fit = rw e refl })
first_serials first size false e = rw e (record { each = tt; fit = refl })

none_us : (us : List Placed) → ((k : ℕ) (one : Placed) → slice_get us k ≡ Some one → ⊥) → updates_in us ≡ []
none_us [] none = refl
none_us (one ∷ us) none = absurd (none 0 one refl)

pub started_now : (lines : List Line) (first : Zone) (keep window : ℕ) → Now lines first keep window 0 (started first keep window)
started_now lines first keep window =
    let goes = start_goes (script (IsSentAt lines) 0) first keep window in
    let none : updates_in goes.us ≡ [] = none_us goes.us (no_updates (script (IsSentAt lines) 0) first keep window) in
    record {
      goes = goes;
      all_in_use = started_in_use first keep window;
      less = started_less first keep window;
      few = started_few first keep window;
      serials = subst (λ u. Serials first u (min window most_entries) (first_entries first (min window most_entries))) (sym none) (first_serials first (min window most_entries) (nat_lt 0 (min window most_entries)) refl);
      earlier = [];
      reached = refl;
    }

-- what stands at a place, from a place on
abbrev pub At : {X : Type 0} → List X → List X → ℕ → Type 0
At {X} all rest top = (place : ℕ) (x : X) → slice_get rest place ≡ Some x → slice_get all (top + place) ≡ Some x

at_next : {X : Type 0} (all rest : List X) (x : X) (top : ℕ) → At all (x ∷ rest) top → (slice_get all top ≡ Some x) × At all rest (top + 1)
at_next {X} all rest x top at =
    let here : top + 0 ≡ top = omega arith in (
      ap (slice_get all) (sym here) ∙ at 0 x refl,
      λ place y e. (let there : top + 1 + place ≡ top + suc place = omega arith in ap (slice_get all) there ∙ at (suc place) y e),
    )

pub at_all : {X : Type 0} (all : List X) → At all all 0
at_all {X} all = λ place x f. (let here : 0 + place ≡ place = omega arith in ap (slice_get all) here ∙ f)

-- what goes on with each line is so behind all of them
module _ (lines : List Line) (replies : List WorldReply) (first : Zone) (keep window : ℕ) (track : (top : ℕ) (world : World) → Now lines first keep window top world → Type 0)
    (on : (top : ℕ) (world : World) (line : Line) (given : WorldReply) (after : World) → slice_get lines top ≡ Some line → slice_get replies top ≡ Some given → turn world line ≡ Some (given, after) → (n : Now lines first keep window top world)
    → (a : After lines first keep window top (updates_in n.goes.us) world.words after) → track top world n → track (top + 1) after a.now) where
  pub record Behind (top : ℕ) (behind : World) : Type 0 where
    pub now : Now lines first keep window top behind
    pub is : track top behind now

  abbrev From : List Line → ℕ → Type 0
  From rest top = (world : World) (n : Now lines first keep window top world) (reported : List WorldReply) (behind : World) → At replies reported top → track top world n → play world rest ≡ Some (reported, behind) → Behind (top + length rest) behind

  further_on : (top : ℕ) (world : World) (line : Line) (rest : List Line) (given : WorldReply) (after : World) (reported : List WorldReply) (behind : World) (o : Option (List WorldReply × World)) → slice_get lines top ≡ Some line → turn world line ≡ Some (given, after) → From rest (top + 1) → (n : Now lines first keep window top world)
      → At replies reported top → track top world n → play after rest ≡ o → onto_replies given o ≡ Some (reported, behind) → Behind (top + length (line ∷ rest)) behind
  further_on top world line rest given after reported behind None here e all n at so p f = absurd (let wrong = f in cc)
  further_on top world line rest given after reported behind (Some played) here e all n at so p f =
      let pair : (given ∷ played.0, played.1) ≡ (reported, behind) = (let i = f in cc) in
      let same = ap (λ (t : List WorldReply × World). t.0) pair in
      let parts = at_next replies played.0 given top (subst (λ ts. At replies ts top) (sym same) at) in
      let a = line_now lines first keep window top world line given after here e n in
      let n_is : top + 1 + length rest ≡ top + length (line ∷ rest) = omega arith in
      subst (λ k. Behind k behind) n_is
      (subst (λ (w : World). Behind (top + 1 + length rest) w) (ap (λ (t : List WorldReply × World). t.1) pair)
      (all after a.now played.0 played.1 parts.1 (on top world line given after here parts.0 e n a so) p))

  one_on : (top : ℕ) (world : World) (line : Line) (rest : List Line) (reported : List WorldReply) (behind : World) (o : Option (WorldReply × World)) → slice_get lines top ≡ Some line → turn world line ≡ o → From rest (top + 1) → (n : Now lines first keep window top world)
      → At replies reported top → track top world n → option_and_then (λ t. onto_replies t.0 (play t.1 rest)) o ≡ Some (reported, behind) → Behind (top + length (line ∷ rest)) behind
  one_on top world line rest reported behind None here e all n at so f = absurd (let wrong = f in cc)
  one_on top world line rest reported behind (Some t) here e all n at so f = further_on top world line rest t.0 t.1 reported behind (play t.1 rest) here e all n at so refl f

  pub play_on : (rest : List Line) (top : ℕ) → At lines rest top → From rest top
  play_on [] top at_lines world n reported behind at so e =
      let pair : ([], world) ≡ (reported, behind) = (let i = e in cc) in
      let here : top ≡ top + length {A = Line} [] = omega arith in
      subst (λ (w : World). Behind (top + 0) w) (ap (λ (t : List WorldReply × World). t.1) pair) (subst (λ k. Behind k world) here (record { now = n; is = so }))
  play_on (line ∷ rest) top at_lines world n reported behind at so e =
      let parts = at_next lines rest line top at_lines in
      one_on top world line rest reported behind (turn world line) parts.0 refl (play_on rest (top + 1) parts.1) n at so e

-- behind all lines
pub played_now : (lines : List Line) (replies : List WorldReply) (first : Zone) (keep window : ℕ) (world : World) → play (started first keep window) lines ≡ Some (replies, world) → Now lines first keep window (length lines) world
played_now lines replies first keep window world e =
    let b = play_on lines replies first keep window (λ top world n. Unit {0}) (λ top world line given after here reported t n a so. tt) lines 0 (at_all lines) (started first keep window) (started_now lines first keep window) replies world (at_all replies) tt e in
    let all : 0 + length lines ≡ length lines = omega arith in
    subst (λ k. Now lines first keep window k world) all b.now

-- what is known of the versions
pub known_replayed : (lines : List Line) (first : Zone) (keep window top : ℕ) (world : World) (n : Now lines first keep window top world) → (r : IsReplayed first lines world) × (r.updates ≡ updates_in n.goes.us)
known_replayed lines first keep window top world n = (goes_replayed first lines top world n.goes, (replayed_us first lines top world n.goes).0)

pub known_held : (lines : List Line) (first : Zone) (keep window top : ℕ) (world : World) (n : Now lines first keep window top world) → (h : HoldVersions first lines world) × (h.replayed.updates ≡ updates_in n.goes.us)
known_held lines first keep window top world n =
    let k : Kept (script (IsSentAt lines) top) first world world = record { goes = n.goes; all_in_use = n.all_in_use; same = (refl, refl, λ less few. few) } in
    (held_by_kept first lines top world world k, held_us first lines top world world k)

-- whatever lines were played, the window's entries have the serials of their versions
pub played_serials : (first : Zone) (keep window : ℕ) (lines : List Line) (replies : List WorldReply) (world : World) → play (started first keep window) lines ≡ Some (replies, world) → HaveSerials first lines world
played_serials first keep window lines replies world e =
    let n = played_now lines replies first keep window world e in
    let r = known_replayed lines first keep window (length lines) world n in
    record {
      replayed = r.0;
      serials = λ place entry at. subst (λ u. (entry.number ≤ length u) × (entry.serial.0 ≡ zone_serial (zone_at first u entry.number))) (sym r.1) (serial_at first (updates_in n.goes.us) world.entries place entry n.serials.each at);
      newest = λ none place entry at. (
          let m = window_numbers world.words.owners (length (updates_in n.goes.us) + 1) world.entries place entry (window_fits (script (IsSentAt lines) (length lines)) first world n.goes n.all_in_use none) at in
          let same : length r.0.updates ≡ length (updates_in n.goes.us) = ap length r.1 in
          omega (arith, m, same)
          );
    }
