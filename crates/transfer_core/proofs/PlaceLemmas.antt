-- What is left of a list behind so many of its records, set by set.
use Rattle.std.proofs.Common.{◌≡◌, refl, sym, ap, ◌∙◌, ℕ, zero, suc, ◌+◌, ◌-◌, ◌<◌, ◌≤◌, Bool, not, ◌==◌, cond, List, [], ◌∷◌, ◌++◌, All, drop, length, arith, append-nil, append_assoc, Option, Some, None, MatchOption, Result, Ok, Err, IfOk, IfErr}
use Rattle.std.proofs.Math.Seq.{drop-append-add}
use Rattle.std.proofs.lemmas.List.{drop-drop, drop_all, length-map, drop_more}
use Rattle.std.specs.List.{slice_index_or, slice_get}
use Rattle.dns_name.specs.Name.{Name}
use Rattle.dns_rdata.specs.Numbers.{type_SOA}
use Rattle.dns_rdata.specs.Data.{Data}
use Rattle.dns_rdata.specs.Record.{Record, records_with, owner_of, rtype_of}
use Rattle.zone_tree.specs.Zone.{soa_of}
use Rattle.zone_tree.specs.Sets.{records_in, sets_in, AreAscending}
use Rattle.zone_tree.specs.From.{records_from}
use Rattle.zone_tree.specs.Version.{Version, Changes}
use Rattle.zone_tree.proofs.WalkLemmas.{records_of_sets, sets_from_whole}
use Rattle.zone_tree.proofs.ZoneLemmas.{sets_whole}
use Rattle.zone_tree.proofs.FromLemmas.{from_root}
use Rattle.transfer_core.specs.Chain.{told_step, told_steps, reported}
use Rattle.transfer_core.specs.Lists.{full, beside_soa}
use Rattle.transfer_core.specs.Places.{zone_left, sets_of_part, step_left, steps_from}
use Rattle.transfer_core.specs.declared.place.Part.{Part}
use Rattle.transfer_core.specs.declared.place.Part.TheVariants.{Old, New}
use Rattle.transfer_core.specs.declared.place.StepPlace.{StepPlace}
use Rattle.transfer_core.proofs.WalkLemmas.{first_set, by_type}

-- a list behind so many of its elements
pub zero_drop : {T : Type 0} (xs : List T) → drop 0 xs ≡ xs
zero_drop [] = refl
zero_drop (x ∷ xs) = refl

pub pass_over : {T : Type 0} (left : ℕ) (front back : List T) → length front ≤ left → drop left (front ++ back) ≡ drop (left - length front) back
pass_over left front back within =
    let sum : left ≡ length front + (left - length front) = omega (arith, within) in
    ap (λ n. drop n (front ++ back)) sum ∙ drop-append-add front back (left - length front)

-- behind one element and more
pub pass_one : {T : Type 0} (count more : ℕ) (front back : List T) → length front ≡ 1 → count ≡ more + 1 → drop count (front ++ back) ≡ drop more back
pass_one count more front back one is =
    let less : count - length front ≡ more = omega (arith, one, is) in
    pass_over count front back (omega (arith, one, is)) ∙ ap (λ n. drop n back) less

pub one_more : (count wide : ℕ) → wide ≡ count → (count ≡ 0 → ⊥) → count ≡ (wide - 1) + 1
one_more zero wide is some = absurd (some refl)
one_more (suc count) wide is some = omega (arith, is)

-- behind more of what is left
pub pass_more : {T : Type 0} (sent count sum : ℕ) (xs : List T) → sum ≡ sent + count → drop sum xs ≡ drop count (drop sent xs)
pass_more sent count sum xs is = ap (λ n. drop n xs) is ∙ sym (drop-drop count sent xs)

pub pass_last : {T : Type 0} (sent : ℕ) (xs : List T) → length xs ≡ 1 → (sent ≡ 0 → ⊥) → [] ≡ drop sent xs
pass_last sent xs one some = sym (drop_all sent xs (by sent some))
  where
    by : (n : ℕ) → (n ≡ 0 → ⊥) → length xs ≤ n
    by zero f = absurd (f refl)
    by (suc n) f = omega (arith, one)

-- one element more is passed
pub passed_one : {T : Type 0} (next : Option T) (old new : List T) → MatchOption next ((old ≡ []) × (new ≡ [])) (λ r. old ≡ r ∷ new) → new ≡ drop 1 old
passed_one None old new h = h.1 ∙ sym (ap (drop 1) h.0)
passed_one (Some r) old new h = sym (zero_drop new) ∙ sym (ap (drop 1) h)

pub passed_more : {T : Type 0} (count : ℕ) (all now next : List T) → now ≡ drop count all → next ≡ drop 1 now → next ≡ drop (count + 1) all
passed_more count all now next so_far step = step ∙ ap (drop 1) so_far ∙ drop-drop 1 count all

-- a set of a walk is passed
pub zone_step : (left : ℕ) (set : List Record) (rest : List (List Record)) (closing : List Record) → length (beside_soa set) ≤ left
    → drop left (beside_soa (records_in (set ∷ rest)) ++ closing) ≡ drop (left - length (beside_soa set)) (beside_soa (records_in rest) ++ closing)
zone_step left set rest closing within =
    ap (λ l. drop left (l ++ closing)) (first_set set rest)
    ∙ ap (drop left) (append_assoc (beside_soa set) (beside_soa (records_in rest)) closing)
    ∙ pass_over left (beside_soa set) (beside_soa (records_in rest) ++ closing) within

-- where a set of a walk is begun, the place is its own
pub zone_at : (zone : List Record) (left rtype : ℕ) (owner : Name) (set : List Record) (rest walk : List (List Record)) (now : List Record) → owner ≡ owner_of set → rtype ≡ rtype_of set → records_from zone (owner_of set) (rtype_of set) ≡ records_in (set ∷ rest)
    → walk ≡ set ∷ rest → drop left (beside_soa (records_in walk) ++ soa_of zone) ≡ now → drop left (zone_left zone owner rtype) ≡ now
zone_at zone left rtype owner set rest walk now own typed from steps same =
    (λ i. drop left (zone_left zone (own i) (typed i)))
    ∙ ap (λ l. drop left (beside_soa l ++ soa_of zone)) from
    ∙ ap (λ l. drop left (beside_soa (records_in l) ++ soa_of zone)) (sym steps)
    ∙ same

-- and where it is passed, what is left is the rest
pub zone_passed : (left count : ℕ) (set : List Record) (rest walk : List (List Record)) (closing now : List Record) → count ≡ length (beside_soa set) → count ≤ left → walk ≡ set ∷ rest
    → drop left (beside_soa (records_in walk) ++ closing) ≡ now → drop (left - count) (beside_soa (records_in rest) ++ closing) ≡ now
zone_passed left count set rest walk closing now counted within steps same =
    ap (λ n. drop (left - n) (beside_soa (records_in rest) ++ closing)) counted
    ∙ sym (zone_step left set rest closing (omega (arith, counted, within)))
    ∙ ap (λ l. drop left (beside_soa (records_in l) ++ closing)) (sym steps)
    ∙ same

-- the list of a zone in whole behind its first record is that from the root and type 0 on
pub zone_begins : (count more : ℕ) (zone : List Record) → length (soa_of zone) ≡ 1 → count ≡ more + 1 → drop count (full zone) ≡ drop more (zone_left zone [] 0)
zone_begins count more zone one is =
    ap (drop count) (append_assoc (soa_of zone) (beside_soa zone) (soa_of zone)) ∙ pass_one count more (soa_of zone) (beside_soa zone ++ soa_of zone) one is ∙ ap (λ l. drop more (beside_soa l ++ soa_of zone)) (sym (from_root zone))

-- a set of a part is passed
pub sets_step : (left at : ℕ) (all : List (List Record)) (set : List Record) (rest : List Record) → at < length all → ((d : List Record) → slice_index_or all at d ≡ set) → length set ≤ left
    → drop left (records_in (drop at all) ++ rest) ≡ drop (left - length set) (records_in (drop (at + 1) all) ++ rest)
sets_step left at all set rest here is within =
    let parts : drop at all ≡ set ∷ drop (at + 1) all = drop_more all at set here ∙ ap (λ s. s ∷ drop (at + 1) all) (is set) in
    ap (λ l. drop left (records_in l ++ rest)) parts
    ∙ ap (drop left) (append_assoc set (records_in (drop (at + 1) all)) rest)
    ∙ pass_over left set (records_in (drop (at + 1) all) ++ rest) within

pub sets_passed : (left at count : ℕ) (all : List (List Record)) (set rest now : List Record) → at < length all → ((d : List Record) → slice_index_or all at d ≡ set) → count ≡ length set → count ≤ left
    → drop left (records_in (drop at all) ++ rest) ≡ now → drop (left - count) (records_in (drop (at + 1) all) ++ rest) ≡ now
sets_passed left at count all set rest now here is counted within same =
    ap (λ n. drop (left - n) (records_in (drop (at + 1) all) ++ rest)) counted ∙ sym (sets_step left at all set rest here is (omega (arith, counted, within))) ∙ same

pub sets_over : (left at : ℕ) (all : List (List Record)) (rest now : List Record) → length all ≤ at → drop left (records_in (drop at all) ++ rest) ≡ now → drop left rest ≡ now
sets_over left at all rest now past same = ap (λ l. drop left (records_in l ++ rest)) (sym (drop_all at all past)) ∙ same

-- of a part that isn't there nothing is passed, and of one that is as of its sets
pub none_led : (from sent : ℕ) (all : List (List Record)) → all ≡ [] → (rest : List Record) → drop sent rest ≡ drop sent (records_in (drop from all) ++ rest)
none_led from sent all none rest = ap (λ l. drop sent (records_in l ++ rest)) (sym (drop_all from all (omega (arith, ap length none))))

pub inside_of : (from sent set n : ℕ) (all sets : List (List Record)) → all ≡ sets → ((rest : List Record) → drop n (records_in (drop set sets) ++ rest) ≡ drop sent (records_in (drop from sets) ++ rest)) → (rest : List Record)
    → drop n (records_in (drop set all) ++ rest) ≡ drop sent (records_in (drop from all) ++ rest)
inside_of from sent set n all sets is led rest = ap (λ l. drop n (records_in (drop set l) ++ rest)) is ∙ led rest ∙ ap (λ l. drop sent (records_in (drop from l) ++ rest)) (sym is)

pub behind_of : (from sent left : ℕ) (all sets : List (List Record)) → all ≡ sets → ((rest : List Record) → drop left rest ≡ drop sent (records_in (drop from sets) ++ rest)) → (rest : List Record)
    → drop left rest ≡ drop sent (records_in (drop from all) ++ rest)
behind_of from sent left all sets is led rest = led rest ∙ ap (λ l. drop sent (records_in (drop from l) ++ rest)) (sym is)

-- sets in order are the sets of their records
pub sets_are : (sets : List (List Record)) (records : List Record) → AreAscending sets → records_in sets ≡ records → sets_in records ≡ sets
sets_are sets records h is = ap sets_in (sym is) ∙ sets_from_whole (records_in sets) sets (sets_whole sets h)

-- a difference sequence from its first set on is the whole of it
pub step_begins : (soa : List Record) (changes : Option Changes) → step_left Old 0 soa changes ≡ told_step soa changes
step_begins soa None = append-nil (soa ++ []) ∙ append-nil soa
step_begins soa (Some c) = λ i. (c.old_soa ++ records_of_sets c.deletions i) ++ (soa ++ records_of_sets c.additions i)

pub steps_begin : (versions : List Version) → steps_from Old 0 versions ≡ told_steps versions
steps_begin [] = refl
steps_begin (v ∷ vs) = ap (λ l. l ++ told_steps vs) (step_begins (soa_of v.zone) v.changes)

-- the list of what changed behind its first record is that from the first set of the first version's difference sequence on
pub told_begins : (count more : ℕ) (soa : List Record) (versions : List Version) → length soa ≡ 1 → count ≡ more + 1 → drop count (reported soa versions) ≡ drop more (steps_from Old 0 (drop 0 versions) ++ soa)
told_begins count more soa versions one is =
    pass_one count more soa (told_steps versions ++ soa) one is
    ∙ ap (λ l. drop more (l ++ soa)) (sym (steps_begin versions))
    ∙ ap (λ l. drop more (steps_from Old 0 l ++ soa)) (sym (zero_drop versions))

-- a version's difference sequence is passed, or led into
module _ (part : Part) (set at left : ℕ) (v : Version) (versions : List Version) (closing : List Record) (here : drop at versions ≡ v ∷ drop (at + 1) versions) where
  abbrev own : List Record
  own = step_left part set (soa_of v.zone) v.changes

  abbrev further : List Record
  further = told_steps (drop (at + 1) versions) ++ closing

  pub at_version : drop left (steps_from part set (drop at versions) ++ closing) ≡ drop left (own ++ further)
  at_version = ap (λ l. drop left (steps_from part set l ++ closing)) here ∙ ap (drop left) (append_assoc own (told_steps (drop (at + 1) versions)) closing)

  pub version_passed : (more : ℕ) → drop more further ≡ drop left (own ++ further) → drop more (steps_from Old 0 (drop (at + 1) versions) ++ closing) ≡ drop left (steps_from part set (drop at versions) ++ closing)
  version_passed more passed = ap (λ l. drop more (l ++ closing)) (steps_begin (drop (at + 1) versions)) ∙ passed ∙ sym at_version

  pub version_begun : (other : Part) (more sent : ℕ) → drop sent (step_left other more (soa_of v.zone) v.changes ++ further) ≡ drop left (own ++ further)
      → drop sent (steps_from other more (drop at versions) ++ closing) ≡ drop left (steps_from part set (drop at versions) ++ closing)
  version_begun other more sent led =
      ap (λ l. drop sent (steps_from other more l ++ closing)) here
      ∙ ap (drop sent) (append_assoc (step_left other more (soa_of v.zone) v.changes) (told_steps (drop (at + 1) versions)) closing)
      ∙ led
      ∙ sym at_version

-- no version is there at a place past all
pub no_version : (versions : List Version) (at : ℕ) → at < length versions → None ≡ slice_get versions at → ⊥
no_version versions at within none = by versions at within none
  where
    by : (vs : List Version) (n : ℕ) → n < length vs → None ≡ slice_get vs n → ⊥
    by [] n w e = omega arith
    by (v ∷ vs) zero w e = cc
    by (v ∷ vs) (suc n) w e = by vs n (omega (arith, w)) e

-- the list of what changed behind all versions
pub closes : (rest soa closing : List Record) (left : List Version) → rest ≡ [] → left ≡ [] → soa ≡ closing → rest ++ ([] ++ ([] ++ (told_steps left ++ soa))) ≡ closing
closes rest soa closing left none over is = (λ i. none i ++ (told_steps (over i) ++ is i))

-- the list of what changed from a set of a part on
pub changes_left : (part : Part) (set : ℕ) (v : Version) (versions left : List Version) (rest sets half closing : List Record) → versions ≡ v ∷ left
    → rest ++ sets ≡ records_in (drop set (sets_of_part part (soa_of v.zone) v.changes)) → records_in (drop set (sets_of_part part (soa_of v.zone) v.changes)) ++ half ≡ step_left part set (soa_of v.zone) v.changes
    → rest ++ (sets ++ (half ++ (told_steps left ++ closing))) ≡ steps_from part set versions ++ closing
changes_left part set v versions left rest sets half closing here begun after =
    sym (append_assoc rest sets (half ++ (told_steps left ++ closing)))
    ∙ ap (λ l. l ++ (half ++ (told_steps left ++ closing))) begun
    ∙ sym (append_assoc (records_in (drop set (sets_of_part part (soa_of v.zone) v.changes))) half (told_steps left ++ closing))
    ∙ ap (λ l. l ++ (told_steps left ++ closing)) after
    ∙ sym (append_assoc (step_left part set (soa_of v.zone) v.changes) (told_steps left) closing)
    ∙ ap (λ l. steps_from part set l ++ closing) (sym here)

-- how many records a set has, SOAs apart
pub others : (set : List Record) (rtype : ℕ) (b : Bool) → All (λ r. r.rtype ≡ rtype) set → not (rtype == type_SOA) ≡ b → length (beside_soa set) ≡ length (cond b set [])
others set rtype b each e = ap length (by_type set rtype b each e)

pub set_len : (set : List Record) (owner : Name) (rtype ttl : ℕ) (ds : List Data) → set ≡ records_with owner rtype ttl ds → length ds ≡ length set
set_len set owner rtype ttl ds is =
    sym (ap length is ∙ length-map ds (λ (d : Data). let own : Record = record { owner = owner; rtype = rtype; ttl = ttl; rdata = d.octets } in own))

-- where so many records of a part lead, as where they lead in the difference sequence
module _ (soa : List Record) (changes : Option Changes) where
  abbrev old : List (List Record)
  old = sets_of_part Old soa changes

  abbrev new : List (List Record)
  new = sets_of_part New soa changes

  -- so many records of sets lead to a set of which so many are passed, or behind them all
  abbrev Inside : List (List Record) → ℕ → ℕ → StepPlace → Type 0
  Inside sets from n at = (rest : List Record) → drop at.sent (records_in (drop at.set sets) ++ rest) ≡ drop n (records_in (drop from sets) ++ rest)

  abbrev Behind : List (List Record) → ℕ → ℕ → ℕ → Type 0
  Behind sets from n left = (rest : List Record) → drop left rest ≡ drop n (records_in (drop from sets) ++ rest)

  abbrev Within : Part → ℕ → ℕ → StepPlace → Type 0
  Within part from n at = (rest : List Record) → drop at.sent (step_left at.part at.set soa changes ++ rest) ≡ drop n (step_left part from soa changes ++ rest)

  in_new : (part : Part) (set sent from n : ℕ) → part ≡ New → ((rest : List Record) → drop sent (records_in (drop set new) ++ rest) ≡ drop n (records_in (drop from new) ++ rest)) → (rest : List Record)
      → drop sent (step_left part set soa changes ++ rest) ≡ drop n (step_left New from soa changes ++ rest)
  in_new part set sent from n is led rest = ap (λ p. drop sent (step_left p set soa changes ++ rest)) is ∙ led rest

  in_old : (part : Part) (set sent from n : ℕ) → part ≡ Old → ((rest : List Record) → drop sent (records_in (drop set old) ++ rest) ≡ drop n (records_in (drop from old) ++ rest)) → (rest : List Record)
      → drop sent (step_left part set soa changes ++ rest) ≡ drop n (step_left Old from soa changes ++ rest)
  in_old part set sent from n is led rest =
      ap (λ p. drop sent (step_left p set soa changes ++ rest)) is
      ∙ ap (drop sent) (append_assoc (records_in (drop set old)) (records_in new) rest)
      ∙ led (records_in new ++ rest)
      ∙ ap (drop n) (sym (append_assoc (records_in (drop from old)) (records_in new) rest))

  behind_old : (from n left : ℕ) → Behind old from n left → (rest : List Record) → drop left (records_in (drop 0 new) ++ rest) ≡ drop n (step_left Old from soa changes ++ rest)
  behind_old from n left behind rest =
      ap (λ l. drop left (records_in l ++ rest)) (zero_drop new)
      ∙ behind (records_in new ++ rest)
      ∙ ap (drop n) (sym (append_assoc (records_in (drop from old)) (records_in new) rest))

  pub step_new : (part : Part) (r : Result StepPlace ℕ) (from n : ℕ) → part ≡ New → IfOk r (λ at. at.part ≡ New) → IfOk r (Inside new from n) → IfOk r (Within part from n)
  step_new part (Ok at) from n here is led = λ rest. in_new at.part at.set at.sent from n is led rest ∙ ap (λ p. drop n (step_left p from soa changes ++ rest)) (sym here)
  step_new part (Err left) from n here is led = tt

  pub new_behind : (part : Part) (r : Result StepPlace ℕ) (from n : ℕ) → part ≡ New → IfErr r (Behind new from n) → IfErr r (λ left. (rest : List Record) → drop left rest ≡ drop n (step_left part from soa changes ++ rest))
  new_behind part (Ok at) from n here led = tt
  new_behind part (Err left) from n here led = λ rest. led rest ∙ ap (λ p. drop n (step_left p from soa changes ++ rest)) (sym here)

  pub step_old : (at : StepPlace) (from n : ℕ) → at.part ≡ Old → Inside old from n at → Within Old from n at
  step_old at from n is led = in_old at.part at.set at.sent from n is led

  pub step_later : (r : Result StepPlace ℕ) (from n left : ℕ) → Behind old from n left → IfOk r (λ at. at.part ≡ New) → IfOk r (Inside new 0 left) → IfOk r (Within Old from n)
  step_later (Ok at) from n left behind is led = λ rest. in_new at.part at.set at.sent 0 left is led rest ∙ behind_old from n left behind rest
  step_later (Err more) from n left behind is led = tt

  pub step_behind : (r : Result StepPlace ℕ) (from n left : ℕ) → Behind old from n left → IfErr r (Behind new 0 left) → IfErr r (λ more. (rest : List Record) → drop more rest ≡ drop n (step_left Old from soa changes ++ rest))
  step_behind (Ok at) from n left behind more = tt
  step_behind (Err m) from n left behind more = λ rest. more rest ∙ behind_old from n left behind rest
