-- What versions tell of what they changed.
use Rattle.std.proofs.Common.{◌≡◌, ℕ, ◌+◌, List, [], ◌∷◌, ◌++◌, drop, map, MatchOption, Option, Some, None, Ok, refl, sym, ap, ◌∙◌, append_assoc}
use Rattle.std.specs.List.{slice_get}
use Rattle.std.proofs.lemmas.List.{at_drop_more}
use Rattle.std.proofs.lemmas.Option.{slice_get_within, get_or_from_slice_get}
use Rattle.dns_rdata.specs.Record.{Record}
use Rattle.zone_tree.specs.Zone.{soa_of}
use Rattle.zone_tree.specs.Change.{left_out}
use Rattle.zone_tree.specs.Version.{Version, Changes, AreChanges}
use Rattle.transfer_core.specs.Chain.{zones_of, AreBehind, LeadTo, told_step, told_steps, reported}
use Rattle.transfer_core.specs.Lists.{steps, newest, incremental, as_sent, AreVersions}
use Rattle.transfer_core.specs.Take.{take}
use Rattle.transfer_core.proofs.ChainLemmas.{incremental_taken}

-- what is left of a list from a place on is what stands there and what is left behind it
pub drop_here : {A : Type 0} (xs : List A) (at : ℕ) (x : A) → Some x ≡ slice_get xs at → drop at xs ≡ x ∷ drop (at + 1) xs
drop_here xs at x e =
    at_drop_more (λ l. l) xs at x (slice_get_within xs at x (sym e))
    ∙ ap (λ y. y ∷ drop (at + 1) xs) (get_or_from_slice_get xs at x x (sym e))

-- a version's step is that from the zone before it
step_told : (zone next : List Record) (o : Option Changes) → MatchOption o ⊥ (λ c. AreChanges c zone next) → told_step (soa_of next) o ≡ soa_of zone ++ left_out zone next ++ soa_of next ++ left_out next zone
step_told zone next None h = absurd h
step_told zone next (Some c) h =
    rw (h.old_soa, h.deletions, h.additions) (sym (append_assoc (soa_of zone ++ left_out zone next) (soa_of next) (left_out next zone)))

-- the steps of versions behind a zone are those from it
pub steps_told : (zone : List Record) (versions : List Version) → AreBehind zone versions → told_steps versions ≡ steps zone (zones_of versions)
steps_told zone [] h = refl
steps_told zone (v ∷ vs) h =
    ap (λ l. l ++ told_steps vs) (step_told zone v.zone v.changes h.0)
    ∙ ap (λ l. (soa_of zone ++ left_out zone v.zone ++ soa_of v.zone ++ left_out v.zone zone) ++ l) (steps_told v.zone vs h.1)

-- the list that they tell is the incremental one
pub list_told : (zone : List Record) (versions : List Version) (served : List Record) → AreBehind zone versions → newest zone (zones_of versions) ≡ served → reported (soa_of served) versions ≡ incremental zone (zones_of versions)
list_told zone versions served behind last =
    ap (λ s. reported (soa_of s) versions) (sym last)
    ∙ ap (λ l. soa_of (newest zone (zones_of versions)) ++ (l ++ soa_of (newest zone (zones_of versions)))) (steps_told zone versions behind)
    ∙ sym (append_assoc (soa_of (newest zone (zones_of versions))) (steps zone (zones_of versions)) (soa_of (newest zone (zones_of versions))))

-- a list begun with the served SOA, which it closes
pub begun : (rest soa : List Record) (left versions : List Version) (served : List Record) → rest ≡ soa → soa ≡ soa_of served → left ≡ versions → rest ++ (told_steps left ++ soa) ≡ reported (soa_of served) versions
begun rest soa left versions served e f g = rw (e, f, g) refl

-- and it is taken to the served zone
pub list_taken : (zone : List Record) (versions : List Version) (served : List Record) → LeadTo zone versions served → AreVersions zone (zones_of versions) → take zone (map as_sent (incremental zone (zones_of versions))) ≡ Ok served
list_taken zone [] served h k = absurd (h.some refl)
list_taken zone (v ∷ vs) served h k = incremental_taken zone v.zone (zones_of vs) k ∙ ap Ok h.last
