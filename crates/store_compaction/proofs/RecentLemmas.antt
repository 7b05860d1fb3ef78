-- Recent updates that follow versions that are published.
use Rattle.journal.specs.Batch.{Messages}
use Rattle.std.proofs.Common.{◌≡◌, Bool, true, false, nat_lt, List, [], ◌∷◌, ◌++◌, length, if◌then◌else◌, refl, sym, ap, ◌∙◌, subst, append_assoc}
use Rattle.std.proofs.lemmas.List.{map-append, append-nil}
use Rattle.zone_tree.specs.Version.{Version}
use Rattle.update_batches.specs.Batch.{newest_of}
use Rattle.update_batches.specs.Journal.{AreMadeBy}
use Rattle.update_batches.specs.declared.version_update.VersionUpdate.{VersionUpdate}
use Rattle.store_compaction.specs.RecentUpdates.{RecentState, AreRecent, last_in, shortened, longer, pushed, followed}
use Rattle.update_batches.specs.Batch.{versions_in, updates_of}

-- what is made behind versions that are made of a first one
pub made_behind : (first : Version) (versions more : List Version) (updates others : List Messages) → AreMadeBy first versions updates → AreMadeBy (newest_of first versions) more others
    → AreMadeBy first (versions ++ more) (updates ++ others)
made_behind first [] more [] others are behind = behind
made_behind first [] more (octets ∷ updates) others are behind = absurd are
made_behind first (version ∷ versions) more [] others are behind = absurd are
made_behind first (version ∷ versions) more (octets ∷ updates) others are behind = (are.0, made_behind version versions more updates others are.1 behind)

newest_behind : (first : Version) (versions more : List Version) → newest_of first (versions ++ more) ≡ newest_of (newest_of first versions) more
newest_behind first [] more = refl
newest_behind first (version ∷ versions) more = newest_behind version versions more

-- steps behind others
pub versions-append : (steps more : List VersionUpdate) → versions_in (steps ++ more) ≡ versions_in steps ++ versions_in more
versions-append steps more = map-append (λ (step : VersionUpdate). step.version) steps more

pub updates_of-append : (steps more : List VersionUpdate) → updates_of (steps ++ more) ≡ updates_of steps ++ updates_of more
updates_of-append steps more = map-append (λ (step : VersionUpdate). step.messages) steps more

-- recent updates without the first of their steps
shortened_is : (recent : RecentState) (steps : List VersionUpdate) → AreMadeBy recent.oldest (versions_in steps) (updates_of steps) → recent.steps ≡ steps
    → AreRecent (shortened recent steps) × (last_in (shortened recent steps) ≡ newest_of recent.oldest (versions_in steps))
shortened_is recent [] are same = (
  subst (λ (s : List VersionUpdate). AreMadeBy recent.oldest (versions_in s) (updates_of s)) (sym same) are,
  ap (λ (s : List VersionUpdate). newest_of recent.oldest (versions_in s)) same,
)
shortened_is recent (step ∷ steps) are same = (are.1, refl)

room_at : (recent : RecentState) (full : Bool) → AreRecent recent
    → AreRecent (if full then shortened recent recent.steps else recent) × (last_in (if full then shortened recent recent.steps else recent) ≡ last_in recent)
room_at recent true is = shortened_is recent recent.steps is refl
room_at recent false is = (is, refl)

-- with one step more
pushed_is : (recent : RecentState) (step : VersionUpdate) → AreRecent recent → AreMadeBy (last_in recent) (step.version ∷ []) (step.messages ∷ [])
    → AreRecent (pushed recent step) × (last_in (pushed recent step) ≡ step.version)
pushed_is recent step is made =
    let all : AreMadeBy recent.oldest (versions_in recent.steps ++ step.version ∷ []) (updates_of recent.steps ++ step.messages ∷ []) =
    made_behind recent.oldest (versions_in recent.steps) (step.version ∷ []) (updates_of recent.steps) (step.messages ∷ []) is made in
    let here : AreRecent (longer recent step) =
    subst (λ (us : List Messages). AreMadeBy recent.oldest (versions_in (recent.steps ++ step ∷ [])) us) (sym (updates_of-append recent.steps (step ∷ [])))
    (subst (λ (vs : List Version). AreMadeBy recent.oldest vs (updates_of recent.steps ++ step.messages ∷ [])) (sym (versions-append recent.steps (step ∷ []))) all) in
    let room = room_at (longer recent step) (nat_lt recent.keep (length (recent.steps ++ step ∷ []))) here in (
      room.0,
      room.1 ∙ (ap (newest_of recent.oldest) (versions-append recent.steps (step ∷ [])) ∙ newest_behind recent.oldest (versions_in recent.steps) (step.version ∷ [])),
    )

-- with all of them
pub followed_is : (recent : RecentState) (steps : List VersionUpdate) → AreRecent recent → AreMadeBy (last_in recent) (versions_in steps) (updates_of steps)
    → AreRecent (followed recent steps) × (last_in (followed recent steps) ≡ newest_of (last_in recent) (versions_in steps))
followed_is recent [] is made = (is, refl)
followed_is recent (step ∷ steps) is made =
    let one = pushed_is recent step is (made.0, tt) in
    let rest = followed_is (pushed recent step) steps one.0 (subst (λ (v : Version). AreMadeBy v (versions_in steps) (updates_of steps)) (sym one.1) made.1) in
    (rest.0, rest.1 ∙ ap (λ (v : Version). newest_of v (versions_in steps)) one.1)

-- the steps that are let go when others follow, the oldest first
pub record Split (recent : RecentState) (all : List VersionUpdate) (after : RecentState) : Type 0 where
  pub gone : List VersionUpdate
  pub parts : all ≡ gone ++ after.steps
  pub oldest : after.oldest ≡ newest_of recent.oldest (versions_in gone)

shortened_split : (recent : RecentState) (steps : List VersionUpdate) → recent.steps ≡ steps → Split recent steps (shortened recent steps)
shortened_split recent [] same = record { gone = []; parts = sym same; oldest = refl }
shortened_split recent (step ∷ steps) same = record { gone = step ∷ []; parts = refl; oldest = refl }

room_split : (recent : RecentState) (full : Bool) → Split recent recent.steps (if full then shortened recent recent.steps else recent)
room_split recent true = shortened_split recent recent.steps refl
room_split recent false = record { gone = []; parts = refl; oldest = refl }

pushed_split : (recent : RecentState) (step : VersionUpdate) → Split recent (recent.steps ++ step ∷ []) (pushed recent step)
pushed_split recent step =
    let long = room_split (longer recent step) (nat_lt recent.keep (length (recent.steps ++ step ∷ []))) in
    record { gone = long.gone; parts = long.parts; oldest = long.oldest }

-- what is let go at first, and then
both_split : (recent between after : RecentState) (all more : List VersionUpdate) → Split recent all between → Split between (between.steps ++ more) after → Split recent (all ++ more) after
both_split recent between after all more one two = record {
  gone = one.gone ++ two.gone;
  parts = ap (λ (s : List VersionUpdate). s ++ more) one.parts ∙ (append_assoc one.gone between.steps more ∙ (ap (λ (s : List VersionUpdate). one.gone ++ s) two.parts ∙ sym (append_assoc one.gone two.gone after.steps)));
  oldest = two.oldest
      ∙ (ap (λ (v : Version). newest_of v (versions_in two.gone)) one.oldest
      ∙ (sym (newest_behind recent.oldest (versions_in one.gone) (versions_in two.gone)) ∙ ap (newest_of recent.oldest) (sym (versions-append one.gone two.gone))));
}

pub followed_split : (recent : RecentState) (steps : List VersionUpdate) → Split recent (recent.steps ++ steps) (followed recent steps)
followed_split recent [] = record { gone = []; parts = append-nil recent.steps; oldest = refl }
followed_split recent (step ∷ steps) =
    let first : Split recent (recent.steps ++ step ∷ []) (pushed recent step) = pushed_split recent step in
    let whole : Split recent ((recent.steps ++ step ∷ []) ++ steps) (followed (pushed recent step) steps) =
    both_split recent (pushed recent step) (followed (pushed recent step) steps) (recent.steps ++ step ∷ []) steps first (followed_split (pushed recent step) steps) in
    subst (λ (all : List VersionUpdate). Split recent all (followed (pushed recent step) steps)) (append_assoc recent.steps (step ∷ []) steps) whole

-- one step behind those that follow
pub followed_push : (recent : RecentState) (steps : List VersionUpdate) (step : VersionUpdate) → followed recent (steps ++ step ∷ []) ≡ pushed (followed recent steps) step
followed_push recent [] step = refl
followed_push recent (other ∷ steps) step = followed_push (pushed recent other) steps step
