-- Versions that updates make behind a version, one of the other.
use Rattle.journal.specs.Batch.{Messages}
use Rattle.std.proofs.Common.{◌≡◌, ℕ, zero, suc, ◌+◌, ◌≤◌, List, [], ◌∷◌, ◌++◌, length, take, drop, Some, unwrap_or, refl, sym, ap, ◌∙◌, append_assoc, append-nil, arith}
use Rattle.dns_rdata.specs.Record.{Record}
use Rattle.dns_message.specs.declared.update.Update.{Update}
use Rattle.zone_tree.specs.Version.{Version}
use Rattle.update_core.specs.Act.{act, replay}
use Rattle.dns_engine.specs.Held.{Held, held_with}
use Rattle.dns_engine.specs.Replayed.{EachChanges}
use Rattle.update_batches.specs.Journal.{AreMadeBy}
use Rattle.store_recovery.specs.Replay.{AreRead, changes_from, version_by, held_from}
use Rattle.store_recovery.specs.Rebased.{numbered_from}
use Rattle.store_recovery.proofs.HeldLemmas.{by_makes}

abbrev pub chain : Version → List Update → List Version
chain version [] = []
chain version (update ∷ updates) = version_by version update ∷ chain (version_by version update) updates

pub chain_long : (version : Version) (updates : List Update) → length (chain version updates) ≡ length updates
chain_long version [] = refl
chain_long version (update ∷ updates) = ap suc (chain_long (version_by version update) updates)

-- an engine that takes the updates publishes them
pub held_chain : (held : Held) (updates : List Update) → (held_from held updates).published ≡ held.published ++ chain held.last updates
held_chain held [] = sym (append-nil held.published)
held_chain held (update ∷ updates) =
    let next : Version = version_by held.last update in
    held_chain (held_with held next) updates ∙ append_assoc held.published (next ∷ []) (chain next updates)

-- those behind the first so many: a version with the zone that these leave, and what the others make of it
pub record Behind (version : Version) (updates : List Update) (b : ℕ) : Type 0 where
  pub at : Version
  pub is : drop b (version ∷ chain version updates) ≡ at ∷ chain at (drop b updates)
  pub zone : at.zone ≡ replay version.zone (take b updates)

pub behind : (b : ℕ) (version : Version) (updates : List Update) → b ≤ length updates → Behind version updates b
behind zero version updates few = record { at = version; is = refl; zone = refl }
behind (suc b) version [] few = absurd (omega (arith, few))
behind (suc b) version (update ∷ updates) few =
    let rest : Behind (version_by version update) updates b = behind b (version_by version update) updates (omega (arith, few)) in
    record { at = rest.at; is = rest.is; zone = rest.zone }

both_same : (x y : Version) (xs ys : List Version) → x ≡ y → xs ≡ ys → x ∷ xs ≡ y ∷ ys
both_same x y xs ys p q = cc

-- they have other numbers behind a version of the same zone with another number
pub renumbered : (version other : Version) (number : ℕ) (updates : List Update) → other.zone ≡ version.zone → number ≡ other.number + 1
    → numbered_from number (chain version updates) ≡ chain other updates
renumbered version other number [] zone at = refl
renumbered version other number (update ∷ updates) zone at =
    let after : List Record → List Record = λ z. unwrap_or (act z update) z in
    let made : ℕ → List Record → Version = λ n z. record { number = n; zone = after z; changes = Some (changes_from z (after z)) } in
    both_same (made number version.zone) (version_by other update) (numbered_from (number + 1) (chain (version_by version update) updates)) (chain (version_by other update) updates)
    (ap (λ (n : ℕ). made n version.zone) at ∙ ap (λ (z : List Record). made (other.number + 1) z) (sym zone))
    (renumbered (version_by version update) (version_by other update) (number + 1) updates (ap after zone) (ap (λ (n : ℕ). n + 1) at))

-- each is made by its update
pub made_chain : (version : Version) (updates : List Update) (messages : List Messages) → AreRead messages updates → EachChanges version.zone updates
    → AreMadeBy version (chain version updates) messages
made_chain version [] [] read taken = tt
made_chain version [] (message ∷ messages) read taken = absurd read
made_chain version (update ∷ updates) [] read taken = absurd read
made_chain version (update ∷ updates) (message ∷ messages) read taken =
    ((update, read.0, by_makes version update taken.0 taken.1), made_chain (version_by version update) updates messages read.1 taken.2)

-- updates behind the first so many
pub changes_behind : (b : ℕ) (zone : List Record) (updates : List Update) → EachChanges zone updates → EachChanges (replay zone (take b updates)) (drop b updates)
changes_behind zero zone updates taken = taken
changes_behind (suc b) zone [] taken = tt
changes_behind (suc b) zone (update ∷ updates) taken = changes_behind b (unwrap_or (act zone update) zone) updates taken.2
