-- A store of a later version of another.
use Rattle.std.proofs.Common.{◌≡◌, ℕ, zero, suc, ◌+◌, ◌≤◌, List, [], ◌∷◌, length, take, drop, unwrap_or, refl, sym, ap, ◌∙◌, subst, arith}
use Rattle.std.proofs.lemmas.List.{length-drop}
use Rattle.dns_rdata.specs.Record.{Record}
use Rattle.dns_message.specs.declared.update.Update.{Update}
use Rattle.journal.specs.Batch.{Messages}
use Rattle.journal.specs.declared.heads.Head.{Head}
use Rattle.journal.specs.Recovered.{journal_of, updates_in}
use Rattle.update_core.specs.Act.{act, replay}
use Rattle.dns_engine.specs.Replayed.{EachChanges}
use Rattle.store_recovery.specs.declared.start.Recovery.{Recovery}
use Rattle.store_recovery.specs.Replay.{AreRead}
use Rattle.store_recovery.specs.Start.{IsStarted}
use Rattle.store_recovery.specs.Store.{IsStore}
use Rattle.store_recovery.proofs.StoreLemmas.{store_taken}
use Rattle.store_recovery.specs.Behind.{AreBehind}

-- messages behind the first ones are read as the updates behind the first ones
read_drop : (k : ℕ) (messages : List Messages) (updates : List Update) → AreRead messages updates → AreRead (drop k messages) (drop k updates)
read_drop zero messages updates are = are
read_drop (suc k) [] [] are = tt
read_drop (suc k) [] (update ∷ updates) are = absurd are
read_drop (suc k) (message ∷ messages) [] are = absurd are
read_drop (suc k) (message ∷ messages) (update ∷ updates) are = read_drop k messages updates are.1

-- and are taken in the zone that the first ones leave
changes_drop : (k : ℕ) (zone : List Record) (updates : List Update) → EachChanges zone updates → EachChanges (replay zone (take k updates)) (drop k updates)
changes_drop zero zone updates taken = taken
changes_drop (suc k) zone [] taken = tt
changes_drop (suc k) zone (update ∷ updates) taken = changes_drop k (unwrap_or (act zone update) zone) updates taken.2

-- no updates leave a zone as it is
none_left : (zone : List Record) (n : ℕ) → replay zone (take n []) ≡ zone
none_left zone zero = refl
none_left zone (suc n) = refl

-- the zones behind the first updates
pub replay_parts : (zone : List Record) (updates : List Update) (k n : ℕ) → replay (replay zone (take k updates)) (take n (drop k updates)) ≡ replay zone (take (k + n) updates)
replay_parts zone updates zero n =
    let same : n ≡ zero + n = omega arith in
    ap (λ (m : ℕ). replay zone (take m updates)) same
replay_parts zone [] (suc k) n = none_left zone n ∙ sym (none_left zone (suc k + n))
replay_parts zone (update ∷ updates) (suc k) n =
    let more : suc (k + n) ≡ suc k + n = omega arith in
    replay_parts (unwrap_or (act zone update) zone) updates k n ∙ ap (λ (m : ℕ). replay zone (take m (update ∷ updates))) more

pub replay_rest : (zone : List Record) (updates : List Update) (k : ℕ) → replay (replay zone (take k updates)) (drop k updates) ≡ replay zone updates
replay_rest zone updates zero = refl
replay_rest zone [] (suc k) = refl
replay_rest zone (update ∷ updates) (suc k) = replay_rest (unwrap_or (act zone update) zone) updates k

-- a store of the version behind the first updates
pub compacted_store : (text written : List ℕ) (head next : Head) (batches rest : List (List Messages)) (zone : List Record) (updates : List Update) (k : ℕ)
    → IsStore text head batches zone updates → IsStore written next [] (replay zone (take k updates)) [] → AreBehind k batches rest
    → IsStore written next rest (replay zone (take k updates)) (drop k updates)
compacted_store text written head next batches rest zone updates k store begun behind = record {
  is_head = begun.is_head;
  same_text = begun.same_text;
  is_zone = begun.is_zone;
  serial = begun.serial;
  short = behind.short;
  fit = behind.fit;
  read = subst (λ (messages : List Messages). AreRead messages (drop k updates)) (sym behind.all) (read_drop k (updates_in batches) updates store.read);
  taken = changes_drop k zone updates store.taken;
}

-- and a start of it
pub compacted_started : (text written : List ℕ) (head next : Head) (batches rest : List (List Messages)) (zone : List Record) (updates : List Update) (k : ℕ) (start later : Recovery)
    → IsStore text head batches zone updates → IsStore written next [] (replay zone (take k updates)) [] → AreBehind k batches rest → k ≤ length updates
    → IsStarted text (journal_of head batches) start → IsStarted written (journal_of next rest) later
    → (start.newest.last.zone ≡ later.newest.last.zone) × (start.newest.last.number ≡ k + later.newest.last.number)
compacted_started text written head next batches rest zone updates k start later store begun behind few is is_later =
    let one = store_taken text head batches zone updates start store is in
    let two = store_taken written next rest (replay zone (take k updates)) (drop k updates) later
    (compacted_store text written head next batches rest zone updates k store begun behind) is_later in
    (one.0 ∙ (sym (replay_rest zone updates k) ∙ sym two.0), omega (arith, few, one.1, two.1, length-drop k updates))
