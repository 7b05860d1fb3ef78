-- What is recovered of a journal, and where it ends.
use Rattle.std.proofs.Common.{◌≡◌, ℕ, Bool, List, ◌++◌, length, map, sym, ap, ◌∙◌, subst, append_assoc, length-append, arith}
use Rattle.std.proofs.lemmas.List.{length-map}
use Rattle.journal.specs.declared.heads.Head.{Head}
use Rattle.journal.specs.Batch.{Messages, batch_of}
use Rattle.journal.specs.Frame.{frames_of, Fit}
use Rattle.journal.specs.Head.{head_of, salt_of}
use Rattle.journal.specs.Recovered.{journal_of, updates_in, IsOpened, IsRecovered}
use Rattle.journal.proofs.FramesLemmas.{read_once}
use Rattle.journal.proofs.RecoveredLemmas.{opened_read, same_batches}
use Rattle.journal.specs.Log.{octets_of}
use Rattle.store_recovery.specs.declared.start.Recovery.{Recovery}
use Rattle.store_recovery.specs.Replay.{AreRead}
use Rattle.store_recovery.specs.Start.{IsStarted}
use Rattle.store_recovery.specs.Store.{IsStore}

module _ (text octets : List ℕ) (head : Head) (messages : List Messages) (number end : ℕ) (torn : Bool) (found : IsRecovered text octets head messages number end torn) where
  -- a journal begins with the head and the frames of the bodies that are read
  pub begins_with : octets ≡ octets_of head found.bodies ++ found.rest
  begins_with =
      found.opened.begins.spelt
      ∙ (ap (λ (o : List ℕ). head_of head ++ o) found.opened.read.spelt ∙ sym (append_assoc (head_of head) (frames_of (salt_of head) 0 found.bodies) found.rest))

  -- and these end where it ends
  pub ends_at : end ≡ length (octets_of head found.bodies)
  ends_at = omega (arith, found.place, ap length begins_with, length-append (octets_of head found.bodies) found.rest)

  -- they are as many as it has batches
  pub counts : number ≡ length found.bodies
  counts = found.count ∙ (sym (length-map found.batches batch_of) ∙ ap length (sym found.are_batches.spelt))

  -- what is recovered again is the same
  pub recovered_once : (other : Head) (others : List Messages) (n e : ℕ) (t : Bool) → IsRecovered text octets other others n e t → messages ≡ others
  recovered_once other others n e t again =
      let spelt : octets ≡ journal_of head found.batches ++ found.rest = begins_with ∙ ap (λ (b : List (List ℕ)). octets_of head b ++ found.rest) found.are_batches.spelt in
      let opened : IsOpened (journal_of head found.batches ++ found.rest) other again.bodies again.rest = subst (λ (o : List ℕ). IsOpened o other again.bodies again.rest) spelt again.opened in
      let read = opened_read head other found.batches found.rest again.bodies again.rest found.opened.begins.is_head opened in
      let own = opened_read head head found.batches found.rest found.bodies found.rest found.opened.begins.is_head
      (subst (λ (o : List ℕ). IsOpened o head found.bodies found.rest) spelt found.opened) in
      let bodies = read_once (salt_of head) 0 (frames_of (salt_of head) 0 (map batch_of found.batches) ++ found.rest) found.bodies found.rest again.bodies again.rest own.1 read.1 in
      let same = same_batches found.batches again.batches found.are_batches.short again.are_batches.short (sym found.are_batches.spelt ∙ (bodies.0 ∙ again.are_batches.spelt)) in
      found.all ∙ (ap updates_in same ∙ sym again.all)

-- the store that a start has recovered
pub started_store : (text octets : List ℕ) (start : Recovery) (is : IsStarted text octets start) → IsStore text start.head is.recovered.batches is.zone is.replayed.updates
started_store text octets start is = record {
  is_head = is.recovered.opened.begins.is_head;
  same_text = is.recovered.same_text;
  is_zone = is.is_zone;
  serial = is.serial;
  short = is.recovered.are_batches.short;
  fit = subst (λ (bs : List (List ℕ)). Fit 0 bs) is.recovered.are_batches.spelt is.recovered.opened.read.fit;
  read = subst (λ (ms : List Messages). AreRead ms is.replayed.updates) is.recovered.all is.replayed.read;
  taken = is.replayed.taken;
}
