-- What stands behind what is read, and why there is no start.
use Rattle.std.proofs.Common.{◌≡◌, ℕ, ◌+◌, ◌≤◌, Bool, true, false, eqb, List, [], ◌++◌, length, drop, Ok, Err, refl, sym, ap, ◌∙◌, subst, append_assoc, length-append, arith, if◌then◌else◌, ◌⊎◌, inl, inr}
use Rattle.std.proofs.lemmas.Bool.{eqb-true, eqb-false}
use Rattle.std.proofs.Math.Seq.{drop-append_seam}
use Rattle.dns_rdata.specs.Record.{Record}
use Rattle.zone_tree.specs.Version.{zone_serial}
use Rattle.record_text.specs.declared.cause.Cause.{Cause}
use Rattle.record_text.specs.declared.cause.Cause.TheVariants.{NoMemory as Wanted}
use Rattle.master_file.specs.declared.fault.FileFault.{FileFault}
use Rattle.master_file.specs.Fault.{no_memory}
use Rattle.master_file.specs.ZoneText.{zone_of_text}
use Rattle.journal.specs.Batch.{Messages}
use Rattle.journal.specs.declared.heads.Head.{Head}
use Rattle.journal.specs.declared.start.Refused.{Refused}
use Rattle.journal.specs.declared.start.Refused.TheVariants.{BadHead, OtherText, Damaged, NoBatch, NoMemory as Starved}
use Rattle.journal.specs.declared.tails.Tail.TheVariants.{Blank as Zeros, Torn as Other}
use Rattle.journal.specs.Frame.{frames_of}
use Rattle.journal.specs.Head.{head_of, salt_of}
use Rattle.journal.specs.Tail.{IsTail}
use Rattle.journal.specs.Recovered.{IsRecovered, IsRefused}
use Rattle.store_recovery.specs.declared.fault.StartFault.{StartFault}
use Rattle.store_recovery.specs.declared.fault.StartFault.TheVariants.{Journal, Text, OtherSerial, Update as NotTaken, NoMemory}
use Rattle.store_recovery.specs.declared.recent_versions.RecentVersions.{RecentVersions}
use Rattle.store_recovery.specs.declared.start.Ending.{Ending}
use Rattle.store_recovery.specs.declared.start.Ending.TheVariants.{Clean, Blank, Torn}
use Rattle.store_recovery.specs.Private.{of_journal, of_cause, of_text, ending_of}
use Rattle.store_recovery.specs.Replay.{IsReplayed, IsReplayFault}
use Rattle.store_recovery.specs.Start.{IsEnding, IsStarted, IsSound, IsStartFault}

drop_front : (octets front rest : List ℕ) (end : ℕ) → octets ≡ front ++ rest → end + length rest ≡ length octets → drop end octets ≡ rest
drop_front octets front rest end spelt place =
    let long : length octets ≡ length front + length rest = ap length spelt ∙ length-append front rest in
    let is_end : end ≡ length front = omega (arith, long, place) in
    ap (λ (o : List ℕ). drop end o) spelt ∙ (ap (λ (n : ℕ). drop n (front ++ rest)) is_end ∙ drop-append_seam front rest)

-- what is left is what stands behind
rest_stands : (text octets : List ℕ) (head : Head) (messages : List Messages) (number end : ℕ) (torn : Bool) (found : IsRecovered text octets head messages number end torn)
    → drop end octets ≡ found.rest
rest_stands text octets head messages number end torn found =
    let frames : List ℕ = frames_of (salt_of head) 0 found.bodies in
    drop_front octets (head_of head ++ frames) found.rest end
    (found.opened.begins.spelt ∙ (ap (λ (o : List ℕ). head_of head ++ o) found.opened.read.spelt ∙ sym (append_assoc (head_of head) frames found.rest)))
    found.place

-- what is told of it is so
ending_from : (octets : List ℕ) (end : ℕ) (same torn : Bool) (salt : List ℕ) (number : ℕ) → eqb end (length octets) ≡ same → end ≤ length octets
    → IsTail salt number (drop end octets) (if torn then Other else Zeros) → IsEnding octets end (if torn then Torn end else if same then Clean else Blank)
ending_from octets end same true salt number e few tail = (refl, tail.0)
ending_from octets end true false salt number e few tail = sym (eqb-true end (length octets) e)
ending_from octets end false false salt number e few tail =
    let other : end ≡ length octets → ⊥ = eqb-false end (length octets) e in
    (omega (arith, few, other), tail)

pub ending_is : (text octets : List ℕ) (head : Head) (messages : List Messages) (number end : ℕ) (torn : Bool) → IsRecovered text octets head messages number end torn
    → IsEnding octets end (ending_of torn end (length octets))
ending_is text octets head messages number end torn found =
    ending_from octets end (eqb end (length octets)) torn (salt_of head) number refl (omega (arith, found.place))
    (subst (λ (o : List ℕ). IsTail (salt_of head) number o (if torn then Other else Zeros)) (sym (rest_stands text octets head messages number end torn found)) found.tail)

-- a refused journal is a fault
pub journal_fault : (text octets : List ℕ) (why : Refused) → IsRefused text octets why → IsStartFault text octets (of_journal why)
journal_fault text octets (BadHead fault) is = (is, λ e. cc)
journal_fault text octets OtherText is = (is, λ e. cc)
journal_fault text octets (Damaged at) is = (is, λ e. cc)
journal_fault text octets (NoBatch number) is = (is, λ e. cc)
journal_fault text octets Starved is = tt

pub sound_from : (text octets : List ℕ) (head : Head) (messages : List Messages) (number end : ℕ) (torn : Bool) → IsRecovered text octets head messages number end torn
    → IsSound text octets head messages
sound_from text octets head messages number end torn found = record { number = number; end = end; torn = torn; recovered = found }

-- a text that is no zone is one
fault_by : (text octets : List ℕ) (head : Head) (messages : List Messages) (why : FileFault) (cause : Cause) → why.cause ≡ cause → IsSound text octets head messages
    → (why ≡ no_memory) ⊎ (zone_of_text [] text ≡ Err why) → IsStartFault text octets (of_cause why cause)
fault_by text octets head messages why Wanted e sound is = tt
fault_by text octets head messages why cause e sound (inr is) = (head, messages, sound, is)
fault_by text octets head messages why cause e sound (inl memory) = let same = sym e ∙ ap (λ (f : FileFault). f.cause) memory in absurd cc

pub text_fault : (text octets : List ℕ) (head : Head) (messages : List Messages) (why : FileFault) → IsSound text octets head messages
    → (why ≡ no_memory) ⊎ (zone_of_text [] text ≡ Err why) → IsStartFault text octets (of_text why)
text_fault text octets head messages why sound is = fault_by text octets head messages why why.cause refl sound is

-- and so is an update that isn't taken
pub update_fault : (text octets : List ℕ) (head : Head) (zone : List Record) (messages : List Messages) (fault : StartFault) → IsSound text octets head messages
    → zone_of_text [] text ≡ Ok zone → zone_serial zone ≡ head.serial → IsReplayFault zone messages fault → IsStartFault text octets fault
update_fault text octets head zone messages (Journal why) sound is_zone serial is = absurd is
update_fault text octets head zone messages (Text why) sound is_zone serial is = absurd is
update_fault text octets head zone messages OtherSerial sound is_zone serial is = absurd is
update_fault text octets head zone messages (NotTaken place why) sound is_zone serial is =
    (zone, messages, record { head = head; sound = sound; is_zone = is_zone; serial = serial }, is)
update_fault text octets head zone messages NoMemory sound is_zone serial is = tt

-- a start
pub started_from : (text octets : List ℕ) (head : Head) (salt : List ℕ) (messages : List Messages) (number end : ℕ) (torn : Bool) (zone : List Record) (kept : RecentVersions) (ending : Ending) (len : ℕ)
    → salt ≡ salt_of head → IsRecovered text octets head messages number end torn → zone_of_text [] text ≡ Ok zone → zone_serial zone ≡ head.serial
    → IsReplayed zone messages kept → len ≡ length octets → ending ≡ ending_of torn end len
    → IsStarted text octets (record { head = head; salt = salt; number = number; end = end; ending = ending; newest = kept })
started_from text octets head salt messages number end torn zone kept ending len is_salt found is_zone serial replayed is_len reported = record {
  messages = messages;
  zone = zone;
  torn = torn;
  recovered = found;
  is_zone = is_zone;
  serial = serial;
  replayed = replayed;
  ending = subst (λ (e : Ending). IsEnding octets end e) (sym (reported ∙ ap (λ (n : ℕ). ending_of torn end n) is_len)) (ending_is text octets head messages number end torn found);
  salt = is_salt;
}
