-- What a log holds once a batch is appended.
use Rattle.std.proofs.Common.{◌≡◌, ℕ, ◌+◌, ◌^◌, ◌<◌, ◌≤◌, true, false, List, [], ◌∷◌, ◌++◌, length, take, sym, ap, ◌∙◌, append-nil, append_assoc, length-append, arith}
use Rattle.std.proofs.lemmas.List.{take_at, take_all, length_push}
use Rattle.journal.specs.declared.heads.Head.{Head}
use Rattle.journal.specs.Head.{head_of, salt_of}
use Rattle.journal.specs.Frame.{body_limit, framed, frames_of, Fit}
use Rattle.journal.proofs.FramesLemmas.{frames_push, fit_more}
use Rattle.journal.specs.declared.log.Log.{Log}
use Rattle.journal.specs.Disk.{BeginsWith, LeavesOnly}
use Rattle.journal.specs.Log.{octets_of, Holds, IsStuck}

-- the octets of a journal with one batch more
pub octets_more : (head : Head) (bodies : List (List ℕ)) (body : List ℕ) (number : ℕ) → number ≡ length bodies
    → octets_of head (bodies ++ body ∷ []) ≡ octets_of head bodies ++ framed (salt_of head) number body
octets_more head bodies body number is_number =
    ap (λ (o : List ℕ). head_of head ++ o) (frames_push (salt_of head) number bodies body is_number)
    ∙ sym (append_assoc (head_of head) (frames_of (salt_of head) 0 bodies) (framed (salt_of head) number body))

-- what is cut where old octets end is those
pub cut_back : (octets front : List ℕ) (len : ℕ) → BeginsWith octets front → len ≡ length front → take len octets ≡ front
cut_back octets front len begins is_len = ap (λ (o : List ℕ). take len o) begins.1 ∙ take_at front begins.0 len (sym is_len)

pub long_enough : (octets front : List ℕ) (len : ℕ) → BeginsWith octets front → len ≡ length front → len ≤ length octets
long_enough octets front len begins is_len = omega (arith, is_len, ap length begins.1, length-append front begins.0)

-- octets that are these begin with them
pub begins_as : (octets front : List ℕ) → octets ≡ front → BeginsWith octets front
begins_as octets front is = ([], is ∙ sym (append-nil front))

-- what is left of octets that are cut where these end begins with them
pub begins_cut : (octets front left : List ℕ) (len : ℕ) → BeginsWith octets front → left ≡ take len octets → len ≡ length front → BeginsWith left front
begins_cut octets front left len begins is_left is_len = begins_as left front (is_left ∙ cut_back octets front len begins is_len)

-- two calls, and what is on the disk after each
pub leaves_two : (old mid new : List (List ℕ)) (first second octets : List ℕ) → mid ≡ first ∷ old → new ≡ second ∷ mid → BeginsWith first octets → BeginsWith second octets
    → LeavesOnly old new octets
leaves_two old mid new first second octets made_mid made_new first_begins second_begins =
    record { since = second ∷ first ∷ []; made = made_new ∙ ap (λ (h : List (List ℕ)). second ∷ h) made_mid; each = (second_begins, (first_begins, tt)) }

module _ {D F : Type 0} (written synced : D → List ℕ) where
  -- a log to which a frame was appended, and brought to the disk
  pub holds_more : (head : Head) (bodies : List (List ℕ)) (body frame : List ℕ) (old new : Log D F) → Holds written synced head old bodies
      → frame ≡ framed old.salt old.number body → length body < body_limit → old.number + 1 < 2 ^ 64
      → written new.disk ≡ written old.disk ++ frame → synced new.disk ≡ written old.disk ++ frame
      → new.salt ≡ old.salt → new.number ≡ old.number + 1 → new.end ≡ old.end + length frame → new.stuck ≡ false
      → Holds written synced head new (bodies ++ body ∷ [])
  holds_more head bodies body frame old new holds is_frame short counted is_written is_synced salt number end goes_on =
      let is_its : frame ≡ framed (salt_of head) old.number body = is_frame ∙ ap (λ (s : List ℕ). framed s old.number body) holds.salt in
      let octets : written old.disk ++ frame ≡ octets_of head (bodies ++ body ∷ []) =
      ap (λ (o : List ℕ). o ++ frame) holds.is_written
      ∙ (ap (λ (o : List ℕ). octets_of head bodies ++ o) is_its ∙ sym (octets_more head bodies body old.number holds.number)) in
      record {
        is_written = is_written ∙ octets;
        is_synced = is_synced ∙ octets;
        salt = salt ∙ holds.salt;
        number = number ∙ (ap (λ (n : ℕ). n + 1) holds.number ∙ sym (length_push bodies body));
        end = end ∙ (ap (λ (n : ℕ). n + length frame) holds.end ∙ (sym (length-append (octets_of head bodies) frame)
            ∙ ap length (ap (λ (o : List ℕ). o ++ frame) (sym holds.is_written) ∙ octets)));
        fit = fit_more 0 bodies body holds.fit short (omega (arith, holds.number));
        goes_on = goes_on;
      }

  -- a log whose failed append was cut off
  pub holds_again : (head : Head) (bodies : List (List ℕ)) (between : D) (old new : Log D F) → Holds written synced head old bodies
      → BeginsWith (written between) (written old.disk) → synced between ≡ synced old.disk
      → (old.end ≤ length (written between) → written new.disk ≡ take old.end (written between)) → synced new.disk ≡ take old.end (synced between)
      → new.salt ≡ old.salt → new.number ≡ old.number → new.end ≡ old.end → new.stuck ≡ false
      → Holds written synced head new bodies
  holds_again head bodies between old new holds begins same cut left salt number end goes_on =
      let is_end : old.end ≡ length (written old.disk) = holds.end ∙ ap length (sym holds.is_written) in
      record {
        is_written = cut (long_enough (written between) (written old.disk) old.end begins is_end) ∙ (cut_back (written between) (written old.disk) old.end begins is_end ∙ holds.is_written);
        is_synced = left ∙ (ap (λ (o : List ℕ). take old.end o) (same ∙ holds.is_synced) ∙ take_all old.end (octets_of head bodies) (omega (arith, holds.end)));
        salt = salt ∙ holds.salt;
        number = number ∙ holds.number;
        end = end ∙ holds.end;
        fit = holds.fit;
        goes_on = goes_on;
      }

  -- a log that is stuck, of which nothing on the disk is gone
  pub stuck_with : (head : Head) (bodies : List (List ℕ)) (old new : Log D F) → Holds written synced head old bodies → synced new.disk ≡ synced old.disk → new.stuck ≡ true
      → IsStuck synced head new bodies
  stuck_with head bodies old new holds same stuck = record { is_synced = same ∙ holds.is_synced; stuck = stuck }

  -- the same, where octets behind it were cut
  pub stuck_cut : (head : Head) (bodies : List (List ℕ)) (between : D) (old new : Log D F) → Holds written synced head old bodies
      → synced between ≡ synced old.disk → synced new.disk ≡ take old.end (synced between) → new.stuck ≡ true → IsStuck synced head new bodies
  stuck_cut head bodies between old new holds same left stuck =
      record {
        is_synced = left ∙ (ap (λ (o : List ℕ). take old.end o) (same ∙ holds.is_synced) ∙ take_all old.end (octets_of head bodies) (omega (arith, holds.end)));
        stuck = stuck;
      }

  -- a log of a journal whose octets behind its end were cut off
  pub resumed : (head : Head) (bodies : List (List ℕ)) (before between : D) (log : Log D F) (end : ℕ) → BeginsWith (written before) (octets_of head bodies)
      → end ≡ length (octets_of head bodies) → (end ≤ length (written before) → written between ≡ take end (written before))
      → written log.disk ≡ written between → synced log.disk ≡ written between
      → log.salt ≡ salt_of head → log.number ≡ length bodies → log.end ≡ end → Fit 0 bodies → log.stuck ≡ false → Holds written synced head log bodies
  resumed head bodies before between log end begins is_end cut same_written is_synced salt number ends fit goes_on =
      let back : written between ≡ octets_of head bodies = cut (long_enough (written before) (octets_of head bodies) end begins is_end) ∙ cut_back (written before) (octets_of head bodies) end begins is_end in
      record {
        is_written = same_written ∙ back;
        is_synced = is_synced ∙ back;
        salt = salt;
        number = number;
        end = ends ∙ is_end;
        fit = fit;
        goes_on = goes_on;
      }
