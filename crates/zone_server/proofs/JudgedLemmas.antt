-- The verdict of each update of a batch is about versions that are published once the batch is.
use Rattle.std.proofs.Common.{◌≡◌, ◌≢◌, refl, ℕ, ◌≤◌, List, [], ◌∷◌, ◌++◌, Option, None, Some, inl, inr, sym, ap, ◌∙◌, subst, append-nil, append_assoc}
use Rattle.std.specs.Prelude.{unwrap_or, if◌then◌else◌, Bool}
use Rattle.std.specs.Option.{option_or, is_some}
use Rattle.dns_rdata.specs.Record.{Record}
use Rattle.dns_rdata.specs.declared.numbers.Rcode.{Rcode}
use Rattle.dns_rdata.specs.declared.numbers.Rcode.TheVariants.{NoError, ServFail}
use Rattle.dns_message.specs.declared.update.Update.{Update}
use Rattle.zone_tree.specs.Version.{Version}
use Rattle.update_core.specs.Verdict.{verdict}
use Rattle.update_core.specs.Act.{act}
use Rattle.update_core.specs.Applied.{code_of}
use Rattle.counted_handles.specs.History.{IsHistory}
use Rattle.dns_engine.specs.Versions.{IsFirst, IsNext, Makes}
use Rattle.dns_engine.specs.Held.{IsLatest}
use Rattle.dns_engine.specs.Chain.{IsPublished}
use Rattle.dns_engine.specs.Replayed.{IsReplay}
use Rattle.dns_engine.specs.Outcomes.{Tells}
use Rattle.dns_engine.proofs.OwnedLemmas.{goes_on}
use Rattle.dns_engine.proofs.ReplayLemmas.{number_of}
use Rattle.update_batches.specs.Verdict.{serials_from, serials_with}
use Rattle.update_batches.specs.Batch.{newest_of}
use Rattle.update_batches.specs.Engine.{AreMade}
use Rattle.update_batches.specs.declared.update_request.UpdateRequest.{UpdateRequest}
use Rattle.update_batches.specs.UpdateRequest.{serial_in}
use Rattle.zone_server.specs.UpdateResult.{AreOwn, IsDoneBy}
use Rattle.zone_server.proofs.CodeLemmas.{code_other, own_other}

-- an update that no rule gives a code, and whose effect is a zone, gets none
no_code : (zone after : List Record) (update : Update) (may : Bool) → verdict zone update may ≡ None → act zone update ≡ Some after → code_of zone update may ≡ None
no_code zone after update may taken acts =
    ap (λ v. option_or v (if is_some (act zone update) then None else Some ServFail)) taken ∙ ap (λ (o : Option (List Record)). if is_some o then None else Some ServFail) acts

-- the last of versions is one of those published
latest_here : (first : List Record) (published : List Version) (version : Version) → IsLatest first published version → IsPublished first published version
latest_here first published version latest = record {
  before = latest.before;
  newer = [];
  history = latest.history;
  place = latest.ends ∙ sym (append-nil (latest.before ++ version ∷ []));
  number = latest.number;
}

module _ (first : List Record) (published : List Version) (version : Version) (latest : IsLatest first published version) (replayed : IsReplay first version) (number : ℕ) (least : number ≤ version.number) (one : UpdateRequest) where
  no_two : {P : Type 0} (o : Option Rcode) (code : Rcode) → o ≡ Some code → o ≡ None → P
  no_two o code is none = absurd (cc)

  no_other : (o : Option (List Record)) (zone : List Record) → o ≡ Some version.zone → o ≡ Some zone → zone ≡ version.zone
  no_other o zone is other = cc

  not_done : ServFail ≢ NoError
  not_done same = cc

  -- an update that makes nothing of the version published last
  pub tells_done : (code : Rcode) → Tells version one.update one.may code → IsDoneBy first published one number code (serials_with (serial_in version) code)
  tells_done code (inl coded) = record {
    version = version;
    replayed = replayed;
    least = least;
    here = latest_here first published version latest;
    reported = inl (
      sym (ap (λ (o : Option Rcode). unwrap_or o NoError) coded),
      λ zone taken acts changed. no_two (code_of version.zone one.update one.may) code coded (no_code version.zone zone one.update one.may taken acts),
    );
    own = own_other version one.update (serial_in version) code (code_other version.zone one.update one.may code coded);
  }
  tells_done code (inr (inl stays)) = record {
    version = version;
    replayed = replayed;
    least = least;
    here = latest_here first published version latest;
    reported = inl (
      stays.2 ∙ sym (ap (λ (o : Option Rcode). unwrap_or o NoError) (no_code version.zone version.zone one.update one.may stays.0 stays.1)),
      λ zone taken acts changed. absurd (changed (no_other (act version.zone one.update) zone stays.1 acts)),
    );
    own = subst (λ (r : Rcode). AreOwn version one.update r (serials_with (serial_in version) r)) (sym stays.2) (refl, refl, version.zone, stays.1, refl);
  }
  tells_done code (inr (inr full)) = record {
    version = version;
    replayed = replayed;
    least = least;
    here = latest_here first published version latest;
    reported = inr full.1;
    own = subst (λ (r : Rcode). AreOwn version one.update r (serials_with (serial_in version) r)) (sym full.1)
        (own_other version one.update (serial_in version) ServFail not_done);
  }

  -- an update that is told SERVFAIL
  pub starved_done : IsDoneBy first published one number ServFail None
  starved_done = record {
    version = version;
    replayed = replayed;
    least = least;
    here = latest_here first published version latest;
    reported = inr refl;
    own = not_done;
  }

  -- and one that makes the next version
  pub made_done : (next : Version) → IsHistory (IsFirst first) IsNext (published ++ next ∷ []) → verdict version.zone one.update one.may ≡ None → Makes one.update version next
      → IsDoneBy first (published ++ next ∷ []) one number NoError (Some (serials_from (serial_in version) (serial_in next)))
  made_done next history lets is = record {
    version = version;
    replayed = replayed;
    least = least;
    here = record { before = latest.before; newer = next ∷ []; history = history; place = ap (λ (l : List Version). l ++ next ∷ []) latest.ends; number = latest.number };
    reported = inl (
      sym (ap (λ (o : Option Rcode). unwrap_or o NoError) (no_code version.zone next.zone one.update one.may lets is.zone)),
      λ zone taken acts changed. (next, [], refl, same_zone (act version.zone one.update) zone is.zone acts),
    );
    own = (refl, refl, next.zone, is.zone, refl);
  }
    where
      same_zone : (o : Option (List Record)) (zone : List Record) → o ≡ Some next.zone → o ≡ Some zone → next.zone ≡ zone
      same_zone o zone is other = cc

-- versions made one from another, the first of them from the last one published, are published after it
pub made_latest : (first : List Record) (seen : List Version) (last : Version) (versions : List Version) → IsLatest first seen last → AreMade last versions
    → IsLatest first (seen ++ versions) (newest_of last versions)
made_latest first seen last [] latest made = subst (λ (l : List Version). IsLatest first l last) (sym (append-nil seen)) latest
made_latest first seen last (next ∷ versions) latest made =
    let follows : IsNext last next = record { update = made.0.0.update; makes = made.0.1 } in
    let longer : IsHistory (IsFirst first) IsNext (seen ++ next ∷ []) =
    subst (λ (l : List Version). IsHistory (IsFirst first) IsNext (l ++ next ∷ [])) (sym latest.ends) (goes_on first latest.before last next (subst (λ (l : List Version). IsHistory (IsFirst first) IsNext l) latest.ends latest.history) follows) in
    let ends : IsLatest first (seen ++ next ∷ []) next = record { before = seen; history = longer; ends = refl; number = sym (number_of first seen next longer) } in
    subst (λ (l : List Version). IsLatest first l (newest_of next versions)) (append_assoc seen (next ∷ []) versions)
    (made_latest first (seen ++ next ∷ []) next versions ends made.1)
