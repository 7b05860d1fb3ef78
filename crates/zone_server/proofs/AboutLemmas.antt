-- Which versions are known when an update is told about.
use Rattle.std.proofs.Common.{◌+◌, length, length-append, arith, ◌≡◌, ◌≢◌, refl, Bool, List, [], ◌∷◌, ◌++◌, None, Some, sym, ap, ◌∙◌, subst, append-nil}
use Rattle.dns_rdata.specs.Record.{Record}
use Rattle.dns_message.specs.declared.update.Update.{Update}
use Rattle.zone_tree.specs.Version.{Version}
use Rattle.update_core.specs.Verdict.{verdict}
use Rattle.update_core.specs.Act.{act}
use Rattle.counted_handles.specs.History.{IsHistory}
use Rattle.counted_handles.specs.Ruled.{Begins}
use Rattle.std.proofs.lemmas.List.{length_push}
use Rattle.dns_engine.specs.Versions.{IsFirst, IsNext, Makes}
use Rattle.dns_engine.specs.Held.{EngineState, IsLatest, state_with}
use Rattle.dns_engine.specs.Chain.{IsPublished}
use Rattle.serve_core.specs.Served.{ForNothing}
use Rattle.zone_server.specs.Known.{IsNoOlder}
use Rattle.zone_server.specs.Updated.{TellsOf}

-- the last of the versions that are known is known
pub latest_known : (first : List Record) (later : List Version) (version : Version) → IsLatest first later version → IsPublished first later version
latest_known first later version latest = record {
  before = latest.before;
  newer = [];
  history = latest.history;
  place = latest.ends ∙ sym (append-nil (latest.before ++ version ∷ []));
  number = latest.number;
}

-- an update that makes nothing of the last of the versions that are known
pub unmade_about : (first : List Record) (may : Bool) (known later : List Version) (version : Version) (update : Update) → IsNoOlder known version → IsLatest first later version
    → ((zone : List Record) → verdict version.zone update may ≡ None → act version.zone update ≡ Some zone → zone ≢ version.zone → ⊥) → TellsOf first may known later version ForNothing update
unmade_about first may known later version update fresh latest nothing = (fresh, latest_known first later version latest, λ zone taken acts changed. absurd (nothing zone taken acts changed))

-- and one that an engine has made
pub made_about : (first : List Record) (may : Bool) (known later : List Version) (old new : EngineState) (update : Update) (next : Version) → IsNoOlder known old.held.last → IsLatest first old.held.published old.held.last → IsLatest first new.held.published new.held.last
    → later ≡ new.held.published → Makes update old.held.last next → new ≡ state_with old next → TellsOf first may known later old.held.last ForNothing update
made_about first may known later old new update next fresh before after same makes is = (
  fresh,
  record {
    before = before.before;
    newer = next ∷ [];
    history = subst (IsHistory (IsFirst first) IsNext) (sym same) after.history;
    place = same ∙ ap (λ (e : EngineState). e.held.published) is ∙ ap (λ (l : List Version). l ++ next ∷ []) before.ends;
    number = before.number;
  },
  λ zone taken acts changed. (next, [], refl, zone_of zone acts),
)
  where
    zone_of : (zone : List Record) → act old.held.last.zone update ≡ Some zone → next.zone ≡ zone
    zone_of zone acts = one (act old.held.last.zone update) next.zone zone makes.zone acts
      where
        one : (o : _) (a b : List Record) → o ≡ Some a → o ≡ Some b → a ≡ b
        one o a b x y = cc

-- and one of an engine that stays as it was
pub known_about : (first : List Record) (later : List Version) (old new : EngineState) → IsLatest first old.held.published old.held.last → later ≡ new.held.published → new ≡ old → IsLatest first later old.held.last
known_about first later old new latest same stays =
    subst (λ (l : List Version). IsLatest first l old.held.last) (sym (same ∙ ap (λ (e : EngineState). e.held.published) stays)) latest

-- the last of versions isn't older than those that begin them
pub no_older : (first : List Record) (known later : List Version) (version : Version) → Begins known later → IsLatest first later version → IsNoOlder known version
no_older first known later version begun latest =
    let long : length (known ++ begun.0) ≡ length known + length begun.0 = length-append known begun.0 in
    let same : length (known ++ begun.0) ≡ length later = ap length begun.1 in
    let ends : length later ≡ length (latest.before ++ version ∷ []) = ap length latest.ends in
    let one : length (latest.before ++ version ∷ []) ≡ length latest.before + 1 = length_push latest.before version in
    let number : length latest.before ≡ version.number = latest.number in
    omega (arith, long, same, ends, one, number)
