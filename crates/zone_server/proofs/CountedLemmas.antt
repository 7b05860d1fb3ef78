-- What is counted of an engine's versions stays so, and what is told of an update where nothing can be published.
use Rattle.std.proofs.Common.{◌≡◌, ◌≤◌, ℕ, ◌+◌, ◌-◌, List, length, Bool, Some, inl, inr, refl, sym, ap, ◌∙◌, subst, arith}
use Rattle.std.proofs.lemmas.List.{length_push}
use Rattle.zone_tree.specs.Version.{Version}
use Rattle.dns_rdata.specs.Record.{Record}
use Rattle.dns_rdata.specs.declared.numbers.Rcode.{Rcode}
use Rattle.dns_rdata.specs.declared.numbers.Rcode.TheVariants.{ServFail}
use Rattle.dns_message.specs.declared.update.Update.{Update}
use Rattle.dns_engine.specs.declared.judged.Judged.{Judged}
use Rattle.dns_engine.specs.declared.judged.Judged.TheVariants.{Code, Made, Starved}
use Rattle.dns_engine.specs.Held.{EngineState, IsLatest, state_with}
use Rattle.dns_engine.specs.Outcomes.{IsTold, IsJudged, made, refused, unchanged, full, starved}
use Rattle.zone_server.specs.Right.{AreCounted}
use Rattle.zone_server.proofs.StateLemmas.{latest_length}

pub counted_same : (old new : EngineState) (published reserved : ℕ) → new ≡ old → AreCounted old published reserved → AreCounted new published reserved
counted_same old new published reserved same is = subst (λ (s : EngineState). AreCounted s published reserved) (sym same) is

-- an update that is judged in the last version, and of which nothing is published
abbrev pub code_here : Judged → Rcode
code_here (Code code) = code
code_here (Made next) = ServFail
code_here Starved = ServFail

pub judged_here : (engine : EngineState) (update : Update) (may : Bool) (judged : Judged) (code : Rcode) → IsJudged engine.held.last update may judged → code ≡ code_here judged → IsTold engine update may code engine
judged_here engine update may (Code reported) code (inl coded) same = refused (coded ∙ ap Some (sym same)) refl
judged_here engine update may (Code reported) code (inr (inl is)) same = unchanged is.0 is.1 (same ∙ is.2) refl
judged_here engine update may (Code reported) code (inr (inr is)) same = full is.0 (same ∙ is.1) refl
judged_here engine update may (Made next) code is same = starved is.0 same refl
judged_here engine update may Starved code is same = starved is same refl

-- an engine that has published one version more, of those that were reserved
pub counted_with : (old new : EngineState) (version : Version) (published reserved later fewer : ℕ) → new ≡ state_with old version → later ≡ published + 1 → fewer + 1 ≡ reserved → AreCounted old published reserved
    → AreCounted new later fewer
counted_with old new version published reserved later fewer same more less is =
    subst (λ (s : EngineState). AreCounted s later fewer) (sym same)
    (record { published_is = more ∙ (ap (λ (n : ℕ). n + 1) is.published_is ∙ sym (length_push old.held.published version)); reserved_fit = omega (arith, less, is.reserved_fit) })

-- an engine that was handed an update, where nothing is reserved
pub counted_told : (first : List Record) (old new : EngineState) (update : Update) (may : Bool) (code : Rcode) (before after published reserved later none : ℕ) → IsTold old update may code new
    → IsLatest first old.held.published old.held.last → IsLatest first new.held.published new.held.last → before ≡ old.held.last.number → after ≡ new.held.last.number → later ≡ published + (after - before) → none ≡ 0
    → AreCounted old published reserved → AreCounted new later none
counted_told first old new update may code before after published reserved later none reported was is number_before number_after more nothing counted =
    let long : length old.held.published ≡ before + 1 = latest_length first old.held.published old.held.last was ∙ ap (λ (n : ℕ). n + 1) (sym number_before) in
    let longer : length new.held.published ≡ after + 1 = latest_length first new.held.published new.held.last is ∙ ap (λ (n : ℕ). n + 1) (sym number_after) in
    let grown : length old.held.published ≤ length new.held.published = grows reported in
    record { published_is = omega (arith, long, longer, grown, more, counted.published_is); reserved_fit = omega (arith, nothing) }
  where
    same_long : new ≡ old → length old.held.published ≤ length new.held.published
    same_long same = let long : length new.held.published ≡ length old.held.published = ap (λ (s : EngineState). length s.held.published) same in omega (arith, long)

    grows : IsTold old update may code new → length old.held.published ≤ length new.held.published
    grows (made next taken makes noerror grant same) =
        let long : length new.held.published ≡ length old.held.published + 1 = ap (λ (s : EngineState). length s.held.published) same ∙ length_push old.held.published next in omega (arith, long)
    grows (refused coded same) = same_long same
    grows (unchanged taken acts noerror same) = same_long same
    grows (full last servfail same) = same_long same
    grows (starved taken servfail same) = same_long same
