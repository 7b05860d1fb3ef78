-- What becomes of an update that is taken.
use Rattle.std.proofs.Common.{◌≡◌, List, Bool, true, false, Option, None, Some, refl, sym, subst, inl, inr}
use Rattle.std.specs.Option.{option_or}
use Rattle.dns_rdata.specs.Record.{Record}
use Rattle.dns_rdata.specs.declared.numbers.Rcode.{Rcode}
use Rattle.dns_rdata.specs.declared.numbers.Rcode.TheVariants.{NoError}
use Rattle.dns_message.specs.declared.update.Update.{Update}
use Rattle.zone_tree.specs.Version.{Version}
use Rattle.update_core.specs.declared.outcome.Outcome.{Outcome}
use Rattle.update_core.specs.declared.outcome.Outcome.TheVariants.{Refused, Unchanged, Next, NoMemory}
use Rattle.update_core.specs.Verdict.{verdict, permission, check, prescan}
use Rattle.update_core.specs.Applied.{IsTold, code_told, next_of}
use Rattle.dns_engine.specs.Held.{EngineState}
use Rattle.dns_engine.specs.declared.judged.Judged.{Judged}
use Rattle.dns_engine.specs.Outcomes.{IsJudged, IsJudgedAs, IsTold as IsToldOf, refused, unchanged, starved}
use Rattle.dns_engine.specs.Versions.{Makes}

permitted : (front behind : Option Rcode) (may : Bool) → option_or front (option_or (permission may) behind) ≡ None → option_or front (option_or (permission true) behind) ≡ None
permitted front behind true h = h
permitted None behind false h = cc
permitted (Some code) behind false h = cc

-- an update that is taken comes from a peer that may update
pub taken_may : (zone : List Record) (update : Update) (may : Bool) → verdict zone update may ≡ None → verdict zone update true ≡ None
taken_may zone update may h = permitted (check zone update) (prescan zone update.updates) may h

-- the version that is told of is made by the update
pub made_of : (version next : Version) (update : Update) (may : Bool) → IsTold version update may (Next next) → Makes update version next
made_of version next update may reported = record { taken = taken_may version.zone update may reported.0; zone = reported.1; changed = reported.2; number = reported.3; changes = reported.4 }

-- what becomes of an update that makes a version is that version, and its code is NOERROR
pub next_told : (version next : Version) (update : Update) (may : Bool) (outcome : Outcome) → IsTold version update may outcome → next_of outcome ≡ Some next → IsTold version update may (Next next)
next_told version next update may (Refused code) reported is = cc
next_told version next update may Unchanged reported is = cc
next_told version next update may (Next own) reported is = subst (λ (v : Version). IsTold version update may (Next v)) (some_same own next is) reported
  where
    some_same : (a b : Version) → Some a ≡ Some b → a ≡ b
    some_same a b e = cc
next_told version next update may NoMemory reported is = cc

pub next_code : (next : Version) (outcome : Outcome) → next_of outcome ≡ Some next → code_told outcome ≡ NoError
next_code next (Refused code) is = cc
next_code next Unchanged is = cc
next_code next (Next own) is = refl
next_code next NoMemory is = cc

-- an update that makes no version changes nothing
pub none_told : (state : EngineState) (update : Update) (may : Bool) (outcome : Outcome) → IsTold state.held.last update may outcome → next_of outcome ≡ None → IsToldOf state update may (code_told outcome) state
none_told state update may (Refused code) reported is = refused reported refl
none_told state update may Unchanged reported is = unchanged reported.0 reported.1 refl refl
none_told state update may (Next own) reported is = cc
none_told state update may NoMemory reported is = starved reported refl refl

-- what is told of what becomes of an update is so
pub judged_as : (version : Version) (update : Update) (may : Bool) (outcome : Outcome) (judged : Judged) → IsTold version update may outcome → IsJudgedAs outcome judged → IsJudged version update may judged
judged_as version update may (Refused code) judged reported is = subst (IsJudged version update may) (sym is) (inl reported)
judged_as version update may Unchanged judged reported is = subst (IsJudged version update may) (sym is) (inr (inl (reported.0, reported.1, refl)))
judged_as version update may (Next next) judged reported is = elim is [
  | inl made ↦ subst (IsJudged version update may) (sym made) (reported.0, made_of version next update may reported)
  | inr none ↦ subst (IsJudged version update may) (sym none) reported.0
]
judged_as version update may NoMemory judged reported is = subst (IsJudged version update may) (sym is) reported
