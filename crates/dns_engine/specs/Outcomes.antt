-- What an engine tells of an update (RFC 2136, 3).
use Rattle.std.specs.Prelude.{◌≡◌, ◌⊎◌, ◌+◌, ◌<◌, ◌≤◌, ◌^◌, Bool, None, Some}
use Rattle.dns_rdata.specs.declared.numbers.Rcode.{Rcode}
use Rattle.dns_rdata.specs.declared.numbers.Rcode.TheVariants.{NoError, ServFail}
use Rattle.dns_message.specs.declared.update.Update.{Update}
use Rattle.zone_tree.specs.Version.{Version}
use Rattle.update_core.specs.declared.outcome.Outcome.{Outcome}
use Rattle.update_core.specs.declared.outcome.Outcome.TheVariants.{Refused, Unchanged, Next, NoMemory}
use Rattle.update_core.specs.Verdict.{verdict}
use Rattle.update_core.specs.Act.{act}
use Rattle.update_core.specs.Applied.{code_of}
use Rattle.dns_engine.specs.declared.judged.Judged.{Judged}
use Rattle.dns_engine.specs.declared.judged.Judged.TheVariants.{Code, Made, Starved}
use Rattle.dns_engine.specs.Versions.{Makes}
use Rattle.dns_engine.specs.Held.{EngineState, state_with}

-- what is told of an update that is sent to the last version, and what the engine is then: NOERROR and the version that it makes, with a grant
-- less; or nothing has changed, and it is told the code of the first rule that it breaks or SERVFAIL where it passes a limit, or NOERROR where it
-- changes nothing, or SERVFAIL where there is no number left, and, if it breaks no rule, where memory, a free slot or a grant is wanted
-- (RFC 2136, 3; own)
pub data IsTold (old : EngineState) (update : Update) (may : Bool) (code : Rcode) (new : EngineState) : Type 0 where
  made : (next : Version) → verdict old.held.last.zone update may ≡ None → Makes update old.held.last next → code ≡ NoError → 0 < old.left → new ≡ state_with old next → IsTold old update may code new
  refused : code_of old.held.last.zone update may ≡ Some code → new ≡ old → IsTold old update may code new
  unchanged : verdict old.held.last.zone update may ≡ None → act old.held.last.zone update ≡ Some old.held.last.zone → code ≡ NoError → new ≡ old → IsTold old update may code new
  full : 2 ^ 64 ≤ old.held.last.number + 1 → code ≡ ServFail → new ≡ old → IsTold old update may code new
  starved : verdict old.held.last.zone update may ≡ None → code ≡ ServFail → new ≡ old → IsTold old update may code new

-- an update is told this code of a version, of which it makes none: that of the first rule that it breaks, or SERVFAIL where it passes a limit;
-- NOERROR where it changes nothing; SERVFAIL where there is no number left (RFC 2136, 3; own)
abbrev pub Tells : Version → Update → Bool → Rcode → Type 0
Tells version update may code =
    (code_of version.zone update may ≡ Some code)
    ⊎ ((verdict version.zone update may ≡ None) × (act version.zone update ≡ Some version.zone) × (code ≡ NoError))
    ⊎ ((2 ^ 64 ≤ version.number + 1) × (code ≡ ServFail))

-- what is told of an update in a version is so: its code; the version that it makes; or that no rule gives it a code (RFC 2136, 3; own)
abbrev pub IsJudged : Version → Update → Bool → Judged → Type 0
IsJudged version update may (Code code) = Tells version update may code
IsJudged version update may (Made next) = (verdict version.zone update may ≡ None) × Makes update version next
IsJudged version update may Starved = verdict version.zone update may ≡ None

-- what becomes of an update is told as it is: the code, NOERROR where it changes nothing, that memory is wanted, or the version that it makes, for which memory may be
-- wanted too (RFC 2136, 3; own)
abbrev pub IsJudgedAs : Outcome → Judged → Type 0
IsJudgedAs (Refused code) judged = judged ≡ Code code
IsJudgedAs Unchanged judged = judged ≡ Code NoError
IsJudgedAs NoMemory judged = judged ≡ Starved
IsJudgedAs (Next next) judged = (judged ≡ Made next) ⊎ (judged ≡ Starved)
