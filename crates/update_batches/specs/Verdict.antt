-- What updates get (RFC 2136, 2.2 and 3.8).
use Rattle.std.specs.Prelude.{ℕ, Option, None, Some}
use Rattle.dns_rdata.specs.declared.numbers.Rcode.{Rcode}
use Rattle.dns_rdata.specs.declared.numbers.Rcode.TheVariants.{NoError, FormErr, ServFail, NxDomain, NotImp, Refused, YXDomain, YXRRSet, NXRRSet, NotAuth, NotZone, BadVers}
use Rattle.update_batches.specs.declared.verdict.Verdict.{Verdict}
use Rattle.update_batches.specs.declared.verdict.Serials.{Serials}

-- two serials, before an update and after it
abbrev pub serials_from : ℕ → ℕ → Serials
serials_from before after = record { before = record { 0 = before }; after = record { 0 = after } }

-- the serials of an update with a code that makes no version, in a version of this serial: with NOERROR the serial stays, with any other code there are none (own)
abbrev pub serials_with : ℕ → Rcode → Option Serials
serials_with serial NoError = Some (serials_from serial serial)
serials_with serial FormErr = None
serials_with serial ServFail = None
serials_with serial NxDomain = None
serials_with serial NotImp = None
serials_with serial Refused = None
serials_with serial YXDomain = None
serials_with serial YXRRSet = None
serials_with serial NXRRSet = None
serials_with serial NotAuth = None
serials_with serial NotZone = None
serials_with serial BadVers = None

-- an update gets this code in a version of this serial, and makes none
abbrev pub told_verdict : ℕ → Rcode → Verdict
told_verdict serial code = record { code = code; serials = serials_with serial code }

-- an update makes a version of the second serial from one of the first: NOERROR, and both are given (own)
abbrev pub made_verdict : ℕ → ℕ → Verdict
made_verdict before after = record { code = NoError; serials = Some (serials_from before after) }

-- there is no memory or room for an update, or the disk fails: SERVFAIL, and no serial is given (own)
abbrev pub failed : Verdict
failed = record { code = ServFail; serials = None }
