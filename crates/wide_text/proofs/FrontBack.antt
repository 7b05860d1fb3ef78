-- What is written before a record's data is read again.
use Rattle.std.proofs.Common.{◌≡◌, ℕ, ◌<◌, ◌^◌, Bool, true, false, List, ◌∷◌, codes, decimal, Option, Some, None, Result, Ok, ok_or, ap, ◌∙◌, refl, arith}
use Rattle.dns_rdata.specs.declared.numbers.Ttl.{Ttl}
use Rattle.record_text.specs.Front.{Front}
use Rattle.record_text.specs.Mnemonics.{class_named}
use Rattle.record_text.specs.Number.{are_digits}
use Rattle.record_text.specs.Reading.{on_ok, and_then}
use Rattle.record_text.specs.declared.cause.Cause.{Cause}
use Rattle.record_text.specs.declared.cause.Cause.TheVariants.{UnknownType}
use Rattle.record_text.proofs.BackLemmas.{decimal_read, number_back}
use Rattle.wide_text.specs.Forms.{wide_type_named}
use Rattle.wide_text.specs.Front.{front_from, mark_of, wide_front}
use Rattle.wide_text.specs.declared.front.Mark.{Mark}
use Rattle.wide_text.specs.declared.front.Mark.TheVariants as mark
use Rattle.zone_lexing.specs.Word.{Written}
use Rattle.zone_lexing.specs.Word.Written.{Plain}

-- what stands before the data
abbrev pub as_ttl : ℕ → Ttl
as_ttl n = record { 0 = n }

ttl_mark : (n : ℕ) → n < 2 ^ 31 → mark_of false false (Plain (decimal n)) ≡ Ok (mark.Ttl (as_ttl n))
ttl_mark n h =
    let digits : are_digits (decimal n) ≡ true = (decimal_read n (omega arith)).digits in
    rw digits (ap (λ (r : Result ℕ Cause). on_ok mark.Ttl (on_ok as_ttl r)) (number_back 2147483647 n (omega arith) (omega arith)))

class_mark : mark_of true false (Plain (codes "IN")) ≡ Ok mark.Class
unfolding class_named
class_mark = refl

type_mark_is : (text : List ℕ) (rtype : ℕ) → wide_type_named text ≡ Some rtype → mark_of true true (Plain text) ≡ Ok (mark.Type (record { 0 = rtype }))
type_mark_is text rtype e = ap (λ (o : Option ℕ). on_ok (λ (n : ℕ). mark.Type (record { 0 = n })) (ok_or o UnknownType)) e

abbrev after_mark : Option Ttl → Bool → List Written → Result Mark Cause → Result Front Cause
after_mark ttl classed words m = and_then m (λ m. elim m [
  | mark.Ttl own ↦ front_from (Some own) classed words
  | mark.Class ↦ front_from ttl true words
  | mark.Type rtype ↦ Ok (record { ttl = ttl; rtype = rtype.0; words = words })
])

pub front_is : (n rtype : ℕ) (text : List ℕ) (words : List Written) → n < 2 ^ 31 → wide_type_named text ≡ Some rtype
    → wide_front (Plain (decimal n) ∷ Plain (codes "IN") ∷ Plain text ∷ words) ≡ Ok (record { ttl = Some (as_ttl n); rtype = rtype; words = words })
front_is n rtype text words h e =
    ap (after_mark None false (Plain (codes "IN") ∷ Plain text ∷ words)) (ttl_mark n h)
    ∙ ap (after_mark (Some (as_ttl n)) false (Plain text ∷ words)) class_mark
    ∙ ap (after_mark (Some (as_ttl n)) true words) (type_mark_is text rtype e)
