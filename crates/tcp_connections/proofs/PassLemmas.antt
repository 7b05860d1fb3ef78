-- What passes, and what is waited for.
use Rattle.std.proofs.Common.{◌≡◌, ◌≢◌, ◌↔◌, refl, ℕ, Bool, true, false, IsTrue, List, [], ◌∷◌, Option, None, Some, ap, if◌then◌else◌}
use Rattle.dns_message.specs.Frame.{frame_in}
use Rattle.tcp_connections.specs.Kept.{one_passed, passed_behind, awaited_in, awaited_by}
use Rattle.tcp_connections.specs.declared.waiting.Waiting.TheVariants.{Request, Rest, Answer, Taking}

pub passed_as : (left : List ℕ) (is_all : Bool) (passed : ℕ) → IsTrue is_all ↔ (left ≡ []) → (if is_all then one_passed passed else passed) ≡ passed_behind left passed
passed_as [] true passed test = refl
passed_as [] false passed test = absurd (let none : ⊥ = cc (test.1 refl) in none)
passed_as (octet ∷ left) true passed test = absurd (let none : ⊥ = cc (test.0 refl) in none)
passed_as (octet ∷ left) false passed test = refl

pub taking_making : (making : Bool) (ready held : List ℕ) → making ≡ true → Taking ≡ awaited_by making ready held
taking_making true ready held is = refl
taking_making false ready held is = cc

pub taking_ready : (making : Bool) (ready held : List ℕ) → ready ≢ [] → Taking ≡ awaited_by making ready held
taking_ready true ready held some = refl
taking_ready false [] held some = absurd (some refl)
taking_ready false (octet ∷ ready) held some = refl

pub answer_held : (making : Bool) (ready held : List ℕ) (frame : List ℕ × List ℕ) → making ≡ false → ready ≡ [] → held ≢ [] → Some frame ≡ frame_in held → Answer ≡ awaited_by making ready held
answer_held true ready held frame is none some whole = cc
answer_held false [] [] frame is none some whole = absurd (some refl)
answer_held false [] (octet ∷ held) frame is none some whole = ap (λ (found : Option (List ℕ × List ℕ)). awaited_in found) whole
answer_held false (octet ∷ ready) held frame is none some whole = cc

pub rest_held : (making : Bool) (ready held : List ℕ) → making ≡ false → ready ≡ [] → held ≢ [] → None ≡ frame_in held → Rest ≡ awaited_by making ready held
rest_held true ready held is none some part = cc
rest_held false [] [] is none some part = absurd (some refl)
rest_held false [] (octet ∷ held) is none some part = ap (λ (found : Option (List ℕ × List ℕ)). awaited_in found) part
rest_held false (octet ∷ ready) held is none some part = cc

pub request_idle : (making : Bool) (ready held : List ℕ) → making ≡ false → ready ≡ [] → held ≡ [] → Request ≡ awaited_by making ready held
request_idle true ready held is none empty = cc
request_idle false [] [] is none empty = refl
request_idle false [] (octet ∷ held) is none empty = cc
request_idle false (octet ∷ ready) held is none empty = cc
