-- Since when a peer is waited for.
use Rattle.std.proofs.Common.{◌≡◌, ◌≢◌, ◌==◌, ◌-◌, refl, ℕ, Bool, true, false, if◌then◌else◌, sym, ◌∙◌, subst, inl, inr}
use Rattle.std.proofs.lemmas.Bool.{eqb-true}
use Rattle.tcp_connections.specs.Kept.{Kept, awaited}
use Rattle.tcp_connections.specs.declared.waiting.Waiting.{Waiting}
use Rattle.tcp_connections.specs.declared.waiting.Waiting.TheVariants.{Answer}
use Rattle.tcp_connections.specs.Deadlines.{IsBegun, begun_behind, patience, is_late, is_over}
use Rattle.tcp_connections.specs.declared.limits.Limits.{Limits}

-- over two shares at one time
pub begun_more : (now p begun q mid r later : ℕ) → IsBegun now p begun q mid → IsBegun now q mid r later → IsBegun now p begun r later
begun_more now p begun q mid r later first (inl is) = inl is
begun_more now p begun q mid r later (inl was) (inr second) = inl (second.1 ∙ was)
begun_more now p begun q mid r later (inr first) (inr second) = inr (second.0 ∙ first.0, second.1 ∙ first.1)

-- over one
by_test : (now passed begun more later : ℕ) (b : Bool) → (more == passed) ≡ b → later ≡ (if b then begun else now) → IsBegun now passed begun more later
by_test now passed begun more later true test is = inr (eqb-true more passed test, is)
by_test now passed begun more later false test is = inl is

pub begun_once : (now passed begun more later : ℕ) → later ≡ begun_behind passed more begun now → IsBegun now passed begun more later
begun_once now passed begun more later is = by_test now passed begun more later (more == passed) refl is

-- who waits for the answering of a request is never over
pub over_waits : (limits : Limits) (now begun : ℕ) (kept : Kept) (over : Bool) (waited : Waiting) → over ≡ is_over limits now begun kept → over ≡ true → waited ≡ awaited kept → waited ≢ Answer
over_waits limits now begun kept over waited same is here = λ answer.
    let late : is_late (patience limits Answer) (now - begun) ≡ true = subst (λ (a : Waiting). is_late (patience limits a) (now - begun) ≡ true) (sym here ∙ answer) (sym same ∙ is) in
    cc
