use Rattle.std.proofs.Common.{◌≡◌, ◌<◌, ℕ, List, length, subst, sym, refl, rules, arith, Vec, Global}
use Rattle.std.specs.Prelude.{All}
use Rattle.std.proofs.lemmas.List.{length-map}
use Rattle.journal.specs.Batch.{IsShort, IsRequest}
use Rattle.journal.proofs.PartLemmas.{not_so}
use Rattle.journal.proofs.RequestLemmas.{octets_of, first_removed}
use Rattle.journal.proofs.request.RequestMessages.of.Goals as goal

pub returns-then-is_empty : goal.returns-then-is_empty
returns-then-is_empty c =
    let none : length c.args.messages.items ≡ 0 = search rules in
    λ is. omega (arith, none, is.some, length-map c.args.messages.items (λ (m : Vec ℕ Global). m.items))

pub returns-then-not-are_short : goal.returns-then-not-are_short
returns-then-not-are_short c =
    λ is. not_so (c.if-not-are_short.ensures.1 (subst (λ (ms : List (Vec ℕ Global)). All IsShort (octets_of ms)) (sym c.deref.ensures.value) is.short))

pub invariant_of-result : goal.invariant_of-result
invariant_of-result c =
    let some : 0 < length c.args.messages.items = search rules in
    let all : All IsShort (octets_of c.args.messages.items) =
    subst (λ (ms : List (Vec ℕ Global)). All IsShort (octets_of ms)) c.deref.ensures.value (c.if-not-are_short.ensures.0 refl) in
    let split = first_removed c.args.messages.items c.remove-first.new.self.items c.remove-first.result some c.remove-first.ensures.value c.remove-first.ensures.items in
    subst (λ (ms : List (Vec ℕ Global)). IsRequest (octets_of ms)) split
    (record { some = omega (arith, some, length-map c.args.messages.items (λ (m : Vec ℕ Global). m.items)); short = all })
