use Rattle.std.proofs.Common.{◌≡◌, take, refl, sym, ◌∙◌, arith, rules}
use Rattle.std.proofs.lemmas.List.{length-take-le}
use Rattle.journal.specs.Head.{name}
use Rattle.journal.proofs.PartLemmas.{not_so}
use Rattle.journal.proofs.HeadLemmas.{head_read, sum_stands}
use Rattle.journal.proofs.head_octets.read_head.Goals as goal

pub returns-then-not-is_digest-clause-refused : goal.returns-then-not-is_digest-clause-refused
returns-then-not-is_digest-clause-refused c =
    let named : take 16 c.args.octets.now ≡ name = search rules in (
      c.in-Some.ensures.0,
      named,
      λ e. not_so (c.if-not-is_digest.ensures.1
          (sym (sum_stands c.in-Some.head c.args.octets.now c.in-Some.sum.now c.in-Some.rest.now c.in-Some.ensures.1 (c.in-Some.ensures.3 named) c.in-Some.ensures.2) ∙ e)),
    )

pub returns-clause-read : goal.returns-clause-read
returns-clause-read c =
    let named : take 16 c.args.octets.now ≡ name = search rules in
    let read = head_read c.in-Some.head c.args.octets.now c.in-Some.sum.now c.in-Some.rest.now c.in-Some.ensures.1 (c.in-Some.ensures.3 named) (c.if-not-is_digest.ensures.0 refl) in
    (c.in-Some.ensures.1, read.0, read.1)

pub slice_bounds-is_digest-end : goal.slice_bounds-is_digest-end
slice_bounds-is_digest-end c = sym (length-take-le 124 c.args.octets.now (omega (arith, c.in-Some.ensures.0)))
