use Rattle.std.proofs.Common.{◌≡◌, ◌≤◌, ℕ, false, nat_lt, arith}
use Rattle.std.proofs.lemmas.Bool.Decides.{nat_tests}
use Rattle.dns_name.proofs.LastLemmas.{first_at, none_at}
use Rattle.dns_name.proofs.stored.first_closing.Goals as goal

pub returns-then-octet-eq-CLOSING : goal.returns-then-octet-eq-CLOSING
returns-then-octet-eq-CLOSING c =
    let there = c.in-Some.ensures.lookup.3 in
    first_at c.args.octets.now c.loop-octet.at c.in-Some.octet.now there.0 (there.1 0) c.if-octet-eq-CLOSING.true c.loop-octet.invariant.none

none_left : (at len : ℕ) → false ≡ nat_lt at len → len ≤ at
none_left at len e = grind (arith, nat_tests)

pub returns : goal.returns
returns c = none_at c.args.octets.now c.loop-octet.at (none_left _ _ c.in_default.ensures.lookup.0) c.loop-octet.invariant.within c.loop-octet.invariant.none
