-- A label more is passed over.
use Rattle.std.proofs.Common.{◌≡◌, ◌≢◌, ◌≤◌, ◌<◌, ◌+◌, length, drop, sym, ap, ◌∙◌, subst, arith}
use Rattle.std.proofs.Math.ListN.{get_or}
use Rattle.message_counts.specs.Transfers.{owner_end}
use Rattle.message_counts.proofs.OwnerLemmas.{passes_owner_label}
use Rattle.message_counts.proofs.transfers.owner_end.Goals as goal

pub loop-len-preserved : goal.loop-len-preserved
loop-len-preserved c =
    let octets = c.args.octets.now in
    let at = c.loop-len.at in
    let len = c.in-Some.len.now in
    let some : len ≢ 0 = omega arith in
    let short : len ≤ 63 = omega arith in
    let inside : at < length octets = c.in-Some.ensures.lookup.3.0 in
    let there : get_or octets at 0 ≡ len = sym (c.in-Some.ensures.lookup.3.1 0) in
    let passed = passes_owner_label octets at inside (subst (λ n. n ≢ 0) (sym there) some) (subst (λ n. n ≤ 63) (sym there) short) in
    ap (λ n. owner_end (at + (n + 1)) 0 (drop (at + (n + 1)) octets)) (c.from.ensures ∙ sym there) ∙ (sym passed ∙ c.loop-len.invariant)
