use Rattle.std.proofs.Common.{◌≡◌, ◌≢◌, arith}
use Rattle.dns_name.proofs.CountLemmas.{stored_step}
use Rattle.dns_name.proofs.stored.octet_count.Goals.{then-octet-eq-ESCAPE, else-octet-eq-ESCAPE}
use Rattle.dns_name.proofs.stored.octet_count.Goals as goal

pub overflow_add-count : goal.overflow_add-count
overflow_add-count c =
    let there = c.in-Some.ensures.lookup.3 in
    let h = c.loop-octet.invariant in
    let below = c.requires in
    omega arith

pub loop-octet-preserved : goal.loop-octet-preserved
loop-octet-preserved c =
    let there = c.in-Some.ensures.lookup.3 in
    let two : c.in-Some.octet.now ≡ 1 → c.if-octet-eq-ESCAPE.at ≡ 2 =
    elim c.if-octet-eq-ESCAPE.branch [
      | then-octet-eq-ESCAPE w ↦ λ e. w.at-is
      | else-octet-eq-ESCAPE w ↦ λ e. absurd (w.if-octet-eq-ESCAPE.false e)
    ] in
    let one : c.in-Some.octet.now ≢ 1 → c.if-octet-eq-ESCAPE.at ≡ 1 =
    elim c.if-octet-eq-ESCAPE.branch [
      | then-octet-eq-ESCAPE w ↦ λ other. absurd (other w.if-octet-eq-ESCAPE.true)
      | else-octet-eq-ESCAPE w ↦ λ other. w.at-is
    ] in
    let step = stored_step c.args.octets.now c.loop-octet.at c.in-Some.octet.now c.if-octet-eq-ESCAPE.at there.0 (there.1 0) two one in
    let h = c.loop-octet.invariant in
    omega arith
