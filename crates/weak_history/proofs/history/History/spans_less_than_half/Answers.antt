-- How far it has been, and how far it is from there, is the whole way.
use Rattle.std.proofs.Common.{◌≡◌, ℕ, ◌+◌, ◌<◌, ◌≤◌, [], ◌∷◌, ◌++◌, length, drop, Some, ap, sym, ◌∙◌, arith}
use Rattle.std.specs.List.{slice_get}
use Rattle.std.specs.Option.{option_copied}
use Rattle.dns_rdata.specs.SerialOrder.{serial_distance}
use Rattle.transfer_core.specs.Window.{span}
use Rattle.weak_history.specs.History.{serials_in, span_in}
use Rattle.weak_history.proofs.ChainLemmas.{no_entry}
use Rattle.weak_history.proofs.HistoryLemmas.{no_way, way_on, too_far}
use Rattle.weak_history.proofs.history.History.spans_less_than_half.Goals as goal

pub returns-in_default : goal.returns-in_default
returns-in_default g c = no_way c.args.self.now.entries c.args.serial.0 c.in_default.ensures

pub unreachable-requires : goal.unreachable-requires
unreachable-requires g c =
    let within : c.loop-at.at < length c.args.self.now.entries = omega (arith, c.loop-at-test.true, c.len-at-end.ensures.len) in
    no_entry c.args.self.now.entries c.loop-at.at within (sym (ap option_copied c.in_default-entry.is) ∙ c.entry-in-loop-at.ensures)

pub returns-then-sum-from : goal.returns-then-sum-from
returns-then-sum-from g c =
    let entries = c.args.self.now.entries in
    let entry = c.in-Some-entry.entry.now in
    let there : slice_get entries c.loop-at.at ≡ Some entry = sym c.entry-in-loop-at.ensures ∙ ap option_copied c.in-Some-entry.is in
    let on = ap (λ (n : ℕ). c.loop-at.sum + n) (c.from-sum.ensures ∙ c.distance.ensures ∙ ap (λ (n : ℕ). serial_distance c.loop-at.last.0 n) c.serial.ensures) in
    let far : 2147483648 ≤ c.loop-at.sum + c.from-sum.result = omega (arith, c.if-sum-from.true, c.from.ensures) in
    too_far entries c.loop-at.at c.args.serial.0 c.loop-at.last.0 c.loop-at.sum (c.loop-at.sum + c.from-sum.result) (span_in (serials_in entries ++ c.args.serial.0 ∷ [])) entry there on c.loop-at.invariant.1 far

pub loop-at-preserved : goal.loop-at-preserved
loop-at-preserved g c =
    let entries = c.args.self.now.entries in
    let entry = c.in-Some-entry.entry.now in
    let there : slice_get entries c.loop-at.at ≡ Some entry = sym c.entry-in-loop-at.ensures ∙ ap option_copied c.in-Some-entry.is in
    let on = ap (λ (n : ℕ). c.loop-at.sum + n) (c.from-sum.ensures ∙ c.distance.ensures ∙ ap (λ (n : ℕ). serial_distance c.loop-at.last.0 n) c.serial.ensures) in (
      omega (arith, c.if-sum-from.false, c.from.ensures),
      ap (λ (n : ℕ). c.loop-at.sum + c.from-sum.result + span n (serials_in (drop (c.loop-at.at + 1) entries) ++ c.args.serial.0 ∷ [])) c.serial-last-in-loop-at.ensures
          ∙ way_on entries c.loop-at.at c.args.serial.0 c.loop-at.last.0 c.loop-at.sum (c.loop-at.sum + c.from-sum.result) (span_in (serials_in entries ++ c.args.serial.0 ∷ [])) entry there on c.loop-at.invariant.1,
    )
