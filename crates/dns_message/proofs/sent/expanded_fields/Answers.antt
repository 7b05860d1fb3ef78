use Rattle.std.proofs.Common.{◌≡◌, ℕ, ◌+◌, List, ◌++◌, Some, sym, ap, ◌∙◌, arith}
use Rattle.dns_message.specs.Message.{Entry}
use Rattle.dns_message.proofs.SentLemmas.{IsExpanding-one, IsExpanding-stop, IsExpanding-end, ends_right, ends_wrong}
use Rattle.dns_message.proofs.sent.expanded_fields.Goals as goal
use Rattle.dns_message.proofs.sent.expanded_fields.Goals.{then-place-end-via-then-place-end, then-place-end-via-else-place-end+then-end-place}

pub returns-in_default : goal.returns-in_default
returns-in_default c =
    sym (IsExpanding-stop c.args.front c.args.names c.args.back c.args.octets.now c.args.entry.now.at c.args.entry.now.size c.loop.counter c.loop.place c.loop.own.items c.in_default.field-0 c.loop.invariant c.loop-test.true (sym c.read_name.ensures.computed ∙ c.in_default.is))

pub loop-preserved : goal.loop-preserved
loop-preserved c =
    rw (c.in_ok-extend_from_slice.ensures.items, c.wire.ensures.octets)
    (IsExpanding-one _ _ _ _ _ _ _ c.in-Ok.name c.in-Ok.next c.loop.invariant c.loop-test.true (sym c.read_name.ensures.computed ∙ c.in-Ok.is))

pub returns-then-place-end : goal.returns-then-place-end
returns-then-place-end c =
    let at : c.entry.inside.at ≡ c.args.entry.now.at = ap (λ (e : Entry). e.at) c.entry.view_is in
    let size : c.entry.inside.size ≡ c.args.entry.now.size = ap (λ (e : Entry). e.size) c.entry.view_is in
    let read = IsExpanding-end c.args.front c.args.names c.args.back c.args.octets.now c.args.entry.now.at c.args.entry.now.size c.loop.counter c.loop.place c.loop.own.items c.loop.invariant c.loop-test.false in
    elim c.then-place-end.branch [
      | then-place-end-via-then-place-end w ↦ sym (read ∙ ends_wrong _ _ _ (λ (e : c.loop.place + c.args.back ≡ c.args.entry.now.at + c.args.entry.now.size). absurd (omega arith)))
      | then-place-end-via-else-place-end+then-end-place w ↦ sym (read ∙ ends_wrong _ _ _ (λ (e : c.loop.place + c.args.back ≡ c.args.entry.now.at + c.args.entry.now.size). absurd (omega arith)))
    ]

pub returns : goal.returns
returns c =
    let at : c.entry.inside.at ≡ c.args.entry.now.at = ap (λ (e : Entry). e.at) c.entry.view_is in
    let size : c.entry.inside.size ≡ c.args.entry.now.size = ap (λ (e : Entry). e.size) c.entry.view_is in
    let read = IsExpanding-end c.args.front c.args.names c.args.back c.args.octets.now c.args.entry.now.at c.args.entry.now.size c.loop.counter c.loop.place c.loop.own.items c.loop.invariant c.loop-test.false in
    let whole : c.loop.place + c.args.back ≡ c.args.entry.now.at + c.args.entry.now.size = omega arith in
    ap Some (c.in_ok-extend_from_slice-2.ensures.items ∙ ap (λ (t : List ℕ). c.loop.own.items ++ t) c.octets_from-2.ensures)
    ∙ sym (read ∙ ends_right _ _ _ whole)
