use Rattle.std.proofs.Common.{◌≡◌, ◌+◌, ◌-◌, ◌∷◌, [], inl, inr, ℕ, suc, List, length, take, refl, sym, ap, subst, ◌∙◌, arith}
use Rattle.std.proofs.lemmas.List.{length-append}
use Rattle.dns_name.specs.Labels.{labels_in}
use Rattle.dns_name.specs.Name.{wire_of}
use Rattle.dns_name.proofs.LabelLemmas.{wire_of-labels_in}
use Rattle.wire_names.specs.Entry.{long_octets}
use Rattle.wire_names.specs.Table.{entered, parent_of, first_key}
use Rattle.wire_names.specs.Written.{starts_of}
use Rattle.wire_names.proofs.EnterLemmas.{Entering, entering_first, entering_done, entering_stuck, entering_label, entering_next, parent_last, parent_next, parent_none}
use Rattle.wire_names.proofs.table.Positions.enter.Goals.{then-i-count, else-i-count+then-has_room, else-i-count+else-has_room}
use Rattle.wire_names.proofs.table.Positions.enter.Goals as goal

pub loop-i-init : goal.loop-i-init
loop-i-init c =
    let own = c.requires in
    let none : c.args.count - 0 ≡ c.args.count = omega arith in
    let few = own.few in
    record {
      whole = own.whole;
      within = own.within;
      short = own.short;
      few = omega arith;
      grown = omega arith;
      entering = λ table can. subst (λ (n : ℕ). Entering c.args.self.now (entered (λ named. named.0) table (take c.args.count (starts_of c.args.at (labels_in c.args.octets.now)))) c.args.at (labels_in c.args.octets.now) n c.args.last) (sym none)
          (entering_first _ table _ _ _ _ can);
    }

pub returns-in_default : goal.returns-in_default
returns-in_default c =
    let none = ap length c.in_default.ensures in
    let few = c.loop-i.invariant.few in
    let some = c.loop-i-test.true in
    absurd (omega arith)

pub overflow_add-next : goal.overflow_add-next
overflow_add-next c =
    let size = ap length c.in-Some.ensures.octets_are in
    let both = length-append c.in-Some.label.now c.in-Some.behind.now in
    let within = c.loop-i.invariant.within in
    record { fits = omega arith }

pub overflow_add-next-in-loop-i : goal.overflow_add-next-in-loop-i
overflow_add-next-in-loop-i c =
    let size = ap length c.in-Some.ensures.octets_are in
    let both = length-append c.in-Some.label.now c.in-Some.behind.now in
    let within = c.loop-i.invariant.within in
    record { fits = omega arith }

pub returns-then-not-has_room : goal.returns-then-not-has_room
returns-then-not-has_room c = λ table can. entering_stuck _ _ _ _ _ _ _ (c.loop-i.invariant.entering table can) c.has_room.ensures c.if-not-has_room.true

pub push-requires-clause-parent : goal.push-requires-clause-parent
push-requires-clause-parent c =
    let grown = c.loop-i.invariant.grown in
    let short = c.loop-i.invariant.short in
    let some = c.loop-i-test.true in
    let size = ap length c.in-Some.ensures.octets_are in
    let both = length-append c.in-Some.label.now c.in-Some.behind.now in
    elim c.if-i-count.branch [
      | then-i-count w ↦ (let p = w.parent-is in elim (c.requires.parent (omega arith)) [ inl a ↦ inl (omega arith) | inr b ↦ inr (omega arith, omega arith) ])
      | else-i-count+then-has_room w ↦ (let p = w.parent-is in let l = w.count.ensures.is in inl (omega arith))
      | else-i-count+else-has_room w ↦ (let p = w.parent-is in inr (omega arith, omega arith))
    ]

pub loop-i-preserved : goal.loop-i-preserved
loop-i-preserved c =
    let own = c.loop-i.invariant in
    let first = c.in-Some.ensures in
    let size = ap length first.octets_are in
    let both = length-append c.in-Some.label.now c.in-Some.behind.now in
    let within = own.within in
    let short = own.short in
    let few = own.few in
    let grown = own.grown in
    let some = c.loop-i-test.true in
    let labels = ap length first.labels in
    let m = c.args.count - (c.loop-i.i + 1) in
    let more = ap length c.push.ensures in
    let rest = c.loop-i.rest.now in
    let number = first_key (labels_in rest) in
    let behind = length-append c.loop-i.self (record { key = number; position = c.loop-i.place; parent = c.if-i-count.parent; octets = long_octets rest } ∷ []) in
    let key : number ≡ first_key (c.in-Some.label.now ∷ labels_in c.in-Some.behind.now) = ap first_key first.labels in
    let octets : rest ≡ wire_of (c.in-Some.label.now ∷ labels_in c.in-Some.behind.now) = sym (wire_of-labels_in rest own.whole) ∙ ap wire_of first.labels in
    let left : c.args.count - c.loop-i.i ≡ suc m = omega arith in
    record {
      whole = first.whole;
      within = omega arith;
      short = omega arith;
      few = omega arith;
      grown = omega arith;
      entering = λ table can.
          let final = entered (λ named. named.0) table (take c.args.count (starts_of c.args.at (labels_in c.args.octets.now))) in
          let e = entering_label c.loop-i.self final c.loop-i.place _ m c.args.last _ (labels_in c.in-Some.behind.now) c.in-Some.label.now (own.entering table can) first.labels left in
          let parent : c.if-i-count.parent ≡ parent_of final (labels_in c.in-Some.behind.now) = elim c.if-i-count.branch [
            | then-i-count w ↦ parent_last c.loop-i.self c.push.new.self final c.loop-i.place _ number c.if-i-count.parent m c.args.last 0 rest c.in-Some.label.now (labels_in c.in-Some.behind.now) c.has_room.result c.has_room.result e c.has_room.ensures c.if-not-has_room.false refl key octets c.push.ensures (let same = w.if-i-count.true in omega arith) w.parent-is
            | else-i-count+then-has_room w ↦ (let other = w.if-i-count.false in parent_next c.loop-i.self c.push.new.self final c.loop-i.place _ number c.if-i-count.parent m c.args.last 0 rest c.in-Some.label.now (labels_in c.in-Some.behind.now) c.has_room.result w.has_room-else-i-count.result e c.has_room.ensures c.if-not-has_room.false refl key octets c.push.ensures (omega arith) w.has_room-else-i-count.ensures w.if-has_room.true (omega arith) (w.parent-is ∙ ap (λ (n : ℕ). n + 1) w.count.ensures.is))
            | else-i-count+else-has_room w ↦ (let other = w.if-i-count.false in parent_none c.loop-i.self c.push.new.self final c.loop-i.place _ number c.if-i-count.parent m c.args.last 0 rest c.in-Some.label.now (labels_in c.in-Some.behind.now) c.has_room.result w.has_room-else-i-count.result e c.has_room.ensures c.if-not-has_room.false refl key octets c.push.ensures (omega arith) w.has_room-else-i-count.ensures w.if-has_room.false (omega arith) (w.parent-is ∙ ap (λ (xs : List ℕ). 258 + length xs) (sym (wire_of-labels_in c.in-Some.behind.now first.whole))))
          ] in
          entering_next c.loop-i.self c.push.new.self final c.loop-i.place _ number c.if-i-count.parent m c.args.last 0 rest c.in-Some.label.now (labels_in c.in-Some.behind.now) c.has_room.result c.has_room.result e c.has_room.ensures c.if-not-has_room.false refl key octets c.push.ensures parent;
    }

pub returns : goal.returns
returns c =
    let done = c.loop-i-test.false in
    λ table can. entering_done _ _ _ _ _ _ (c.loop-i.invariant.entering table can) (omega arith)
