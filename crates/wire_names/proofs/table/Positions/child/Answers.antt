use Rattle.std.proofs.Common.{◌<◌, ◌≡◌, take, inl, inr, List, ℕ, length, refl, ap, subst, ◌∙◌, arith}
use Rattle.dns_name.specs.Labels.{labels_in}
use Rattle.wire_names.specs.declared.table.Head.{Head}
use Rattle.wire_names.specs.Table.{Entry, AreMarked, BeginsAlike, place_at, spelt_at}
use Rattle.wire_names.proofs.IndexLemmas.{no_entry, unmarked, other_by_key, left_next}
use Rattle.wire_names.proofs.LongLemmas.{entries_many}
use Rattle.wire_names.proofs.table.Positions.child.Goals.{else-head-key-via-then-head-key+else-begins_with, else-head-key-via-else-head-key}
use Rattle.wire_names.proofs.table.Positions.child.Goals as goal

pub returns-then-not-self-mark_of : goal.returns-then-not-self-mark_of
returns-then-not-self-mark_of c =
    unmarked _ _ c.self.inside.marks _ _ _ _ c.requires.table (subst (λ (xs : List Entry). AreMarked xs c.self.inside.marks) c.self.view_is c.self.invariant.1) c.first_key-key.ensures c.mark_of.ensures.is c.if-not-self-mark_of.true

differs : (c : goal.After-older_than-i) → c.loop-i.i < length c.args.self.now → BeginsAlike c.args.msg.now c.args.self.now c.args.parent (labels_in c.args.octets.now) c.loop-i.i → ⊥
differs c h alike =
    elim c.else-head-key.branch [
      | else-head-key-via-then-head-key+else-begins_with w ↦
          (let same : c.head-head.result.position ≡ place_at c.args.self.now c.loop-i.i = ap (λ (x : Head). x.position) (c.head-head.ensures no_entry) in
          let at : w.from.result ≡ place_at c.args.self.now c.loop-i.i = w.from.ensures ∙ same in
          let yes = w.begins_with.ensures.1 (ap (λ (n : ℕ). take 1 (spelt_at c.args.msg.now n)) at ∙ alike.1) in
          let no = w.if-begins_with.false in
          cc)
      | else-head-key-via-else-head-key w ↦ other_by_key _ _ _ _ _ _ _ c.requires.table h refl c.first_key-key.ensures (λ same. w.if-head-key.false (ap (λ (x : Head). x.key) (c.head-head.ensures no_entry) ∙ same)) alike
    ]

pub loop-i-preserved : goal.loop-i-preserved
loop-i-preserved c =
    let size = ap (λ (xs : List Entry). length xs) c.self.view_is in
    let many = entries_many c.self.inside.heads.items c.self.inside.longs in
    let few = c.self.invariant.0.few in
    let len = c.len-in-loop-i.ensures.value in
    let test = c.loop-i-test.true in
    let small : c.args.parent < 258 = elim c.requires.parent [ inl a ↦ omega arith | inr b ↦ omega arith ] in
    let h : c.loop-i.i < length c.args.self.now = omega arith in
    record { left = left_next _ _ _ _ _ _ _ _ _ c.self.view_is c.self.invariant.0 small h c.older_than-i.ensures (differs c h) c.loop-i.invariant.left }
