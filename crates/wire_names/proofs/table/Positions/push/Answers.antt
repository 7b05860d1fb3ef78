use Rattle.std.proofs.Common.{◌≡◌, ◌≤◌, ◌+◌, ◌⊎◌, ◌∷◌, ◌++◌, [], inl, inr, List, ℕ, length, set, true, refl, subst, sym, ap, ◌∙◌, arith}
use Rattle.dns_name.specs.Labels.{labels_in}
use Rattle.wire_names.specs.Chains.{AreChained}
use Rattle.wire_names.specs.Entry.{long_octets}
use Rattle.wire_names.specs.Long.{entry_with, entries_with, kept_of}
use Rattle.wire_names.specs.Table.{Entry, AreMarked, first_key}
use Rattle.wire_names.proofs.LongLemmas.{entries_many, entries_more, marked_more}
use Rattle.wire_names.proofs.table.Positions.push.Goals as goal

-- the new entry is behind the others in its chain, and its key is marked
pub invariant_of-self : goal.invariant_of-self
invariant_of-self c =
    let heads = c.self.inside.heads.items in
    let longs = c.self.inside.longs in
    let many = entries_many heads longs in
    let size = c.len-index.ensures.value in
    let now = ap length c.self.view_is in
    let room = c.requires.room in
    let within = c.mark_of.ensures.within in
    let more = entries_more heads _ longs c.len-index.result _ _ c.push.ensures.items size (omega arith) in
    let entry : Entry = entry_with (record { key = c.first_key-key.result; position = c.args.position; parent = c.args.parent }) (kept_of c.keep.new.self) in
    let parent : (c.args.parent ≤ c.len-index.result + 1) ⊎ (257 ≤ c.args.parent) = elim c.requires.parent [ inl a ↦ inl (omega arith) | inr b ↦ inr b.0 ] in
    let chained = c.push-2.ensures (entries_with heads longs) entry c.self.invariant.0 (many ∙ sym size) refl parent in
    let marked = marked_more (entries_with heads longs) c.self.inside.marks entry c.mark_of.result c.self.invariant.1 c.mark_of.ensures.is (omega arith) in
    (subst (λ (xs : List Entry). AreChained xs c.push-2.new.self.newest c.push-2.new.self.older) (sym more) chained, subst (λ (xs : List Entry). AreMarked xs (set c.self.inside.marks c.mark_of.result true)) (sym more) marked)

pub returns : goal.returns
returns c =
    let heads = c.self.inside.heads.items in
    let longs = c.self.inside.longs in
    let many = entries_many heads longs in
    let size = c.len-index.ensures.value in
    let now = ap length c.self.view_is in
    let room = c.requires.room in
    let more = entries_more heads _ longs c.len-index.result _ _ c.push.ensures.items size (omega arith) in
    more
    ∙ ap (λ (xs : List Entry). xs ++ entry_with (record { key = c.first_key-key.result; position = c.args.position; parent = c.args.parent }) (kept_of c.keep.new.self) ∷ []) c.self.view_is
    ∙ ap (λ (k : ℕ). c.args.self.now ++ record { key = k; position = c.args.position; parent = c.args.parent; octets = kept_of c.keep.new.self } ∷ []) c.first_key-key.ensures
    ∙ ap (λ (xs : List ℕ). c.args.self.now ++ record { key = first_key (labels_in c.args.octets.now); position = c.args.position; parent = c.args.parent; octets = xs } ∷ []) c.keep.ensures
