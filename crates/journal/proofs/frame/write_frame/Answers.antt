use Rattle.std.proofs.Common.{List, ℕ, length, drop, refl, sym, ap, ◌∙◌}
use Rattle.std.proofs.lemmas.List.{take_rest}
use Rattle.std.proofs.lemmas.Slice.{pushed}
use Rattle.journal.proofs.FrameLemmas.{frame_written}
use Rattle.journal.proofs.frame.write_frame.Goals as goal

pub returns-clause-frame : goal.returns-clause-frame
returns-clause-frame c =
    let one = pushed c.to_be_bytes.result c.new-frame.ensures.items c.in_ok-extend_from_slice.was c.extend_from_slice.ensures.items in
    let two = pushed c.to_be_bytes-2.result one c.in_ok-extend_from_slice-2.was c.extend_from_slice-2.ensures.items in
    let three = pushed c.to_be_bytes-3.result two c.in_ok-extend_from_slice-3.was c.extend_from_slice-3.ensures.items in
    let four = pushed c.args.body.now three c.in_ok-extend_from_slice-4.was c.extend_from_slice-4.ensures.items in
    let all = pushed c.salted_sum-sum.result refl c.in_ok-extend_from_slice-5.was c.extend_from_slice-5.ensures.items in
    frame_written c.args.salt.now c.args.body.now c.args.number c.to_be_bytes.result c.to_be_bytes-2.result c.to_be_bytes-3.result c.extend_from_slice-4.new.self.items
    _ c.salted_sum-sum.result _ (c.to_be_bytes.ensures ∙ sym c.mark_of.ensures) (ap length c.to_be_bytes.ensures) c.to_be_bytes-2.ensures c.to_be_bytes-3.ensures four
    (take_rest c.deref.result.now 8 ∙ ap (λ (o : List ℕ). drop 8 o) c.deref.ensures.value) c.salted_sum-sum.ensures all
