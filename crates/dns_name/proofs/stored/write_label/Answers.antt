use Rattle.std.proofs.Common.{◌≡◌, ◌∙◌, ◌+◌, ◌-◌, ℕ, List, [], ◌∷◌, ◌++◌, length, drop, slice_set, ap, arith}
use Rattle.std.proofs.lemmas.List.{append-nil, drop_all}
use borrow.Rule.Slice.PartMut.{put_mid}
use Rattle.dns_name.proofs.stored.write_label.Goals as goal

-- an octet in front of those that are written over the others
behind_first : (out label own : List ℕ) (n : ℕ) → length out ≡ length label + 1 → own ≡ label → put_mid 1 (length (slice_set out 0 n) - 1) (slice_set out 0 n) own ≡ n ∷ label
behind_first [] label own n size e = absurd (omega arith)
behind_first (x ∷ out) label own n size e =
    let none : drop (length (n ∷ out) - 1) out ≡ [] = drop_all (length (n ∷ out) - 1) out (omega arith) in
    ap (λ (os : List ℕ). n ∷ (own ++ os)) none ∙ ap (λ (os : List ℕ). n ∷ os) (append-nil own ∙ e)

pub returns : goal.returns
returns c = behind_first c.args.out.now c.args.label.now _ (length c.args.label.now) c.requires.room c.write_over.ensures
