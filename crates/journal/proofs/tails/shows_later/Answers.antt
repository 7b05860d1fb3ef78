use Rattle.std.proofs.Common.{List, ℕ, refl, sym, subst, arith, inl}
use Rattle.std.specs.Int.{w64, to_be_bytes}
use Rattle.journal.specs.Private.{IsDigested}
use Rattle.journal.proofs.PartLemmas.{not_so}
use Rattle.journal.proofs.OutlineLemmas.{later_out, none_shown, alone_shown, overlap_shown, whole_digested}
use Rattle.journal.proofs.tails.shows_later.Goals as goal

pub returns-in_default-clause-shows : goal.returns-in_default-clause-shows
returns-in_default-clause-shows c = (
  λ never. absurd (not_so never),
  λ shown. absurd (none_shown c.args.salt.now (to_be_bytes w64 c.args.mark) c.args.next c.args.octets.now c.requires c.in_default.ensures shown),
)

pub returns-then-stands_again-clause-shows : goal.returns-then-stands_again-clause-shows
returns-then-stands_again-clause-shows c = (
  λ _. overlap_shown c.args.salt.now (to_be_bytes w64 c.args.mark) c.args.next c.args.octets.now c.in-Some.whole.now c.in-Some.ensures.0 c.requires c.in-Some.ensures.1
      (c.if-stands_again.ensures.0 refl),
  λ _. refl,
)

pub returns-in_default-frame_among-clause-shows : goal.returns-in_default-frame_among-clause-shows
returns-in_default-frame_among-clause-shows c = (
  λ never. absurd (not_so never),
  λ shown. absurd (alone_shown c.args.salt.now (to_be_bytes w64 c.args.mark) c.args.next c.args.octets.now c.in-Some.whole.now c.in-Some.ensures.0 c.requires c.in-Some.ensures.1
      (λ again. not_so (c.if-stands_again.ensures.1 again))
      (λ later. c.in_default-frame_among.ensures.found later.number (omega (arith, later.later, later.frame.counted, c.saturating_add.ensures)) (omega (arith, later.frame.counted))
      later.body later.left later.frame)
      shown),
)

pub returns-in_default-frame_among-clause-count : goal.returns-in_default-frame_among-clause-count
returns-in_default-frame_among-clause-count c =
    subst (λ (m : List ℕ). IsDigested m c.args.octets.now c.args.digested.now c.frame_among.new.digested) (sym c.requires)
    (whole_digested (to_be_bytes w64 c.args.mark) c.args.next c.args.octets.now c.in-Some.whole.now c.in-Some.ensures.0 c.args.digested.now c.frame_among.new.digested refl c.in-Some.ensures.1
    (λ again. not_so (c.if-stands_again.ensures.1 again)) c.in_default-frame_among.ensures.once)

pub returns-clause-shows : goal.returns-clause-shows
returns-clause-shows c =
    let found = c.in-Some-frame_among.field-0 in
    let is = c.in-Some-frame_among.ensures.found in
    let outline = c.in-Some.ensures.1 in (
      λ _. inl (later_out c.args.salt.now c.args.next c.args.octets.now c.in-Some.whole.now c.in-Some.ensures.0 outline.spelt
          (record { number = found.0; body = found.1.now; left = found.2.now; later = omega (arith, is.0, outline.later, outline.counted, c.saturating_add.ensures); frame = is.2 })),
      λ _. refl,
    )

pub returns-clause-count : goal.returns-clause-count
returns-clause-count c =
    subst (λ (m : List ℕ). IsDigested m c.args.octets.now c.args.digested.now c.frame_among.new.digested) (sym c.requires)
    (whole_digested (to_be_bytes w64 c.args.mark) c.args.next c.args.octets.now c.in-Some.whole.now c.in-Some.ensures.0 c.args.digested.now c.frame_among.new.digested refl c.in-Some.ensures.1
    (λ again. not_so (c.if-stands_again.ensures.1 again)) c.in-Some-frame_among.ensures.once)
