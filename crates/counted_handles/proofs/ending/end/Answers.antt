use Rattle.std.proofs.Common.{◌≡◌, sym, ap, ◌∙◌, subst, [], ◌∷◌, None, Some}
use Rattle.counted_handles.specs.Calls.{IsLastValue}
use Rattle.counted_handles.proofs.EndLemmas.{alone_seat}
use Rattle.counted_handles.proofs.ending.end.Goals as goal

pub part_last-requires-clause-alone : goal.part_last-requires-clause-alone
part_last-requires-clause-alone g c =
    let due = c.requires.alone in
    let seat = c.into_seat-seat in
    (due.0, alone_seat due.0 c.args.badge.now.views seat.result.me (sym (ap (λ b. b.views) c.replace.ensures.value) ∙ seat.ensures.2) seat.ensures.3 due.1, due.2)

pub into_badge-requires : goal.into_badge-requires
into_badge-requires g c =
    let due = c.requires.alone in
    let seat = c.into_seat-seat in
    let looked = c.in_default.ensures.parted due.0 (alone_seat due.0 c.args.badge.now.views seat.result.me (sym (ap (λ b. b.views) c.replace.ensures.value) ∙ seat.ensures.2) seat.ensures.3 due.1) in
    λ i. (looked.2 i).1

pub returns-in_default-clause-in_use : goal.returns-in_default-clause-in_use
returns-in_default-clause-in_use g c p due =
    let seat = c.into_seat-seat in
    let looked = c.in_default.ensures.parted p (alone_seat p c.args.badge.now.views seat.result.me (sym (ap (λ b. b.views) c.replace.ensures.value) ∙ seat.ensures.2) seat.ensures.3 due) in
    (looked.0, looked.1, c.into_badge.ensures.2 ∙ ap (λ m. m.0 ∷ []) looked.2)

pub unreachable-requires : goal.unreachable-requires
unreachable-requires g c =
    let due = c.requires.alone in
    let seat = c.into_seat-seat in
    let parted = c.in-Some.ensures.parted due.0 (alone_seat due.0 c.args.badge.now.views seat.result.me (sym (ap (λ b. b.views) c.replace.ensures.value) ∙ seat.ensures.2) seat.ensures.3 due.1) in
    let out = c.vacate-version.ensures.version due.0 parted in
    let wrong : None ≡ Some out.0 = sym c.in-None.is ∙ out.1 in
    absurd (cc)

pub returns-clause-ended : goal.returns-clause-ended
returns-clause-ended g c p due =
    let seat = c.into_seat-seat in
    let parted = c.in-Some.ensures.parted p (alone_seat p c.args.badge.now.views seat.result.me (sym (ap (λ b. b.views) c.replace.ensures.value) ∙ seat.ensures.2) seat.ensures.3 due) in
    let out = c.vacate-version.ensures.version p parted in
    let same : out.0 ≡ c.in-Some-version.version = (let e : Some out.0 ≡ Some c.in-Some-version.version = sym out.1 ∙ c.in-Some-version.is in cc) in
    (subst (λ v. IsLastValue p.published v.value) same out.2, c.into_badge-2.ensures.2 ∙ ap (λ m. m.0 ∷ []) c.shut.ensures.seat.2)
