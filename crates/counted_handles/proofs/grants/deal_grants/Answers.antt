use Rattle.std.proofs.Common.{sym, ap, ◌∙◌, [], ◌∷◌, arith}
use Rattle.counted_handles.specs.declared.view.View.TheVariants.{Publishes}
use Rattle.counted_handles.specs.Cuts.{kept_dealt, dealt}
use Rattle.counted_handles.proofs.CallLemmas.{only_one}
use Rattle.counted_handles.proofs.GuestLemmas.{deal_splits}
use Rattle.counted_handles.proofs.grants.deal_grants.Goals as goal

pub split_seat-reader-requires : goal.split_seat-reader-requires
split_seat-reader-requires g c =
    let enough = c.requires.enough in
    let seat = c.into_seat-seat in
    let view = only_one seat.result.me.0 (Publishes enough.0) (sym seat.ensures.2 ∙ ap (λ b. b.views) c.replace.ensures.value ∙ enough.1) in
    (seat.ensures.0 ∙ ap (λ b. b.table_id) c.replace.ensures.value ∙ c.requires.fits.1, omega (arith, c.requires.fits.0.0), deal_splits g.C.Names.begins g.C.Follows.follows c.args.words.now.key.places.items seat.result.id g.H.GrantCount.grants seat.result.me.0 enough.0 view enough.2 enough.3)

pub returns-clause-dealt : goal.returns-clause-dealt
returns-clause-dealt g c p is =
    let seat = c.into_seat-seat in
    let view = only_one seat.result.me.0 (Publishes p) (sym seat.ensures.2 ∙ ap (λ b. b.views) c.replace.ensures.value ∙ is) in
    let split = c.split_seat-reader in
    (c.into_badge.ensures.2 ∙ ap (λ m. m.0 ∷ []) split.ensures.2 ∙ ap (λ v. kept_dealt g.H.GrantCount.grants v ∷ []) view, c.into_badge-2.ensures.2 ∙ ap (λ m. m.0 ∷ []) split.ensures.4 ∙ ap (λ v. dealt g.H.GrantCount.grants v ∷ []) view)
