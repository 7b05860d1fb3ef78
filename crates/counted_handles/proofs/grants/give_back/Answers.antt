use Rattle.std.proofs.Common.{refl, sym, ap, ◌∙◌, [], ◌∷◌, arith}
use Rattle.counted_handles.specs.declared.view.View.TheVariants.{Publishes}
use Rattle.counted_handles.proofs.CallLemmas.{only_one}
use Rattle.counted_handles.proofs.EndLemmas.{return_allowed, back_home}
use Rattle.counted_handles.proofs.grants.give_back.Goals as goal

pub split_seat-guest-requires : goal.split_seat-guest-requires
split_seat-guest-requires g c =
    let host = c.requires.guest in
    let seat = c.into_seat-seat in
    let view = only_one seat.result.me.0 (Publishes host.0) (sym seat.ensures.2 ∙ ap (λ b. b.views) c.replace.ensures.value ∙ host.3.views_are) in (
      seat.ensures.0 ∙ ap (λ b. b.table_id) c.replace.ensures.value ∙ c.requires.fits.1,
      omega (arith, c.requires.fits.0.0),
      return_allowed g.C.Names.begins g.C.Follows.follows c.args.words.now.key.places.items seat.result.id seat.result.me.0 host.0 host.1 host.2 view
          (record { views_are = refl; whole = host.3.whole; guests = host.3.guests; guest_whole = host.3.guest_whole; enough = host.3.enough }),
    )

pub returns-clause-back : goal.returns-clause-back
returns-clause-back g c p r rest host =
    let seat = c.into_seat-seat in
    let view = only_one seat.result.me.0 (Publishes p) (sym seat.ensures.2 ∙ ap (λ b. b.views) c.replace.ensures.value ∙ host.views_are) in
    let split = c.split_seat-guest in
    let back = back_home p r rest seat.result.me.0 view host.guests in
    (c.into_badge.ensures.2 ∙ ap (λ m. m.0 ∷ []) split.ensures.2 ∙ ap (λ v. v ∷ []) back.0, c.into_badge-2.ensures.2 ∙ ap (λ m. m.0 ∷ []) split.ensures.4 ∙ ap (λ v. v ∷ []) back.1)
