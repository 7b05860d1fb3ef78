use Rattle.std.proofs.Common.{◌≡◌, sym, ap, ◌∙◌, subst, [], ◌∷◌, IfOk}
use Rattle.counted_handles.specs.declared.view.Reading.{Reading}
use Rattle.counted_handles.specs.declared.view.Tie.{Tie}
use Rattle.counted_handles.specs.declared.view.View.TheVariants.{Reads, HasWeakly}
use Rattle.counted_handles.specs.Calls.{CanRead, IsGuest, IsLifted, with_grant_less}
use Rattle.counted_handles.proofs.WeakLemmas.{guest_seat, weak_seat, lifted_version, if_ok_at}
use Rattle.counted_handles.proofs.weak.Weak.upgrade.Goals as goal
use Rattle.counted_handles.proofs.weak.Weak.upgrade.Goals.{in-Ok, in-Err}

pub lift-share-requires-clause-fits : goal.lift-share-requires-clause-fits
lift-share-requires-clause-fits g c =
    let inv = c.self.invariant in
    (inv.spots_are.fits, c.into_seat-seat.ensures.0 ∙ ap (λ b. b.table_id) c.replace.ensures.value ∙ c.requires.fits ∙ sym (ap (λ s. s.table) c.self.view_is), c.lend-weak.ensures.0 ∙ inv.table_is, inv.within)

pub lift-share-requires-clause-has : goal.lift-share-requires-clause-has
lift-share-requires-clause-has g c =
    let inv = c.self.invariant in
    let can = c.requires.can in
    (can.0, inv.tie, guest_seat can.0 c.args.reader.now.views c.into_seat-seat.result.me (sym (ap (λ b. b.views) c.replace.ensures.value) ∙ c.into_seat-seat.ensures.2) c.into_seat-seat.ensures.3 can.1, weak_seat inv.tie c.self.inside.token.badge.views c.lend-weak.result.me c.lend-weak.ensures.1 c.lend-weak.ensures.2 inv.views_are, inv.slot_is)

pub keep-requires : goal.keep-requires
keep-requires g c =
    let inv = c.self.invariant in
    let weak = weak_seat inv.tie c.self.inside.token.badge.views c.lend-weak.result.me c.lend-weak.ensures.1 c.lend-weak.ensures.2 inv.views_are in
    let back = c.lift-share.ensures.weak inv.tie weak in
    λ i. (back i).1

pub own-requires-clause-has : goal.own-requires-clause-has
own-requires-clause-has g c =
    let inv = c.self.invariant in
    let can = c.requires.can in
    let guest = guest_seat can.0 c.args.reader.now.views c.into_seat-seat.result.me (sym (ap (λ b. b.views) c.replace.ensures.value) ∙ c.into_seat-seat.ensures.2) c.into_seat-seat.ensures.3 can.1 in
    let weak = weak_seat inv.tie c.self.inside.token.badge.views c.lend-weak.result.me c.lend-weak.ensures.1 c.lend-weak.ensures.2 inv.views_are in
    let reported = if_ok_at (λ share. (r : Reading g.row.T.Denot) (tie : Tie g.row.T.Denot) → IsGuest r c.into_seat-seat.result.me → c.lend-weak.result.me ≡ (HasWeakly tie, []) → IsLifted r tie c.lift-share.new.seat.me share.me) c.lift-share.result.0 c.in-Ok.share c.in-Ok.is c.lift-share.ensures.lifted in
    let is = reported can.0 inv.tie guest weak in
    (is.mark, is.share_is, is.of.slot_is ∙ inv.slot_is, is.of.name_is ∙ inv.name_is, inv.within)

pub invariant_of-self : goal.invariant_of-self
invariant_of-self g c =
    let inv = c.self.invariant in
    let weak = weak_seat inv.tie c.self.inside.token.badge.views c.lend-weak.result.me c.lend-weak.ensures.1 c.lend-weak.ensures.2 inv.views_are in
    record {
      tie = inv.tie;
      views_are = c.keep.ensures.1 ∙ ap (λ m. m.0 ∷ []) (c.lift-share.ensures.weak inv.tie weak);
      version_is = inv.version_is;
      number_is = inv.number_is;
      slot_is = inv.slot_is;
      name_is = inv.name_is;
      table_is = c.keep.ensures.0 ∙ c.lift-share.ensures.seats.2 ∙ c.into_seat-seat.ensures.0 ∙ ap (λ b. b.table_id) c.replace.ensures.value ∙ c.requires.fits ∙ sym (ap (λ s. s.table) c.self.view_is);
      within = inv.within;
      spots_are = inv.spots_are;
    }

pub returns-clause-owner : goal.returns-clause-owner
returns-clause-owner g c =
    let inv = c.self.invariant in
    let can = c.requires.can in
    let weak = weak_seat inv.tie c.self.inside.token.badge.views c.lend-weak.result.me c.lend-weak.ensures.1 c.lend-weak.ensures.2 inv.views_are in
    let guest : (r : Reading g.row.T.Denot) → CanRead r c.args.reader.now.views → IsGuest r c.into_seat-seat.result.me = λ r may. guest_seat r c.args.reader.now.views c.into_seat-seat.result.me (sym (ap (λ b. b.views) c.replace.ensures.value) ∙ c.into_seat-seat.ensures.2) c.into_seat-seat.ensures.3 may in
    elim c.match-share.branch [
      | in-Ok w ↦
          let reported = if_ok_at (λ share. (r : Reading g.row.T.Denot) (tie : Tie g.row.T.Denot) → IsGuest r c.into_seat-seat.result.me → c.lend-weak.result.me ≡ (HasWeakly tie, []) → IsLifted r tie c.lift-share.new.seat.me share.me) c.lift-share.result.0 w.in-Ok.share w.in-Ok.is c.lift-share.ensures.lifted in
          let is = reported can.0 inv.tie (guest can.0 can.1) weak in
          subst (λ x. IfOk x (λ strong. (strong ≡ c.args.self.now) × ((r : Reading g.row.T.Denot) → CanRead r c.args.reader.now.views → c.into_badge.result.views ≡ Reads (with_grant_less r) ∷ []))) (sym w.result-is) (
            w.own.ensures is.mark is.share_is ∙ (λ i. record { version = (lifted_version inv.tie is.mark is.of ∙ inv.version_is) i; table = c.self.inside.words.now.table_id }) ∙ c.self.view_is,
            λ r may. c.into_badge.ensures.2 ∙ ap (λ m. m.0 ∷ []) (reported r inv.tie (guest r may) weak).me_is,
          )
      | in-Err w ↦ subst (λ x. IfOk x (λ strong. (strong ≡ c.args.self.now) × ((r : Reading g.row.T.Denot) → CanRead r c.args.reader.now.views → c.into_badge.result.views ≡ Reads (with_grant_less r) ∷ []))) (sym w.result-is) tt
    ]
