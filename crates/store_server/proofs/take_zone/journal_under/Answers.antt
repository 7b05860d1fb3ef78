use Rattle.std.proofs.Common.{◌≡◌, ℕ, List, [], length, get_or, Bor, refl, sym, ap, ◌∙◌, subst, arith}
use Rattle.std.proofs.lemmas.List.{length-map}
use Rattle.std.proofs.lemmas.Slice.{pushed}
use Rattle.journal.specs.Frame.{framed, Fit}
use Rattle.journal.specs.Head.{salt_of}
use Rattle.store_server.proofs.TakeZoneLemmas.{now_of, has_head, read_as, lent_short, frame_more, frames_none, frames_all}
use Rattle.store_server.proofs.take_zone.journal_under.Goals as goal

-- the journal has a head
pub unreachable-requires : goal.unreachable-requires
unreachable-requires c = has_head c.args.journal.now c.requires.0 c.requires.1 c.requires.2 c.in-Err.field-0 c.requires.3 c.in-Err.ensures.refused

pub loop-number-init : goal.loop-number-init
loop-number-init c = frames_none c.args.head.now c.in_ok-octets.octets.items c.in_ok-octets.ensures.0

pub write_frame-requires : goal.write_frame-requires
write_frame-requires c =
    let lent = c.deref-body-items.result.now in
    let fit : Fit 0 (now_of lent) = subst (λ (l : List (Bor (List ℕ))). Fit 0 (now_of l)) (sym c.deref-body-items.ensures.value) c.in_ok-bodies.ensures.read.fit in
    lent_short lent c.loop-number.number (record { ref_ptr = (0, 0); now = [] }) fit c.loop-number-test.true

pub loop-number-preserved : goal.loop-number-preserved
loop-number-preserved c =
    let lent = c.deref-body-items.result.now in
    let body : List ℕ = (get_or lent c.loop-number.number (record { ref_ptr = (0, 0); now = [] })).now in
    let frame : c.deref.result.now ≡ framed (salt_of c.args.head.now) c.loop-number.number body =
    c.deref.ensures.value ∙ (c.in_ok-write_frame.ensures.frame ∙ ap (λ (s : List ℕ). framed s c.loop-number.number body) c.in_ok-octets.ensures.1) in
    frame_more c.args.head.now c.loop-number.octets.items c.extend_from_slice.new.self.items c.deref.result.now lent c.loop-number.number (record { ref_ptr = (0, 0); now = [] })
    c.loop-number-test.true c.loop-number.invariant frame
    (pushed c.deref.result.now refl c.in_ok-extend_from_slice.was c.extend_from_slice.ensures.items)

pub returns : goal.returns
returns c before bodies rest opened =
    let found = c.in-Ok.found in
    let lent = c.deref-body-items.result.now in
    let same : now_of lent ≡ bodies =
    ap now_of c.deref-body-items.ensures.value
    ∙ read_as c.args.journal.now before found.0 bodies rest found.2.now found.1 (now_of c.in_ok-bodies.bodies.items) c.in_ok-bodies.field-0-1.now opened c.in-Ok.ensures.read c.in_ok-bodies.ensures.read in (
      frames_all c.args.head.now c.loop-number.octets.items lent c.loop-number.number bodies c.loop-number.invariant c.loop-number-test.false same,
      c.in_ok-octets.ensures.1,
      omega (
        arith,
        c.len.ensures,
        ap length same,
        ap length c.deref-body-items.ensures.value,
        length-map lent (λ (body : Bor (List ℕ)). body.now),
      ),
    )
