use Rattle.std.proofs.Common.{◌≡◌, List, ℕ, [], ◌∷◌, length, map, Bor, refl, sym, ◌∙◌, arith}
use Rattle.std.proofs.lemmas.List.{length-map}
use Rattle.std.proofs.lemmas.Slice.{pushed}
use Rattle.journal.proofs.PartLemmas.{lent_more}
use Rattle.journal.proofs.FrameLemmas.{frame_shows}
use Rattle.journal.proofs.FramesLemmas.{more_so_far}
use Rattle.journal.proofs.frames.read_all.Goals as goal

pub loop-body-smaller : goal.loop-body-smaller
loop-body-smaller c =
    let shows = frame_shows c.args.salt.now c.len.result c.loop-body.rest.now c.in-Some.body.now c.in-Some.behind.now c.in-Some.ensures.found in
    omega (arith, shows.long)

pub loop-body-preserved : goal.loop-body-preserved
loop-body-preserved c =
    let all = pushed (c.in-Some.body ∷ []) refl c.in_ok-push.was c.push.ensures.items in
    let many : c.len.result ≡ length c.loop-body.bodies.items = omega (arith, c.len.ensures, c.loop-body.bodies.ok.0) in
    record {
      read = more_so_far c.args.salt.now c.args.octets.now c.len.result (map (λ (b : Bor (List ℕ)). b.now) c.loop-body.bodies.items) (map (λ (b : Bor (List ℕ)). b.now) c.push.new.self.items)
          c.loop-body.rest.now c.in-Some.body.now c.in-Some.behind.now c.loop-body.invariant.read
          (many ∙ sym (length-map c.loop-body.bodies.items (λ (b : Bor (List ℕ)). b.now))) c.in-Some.ensures.found
          (lent_more c.loop-body.bodies.items c.push.new.self.items c.in-Some.body all);
      count = omega (arith, c.loop-body.invariant.count, c.in-Some.ensures.count);
    }
