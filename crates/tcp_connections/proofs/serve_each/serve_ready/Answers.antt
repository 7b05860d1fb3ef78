-- One key behind the other.
use Rattle.std.proofs.Common.{ℕ, List, refl, sym, subst, option_map, arith, get_or, ◌∷◌, [], ◌⊎◌, inl, inr}
use Rattle.std.specs.List.{All, Contains}
use Rattle.std.proofs.lemmas.List.{take_all}
use Rattle.std.proofs.lemmas.List.Elements.{All-nil, Contains-push}
use Rattle.requests.specs.Allowed.{IsReplyFrom, IsLaterFrom}
use Rattle.serve_core.specs.declared.transport.Transport.TheVariants.{Tcp}
use Rattle.requests.proofs.TurnLemmas.{begins_itself, begins_more}
use Rattle.tcp_connections.proofs.TurnLemmas.{extends_itself}
use Rattle.tcp_connections.proofs.RequestLemmas.{each_itself, each_more}
use Rattle.slab.specs.Slab.{get, slab_len}
use Rattle.tcp_connections.specs.Connections.{HasStopped, seen_of}
use Rattle.tcp_connections.proofs.LenLemmas.{counted_none, counted_then}
use Rattle.tcp_connections.proofs.NextLemmas.{all_more}
use Rattle.tcp_connections.proofs.OwnLemmas.{own_same, own_each}
use Rattle.tcp_connections.proofs.serve_each.serve_ready.Goals as goal
use Rattle.tcp_connections.proofs.serve_each.serve_ready.Goals.{then-serve_key+in-Ok, else-serve_key}

pub returns-in_err-reserve-clause-own : goal.returns-in_err-reserve-clause-own
returns-in_err-reserve-clause-own g c = λ key.
    own_same (IsReplyFrom g.A.Handler.is_reply c.args.allowed.rules.now Tcp) c.args.now (g.A.Handler.seen c.args.handler.now key) (g.A.Handler.seen c.args.handler.now key) (option_map (seen_of g.S.Blocking.octets) (get c.args.connections.now key)) (extends_itself _)

pub returns-in_err-reserve-clause-ended : goal.returns-in_err-reserve-clause-ended
returns-in_err-reserve-clause-ended g c = counted_none c.args.ends.now (slab_len c.args.connections.now) (slab_len c.args.connections.now) refl

pub loop-key-init : goal.loop-key-init
loop-key-init g c = record {
  grows = each_itself _;
  own = λ key. own_same (IsReplyFrom g.A.Handler.is_reply c.args.allowed.rules.now Tcp) c.args.now (g.A.Handler.seen c.args.handler.now key) (g.A.Handler.seen c.args.handler.now key) (option_map (seen_of g.S.Blocking.octets) (get c.args.connections.now key)) (extends_itself _);
  ended = counted_none c.args.ends.now (slab_len c.args.connections.now) (slab_len c.args.connections.now) refl;
  next = begins_itself _;
  going = All-nil _;
  room = omega (arith, c.in_ok-reserve.ensures.ok);
}

pub loop-key-preserved : goal.loop-key-preserved
loop-key-preserved g c =
    let so_far = c.loop-key.invariant in
    let seen = g.A.Handler.seen c.args.handler.now in
    let mid = g.A.Handler.seen c.loop-key.handler in
    let later = g.A.Handler.seen c.serve_key.new.handler in
    let stopped = HasStopped g.S.Blocking.would_block (IsLaterFrom g.A.Handler.is_later c.args.allowed.rules.now Tcp) in
    record {
      grows = each_more _ _ _ so_far.grows c.serve_key.ensures.grows;
      own = own_each (IsReplyFrom g.A.Handler.is_reply c.args.allowed.rules.now Tcp) (seen_of g.S.Blocking.octets) c.args.now seen mid later (λ key. get c.args.connections.now key) (λ key. get c.loop-key.connections key) (λ key. get c.serve_key.new.connections key) _ c.serve_key.ensures.grows so_far.own c.serve_key.ensures.own c.serve_key.ensures.others;
      ended = counted_then c.args.ends.now c.loop-key.ends c.serve_key.new.ends (slab_len c.args.connections.now) (slab_len c.loop-key.connections) (slab_len c.serve_key.new.connections) so_far.ended c.serve_key.ensures.ended;
      next = elim c.if-serve_key.branch [ then-serve_key+in-Ok w ↦ rw w.next-is (begins_more c.reserve.new.self.items c.loop-key.next.items w.push.new.self.items so_far.next (get_or c.args.keys.now c.loop-key.key-index 0 ∷ [], w.in-Ok.ensures.items)) | else-serve_key w ↦ rw w.next-is so_far.next ];
      going = elim c.if-serve_key.branch [
        | then-serve_key+in-Ok w ↦ rw w.next-is (all_more stopped c.args.keys.now c.loop-key.next.items w.push.new.self.items (get c.loop-key.connections) (get c.serve_key.new.connections) c.loop-key.key-index (omega (arith, c.loop-key-test.true)) (get_or c.args.keys.now c.loop-key.key-index 0 ∷ [], w.in-Ok.ensures.items) c.serve_key.ensures.others (inl (subst (λ (l : List ℕ). Contains l (get_or c.args.keys.now c.loop-key.key-index 0)) (sym w.in-Ok.ensures.items) (Contains-push c.loop-key.next.items (get_or c.args.keys.now c.loop-key.key-index 0)))) so_far.going)
        | else-serve_key w ↦ rw w.next-is (all_more stopped c.args.keys.now c.loop-key.next.items c.loop-key.next.items (get c.loop-key.connections) (get c.serve_key.new.connections) c.loop-key.key-index (omega (arith, c.loop-key-test.true)) (begins_itself _) c.serve_key.ensures.others (inr (c.serve_key.ensures.stopped w.if-serve_key.false)) so_far.going)
      ];
      room = elim c.if-serve_key.branch [ then-serve_key+in-Ok w ↦ rw w.next-is (omega (arith, w.in-Ok.ensures.len, w.push.ensures.capacity)) | else-serve_key w ↦ rw w.next-is (omega arith) ];
    }

pub returns-clause-going : goal.returns-clause-going
returns-clause-going g c =
    let Goes = λ (key : ℕ). Contains c.loop-key.next.items key ⊎ HasStopped g.S.Blocking.would_block (IsLaterFrom g.A.Handler.is_later c.args.allowed.rules.now Tcp) (get c.loop-key.connections key) in
    subst (All Goes) (take_all c.loop-key.key-index c.args.keys.now (omega (arith, c.loop-key-test.false))) c.loop-key.invariant.going
