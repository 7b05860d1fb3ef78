-- Where the update isn't queued, those that were pending stay.
use Rattle.std.proofs.Common.{◌≡◌, ℕ, List, [], sym, ap, ◌∙◌, append-nil}
use Rattle.std.specs.declared.net.socket_addr.SocketAddr.{SocketAddr}
use Rattle.zone_tree.specs.Version.{Version}
use Rattle.snapshot_cell.specs.Tokens.{ReaderState}
use Rattle.zone_server.specs.declared.open_ticket.WaitingTicket.{WaitingTicket}
use Rattle.zone_replies.specs.State.{PendingState}
use Rattle.zone_replies.specs.PendingUpdates.{with_more}
use Rattle.zone_replies.proofs.update_replies.submit_after.Goals as goal

abbrev pending_as : SocketAddr → WaitingTicket → List WaitingTicket → ℕ → ReaderState Version → PendingState
pending_as from ticket more number known = record { from = from; ticket = ticket; more = more; number = number; known = known }

-- pending updates with no more after them
none_more : (from : SocketAddr) (ticket : WaitingTicket) (number : ℕ) (known : ReaderState Version) (before after : List WaitingTicket) (pending : PendingState) → after ≡ before → pending_as from ticket before number known ≡ pending
    → pending_as from ticket after number known ≡ with_more pending []
none_more from ticket number known before after pending same is =
    ap (λ (l : List WaitingTicket). pending_as from ticket l number known) (same ∙ sym (append-nil before)) ∙ ap (λ (p : PendingState). with_more p []) is

pub returns-in-Replied-clause-pending : goal.returns-in-Replied-clause-pending
returns-in-Replied-clause-pending g c =
    let all = c.all.inside in
    ([], none_more all.from all.ticket all.number all.known.value all.more.items c.try_reserve.new.self.items c.args.pending c.try_reserve.ensures.items c.all.view_is)
