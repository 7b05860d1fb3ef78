-- There are few enough, and it is near enough.
use Rattle.std.proofs.Common.{◌≡◌, ◌<◌, ◌≤◌, ℕ, length, ap, sym, ◌∙◌, arith}
use Rattle.weak_history.specs.History.{HistoryState}
use Rattle.weak_history.proofs.HistoryLemmas.{fits_then, fits_else, not_less}
use Rattle.weak_history.proofs.history.History.has_room.Goals as goal

pub returns-then-len-self : goal.returns-then-len-self
returns-then-len-self g c =
    let size : c.self.inside.size ≡ c.args.self.now.size = ap (λ (h : HistoryState _). h.size) c.self.view_is in
    let few : length c.args.self.now.entries < c.args.self.now.size = omega (arith, size, c.len.ensures.len, c.if-len-self.true) in
    fits_then c.args.self.now.size c.args.self.now.entries c.args.serial.0 c.spans_less_than_half.result few c.spans_less_than_half.ensures

pub returns-else-len-self : goal.returns-else-len-self
returns-else-len-self g c =
    let size : c.self.inside.size ≡ c.args.self.now.size = ap (λ (h : HistoryState _). h.size) c.self.view_is in
    let full : c.args.self.now.size ≤ length c.args.self.now.entries = omega (arith, size, c.len.ensures.len, c.if-len-self.false) in
    not_less c.len.result c.self.inside.size c.if-len-self.false ∙ fits_else c.args.self.now.size c.args.self.now.entries c.args.serial.0 full
