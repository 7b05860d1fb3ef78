use Rattle.std.proofs.Common.{◌≡◌, drop}
use Rattle.http_page.specs.Health.{first_stuck}
use Rattle.http_page.proofs.health.first_stuck.Given as goal

-- none was found yet
abbrev pub invariant-loop-place : goal.invariant-loop-place
invariant-loop-place l = first_stuck l.place l.now (drop l.place l.busy_since) ≡ first_stuck 0 l.now l.busy_since
