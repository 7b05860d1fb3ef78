-- The keys by which requests are verified, and the rules of their holders, are those of the job.
use Rattle.std.proofs.Common.{map}
use Rattle.serve_workers.proofs.threads.SocketJob.serve.Given as goal

abbrev pub ghosts-serve_signed_datagrams : goal.ghosts-serve_signed_datagrams
ghosts-serve_signed_datagrams g a = record { keys = a.signed.now.keys.keys.now; rights = map (λ own. own.rules.now) a.signed.now.keys.rights.now }

abbrev pub ghosts-serve_signed_connections : goal.ghosts-serve_signed_connections
ghosts-serve_signed_connections g a = record { keys = a.signed.now.keys.keys.now; rights = map (λ own. own.rules.now) a.signed.now.keys.rights.now }

abbrev pub ghosts-serve_signed_datagrams-2 : goal.ghosts-serve_signed_datagrams-2
ghosts-serve_signed_datagrams-2 g a = record { keys = a.signed.now.keys.keys.now; rights = map (λ own. own.rules.now) a.signed.now.keys.rights.now }

abbrev pub ghosts-serve_counted_signed : goal.ghosts-serve_counted_signed
ghosts-serve_counted_signed g a = record { keys = a.signed.now.keys.keys.now; rights = map (λ own. own.rules.now) a.signed.now.keys.rights.now }
