use Rattle.store_server.proofs.LawLemmas.{served_recovered}
use Rattle.store_server.proofs.laws.served_updates_are_recovered.Goals as goal

pub returns : goal.returns
returns g c = record { recovered = served_recovered; crash = λ zone old new stood served had. served.crash zone stood had }
