use Rattle.std.proofs.Common.{[]}
use Rattle.store_recovery.proofs.ChoiceLemmas.{served_alone, same_alone}
use Rattle.store_recovery.proofs.store_laws.begun_from_is_served.Goals as goal

pub returns : goal.returns
returns c = record { same = served_alone; only_fault = λ begun origin text taken. same_alone begun [] origin text taken }
