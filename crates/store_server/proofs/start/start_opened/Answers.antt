-- What is served of the store that was found.
use Rattle.store_server.proofs.ServedLemmas.{found_served, found_refused}
use Rattle.store_server.proofs.start.start_opened.Goals as goal

pub returns-in-Found-clause-served : goal.returns-in-Found-clause-served
returns-in-Found-clause-served g c =
    let given = c.args.given in
    found_served given.text.now given.origin.now given.taken c.args.random c.in-Found.pair.text.items c.in-Found.pair.journal.items c.start_found.result c.start_found.ensures.served

pub returns-in-Found-clause-refused : goal.returns-in-Found-clause-refused
returns-in-Found-clause-refused g c =
    let given = c.args.given in
    found_refused given.text.now given.origin.now given.taken c.args.random c.in-Found.pair.text.items c.in-Found.pair.journal.items c.start_found.result c.start_found.ensures.refused
