use Rattle.lookup_core.specs.Place.{place_below}
use Rattle.lookup_core.proofs.DownLemmas.{cut_look, cut_servers, exact_look, exact_servers, wild_look, wild_servers, missing_look}
use Rattle.lookup_core.proofs.look.found_where.Goals as goal

-- a zone cut
pub returns-in-Cut-clause-look : goal.returns-in-Cut-clause-look
returns-in-Cut-clause-look c = λ zone name found.
    cut_look zone name c.args.rtype.0 (place_below zone name) c.in-Cut.servers (rw c.in-Cut.is at found)

pub returns-in-Cut-clause-servers : goal.returns-in-Cut-clause-servers
returns-in-Cut-clause-servers c = λ zone name found.
    cut_servers zone name c.args.rtype.0 (place_below zone name) c.in-Cut.servers (rw c.in-Cut.is at found)

-- the name exists
pub returns-in-Exact-clause-look : goal.returns-in-Exact-clause-look
returns-in-Exact-clause-look c = λ zone name found.
    exact_look zone name c.args.rtype.0 (place_below zone name) c.in-Exact.sets _ (rw c.in-Exact.is at found) (c.found_in.ensures zone name name)

pub returns-in-Exact-clause-servers : goal.returns-in-Exact-clause-servers
returns-in-Exact-clause-servers c = λ zone name found.
    exact_servers zone name c.args.rtype.0 (place_below zone name) c.in-Exact.sets _ (rw c.in-Exact.is at found) (c.found_in.ensures zone name name)

-- the source of synthesis does
pub returns-in-Wild-clause-look : goal.returns-in-Wild-clause-look
returns-in-Wild-clause-look c = λ zone name found.
    wild_look zone name c.args.rtype.0 (place_below zone name) c.in-Wild.sets _ (rw c.in-Wild.is at found) (λ at. c.found_in-in-Wild.ensures zone at name)

pub returns-in-Wild-clause-servers : goal.returns-in-Wild-clause-servers
returns-in-Wild-clause-servers c = λ zone name found.
    wild_servers zone name c.args.rtype.0 (place_below zone name) c.in-Wild.sets _ (rw c.in-Wild.is at found) (λ at. c.found_in-in-Wild.ensures zone at name)

-- neither does
pub returns-in-Missing-clause-look : goal.returns-in-Missing-clause-look
returns-in-Missing-clause-look c = λ zone name found.
    missing_look zone name c.args.rtype.0 (place_below zone name) (rw c.in-Missing.is at found)
