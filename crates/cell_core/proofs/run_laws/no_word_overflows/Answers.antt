-- Words that show a cell are small.
use Rattle.cell_core.proofs.RunLawLemmas.{from_first, latest_little, shares_little, weak_little, load_adds, settle_has, release_has}
use Rattle.cell_core.proofs.WeakShows.{to_fade, fade_counts}
use Rattle.cell_core.proofs.run_laws.no_word_overflows.Goals as goal

pub returns-clause-latest : goal.returns-clause-latest
returns-clause-latest g c first after run r = let reported = from_first first after run r in latest_little after reported.next reported.shows

pub returns-clause-shares : goal.returns-clause-shares
returns-clause-shares g c first after run place there r = let reported = from_first first after run r in shares_little after reported.next reported.shows place there

pub returns-clause-load : goal.returns-clause-load
returns-clause-load g c first after new run event r = let reported = from_first first after run r in load_adds after new reported.next event reported.shows

pub returns-clause-settle : goal.returns-clause-settle
returns-clause-settle g c first after run number place given there r =
    let reported = from_first first after run r in
    settle_has after reported.next number place given there reported.shows

pub returns-clause-release : goal.returns-clause-release
returns-clause-release g c first after run owner number place there r =
    let reported = from_first first after run r in
    release_has after reported.next owner number place there reported.shows

pub returns-clause-weak : goal.returns-clause-weak
returns-clause-weak g c first after run place there r = let reported = from_first first after run r in weak_little after reported.next reported.shows place there

pub returns-clause-fade : goal.returns-clause-fade
returns-clause-fade g c first after run owner place there r fades at =
    let reported = from_first first after run r in
    (fade_counts after reported.next reported.shows owner place there (to_fade after owner place fades) at).0
