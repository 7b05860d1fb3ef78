use Rattle.notify.proofs.RunLemmas.{run_courses, run_addresses}
use Rattle.notify.proofs.laws.runs_are_courses.Goals as goal

pub returns-clause-courses : goal.returns-clause-courses
returns-clause-courses c = run_courses

pub returns-clause-addresses : goal.returns-clause-addresses
returns-clause-addresses c = run_addresses
