use Rattle.serve_core.proofs.RepliesLemmas.{permitted, no_transfer}
use Rattle.serve_core.proofs.replies.replies_by_cases.Goals as goal

pub returns-clause-transfers : goal.returns-clause-transfers
returns-clause-transfers c zone changes peer want query e = permitted zone changes peer want query e

pub returns-clause-others : goal.returns-clause-others
returns-clause-others c zone changes transport may want said e = no_transfer zone changes transport may want said e
