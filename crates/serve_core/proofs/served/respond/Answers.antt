use Rattle.std.proofs.Common.{refl}
use Rattle.serve_core.proofs.ServedLemmas.{serves_reply, serves_code}
use Rattle.serve_core.proofs.served.respond.Goals as goal

pub returns-in-Fault-clause-served : goal.returns-in-Fault-clause-served
returns-in-Fault-clause-served c =
    rw c.in-Fault.is (serves_code _ _ _ _ _ _ _ _ _ _ c.unchanged.ensures.len c.unchanged.ensures.next c.write_code.ensures.len refl c.header_alone-heading.ensures c.write_code.ensures.octets refl)

pub returns-in-BadOpt-clause-served : goal.returns-in-BadOpt-clause-served
returns-in-BadOpt-clause-served c =
    rw c.in-BadOpt.is (serves_code _ _ _ _ _ _ _ _ _ _ c.unchanged-in-BadOpt.ensures.len c.unchanged-in-BadOpt.ensures.next c.write_code-in-BadOpt.ensures.len refl c.of_bad-heading.ensures c.write_code-in-BadOpt.ensures.octets refl)

pub returns-in-Query-clause-served : goal.returns-in-Query-clause-served
returns-in-Query-clause-served c = rw c.in-Query.is (serves_reply _ _ _ _ _ _ _ _ c.unchanged-in-Query.ensures.len c.unchanged-in-Query.ensures.next c.respond_to.ensures.len c.respond_to.ensures.octets (rw c.zone.ensures refl))

pub returns-in-NoMemory-clause-served : goal.returns-in-NoMemory-clause-served
returns-in-NoMemory-clause-served c =
    rw c.in-NoMemory.is (serves_code _ _ _ _ _ _ _ _ _ _ c.unchanged-in-NoMemory.ensures.len c.unchanged-in-NoMemory.ensures.next c.write_code-in-NoMemory.ensures.len refl c.header_alone-heading-in-NoMemory.ensures c.write_code-in-NoMemory.ensures.octets refl)
