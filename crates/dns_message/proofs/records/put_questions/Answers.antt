use Rattle.std.proofs.Common.{arith}
use Rattle.dns_message.specs.Encoding.{each, these}
use Rattle.dns_message.proofs.EncodedLemmas.{WritesEncoding-nothing, each-one}
use Rattle.dns_message.proofs.DataLemmas.{length-question}
use Rattle.dns_message.proofs.records.put_questions.Goals as goal

pub returns-in-None-clause-put : goal.returns-in-None-clause-put
unfolding each
returns-in-None-clause-put c = rw c.in-None.is (WritesEncoding-nothing _ _ _ c.requires.within c.requires.table)

pub returns-in-None-clause-short : goal.returns-in-None-clause-short
unfolding each these
returns-in-None-clause-short c = rw c.in-None.is (omega arith)

pub returns-in-Some-clause-put : goal.returns-in-Some-clause-put
returns-in-Some-clause-put c = rw c.in-Some.is (rw each-one c.put_question.ensures.put)

pub returns-in-Some-clause-short : goal.returns-in-Some-clause-short
returns-in-Some-clause-short c = rw c.in-Some.is (rw each-one (length-question _ _ _ c.put_question.ensures.lawful))
