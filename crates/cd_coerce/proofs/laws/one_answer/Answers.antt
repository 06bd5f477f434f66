use Rattle.std.proofs.Common.{List}
use Rattle.cd_types.specs.declared.entry.Entry.{Entry}
use Rattle.cd_coerce.proofs.ArgumentLemmas.{Decided, Reads}
use Rattle.cd_coerce.proofs.MessageLemmas.{decoded_found, decoded_only, fault_found, fault_only}
use Rattle.cd_coerce.proofs.laws.one_answer.Goals as goal

pub returns-clause-values : goal.returns-clause-values
returns-clause-values c =
    λ expected bytes values.
    let decided : (lower : List Entry) → Decided lower expected.0 = λ lower. c.decided.ensures lower expected.0 in
    let reads : (lower : List Entry) → Reads lower expected.0 = λ lower. c.one_reading.ensures lower expected.0 in
    (decoded_found expected bytes values decided reads, λ d. decoded_only expected bytes values d (decided d.headed.table) (reads d.headed.table))

pub returns-clause-fault : goal.returns-clause-fault
returns-clause-fault c =
    λ expected bytes fault.
    let decided : (lower : List Entry) → Decided lower expected.0 = λ lower. c.decided.ensures lower expected.0 in
    let reads : (lower : List Entry) → Reads lower expected.0 = λ lower. c.one_reading.ensures lower expected.0 in
    (fault_found expected bytes fault decided reads, fault_only expected bytes fault decided reads)
