use Rattle.std.proofs.Common.{false}
use Rattle.cd_codec.proofs.HeaderAnswers.{same_fault, rest_within, header_found, header_only, no_header, float_found, none_found}
use Rattle.cd_codec.proofs.header_reader.read_header.Goals as goal

pub overflow_sub-length : goal.overflow_sub-length
overflow_sub-length c = rest_within false c.args.bytes.now _ c.in-Ok.ensures

pub returns-in-Ok-clause-header : goal.returns-in-Ok-clause-header
returns-in-Ok-clause-header c = header_found false c.args.bytes.now _ c.in-Ok.ensures

pub returns-in-Ok-clause-only : goal.returns-in-Ok-clause-only
returns-in-Ok-clause-only c = header_only false c.args.bytes.now _ c.in-Ok.ensures

pub returns-in-Err-Refused-clause-only : goal.returns-in-Err-Refused-clause-only
returns-in-Err-Refused-clause-only c = λ table types front rest e header. absurd (no_header false c.args.bytes.now (rw c.in-Err-Refused.field-0-is at c.in-Err-Refused.ensures) table types front rest e header)

pub returns-in-Err-Refused-clause-float : goal.returns-in-Err-Refused-clause-float
returns-in-Err-Refused-clause-float c =
    let none = no_header false c.args.bytes.now (rw c.in-Err-Refused.field-0-is at c.in-Err-Refused.ensures) in
    λ is. (float_found c.args.bytes.now c.fault_of.result (same_fault c.fault_of.result _ is) c.fault_of.ensures, λ begins. none begins.0 begins.1 begins.2 begins.3 begins.4 begins.5)

pub returns-in-Err-Refused-clause-not_header : goal.returns-in-Err-Refused-clause-not_header
returns-in-Err-Refused-clause-not_header c = λ is. none_found c.args.bytes.now c.fault_of.result (same_fault c.fault_of.result _ is) c.fault_of.ensures
