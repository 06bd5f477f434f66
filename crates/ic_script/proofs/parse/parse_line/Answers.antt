use Rattle.ic_script.proofs.Ranges.{time_of_line, size_of_line}
use Rattle.ic_script.proofs.parse.parse_line.Goals as goal

pub returns-in-run-clause-time : goal.returns-in-run-clause-time
returns-in-run-clause-time c = time_of_line c.args.bytes.now

pub returns-in-run-clause-size : goal.returns-in-run-clause-size
returns-in-run-clause-size c = size_of_line c.args.bytes.now

pub returns-in-time-clause-time : goal.returns-in-time-clause-time
returns-in-time-clause-time c = time_of_line c.args.bytes.now

pub returns-in-time-clause-size : goal.returns-in-time-clause-size
returns-in-time-clause-size c = size_of_line c.args.bytes.now

pub returns-in-state-clause-time : goal.returns-in-state-clause-time
returns-in-state-clause-time c = time_of_line c.args.bytes.now

pub returns-in-state-clause-size : goal.returns-in-state-clause-size
returns-in-state-clause-size c = size_of_line c.args.bytes.now

pub returns-in-witness-clause-time : goal.returns-in-witness-clause-time
returns-in-witness-clause-time c = time_of_line c.args.bytes.now

pub returns-in-witness-clause-size : goal.returns-in-witness-clause-size
returns-in-witness-clause-size c = size_of_line c.args.bytes.now

pub returns-in-pick-clause-time : goal.returns-in-pick-clause-time
returns-in-pick-clause-time c = time_of_line c.args.bytes.now

pub returns-in-pick-clause-size : goal.returns-in-pick-clause-size
returns-in-pick-clause-size c = size_of_line c.args.bytes.now

pub returns-in_err-from-in-upgradable-clause-size : goal.returns-in_err-from-in-upgradable-clause-size
returns-in_err-from-in-upgradable-clause-size c = size_of_line c.args.bytes.now

pub returns-in-drain-clause-size : goal.returns-in-drain-clause-size
returns-in-drain-clause-size c = size_of_line c.args.bytes.now

pub returns-in_ok-from-in-upgradable-clause-size : goal.returns-in_ok-from-in-upgradable-clause-size
returns-in_ok-from-in-upgradable-clause-size c = size_of_line c.args.bytes.now
