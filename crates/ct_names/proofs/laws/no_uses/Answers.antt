use Rattle.ct_names.proofs.NoUses.{no_label, no_method, no_type, no_case, no_candid}
use Rattle.ct_names.proofs.laws.no_uses.Goals as goal

pub returns-clause-before_equals : goal.returns-clause-before_equals
returns-clause-before_equals c = no_label

pub returns-clause-after_dot : goal.returns-clause-after_dot
returns-clause-after_dot c = no_method

pub returns-clause-after_colon : goal.returns-clause-after_colon
returns-clause-after_colon c = no_type

pub returns-clause-first_in_variant : goal.returns-clause-first_in_variant
returns-clause-first_in_variant c = no_case

pub returns-clause-of_candid : goal.returns-clause-of_candid
returns-clause-of_candid c = no_candid
