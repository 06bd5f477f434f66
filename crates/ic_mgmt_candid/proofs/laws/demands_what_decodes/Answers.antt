use Rattle.ic_mgmt_candid.specs.Demands.{type_of}
use Rattle.ic_mgmt_candid.proofs.Given.{given_from, none_from, is_table_of}
use Rattle.ic_mgmt_candid.proofs.laws.demands_what_decodes.Goals as goal

pub returns-clause-given : goal.returns-clause-given
returns-clause-given c = λ method bytes values all d.
    given_from method bytes values (c.decoded_has_the_types.ensures (type_of method) bytes values (is_table_of method) all d) ((c.one_answer.ensures.values (type_of method) bytes values).1 d)

pub returns-clause-none : goal.returns-clause-none
returns-clause-none c = λ method bytes none. none_from method bytes (λ values e. none values ((c.one_answer.ensures.values (type_of method) bytes values).0 e))
