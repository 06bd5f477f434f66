use Rattle.ic_mgmt_requests.proofs.Read.{reply_named}
use Rattle.ic_mgmt_requests.proofs.laws.replies_name_canisters.Goals as goal

pub returns : goal.returns
returns c = reply_named c.decided.ensures c.one_answer.ensures.values
