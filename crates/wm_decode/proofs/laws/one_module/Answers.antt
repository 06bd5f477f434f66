use Rattle.wm_decode.proofs.Answered.{only_one}
use Rattle.wm_decode.proofs.ExactModule.{module_again}
use Rattle.wm_decode.proofs.laws.one_module.Goals as goal

pub returns : goal.returns
returns c = λ float m n bytes p q. only_one float m n bytes (module_again float m bytes p) q
