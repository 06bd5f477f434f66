use Rattle.std.specs.Prelude.{Result, Ok, Err, OnOk}
use Rattle.std.proofs.Common.{refl}
use Rattle.ct_cases.proofs.Stays.{grows_by}
use Rattle.ct_cases.proofs.case.Tables.keep.Goals as goal

on_ok : {A E P : Type 0} (r : Result A E) → P → OnOk r P
on_ok (Ok x) p = p
on_ok (Err e) p = tt

pub returns-clause-grows : goal.returns-clause-grows
returns-clause-grows c = on_ok c.keep.result (grows_by c.args.self.now _ c.keep.ensures.grows refl)
