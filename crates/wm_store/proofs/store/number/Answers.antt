use Rattle.std.proofs.Common.{length}
use Rattle.wm_store.proofs.Words.{from_le_bytes-agree, get_or-padded}
use Rattle.wm_store.proofs.store.number.Goals as goal

pub returns : goal.returns
returns c = rw (c.from_le_bytes.ensures, c.copy_from_slice.ensures.after) (from_le_bytes-agree _ _ (λ i. get_or-padded c.args.bytes.now (length c.args.bytes.now) 8 i))
