use Rattle.std.proofs.Common.{◌≡◌, take, ap, ◌∙◌}
use Rattle.std.specs.Int.{bytes_low_first}
use Rattle.wm_store.proofs.Words.{front_bytes}
use Rattle.wm_store.proofs.store.Store.save.Goals as goal

pub returns-clause-fits : goal.returns-clause-fits
returns-clause-fits c =
    let e : take c.args.size c.to_le_bytes.result ≡ bytes_low_first 0 c.args.size c.args.value = ap (take c.args.size) c.to_le_bytes.ensures ∙ front_bytes c.args.size c.args.value c.requires in
    rw (← e) c.copy_into.ensures.fits

pub returns-clause-lists : goal.returns-clause-lists
returns-clause-lists c =
    let e : take c.args.size c.to_le_bytes.result ≡ bytes_low_first 0 c.args.size c.args.value = ap (take c.args.size) c.to_le_bytes.ensures ∙ front_bytes c.args.size c.args.value c.requires in
    rw (← e) c.copy_into.ensures.lists
