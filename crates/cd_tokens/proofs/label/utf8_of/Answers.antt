use Rattle.std.proofs.Common.{ℕ, Vec, Global, sym, ap, subst}
use Rattle.std.specs.Str.{IsUtf8}
use Rattle.std.proofs.lemmas.Bool.{false≢true}
use Rattle.std.proofs.lemmas.Str.{is_utf8-from_IsUtf8}
use Rattle.cd_tokens.proofs.Labels.{kept, not_kept}
use Rattle.cd_tokens.proofs.label.utf8_of.Goals as goal

pub returns-in-Ok : goal.returns-in-Ok
returns-in-Ok c = sym (kept c.args.bytes.items c.in-Ok.items.bytes.items (ap (λ (v : Vec ℕ Global). v.items) c.in-Ok.ensures.ok) (is_utf8-from_IsUtf8 c.in-Ok.items.bytes.items (subst IsUtf8 c.as_str-utf8.ensures.value c.as_str-utf8.utf8)))

pub returns : goal.returns
returns c = sym (not_kept c.args.bytes.items (λ utf8. false≢true (c.in-Err.ensures.succeeds utf8)))
