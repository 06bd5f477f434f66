use Rattle.std.proofs.Common.{◌≡◌, ◌∙◌, sym, ap, refl, false, Option, Some, None, ℕ, rules}
use Rattle.std.specs.Option.{is_some}
use Rattle.wm_valid.specs.Entries.{entry_of}
use Rattle.wm_valid.specs.IsValid.{Validated, IsValid}
use Rattle.wm_valid.proofs.EntryLemmas.{no_entry, no_name, entry_procedure}
use Rattle.wm_valid.proofs.EveryCheck.{passes_of_checked}
use Rattle.wm_valid.proofs.valid.Valid.entry.Goals as goal

none_is : (o : Option ℕ) → is_some o ≡ false → o ≡ None
none_is None e = refl
none_is (Some x) e = absurd cc

pub returns-clause-none : goal.returns-clause-none
returns-clause-none c =
    let v : Validated = c.args.self.now in
    let valid : IsValid v = rw c.self.view_is at c.self.invariant.0 in
    let entries = (passes_of_checked v.«module» valid.passes).entries in
    let is : c.get.result ≡ entry_of v.«module» c.args.kind c.args.name.now = search rules in (
      λ none. no_entry v.«module» c.args.kind c.args.name.now entries (sym is ∙ none_is c.get.result none),
      λ unnamed. ap is_some (is ∙ no_name v.«module» c.args.kind c.args.name.now entries unnamed),
    )

pub returns-clause-procedure : goal.returns-clause-procedure
returns-clause-procedure c =
    let v : Validated = c.args.self.now in
    let valid : IsValid v = rw c.self.view_is at c.self.invariant.0 in
    let is : c.get.result ≡ entry_of v.«module» c.args.kind c.args.name.now = search rules in
    entry_procedure v.«module» c.args.kind c.args.name.now c.get.result valid.passes (sym is)
