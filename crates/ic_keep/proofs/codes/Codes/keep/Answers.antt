use Rattle.std.proofs.Common.{◌≡◌, [], length, sym, ap, subst, ◌∙◌, Some, option_map, arith}
use Rattle.std.specs.Prelude.{slice_get}
use Rattle.std.specs.List.{All}
use Rattle.std.proofs.lemmas.List.{append-nil}
use Rattle.ic_state.specs.declared.canister.Code.{Code}
use Rattle.ic_state.specs.Seen.{code_of}
use Rattle.ic_keep.specs.IsKept.{AreCodes}
use Rattle.ic_keep.proofs.Stays.{codes_end, code_at_end}
use Rattle.ic_keep.proofs.codes.Codes.keep.Goals as goal

pub returns-in_err-push-clause-stays : goal.returns-in_err-push-clause-stays
returns-in_err-push-clause-stays c = ([], c.in_err-push.ensures.items ∙ c.self.view_is ∙ sym (append-nil c.args.self.now))

pub invariant_of-self-2 : goal.invariant_of-self-2
invariant_of-self-2 c =
    let same : c.get.result.now ≡ c.in_ok-share.field-0 = c.get.ensures ∙ sym c.in_ok-share.ensures in
    let none : All (λ (d : Code). ¬ (code_of d ≡ code_of c.in_ok-share.field-0)) c.self.inside.items.items =
    subst (λ (x : Code). All (λ (d : Code). ¬ (code_of d ≡ code_of x)) c.self.inside.items.items) same
    (subst (All (λ (d : Code). ¬ (code_of d ≡ code_of c.get.result.now))) (sym c.self.view_is) c.in_default.ensures.none) in
    subst AreCodes (sym c.in_ok-push.ensures.items) (codes_end c.self.inside.items.items c.in_ok-share.field-0 c.self.invariant none)

pub returns-clause-number : goal.returns-clause-number
returns-clause-number c =
    let number : c.len-number.result ≡ length c.self.inside.items.items = omega (arith, c.len-number.ensures) in
    ap (λ n. option_map code_of (slice_get c.push.new.self.items n)) number
    ∙ ap (λ l. option_map code_of (slice_get l (length c.self.inside.items.items))) c.in_ok-push.ensures.items
    ∙ ap (option_map code_of) (code_at_end c.self.inside.items.items c.in_ok-share.field-0)
    ∙ ap (λ (x : Code). Some (code_of x)) c.in_ok-share.ensures
