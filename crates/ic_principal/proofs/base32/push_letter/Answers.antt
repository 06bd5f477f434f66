use Rattle.std.proofs.Common.{◌≡◌, ◌≢◌, [], ◌∷◌, ◌++◌, ◌%◌, length, sym, ap, ◌∙◌, append_assoc, arith}
use Rattle.ic_principal.specs.Text.{dashed}
use Rattle.ic_principal.proofs.TextLaws.{dashed-push, dashed-push_dash}
use Rattle.ic_principal.proofs.base32.push_letter.Goals as goal
use Rattle.ic_principal.proofs.base32.push_letter.Goals.{then-len-eq5, else-len-eq5}

pub returns : goal.returns
returns c letters e =
    let last = c.args.letter ∷ [] in
    let pushed = c.push-2.ensures.ascii c.requires.ascii in
    elim c.if-len-eq5.branch [
      | then-len-eq5 w ↦
          let due : length (dashed letters) % 6 ≡ 5 = omega (arith, ap length e, c.len.ensures.value, w.if-len-eq5.true) in
          pushed ∙ ap (λ t. t.bytes ++ last) w.text-is ∙ ap (λ l. l ++ last) (w.push.ensures.ascii (omega arith) ∙ ap (λ l. l ++ 45 ∷ []) e)
          ∙ append_assoc (dashed letters) (45 ∷ []) last ∙ sym (dashed-push_dash letters c.args.letter due)
      | else-len-eq5 w ↦
          let due : length (dashed letters) % 6 ≢ 5 = λ h. w.if-len-eq5.false (omega (arith, ap length e, c.len.ensures.value)) in
          pushed ∙ ap (λ t. t.bytes ++ last) w.text-is ∙ ap (λ l. l ++ last) e ∙ sym (dashed-push letters c.args.letter due)
    ]
