use Rattle.std.proofs.Common.{◌≡◌, ◌∙◌, ◌+◌, ◌-◌, ◌/◌, ◌++◌, ap, sym, arith}
use Rattle.std.proofs.lemmas.List.{append-nil}
use Rattle.ic_generate.specs.Script.{call_line, call_lines, next_number, run_line}
use Rattle.ic_generate.proofs.Lines.{call_more, moved}
use Rattle.ic_generate.proofs.calls.push_calls.Goals as goal

pub loop-calls-preserved : goal.loop-calls-preserved
loop-calls-preserved c =
    let n = c.args.n in
    let calls = c.loop-calls.calls in
    let x = next_number c.loop-calls.x in
    let text = c.loop-calls.text.items in
    let next : c.next_number-x.result ≡ x = c.next_number-x.ensures.next in
    let line : c.push_call.new.text.items ≡ text ++ call_line (x / 256) = c.in_ok-push_call.ensures ∙ ap (λ y. text ++ call_line (y / 256)) next in
    let run : c.push_run.new.text.items ≡ (text ++ call_line (x / 256)) ++ run_line (calls + 1) =
    c.in_ok-push_run.ensures ∙ ap (λ l. l ++ run_line (calls + 1)) line in
    let more : (text ++ call_line (x / 256)) ++ run_line (calls + 1) ++ call_lines (n - (calls + 1)) (calls + 1) x ≡ text ++ call_lines (n - calls) calls c.loop-calls.x =
    moved text (call_line (x / 256)) (run_line (calls + 1)) (call_lines (n - (calls + 1)) (calls + 1) x)
    ∙ ap (λ l. text ++ l) (sym (call_more n calls c.loop-calls.x c.loop-calls-test.true)) in
    (c.next_number-x.ensures.below, (λ i. run i ++ call_lines (n - (calls + 1)) (calls + 1) (next i)) ∙ (more ∙ c.loop-calls.invariant.1))

pub returns : goal.returns
unfolding call_lines
returns c =
    let end : c.args.n - c.loop-calls.calls ≡ 0 = omega arith in
    let text = c.loop-calls.text.items in
    sym (append-nil text) ∙ (ap (λ left. text ++ call_lines left c.loop-calls.calls c.loop-calls.x) (sym end) ∙ c.loop-calls.invariant.1)
