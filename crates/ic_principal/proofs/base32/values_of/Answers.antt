use Rattle.std.proofs.Common.{◌≡◌, [], ◌++◌, ◌<◌, ◌-◌, sym, ap, ◌∙◌, append-nil, arith}
use Rattle.std.specs.List.{flat_map}
use Rattle.std.proofs.lemmas.List.{nil_from_length}
use Rattle.std.proofs.lemmas.List.Elements.{recursion_from_All}
use Rattle.std.proofs.lemmas.Grind.{flat_map-append}
use Rattle.ic_principal.specs.Bits.{bits_of, bits}
use Rattle.ic_principal.specs.Base32.{fives}
use Rattle.ic_principal.proofs.Base32Laws.{fives-spelled, fives-nil, last-value}
use Rattle.ic_principal.proofs.base32.values_of.Goals as goal

pub returns-else-count-gt0-clause-value : goal.returns-else-count-gt0-clause-value
returns-else-count-gt0-clause-value c =
    let values = c.push_bytes-2.new.values.items in let queue = c.push_bytes-2.new.queue in
    let front = c.args.front.now in let back = c.args.back.now in
    let spelled = c.push_bytes-2.ensures.bits
    ∙ ap (λ l. l ++ bits back) (c.push_bytes.ensures.bits ∙ ap (λ l. flat_map (bits_of 5) l ++ c.new-queue.result ++ bits front) c.new-values.ensures ∙ ap (λ l. l ++ bits front) c.new-queue.ensures)
    ∙ sym (flat_map-append (bits_of 8) front back) in
    let none : queue ≡ [] = nil_from_length queue (omega (arith, c.len-count.ensures.value, c.if-count-gt0.false)) in
    sym (append-nil values) ∙ ap (λ l. values ++ l) (sym (ap fives none ∙ fives-nil))
    ∙ sym (fives-spelled values queue (recursion_from_All (λ v. v < 32) values c.push_bytes-2.ensures.values)) ∙ ap fives spelled

pub returns-then-count-gt0-clause-value : goal.returns-then-count-gt0-clause-value
returns-then-count-gt0-clause-value c =
    let values = c.push_bytes-2.new.values.items in let queue = c.push_bytes-2.new.queue in
    let front = c.args.front.now in let back = c.args.back.now in
    let spelled = c.push_bytes-2.ensures.bits
    ∙ ap (λ l. l ++ bits back) (c.push_bytes.ensures.bits ∙ ap (λ l. flat_map (bits_of 5) l ++ c.new-queue.result ++ bits front) c.new-values.ensures ∙ ap (λ l. l ++ bits front) c.new-queue.ensures)
    ∙ sym (flat_map-append (bits_of 8) front back) in
    let count = c.len-count.ensures.value in
    let filled = sym (c.push.ensures.bits ∙ ap (λ k. queue ++ bits_of (5 - k) 0) count) ∙ c.pop.ensures.bits in
    let last = last-value queue c.pop.new.self c.pop.result (omega (arith, count, c.if-count-gt0.true)) c.push_bytes-2.ensures.few c.pop.ensures.fits filled in
    c.push-then-count-gt0.ensures.items ∙ ap (λ l. values ++ l) (sym last)
    ∙ sym (fives-spelled values queue (recursion_from_All (λ v. v < 32) values c.push_bytes-2.ensures.values)) ∙ ap fives spelled
