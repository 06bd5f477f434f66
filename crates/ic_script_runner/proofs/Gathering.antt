-- Output that is gathered, and sent later.
use Rattle.std.proofs.Common.{◌≡◌, ℕ, List, [], ◌++◌, sym, ap, subst, ◌∙◌, append_assoc, append-nil, inr, Result, Ok, Err}
use Rattle.ic_script_runner.specs.declared.status.Status.{Status}
use Rattle.ic_script_runner.specs.Acts.{Concludes}
use Rattle.ic_script_runner.specs.Sending.{Taken, Sent, Interrupts, Prints, Gathers}
use Rattle.ic_script_runner.proofs.SendLaws.{Sent-append, Interrupts-after, Interrupts-more, Concludes-after}

module _ {T : Type 0} where
  -- a text was sent where nothing was gathered
  pub Gathers-printed : (r : Result T Status) (old new : Taken) (gathered text : List ℕ) → gathered ≡ [] → Prints old new text r → Gathers old new gathered text gathered r
  Gathers-printed (Ok u) old new gathered text none sent =
      (text, sent, ap (λ l. l ++ text) none ∙ sym (append-nil text) ∙ ap (λ l. text ++ l) (sym none))
  Gathers-printed (Err status) old new gathered text none interrupted =
      let P = λ (l : List ℕ). Interrupts old new (l ++ text) status in
      subst P (sym none) interrupted

module _ {T : Type 0} (u : T) (old mid new : Taken) (gathered text left : List ℕ) (one : Gathers old mid gathered text left (Ok u)) where
  -- what is left after the text
  onward : (more : List ℕ) → (gathered ++ text) ++ more ≡ one.0 ++ (left ++ more)
  onward more = ap (λ l. l ++ more) one.2 ∙ append_assoc one.0 left more

  pub Gathers-interrupted : (more : List ℕ) (status : Status) → Interrupts mid new (left ++ more) status → Interrupts old new ((gathered ++ text) ++ more) status
  Gathers-interrupted more status interrupted =
      let P = λ (l : List ℕ). Interrupts old new l status in
      subst P (sym (onward more)) (Interrupts-after old mid new one.0 (left ++ more) status one.1 interrupted)

  pub Gathers-more : {V : Type 0} (v : V) (more rest : List ℕ) → Gathers mid new left more rest (Ok v) → (sent : List ℕ) × Sent old new sent × ((gathered ++ text) ++ more ≡ sent ++ rest)
  Gathers-more v more rest two =
      (one.0 ++ two.0, Sent-append old mid new one.0 two.0 one.1 two.1, onward more ∙ ap (λ l. one.0 ++ l) two.2 ∙ sym (append_assoc one.0 two.0 rest))

-- a text after what was flushed
pub Gathers-both : {T V : Type 0} (u : T) (r : Result V Status) (old mid new : Taken) (gathered left text rest : List ℕ) → Gathers old mid gathered [] left (Ok u) → Gathers mid new left text rest r
    → Gathers old new gathered text rest r
Gathers-both u (Ok v) old mid new gathered left text rest one two =
    let all = Gathers-more u old mid new gathered [] left one v text rest two in
    (all.0, all.1, ap (λ l. l ++ text) (sym (append-nil gathered)) ∙ all.2)
Gathers-both u (Err status) old mid new gathered left text rest one two =
    let P = λ (l : List ℕ). Interrupts old new (l ++ text) status in
    subst P (append-nil gathered) (Gathers-interrupted u old mid new gathered [] left one text status two)

-- an output after a text that was gathered
pub Concludes-more : (old mid new : Taken) (sent gathered text left more : List ℕ) (last status : Status) → Sent old mid sent → gathered ++ text ≡ sent ++ left
    → Concludes mid new (record { bytes = left ++ more; status = last }) status → Concludes old new (record { bytes = gathered ++ (text ++ more); status = last }) status
Concludes-more old mid new sent gathered text left more last status one cut two =
    let P = λ (l : List ℕ). Concludes old new (record { bytes = l; status = last }) status in
    subst P (sym (append_assoc sent left more) ∙ ap (λ l. l ++ more) (sym cut) ∙ append_assoc gathered text more)
    (Concludes-after old mid new sent (record { bytes = left ++ more; status = last }) status one two)

-- an interruption before the end of an output
pub Concludes-never : (old new : Taken) (gathered text more : List ℕ) (last status : Status) → Interrupts old new (gathered ++ text) status
    → Concludes old new (record { bytes = gathered ++ (text ++ more); status = last }) status
Concludes-never old new gathered text more last status one =
    let P = λ (l : List ℕ). Interrupts old new l status in
    inr (subst P (append_assoc gathered text more) (Interrupts-more old new (gathered ++ text) more status one))
