-- What is printed for a message that is not read.
use Rattle.std.proofs.Common.{refl, ◌≡◌, ◌≢◌, ℕ, List, Result, Ok, Err, IfOk, sym, ap, ◌∙◌}
use Rattle.cd_codec.specs.Content.{Content}
use Rattle.cd_coerce.specs.declared.fault.DidlFault.{DidlFault}
use Rattle.cd_coerce.specs.declared.fault.DidlFault.TheVariants.{NotHeader, Float, NotSubtype, BadValue, NoMemory}
use Rattle.cd_coerce.specs.Decoded.{FailsWith}
use Rattle.ic_candid_lines.specs.Decoding.{Types, refused_text, answer_text}

-- a fault but out of memory is that of the message
fault_is : (fault : DidlFault) (read : Result (List Content) DidlFault) → FailsWith fault read → fault ≢ NoMemory → read ≡ Err fault
fault_is NotHeader read e given = e
fault_is Float read e given = e
fault_is (NotSubtype argument) read e given = e
fault_is BadValue read e given = e
fault_is NoMemory read e given = absurd (given refl)

-- what is printed for the fault is the answer
pub refused_answer : {E : Type 0} (print : Types → List Content → List ℕ) (expected : Types) (fault : DidlFault) (read : Result (List Content) DidlFault) (text : Result (List ℕ) E)
    → FailsWith fault read → IfOk text (λ t. (t ≡ refused_text fault) × (fault ≢ NoMemory)) → IfOk text (λ t. t ≡ answer_text print expected read)
refused_answer print expected fault read (Ok t) e is = is.0 ∙ sym (ap (answer_text print expected) (fault_is fault read e is.1))
refused_answer print expected fault read (Err error) e is = is
