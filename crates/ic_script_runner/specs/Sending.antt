-- What a call did to a sink.
use Rattle.std.specs.Prelude.{◌≡◌, ℕ, ◌≤◌, ◌⊎◌, List, ◌++◌, length, Option, Result, Ok, Err, IfSome}
use Rattle.std.specs.Io.KnownBytes.{append_known}
use Rattle.ic_outside.specs.Faults.{next_count}
use Rattle.ic_outside.specs.Given.{IsFront, TookFront}
use Rattle.ic_outside.specs.Writing.{room_before}
use Rattle.ic_script_runner.specs.declared.status.Status.{Status}
use Rattle.ic_script_runner.specs.declared.status.Status.TheVariants.{WriteFault, NoMemory}

-- a sink at a moment: the bytes taken and how many still fit, where it tells them, and its count of faults
pub record Taken : Type 0 where
  pub bytes : Option (List ℕ)
  pub fits : Option ℕ
  pub faults : ℕ

-- what a sink shows, by the ghost members of its trait
abbrev pub sink_at : {K : Type 0} → (K → Option (List ℕ)) → (K → Option ℕ) → (K → ℕ) → K → Taken
sink_at taken fits faults sink = record { bytes = taken sink; fits = fits sink; faults = faults sink }

-- all of the text was sent; a sink that tells its room had room for it, and its count of faults stays
pub record Sent (old new : Taken) (text : List ℕ) : Type 0 where
  pub bytes : new.bytes ≡ append_known old.bytes text
  pub fell : old.fits ≡ room_before (length text) new.fits
  pub counted : new.faults ≡ old.faults

-- the sink failed, once, while the text was sent
pub record Broke (old new : Taken) (text : List ℕ) : Type 0 where
  pub front : TookFront old.bytes new.bytes old.fits new.fits text
  pub counted : new.faults ≡ next_count old.faults
  pub fitting : IfSome old.fits (λ room. length text ≤ room → ⊥)

-- out of memory before all of the text was sent
pub record RanOut (old new : Taken) (text : List ℕ) : Type 0 where
  pub front : List ℕ
  pub is_front : IsFront front text
  pub sent : Sent old new front

-- the status says why not all of the text was sent
pub record Interrupts (old new : Taken) (text : List ℕ) (status : Status) : Type 0 where
  pub cause : ((status ≡ WriteFault) × Broke old new text) ⊎ ((status ≡ NoMemory) × RanOut old new text)

-- all of the text was sent, or a status says why not
abbrev pub Prints : {T : Type 0} → Taken → Taken → List ℕ → Result T Status → Type 0
Prints old new text (Ok done) = Sent old new text
Prints old new text (Err status) = Interrupts old new text status

-- Of what was gathered and a text after it a front was sent, and the rest is gathered now; or a status says why not all
-- of it was sent.
abbrev pub Gathers : {T : Type 0} → Taken → Taken → (gathered text left : List ℕ) → Result T Status → Type 0
Gathers old new gathered text left (Ok done) = (sent : List ℕ) × Sent old new sent × (gathered ++ text ≡ sent ++ left)
Gathers old new gathered text left (Err status) = Interrupts old new (gathered ++ text) status
