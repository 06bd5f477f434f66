-- Where a gap ends, as a function that goes on byte by byte.
use Rattle.std.specs.Prelude.{ℕ, Bool, true, false, ◌==◌, ◌&&◌, List, [], ◌∷◌, Option, Some, None, if◌then◌else◌}
use Rattle.cd_tokens.specs.Bytes.{is_blank}
use Rattle.cd_tokens.specs.declared.gap.Place.{Place}
use Rattle.cd_tokens.specs.declared.gap.Place.TheVariants.{Between, Slash, Line, Block}

-- the place after one more byte, where the gap goes on
abbrev pub step : Bool → Place → ℕ → Option Place
step comments Between b = if is_blank b then Some Between else if comments && b == 47 then Some Slash else None
step comments Slash b = if b == 47 then Some Line else if b == 42 then Some (Block false) else None
step comments Line b = if b == 10 then Some Between else Some Line
step comments (Block star) b = if star && b == 47 then Some Between else Some (Block (b == 42))

-- a text may end there
abbrev pub may_end : Place → Bool
may_end Between = true
may_end Slash = false
may_end Line = true
may_end (Block star) = false

-- a token may follow there
abbrev pub may_stop : Place → Bool
may_stop Between = true
may_stop Slash = false
may_stop Line = false
may_stop (Block star) = false

abbrev pub or_stopped : {A : Type 0} → Option Place → (Place → A) → A → A
or_stopped None go stopped = stopped
or_stopped (Some place) go stopped = go place

-- what comes after the gap, of which a front is read
unfoldable pub past_from : Bool → Place → List ℕ → Option (List ℕ)
past_from comments place [] = if may_end place then Some [] else None
past_from comments place (b ∷ bytes) = or_stopped (step comments place b) (λ next. past_from comments next bytes) (if may_stop place then Some (b ∷ bytes) else None)

abbrev pub past_gap : Bool → List ℕ → Option (List ℕ)
past_gap comments bytes = past_from comments Between bytes
