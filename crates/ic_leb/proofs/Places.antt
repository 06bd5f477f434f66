-- From what is read at a place to the clauses of the public calls, for either sign.
use Rattle.std.proofs.Common.{◌≡◌, ℕ, ◌+◌, ◌-◌, ◌<◌, ◌≤◌, List, length, refl, sym, ◌∙◌, ap, subst, arith, take, drop, zero-add}
use Rattle.std.specs.Prelude.{Result, Ok, Err, ◌↔◌, slice_range}
use Rattle.std.proofs.lemmas.List.{take-append-drop, length-drop, length-take}
use Rattle.ic_leb.specs.declared.fault.LebFault.{LebFault}
use Rattle.ic_leb.specs.declared.fault.LebFault.TheVariants.{Short, Long, Wide}
use Rattle.ic_leb.specs.Faults.{IsCutShort, RunsOn, StandsForTooMuch}
use Rattle.ic_leb.specs.Reading.{value_of, read_from}
use Rattle.ic_leb.proofs.Sizes.{some_bytes, cut_again, runs_again}
use Rattle.ic_leb.proofs.Numbers.{Format, SpellsBy, number_by, answered, spelled_again, wide_again}

read_from_ok : {A : Type 0} (at : ℕ) (r : Result (A × ℕ) LebFault) (x : A) (place : ℕ) → read_from at r ≡ Ok (x, place) → (size : ℕ) × (r ≡ Ok (x, size)) × (place ≡ at + size)
read_from_ok {A} at (Ok y) x place e =
    let same : ◌≡◌ {A = A × ℕ} (y.0, at + y.1) (x, place) = cc in
    (y.1, ap (λ q. Ok (q, y.1)) (ap (λ (q : A × ℕ). q.0) same), sym (ap (λ (q : A × ℕ). q.1) same))
read_from_ok at (Err f) x place e = cc

read_from_err : {A : Type 0} (at : ℕ) (r : Result (A × ℕ) LebFault) (f : LebFault) → read_from at r ≡ Err f → r ≡ Err f
read_from_err at (Ok y) f e = cc
read_from_err at (Err g) f e = e

pub read_from_start : {A : Type 0} (r : Result (A × ℕ) LebFault) → read_from 0 r ≡ r
read_from_start (Ok y) = ap (λ n. Ok (y.0, n)) (zero-add y.1)
read_from_start (Err f) = refl

spelled_at : {A : Type 0} (format : Format A) (bytes : List ℕ) (at : ℕ) (x : A) (place : ℕ) → place ≤ length bytes → SpellsBy format x (slice_range bytes at place) → read_from at (number_by format (drop at bytes)) ≡ Ok (x, place)
spelled_at format bytes at x place inside spells =
    let k = place - at in
    let rest = drop at bytes in
    let some : 0 < length (take k rest) = some_bytes (take k rest) spells.one in
    let n : length (take k rest) ≡ k = omega (arith, length-take k rest, length-drop at bytes) in
    let read : number_by format rest ≡ Ok (x, length (take k rest)) =
    ap (number_by format) (sym (take-append-drop k rest)) ∙ spelled_again format x (take k rest) (drop k rest) spells in
    ap (read_from at) read ∙ ap (λ m. Ok (x, m)) (omega arith)

-- a value is answered exactly where the bytes up to the place spell it
pub value_at_place : {A : Type 0} (format : Format A) (bytes : List ℕ) (at : ℕ) (result : Result (A × ℕ) LebFault) → at ≤ length bytes → result ≡ read_from at (number_by format (drop at bytes)) → (x : A) (place : ℕ) → (result ≡ Ok (x, place)) ↔ ((place ≤ length bytes) × SpellsBy format x (slice_range bytes at place))
value_at_place format bytes at result inside e x place = (read, λ spells. e ∙ spelled_at format bytes at x place spells.0 spells.1)
  where
    read : result ≡ Ok (x, place) → (place ≤ length bytes) × SpellsBy format x (slice_range bytes at place)
    read h =
        let found = read_from_ok at (number_by format (drop at bytes)) x place (sym e ∙ h) in
        let said = answered format (drop at bytes) (Ok (x, found.0)) found.1 in
        let size : found.0 ≡ place - at = omega (arith, found.2) in
        (omega (arith, length-drop at bytes, said.1, found.2), subst (λ k. SpellsBy format x (take k (drop at bytes))) size said.2)

-- each fault comes exactly where it is to
pub short_at_place : {A : Type 0} (format : Format A) (bytes : List ℕ) (at : ℕ) (result : Result (A × ℕ) LebFault) → result ≡ read_from at (number_by format (drop at bytes)) → (result ≡ Err Short) ↔ IsCutShort format.most (drop at bytes)
short_at_place format bytes at result e = (
  λ h. answered format (drop at bytes) (Err Short) (read_from_err at _ Short (sym e ∙ h)),
  λ cut. e ∙ ap (λ r. read_from at (value_of format.value format.fits (drop at bytes) r)) (cut_again format.most (drop at bytes) cut.fewer cut.continued),
)

pub long_at_place : {A : Type 0} (format : Format A) (bytes : List ℕ) (at : ℕ) (result : Result (A × ℕ) LebFault) → result ≡ read_from at (number_by format (drop at bytes)) → (result ≡ Err Long) ↔ RunsOn format.most (drop at bytes)
long_at_place format bytes at result e = (
  λ h. answered format (drop at bytes) (Err Long) (read_from_err at _ Long (sym e ∙ h)),
  λ runs. e ∙ ap (λ r. read_from at (value_of format.value format.fits (drop at bytes) r)) (runs_again format.most (drop at bytes) runs.enough runs.continued),
)

pub wide_at_place : {A : Type 0} (format : Format A) (bytes : List ℕ) (at : ℕ) (result : Result (A × ℕ) LebFault) → result ≡ read_from at (number_by format (drop at bytes)) → (result ≡ Err Wide) ↔ StandsForTooMuch format.value format.Fits format.most (drop at bytes)
wide_at_place format bytes at result e = (
  λ h. answered format (drop at bytes) (Err Wide) (read_from_err at _ Wide (sym e ∙ h)),
  λ wide. e ∙ ap (read_from at) (wide_again format (drop at bytes) wide),
)
