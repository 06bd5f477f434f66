-- The two readers, and that each reads what is spelled and nothing else.
use Rattle.std.proofs.Common.{◌≡◌, ℕ, ◌<◌, ◌^◌, List, ◌++◌, length, refl, sym, ◌∙◌, ap, take, drop, Some}
use Rattle.std.specs.Prelude.{ℤ, Result, Ok, Err, FitsSigned}
use Rattle.std.proofs.lemmas.List.{take-append-drop, drop_at}
use Rattle.ic_base.specs.Exact.{Exact}
use Rattle.ic_leb.specs.declared.width.Width.{Width}
use Rattle.ic_leb.specs.declared.fault.LebFault.{LebFault}
use Rattle.ic_leb.specs.Width.{bits, int_width, most_bytes}
use Rattle.ic_leb.specs.Value.{unsigned_value, signed_value}
use Rattle.ic_leb.specs.Spells.{SpellsUnsigned, SpellsSigned}
use Rattle.ic_leb.specs.Reading.{fits_unsigned, fits_signed, and_rest, unsigned_at, signed_at, unsigned_reader, signed_reader}
use Rattle.ic_leb.proofs.Numbers.{Format, SpellsBy, number_by, answered, spelled_again}
use Rattle.ic_leb.proofs.Widths.{unsigned_fits, signed_fits}

abbrev pub unsigned_format : Width → Format ℕ
unsigned_format width = record {
  value = unsigned_value;
  Fits = λ n. n < 2 ^ bits width;
  most = most_bytes width;
  fits = fits_unsigned width;
  decides = unsigned_fits width;
}

abbrev pub signed_format : Width → Format ℤ
signed_format width = record {
  value = signed_value;
  Fits = λ z. FitsSigned (int_width width) z;
  most = most_bytes width;
  fits = fits_signed width;
  decides = signed_fits width;
}

rest_read : {A : Type 0} (r : Result (A × ℕ) LebFault) (bytes : List ℕ) (x : A) (rest : List ℕ) → and_rest r bytes ≡ Some (x, rest) → (size : ℕ) × (r ≡ Ok (x, size)) × (rest ≡ drop size bytes)
rest_read {A} (Ok y) bytes x rest e =
    let same : ◌≡◌ {A = A × List ℕ} (y.0, drop y.1 bytes) (x, rest) = cc in
    (y.1, ap (λ q. Ok (q, y.1)) (ap (λ (q : A × List ℕ). q.0) same), sym (ap (λ (q : A × List ℕ). q.1) same))
rest_read (Err f) bytes x rest e = cc

number_exact : {A : Type 0} (format : Format A) → Exact (SpellsBy format) (λ bytes. and_rest (number_by format bytes) bytes)
number_exact format = record {
  again = λ x front rest spells.
      ap (λ r. and_rest r (front ++ rest)) (spelled_again format x front rest spells)
      ∙ ap (λ xs. Some (x, xs)) (drop_at front rest (length front) refl);
  takes = λ bytes x rest e.
      let read = rest_read (number_by format bytes) bytes x rest e in
      (take read.0 bytes, sym (take-append-drop read.0 bytes) ∙ ap (λ xs. take read.0 bytes ++ xs) (sym read.2), (answered format bytes (Ok (x, read.0)) read.1).2);
}

pub unsigned_exact : (width : Width) → Exact (SpellsUnsigned width) (unsigned_reader width)
unfolding unsigned_reader unsigned_at
unsigned_exact width = number_exact (unsigned_format width)

pub signed_exact : (width : Width) → Exact (SpellsSigned width) (signed_reader width)
unfolding signed_reader signed_at
signed_exact width = number_exact (signed_format width)
