-- Lists are the same where the test of their items says so.
use Rattle.std.proofs.Common.{◌≡◌, ℕ, List, Option, Some, None, refl, sym, ap, true≢false}
use Rattle.std.specs.Prelude.{nat_eq}
use Rattle.std.specs.Bool.{Decides}
use Rattle.std.specs.Option.{option_eq}
use Rattle.std.specs.Cmp.Lexicographic.{pointwise, pointwise_decides, bytes_decides}
use Rattle.std.proofs.lemmas.Bool.{eqb-true, eq-eqb}

pub same_bytes : (a b : List ℕ) → Decides (pointwise nat_eq a b) (a ≡ b)
same_bytes = bytes_decides

same_option : (a b : Option ℕ) → Decides (option_eq nat_eq a b) (a ≡ b)
same_option None None = (λ e. refl, λ e. refl)
same_option None (Some y) = (λ e. absurd (true≢false (sym e)), λ e. cc)
same_option (Some x) None = (λ e. absurd (true≢false (sym e)), λ e. cc)
same_option (Some x) (Some y) = (λ e. ap Some (eqb-true x y e), λ e. eq-eqb x y (cc))

pub same_options : (a b : List (Option ℕ)) → Decides (pointwise (option_eq nat_eq) a b) (a ≡ b)
same_options = pointwise_decides same_option
